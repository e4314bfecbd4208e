-- What makes a volume: its bricks, with their names and weights, and the number of its run.
use Rattle.std.specs.Prelude.{ℕ, zero, suc, ◌≡◌, ◌≢◌, ◌<◌, ◌≤◌, ◌==◌, Bool, true, ◌&&◌, ◌||◌, not, if◌then◌else◌, nat_lt, nat_le, Option, Some, None, List, [], ◌∷◌, ◌++◌, length, codes, decimal, All, Any}
use Rattle.std.specs.List.{AllPairs, list_all, list_any}
use Rattle.std.specs.Str.{bytes_eq}
use Rattle.std.specs.Char.{is_ascii_alphanumeric}
use Rattle.dht_types.specs.declared.volumes.VolumeFault.{VolumeFault}
use Rattle.dht_types.specs.declared.volumes.VolumeFault.TheVariants.{Bricks, Name, Weight, Run}

-- the names and the weights of the bricks, in their order, and the number of the run
pub record VolumeInfo : Type 0 where
  pub names : List (List ℕ)
  pub weights : List ℕ
  pub run : ℕ

-- a byte of a brick's name: an ASCII letter or digit, `-`, `_` or `.`
abbrev pub is_brick_byte : ℕ → Bool
is_brick_byte byte = is_ascii_alphanumeric byte || (byte == 45) || (byte == 95) || (byte == 46)

-- a brick's name: 1 to 64 such bytes
abbrev pub is_brick_name : List ℕ → Bool
is_brick_name name =
    nat_lt 0 (length name) && nat_le (length name) 64 && list_all is_brick_byte name

-- no name comes twice
abbrev pub are_distinct : List (List ℕ) → Bool
are_distinct [] = true
are_distinct (name ∷ names) = not (list_any (bytes_eq name) names) && are_distinct names

-- the names of the bricks of one volume
abbrev pub are_names : List (List ℕ) → Bool
are_names names = list_all is_brick_name names && are_distinct names

-- there are 1 to 32 bricks
abbrev pub is_count : ℕ → Bool
is_count count = nat_lt 0 count && nat_le count 32

abbrev pub is_light : ℕ → Bool
is_light weight = nat_le weight 1000

abbrev pub is_positive : ℕ → Bool
is_positive weight = nat_lt 0 weight

-- no weight is above 1,000, and they are not all 0
abbrev pub are_weights : List ℕ → Bool
are_weights weights = list_all is_light weights && list_any is_positive weights

-- the first that is wrong with the weights and the number of the run
abbrev pub late_fault_of : List ℕ → ℕ → Option VolumeFault
late_fault_of weights run =
    if not (are_weights weights) then Some Weight else if run == 0 then Some Run else None

-- the first that is wrong with a volume
abbrev pub fault_of : List (List ℕ) → List ℕ → ℕ → Option VolumeFault
fault_of names weights run =
    if not (is_count (length names) && (length weights == length names)) then Some Bricks
    else if not (are_names names) then Some Name
    else late_fault_of weights run

-- some brick has weight
abbrev pub HasWeight : List ℕ → Type 0
HasWeight weights = Any (λ w. 0 < w) weights

-- nothing is wrong with a volume
pub record IsVolume (v : VolumeInfo) : Type 0 where
  pub positive : 0 < length v.names
  pub few : length v.names ≤ 32
  pub weighed : length v.weights ≡ length v.names
  pub named : All (λ name. is_brick_name name ≡ true) v.names
  pub distinct : AllPairs (λ a b. a ≢ b) v.names
  pub light : All (λ w. w ≤ 1000) v.weights
  pub heavy : HasWeight v.weights
  pub counted : 0 < v.run

-- the name of a replay's brick
abbrev pub replay_name : ℕ → List ℕ
replay_name brick = codes "brick-" ++ decimal brick

-- the names of so many of them
unfoldable pub replay_names : ℕ → List (List ℕ)
replay_names zero = []
replay_names (suc count) = replay_names count ++ replay_name count ∷ []

-- the volume of a replay
abbrev pub replay_info : List ℕ → ℕ → VolumeInfo
replay_info weights run = record {
  names = replay_names (length weights);
  weights = weights;
  run = run;
}

-- the first that is wrong with it, where only the
-- number of its bricks, its weights and its run can be
abbrev pub replay_fault_of : List ℕ → ℕ → Option VolumeFault
replay_fault_of weights run =
    if not (is_count (length weights)) then Some Bricks else late_fault_of weights run
