-- The words of the program: which words are which command.
use Rattle.std.specs.Prelude.{ℕ, ◌≤◌, All, ◌≡◌, ◌≢◌, ◌==◌, ◌⊎◌, Bool, false, List, [], ◌∷◌, codes, decimal, map}
use Rattle.std.specs.List.{list_any}
use Rattle.dht_sched.specs.Schedule.{IsScheduledVolume}
use Rattle.dht_run.specs.declared.words.Command.{Command}
use Rattle.dht_run.specs.declared.words.Command.TheVariants.{Replay, Hash, Layout}

-- the words are the command `replay`
abbrev pub IsReplay : List (List ℕ) → Type 0
IsReplay words = words ≡ codes "replay" ∷ []

-- a word begins with `-`
abbrev pub begins_with_dash : List ℕ → Bool
begins_with_dash [] = false
begins_with_dash (b ∷ bs) = b == 45

-- the words are the command `hash` and names, at least one, of which none begins with `-`
pub record IsHash (words names : List (List ℕ)) : Type 0 where
  pub are : words ≡ codes "hash" ∷ names
  pub some : names ≢ []
  pub no_dash : list_any begins_with_dash names ≡ false

-- the words spell these weights, each at most 1000
abbrev pub SpellWeights : List (List ℕ) → List ℕ → Type 0
SpellWeights words weights = (map decimal weights ≡ words) × All (λ weight. weight ≤ 1000) weights

-- the words are the command `layout` and the weights of a volume
pub record IsLayout (words : List (List ℕ)) (weights : List ℕ) : Type 0 where
  pub are : words ≡ codes "layout" ∷ map decimal weights
  pub volume : IsScheduledVolume weights

-- the words are a command
abbrev pub IsCommand : List (List ℕ) → Type 0
IsCommand words =
    IsReplay words
    ⊎ (((names : List (List ℕ)) × IsHash words names)
    ⊎ ((weights : List ℕ) × IsLayout words weights))

-- the words ask for this
abbrev pub AskFor : List (List ℕ) → Command → Type 0
AskFor words Replay = IsReplay words
AskFor words (Hash names) = IsHash words names.now
AskFor words (Layout weights) = IsLayout words weights

-- a status of the program
abbrev pub IsStatus : ℕ → Type 0
IsStatus n = (n ≡ 0) ⊎ ((n ≡ 2) ⊎ ((n ≡ 3) ⊎ ((n ≡ 4) ⊎ ((n ≡ 5) ⊎ ((n ≡ 6) ⊎ (n ≡ 7))))))
