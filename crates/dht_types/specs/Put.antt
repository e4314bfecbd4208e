-- A function that is changed at one key.
use Rattle.std.specs.Prelude.{◌≡◌, Bool, if◌then◌else◌, ◌&&◌}
use Rattle.std.specs.Bool.{Decides}
use Rattle.std.specs.Str.{bytes_eq}
use Rattle.dht_types.specs.Gfid.{Entry, same_gfid}

-- f, but v at the key that is k by this test
unfoldable pub put : {K A : Type 0} → (K → K → Bool) → (K → A) → K → A → K → A
put same f k v m = if same m k then v else f m

-- the test says which keys are one
abbrev pub Exact : {K : Type 0} → (K → K → Bool) → Type 0
Exact {K} same = (a b : K) → Decides (same a b) (a ≡ b)

-- two names of directories are one
abbrev pub same_entry : Entry → Entry → Bool
same_entry a b = same_gfid a.0 b.0 && bytes_eq a.1 b.1
