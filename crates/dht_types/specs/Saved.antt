-- Which records of sidecar files have a spelling.
use Rattle.std.specs.Prelude.{ℕ, ◌≡◌, ◌≢◌, ◌≤◌, ◌<◌, ◌↔◌, ◌⊎◌, None, List, length, All, IfSome}
use Rattle.std.specs.List.{AllPairs}
use Rattle.std.specs.Ordering.{nat_cmp}
use Rattle.std.specs.Cmp.Lexicographic.{slice_cmp}
use Rattle.std.specs.declared.cmp.Ordering.TheVariants.{Less}
use Rattle.dht_types.specs.Gfid.{root}
use Rattle.dht_types.specs.Name.{IsName}
use Rattle.dht_types.specs.declared.saved.IntentEntry.{IntentEntry}
use Rattle.dht_types.specs.declared.saved.Saved.{Saved}
use Rattle.dht_types.specs.declared.saved.Saved.TheVariants.{Dir, File, Intent}
use Rattle.dht_types.specs.declared.saved.SavedDir.{SavedDir}
use Rattle.dht_types.specs.declared.saved.SavedFile.{SavedFile}
use Rattle.dht_types.specs.declared.saved.SavedIntent.{SavedIntent}
use Rattle.dht_types.specs.declared.saved.SavedSlot.{SavedSlot}
use Rattle.dht_types.specs.declared.stored.Main.{Main}
use Rattle.dht_types.specs.declared.stored.Main.TheVariants as main
use Rattle.dht_types.specs.declared.stored.Record.{Record}
use Rattle.dht_types.specs.declared.stored.Record.TheVariants.{Live, Moving, Standby, Forward}

-- a value is at most 65,535 bytes
abbrev pub IsValue : List ℕ → Type 0
IsValue value = length value ≤ 65535

-- no brick is spelled as the brick of number 65,535
abbrev pub IsSpelledMain : Main → Type 0
IsSpelledMain (main.Dir g) = Unit {0}
IsSpelledMain (main.File f over) = IfSome over (λ brick. brick.0 < 65535)
IsSpelledMain (main.Linkto value) = IsValue value

-- a slot has a name and a part
pub record IsSpelledSlot (s : SavedSlot) : Type 0 where
  pub name : IsName s.name
  pub main : IfSome s.slot.main IsSpelledMain
  pub part : (s.slot.main ≢ None) ⊎ (s.slot.standby ≢ None)

-- the names rise
abbrev pub Rise : List SavedSlot → Type 0
Rise slots = AllPairs (λ a b. slice_cmp nat_cmp a.name b.name ≡ Less) slots

-- the root alone has no directory above it
pub record IsSpelledDir (d : SavedDir) : Type 0 where
  pub root : (d.dir.place ≡ None) ↔ (d.gfid ≡ root)
  pub name : IfSome d.dir.place (λ key. IsName key.name)
  pub value : IfSome d.dir.value IsValue
  pub slots : All IsSpelledSlot d.slots
  pub rising : Rise d.slots

abbrev pub IsSpelledRecord : Record → Type 0
IsSpelledRecord (Live hop bytes) = Unit {0}
IsSpelledRecord (Moving hop dest bytes) = Unit {0}
IsSpelledRecord (Standby c) = IsName c.name
IsSpelledRecord (Forward hop brick) = Unit {0}

abbrev pub IsSpelledFile : SavedFile → Type 0
IsSpelledFile s = IsSpelledRecord s.file

abbrev pub IsSpelledEntry : IntentEntry → Type 0
IsSpelledEntry e = IsValue e.name

pub record IsSpelledIntent (i : SavedIntent) : Type 0 where
  pub few : length i.entries ≤ 65535
  pub each : All IsSpelledEntry i.entries

abbrev pub IsSpelled : Saved → Type 0
IsSpelled (Dir d) = IsSpelledDir d
IsSpelled (File f) = IsSpelledFile f
IsSpelled (Intent i) = IsSpelledIntent i
