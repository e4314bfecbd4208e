-- The words of the lines that tell what the bricks contain.
use Rattle.std.specs.Prelude.{ℕ, Bool, true, false, Option, Some, None, List, [], ◌∷◌, ◌++◌, codes, decimal}
use Rattle.dht_types.specs.Text.{gfid_text, hex_bytes}
use Rattle.dht_types.specs.declared.lines.DumpLine.{DumpLine}
use Rattle.dht_types.specs.declared.lines.DumpLine.TheVariants as dump
use Rattle.dht_types.specs.declared.lines.RecordLine.{RecordLine}
use Rattle.dht_types.specs.declared.lines.RecordLine.TheVariants.{Live, Moving, Standby as Copied, Forward}
use Rattle.dht_types.specs.declared.stored.Main.{Main}
use Rattle.dht_types.specs.declared.stored.Main.TheVariants.{Dir, File, Linkto}
use Rattle.dht_types.specs.declared.stored.Standby.{Standby}
use Rattle.dht_types.specs.declared.stored.Standby.TheVariants.{StandLink, Copy}
use Rattle.dht_sched.specs.Spelling.{spelled}

-- the attribute of a directory: its bytes, `x` where
-- it has none, and `-` where there is no attribute
abbrev pub value_word : Option (List ℕ) → List ℕ
value_word None = codes "-"
value_word (Some []) = codes "x"
value_word (Some (byte ∷ bytes)) = hex_bytes (byte ∷ bytes)

-- bytes, which may be none
abbrev pub bytes_word : List ℕ → List ℕ
bytes_word bytes = codes "x" ++ hex_bytes bytes

abbrev pub main_words : Option Main → List (List ℕ)
main_words None = codes "-" ∷ []
main_words (Some (Dir g)) = codes "dir" ∷ gfid_text g ∷ []
main_words (Some (File f None)) = codes "data" ∷ gfid_text f ∷ []
main_words (Some (File f (Some brick))) =
    codes "data" ∷ gfid_text f ∷ codes "over" ∷ decimal brick.0 ∷ []
main_words (Some (Linkto value)) = codes "linkto" ∷ bytes_word value ∷ []

abbrev pub standby_words : Option Standby → List (List ℕ)
standby_words None = codes "-" ∷ []
standby_words (Some (StandLink f)) = codes "link" ∷ gfid_text f ∷ []
standby_words (Some (Copy f)) = codes "copy" ∷ gfid_text f ∷ []

abbrev pub up_word : Bool → List ℕ
up_word true = codes "up"
up_word false = codes "down"

abbrev pub dirty_word : Bool → List ℕ
dirty_word true = codes "dirty"
dirty_word false = codes "clean"

abbrev pub record_words : RecordLine → List (List ℕ)
record_words (Live hop links size digest) =
    codes "live" ∷ decimal hop ∷ decimal links ∷ decimal size ∷ hex_bytes digest ∷ []
record_words (Moving hop links size digest dest) =
    codes "moving" ∷ decimal hop ∷ decimal links ∷ decimal size ∷ hex_bytes digest ∷ decimal dest.0
    ∷ []
record_words (Copied hop source size digest is_dirty) =
    codes "standby" ∷ decimal hop ∷ decimal source.0 ∷ decimal size ∷ hex_bytes digest
    ∷ dirty_word is_dirty ∷ []
record_words (Forward brick hop) = codes "forward" ∷ decimal brick.0 ∷ decimal hop ∷ []

abbrev pub dump_words : DumpLine → List (List ℕ)
dump_words (dump.Brick b is_up) = codes "brick" ∷ decimal b.0 ∷ up_word is_up ∷ []
dump_words (dump.Dir b g value) = codes "dir" ∷ decimal b.0 ∷ gfid_text g ∷ value_word value ∷ []
dump_words (dump.Slot b d n parts) =
    codes "slot" ∷ decimal b.0 ∷ gfid_text d ∷ spelled n
    ∷ (main_words parts.main ++ standby_words parts.standby)
dump_words (dump.File b f r) = codes "file" ∷ decimal b.0 ∷ gfid_text f ∷ record_words r
dump_words dump.End = codes "end" ∷ []
