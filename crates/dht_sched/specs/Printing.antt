-- What it is to print at the end of a text.
use Rattle.std.specs.Prelude.{ℕ, ◌≡◌, ◌++◌, List, [], ◌∷◌, map, decimal, Result, Ok, Err}
use Rattle.std.specs.List.{flat_map}
use Rattle.std.specs.Option.{option_copied}
use Rattle.dht_types.specs.Text.{gfid_text}
use Rattle.dht_sched.specs.declared.fields.Field.{Field}
use Rattle.dht_sched.specs.declared.fields.Field.TheVariants as field
use Rattle.dht_sched.specs.Spelling.{name_words, spelled}
use Rattle.dht_sched.specs.Dump.{value_word, main_words, standby_words, record_words}
use Rattle.dht_sched.specs.Transcript.{point_words}

-- new is old and this text behind it, or where memory ran out old and a part of it
abbrev pub Appends : {E : Type 0} → List ℕ → List ℕ → Result (Unit {0}) E → List ℕ → Type 0
Appends old new (Ok done) text = new ≡ old ++ text
Appends old new (Err error) text = (part : List ℕ) × (new ≡ old ++ part)

-- the words of a field of a line
abbrev pub field_words : Field → List (List ℕ)
field_words (field.Word w) = w.now ∷ []
field_words (field.Number n) = decimal n ∷ []
field_words (field.Numbers ns) = map decimal ns.now
field_words (field.Point point) = point_words point
field_words (field.Name n) = spelled n.now ∷ []
field_words (field.CallName n) = name_words (option_copied n)
field_words (field.Gfid g) = gfid_text g ∷ []
field_words (field.Value value) = value_word value.now ∷ []
field_words (field.Main main) = main_words main.now
field_words (field.Standby standby) = standby_words standby
field_words (field.Record line) = record_words line.now

-- words with a space before each
abbrev pub behind_spaces : List (List ℕ) → List ℕ
behind_spaces words = flat_map (λ w. 32 ∷ w) words
