-- The lines that the commands `hash` and `layout` print, each with its newline.
use Rattle.std.specs.Prelude.{ℕ, Option, List, [], ◌∷◌, decimal}
use Rattle.dht_types.specs.Text.{hex_number}
use Rattle.dht_sched.specs.Spelling.{spelled}
use Rattle.dht_sched.specs.Dump.{value_word}
use Rattle.dht_sched.specs.Transcript.{text_of}

-- a hash as eight digits, and the name that has it
unfoldable pub hash_line : ℕ → List ℕ → List ℕ
hash_line hash name = text_of (hex_number 8 hash ∷ spelled name ∷ [])

-- a brick, and a directory's attribute on it
unfoldable pub range_line : ℕ → Option (List ℕ) → List ℕ
range_line brick value = text_of (decimal brick ∷ value_word value ∷ [])
