-- What is printed piece by piece.
use Rattle.std.proofs.Common.{◌≡◌, ℕ, ◌+◌, ◌<◌, ◌≤◌, ◌/◌, ◌%◌, List, [], ◌∷◌, ◌++◌, length, take, get_or, refl, sym, ap, ◌∙◌, append_assoc}
use Rattle.std.specs.List.{flat_map}
use Rattle.std.proofs.lemmas.List.{take_more, take_all, append-nil}
use Rattle.std.proofs.lemmas.List.Concat.{flat_map-append}
use Rattle.dht_types.specs.Text.{hex_digit, hex_bytes, hex_number}
use Rattle.dht_types.specs.declared.lines.Line.{Line}
use Rattle.dht_types.specs.declared.lines.DumpLine.{DumpLine}
use Rattle.dht_sched.specs.Transcript.{line_text, lines_text, dump_text, dump_lines_text}
use Rattle.dht_sched.specs.Printing.{behind_spaces}
use Rattle.dht_sched.specs.Spelling.{spaced, spelled}
use Rattle.dht_sched.specs.Commands.{hash_line}

-- a part behind a text that was printed
pub part_behind :
    (old mid new a : List ℕ) → mid ≡ old ++ a → (part : List ℕ) × (new ≡ mid ++ part)
    → (part : List ℕ) × (new ≡ old ++ part)
part_behind old mid new a e (part, f) = (a ++ part, f ∙ (ap (λ m. m ++ part) e ∙ append_assoc old a part))

-- one element more
pub one_more :
    {X : Type 0} (text : List X → List ℕ)
    → ((xs ys : List X) → text (xs ++ ys) ≡ text xs ++ text ys)
    → (old out new : List ℕ) (xs : List X) (i : ℕ) (d : X) → i < length xs
    → out ≡ old ++ text (take i xs) → new ≡ out ++ text (get_or xs i d ∷ []) → new ≡ old ++ text (take (i + 1) xs)
one_more text joins old out new xs i d lt so_far more =
    let t : text (take (i + 1) xs) ≡ text (take i xs) ++ text (get_or xs i d ∷ []) = ap text (take_more xs i d lt) ∙ joins (take i xs) (get_or xs i d ∷ []) in
    more ∙ (ap (λ o. o ++ text (get_or xs i d ∷ [])) so_far ∙ (append_assoc old (text (take i xs)) (text (get_or xs i d ∷ [])) ∙ ap (λ y. old ++ y) (sym t)))

-- words behind a first one
pub spaced-cons :
    (word : List ℕ) (words : List (List ℕ)) → spaced (word ∷ words) ≡ word ++ behind_spaces words
spaced-cons word [] = sym (append-nil word)
spaced-cons word (next ∷ words) = ap (λ rest. word ++ (32 ∷ rest)) (spaced-cons next words)

pub hex_bytes-append : (xs ys : List ℕ) → hex_bytes (xs ++ ys) ≡ hex_bytes xs ++ hex_bytes ys
hex_bytes-append [] ys = refl
hex_bytes-append (x ∷ xs) ys = ap (λ rest. hex_digit (x / 16) ∷ hex_digit (x % 16) ∷ rest) (hex_bytes-append xs ys)

-- a line that is printed up to its newline
pub line_done :
    {X : Type 0} (words : X → List (List ℕ)) (old first begun out new : List ℕ) (fields : List X)
    (i : ℕ)
    → length fields ≤ i → begun ≡ old ++ first
    → out ≡ begun ++ behind_spaces (flat_map words (take i fields)) → new ≡ out ++ 10 ∷ []
    → new ≡ old ++ (spaced (first ∷ flat_map words fields) ++ 10 ∷ [])
line_done words old first begun out new fields i all e f g =
    let whole : take i fields ≡ fields = take_all i fields all in
    let text : old ++ first ++ behind_spaces (flat_map words fields) ≡ old ++ spaced (first ∷ flat_map words fields) = append_assoc old first (behind_spaces (flat_map words fields)) ∙ ap (λ t. old ++ t) (sym (spaced-cons first (flat_map words fields))) in
    let line : out ≡ old ++ spaced (first ∷ flat_map words fields) = f ∙ (ap (λ o. o ++ behind_spaces (flat_map words (take i fields))) e ∙ (ap (λ fs. old ++ first ++ behind_spaces (flat_map words fs)) whole ∙ text)) in
    g ∙ (ap (λ o. o ++ 10 ∷ []) line ∙ append_assoc old (spaced (first ∷ flat_map words fields)) (10 ∷ []))

-- one field more
pub behind_spaces-append :
    {X : Type 0} (words : X → List (List ℕ)) (xs ys : List X)
    → behind_spaces (flat_map words (xs ++ ys))
    ≡ behind_spaces (flat_map words xs) ++ behind_spaces (flat_map words ys)
behind_spaces-append words xs ys = ap behind_spaces (flat_map-append words xs ys) ∙ flat_map-append (λ w. 32 ∷ w) (flat_map words xs) (flat_map words ys)

-- one line more
pub lines_text-push :
    (lines : List Line) (line : Line)
    → lines_text (lines ++ line ∷ []) ≡ lines_text lines ++ line_text line
unfolding lines_text
lines_text-push lines line = flat_map-append line_text lines (line ∷ []) ∙ ap (λ text. flat_map line_text lines ++ text) (append-nil (line_text line))

pub dump_lines_text-push :
    (lines : List DumpLine) (line : DumpLine)
    → dump_lines_text (lines ++ line ∷ []) ≡ dump_lines_text lines ++ dump_text line
unfolding dump_lines_text
dump_lines_text-push lines line = flat_map-append dump_text lines (line ∷ []) ∙ ap (λ text. flat_map dump_text lines ++ text) (append-nil (dump_text line))

-- a hash and a name
pub hash_done :
    (hash : ℕ) (name old begun mid out new digits : List ℕ) → begun ≡ old ++ digits
    → digits ≡ hex_number 8 hash → mid ≡ begun ++ 32 ∷ [] → out ≡ mid ++ spelled name
    → new ≡ out ++ 10 ∷ [] → new ≡ old ++ hash_line hash name
unfolding hash_line
hash_done hash name old begun mid out new digits first are space spelling newline =
    newline ∙ (ap (λ o. o ++ 10 ∷ []) (spelling ∙ (ap (λ m. m ++ spelled name) (space ∙ (ap (λ b. b ++ 32 ∷ []) (first ∙ ap (λ ds. old ++ ds) are)))))
    ∙ simp append_assoc)
