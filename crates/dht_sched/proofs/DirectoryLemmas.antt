-- The words of directories: none is empty, and a word is of one directory.
use Rattle.std.proofs.Common.{◌≡◌, ◌≢◌, ℕ, zero, suc, ◌<◌, ◌^◌, ◌/◌, ◌%◌, true, leb, List, [], ◌∷◌, ◌++◌, length, take, drop, get_or, decimal, All, refl, sym, ap, ◌∙◌, arith}
use Rattle.std.specs.Int.{byte_at, bytes_high_first, to_be_bytes, w128}
use Rattle.std.proofs.lemmas.Bool.Decides.{nat_tests}
use Rattle.std.proofs.lemmas.Fmt.{decimal_injective, decimal_nonempty}
use Rattle.std.proofs.lemmas.List.Elements.{All-append, All-nil, All-cons, All-take, All-drop}
use Rattle.std.proofs.lemmas.List.Sums.{list_all-from_AllPass}
use Rattle.dht_types.specs.Text.{hex_digit, hex_bytes, hyphenated, gfid_text}
use Rattle.dht_types.specs.declared.identifiers.Gfid.{Gfid}
use Rattle.dht_types.specs.declared.events.Directory.{Directory}
use Rattle.dht_types.specs.declared.events.Directory.TheVariants.{Root, OfCall, Gfid as OfGfid}
use Rattle.dht_types.proofs.HexLemmas.{hex_number_lem, byte_small}
use Rattle.dht_types.proofs.TextLemmas.{gfid_text_tells, length-gfid_text}
use Rattle.dht_sched.specs.Schedule.{directory_word, IsScheduledDirectory}
use Rattle.dht_sched.proofs.NumberLemmas.{decimal_word}
use Rattle.dht_sched.proofs.WordLemmas.{IsWord}

-- ---- the text of a gfid is a word

abbrev IsAbove : ℕ → Type 0
IsAbove b = leb 33 b ≡ true

digit_above : (d : ℕ) → d < 16 → IsAbove (hex_digit d)
digit_above d small = grind (arith, nat_tests)

digits_above : (k n : ℕ) → All IsAbove (hex_bytes (bytes_high_first k n))
digits_above zero n = All-nil IsAbove
digits_above (suc k) n =
    let small = byte_small k n in
    let rest = hex_bytes (bytes_high_first k n) in
    let low = hex_digit (byte_at k n % 16) in
    All-cons IsAbove (hex_digit (byte_at k n / 16)) (low ∷ rest) (digit_above (byte_at k n / 16) (omega arith)) (All-cons IsAbove low rest (digit_above (byte_at k n % 16) (omega arith)) (digits_above k n))

-- a group behind others
group_above : (xs ys : List ℕ) → All IsAbove xs → All IsAbove ys → All IsAbove (xs ++ 45 ∷ ys)
group_above xs ys hx hy = All-append IsAbove xs (45 ∷ ys) hx (All-cons IsAbove 45 ys refl hy)

hyphenated_above : (h : List ℕ) → All IsAbove h → All IsAbove (hyphenated h)
hyphenated_above h above =
    let part : (m : ℕ) → All IsAbove (take 4 (drop m h)) = λ m. All-take IsAbove 4 (drop m h) (All-drop IsAbove m h above) in
    group_above _ (drop 20 h) (group_above _ (take 4 (drop 16 h)) (group_above _ (take 4 (drop 12 h)) (group_above (take 8 h) (take 4 (drop 8 h)) (All-take IsAbove 8 h above) (part 8)) (part 12)) (part 16)) (All-drop IsAbove 20 h above)

-- its digits are those of the gfid's bytes
text_by_bytes : (g : Gfid) → gfid_text g ≡ hyphenated (hex_bytes (to_be_bytes w128 g.0))
unfolding gfid_text
text_by_bytes g = ap hyphenated (hex_number_lem 16 g.0)

gfid_word : (g : Gfid) → IsWord (gfid_text g)
gfid_word g =
    let digits = hex_bytes (to_be_bytes w128 g.0) in
    rw (text_by_bytes g) (list_all-from_AllPass (λ b. leb 33 b) (hyphenated digits) (hyphenated_above digits (digits_above 16 g.0)))

-- it begins with a digit
digit_is_no_at : (d : ℕ) → d < 16 → hex_digit d ≢ 64
digit_is_no_at d small same = grind (arith, nat_tests)

gfid_begins : (g : Gfid) (rest : List ℕ) → gfid_text g ≢ 64 ∷ rest
gfid_begins g rest same =
    let small = byte_small 15 g.0 in
    let first : get_or (hyphenated (hex_bytes (to_be_bytes w128 g.0))) 0 0 ≡ 64 = ap (λ text. get_or text 0 0) (sym (text_by_bytes g) ∙ same) in
    digit_is_no_at (byte_at 15 g.0 / 16) (omega arith) first

-- ---- the words of directories

pub directory_is_word : (d : Directory) → IsScheduledDirectory d → IsWord (directory_word d)
directory_is_word Root h = refl
directory_is_word (OfCall k) h = decimal_word k h
directory_is_word (OfGfid g) h = gfid_word g

directory_begins : (d : Directory) → 0 < length (directory_word d)
directory_begins Root = omega arith
directory_begins (OfCall k) = omega arith
directory_begins (OfGfid g) = omega (arith, length-gfid_text g)

-- a word is of one directory
pub same_directory :
    (a b : Directory) → IsScheduledDirectory a → IsScheduledDirectory b
    → directory_word a ≡ directory_word b → a ≡ b
same_directory Root Root ha hb same = refl
same_directory Root (OfCall k) ha hb same = absurd (let some = decimal_nonempty k hb in let size = ap length same in omega arith)
same_directory Root (OfGfid g) ha hb same = absurd (gfid_begins g [] (sym same))
same_directory (OfCall j) Root ha hb same = absurd (let some = decimal_nonempty j ha in let size = ap length same in omega arith)
same_directory (OfCall j) (OfCall k) ha hb same = ap OfCall (decimal_injective j k ha hb (cc same))
same_directory (OfCall j) (OfGfid g) ha hb same = absurd (gfid_begins g (decimal j) (sym same))
same_directory (OfGfid g) Root ha hb same = absurd (gfid_begins g [] same)
same_directory (OfGfid g) (OfCall k) ha hb same = absurd (gfid_begins g (decimal k) same)
same_directory (OfGfid f) (OfGfid g) ha hb same = ap OfGfid (gfid_text_tells f g ha hb same)

-- ---- words that are no directory's

pub no_directory : (word : List ℕ) → length word ≡ 0 → (d : Directory) → directory_word d ≢ word
no_directory word none d same = let some = directory_begins d in let size = ap length same in omega arith

pub no_number :
    (word rest : List ℕ) (first : ℕ) → word ≡ first ∷ rest → first ≡ 64 → 0 < length rest
    → ((k : ℕ) → k < 2 ^ 64 → decimal k ≢ rest) → (d : Directory) → IsScheduledDirectory d
    → directory_word d ≢ word
no_number word rest first starts at some none Root h same = let nothing : [] ≡ rest = cc (starts, same) in let size = ap length nothing in omega arith
no_number word rest first starts at some none (OfCall k) h same = none k h (cc (starts, same))
no_number word rest first starts at some none (OfGfid g) h same = gfid_begins g rest (same ∙ starts ∙ ap (λ x. x ∷ rest) at)
