-- No spelling of a byte begins another, so a name has one spelling, and a spelling is of one name.
use Rattle.std.proofs.Common.{◌≡◌, ◌≢◌, ℕ, ◌<◌, ◌≤◌, ◌/◌, ◌%◌, Bool, true, false, leb, eqb, List, [], ◌∷◌, ◌++◌, ◌⊎◌, inl, inr, length, take, drop, get_or, codes, refl, sym, ap, subst, ◌∙◌, append_assoc, arith}
use Rattle.std.specs.List.{flat_map, AllByRecursion}
use Rattle.std.specs.Prelude.{Result, Ok, Err}
use Rattle.std.proofs.lemmas.Bool.{cond-true, cond-false, eqb-true, false≢true}
use Rattle.std.proofs.lemmas.Bool.Decides.{nat_tests}
use Rattle.std.proofs.lemmas.List.{append-nil}
use Rattle.std.proofs.lemmas.List.Elements.{recursion_from_All}
use Rattle.std.proofs.lemmas.List.Concat.{flat_map-append}
use Rattle.std.proofs.lemmas.List.Folds.{list_all-append}
use Rattle.dht_types.specs.Text.{hex_digit}
use Rattle.dht_sched.specs.declared.fault.LineFault.{LineFault}
use Rattle.dht_sched.specs.declared.fault.LineFault.TheVariants.{Malformed, OutOfMemory}
use Rattle.dht_sched.specs.Reading.{ReadsUnless}
use Rattle.dht_sched.specs.Spelling.{AreBytes, is_plain, spelled_byte, spelled}
use Rattle.dht_sched.proofs.WordLemmas.{IsWord}

pub spelled_plain : (b : ℕ) → is_plain b ≡ true → spelled_byte b ≡ b ∷ []
unfolding spelled_byte
spelled_plain b h = cond-true (is_plain b) (b ∷ []) (37 ∷ hex_digit (b / 16) ∷ hex_digit (b % 16) ∷ []) h

pub spelled_escaped :
    (b : ℕ) → is_plain b ≡ false
    → spelled_byte b ≡ 37 ∷ hex_digit (b / 16) ∷ hex_digit (b % 16) ∷ []
unfolding spelled_byte
spelled_escaped b h = cond-false (is_plain b) (b ∷ []) (37 ∷ hex_digit (b / 16) ∷ hex_digit (b % 16) ∷ []) h

bool_or : (v : Bool) → (v ≡ true) ⊎ (v ≡ false)
bool_or true = inl refl
bool_or false = inr refl

plain_or : (b : ℕ) → (is_plain b ≡ true) ⊎ (is_plain b ≡ false)
plain_or b = bool_or (is_plain b)

not_percent : (b : ℕ) → b ≡ 37 → is_plain b ≡ true → ⊥
not_percent b e h = false≢true (subst (λ (x : ℕ). is_plain x ≡ true) e h)

hex_digit_injective : (a b : ℕ) → a < 16 → b < 16 → hex_digit a ≡ hex_digit b → a ≡ b
hex_digit_injective a b la lb e = grind (arith, nat_tests)

same_digits :
    (a b : ℕ) → a < 256 → b < 256 → hex_digit (a / 16) ≡ hex_digit (b / 16)
    → hex_digit (a % 16) ≡ hex_digit (b % 16) → a ≡ b
same_digits a b la lb high low =
    let h : a / 16 ≡ b / 16 = hex_digit_injective (a / 16) (b / 16) (omega arith) (omega arith) high in
    let l : a % 16 ≡ b % 16 = hex_digit_injective (a % 16) (b % 16) (omega arith) (omega arith) low in
    omega arith

-- the spelling of a byte tells where it ends
pub same_byte :
    (a b : ℕ) (s t : List ℕ) → a < 256 → b < 256 → spelled_byte a ++ s ≡ spelled_byte b ++ t
    → (a ≡ b) × (s ≡ t)
same_byte a b s t la lb e =
    elim (plain_or a) [
      | inl pa ↦ elim (plain_or b) [
        | inl pb ↦ (let f : a ∷ s ≡ b ∷ t = rw (spelled_plain a pa, spelled_plain b pb) at e in (cc f, cc f))
        | inr pb ↦ absurd (let f : a ∷ s ≡ 37 ∷ hex_digit (b / 16) ∷ hex_digit (b % 16) ∷ t = rw (spelled_plain a pa, spelled_escaped b pb) at e in not_percent a (cc f) pa)
      ]
      | inr pa ↦ elim (plain_or b) [
        | inl pb ↦ absurd (let f : 37 ∷ hex_digit (a / 16) ∷ hex_digit (a % 16) ∷ s ≡ b ∷ t = rw (spelled_escaped a pa, spelled_plain b pb) at e in not_percent b (cc f) pb)
        | inr pb ↦ (let f : 37 ∷ hex_digit (a / 16) ∷ hex_digit (a % 16) ∷ s ≡ 37 ∷ hex_digit (b / 16) ∷ hex_digit (b % 16) ∷ t = rw (spelled_escaped a pa, spelled_escaped b pb) at e in (same_digits a b la lb (cc f) (cc f), cc f))
      ]
    ]

not_nil : (b : ℕ) (s : List ℕ) → spelled_byte b ++ s ≡ [] → ⊥
not_nil b s e =
    elim (plain_or b) [
      | inl p ↦ (let f : b ∷ s ≡ [] = rw (spelled_plain b p) at e in cc f)
      | inr p ↦ (let f : 37 ∷ hex_digit (b / 16) ∷ hex_digit (b % 16) ∷ s ≡ [] = rw (spelled_escaped b p) at e in cc f)
    ]

abbrev pub IsByte : ℕ → Type 0
IsByte b = b < 256

abbrev pub bytes_text : List ℕ → List ℕ
bytes_text bytes = flat_map spelled_byte bytes

-- n begins with these bytes, and the others have this spelling
pub record GoesOn (bytes rest n : List ℕ) : Type 0 where
  pub more : List ℕ
  pub whole : n ≡ bytes ++ more
  pub left : rest ≡ bytes_text more
  pub small : AllByRecursion IsByte more

pub goes_on :
    (xs rest n : List ℕ) → AllByRecursion IsByte xs → AllByRecursion IsByte n
    → bytes_text xs ++ rest ≡ bytes_text n → GoesOn xs rest n
goes_on [] rest n hx hn e = record { more = n; whole = refl; left = e; small = hn }
goes_on (x ∷ xs) rest [] hx hn e = absurd (not_nil x (bytes_text xs ++ rest) (sym (append_assoc (spelled_byte x) (bytes_text xs) rest) ∙ e))
goes_on (x ∷ xs) rest (y ∷ n) hx hn e =
    let grouped : spelled_byte x ++ (bytes_text xs ++ rest) ≡ spelled_byte y ++ bytes_text n = sym (append_assoc (spelled_byte x) (bytes_text xs) rest) ∙ e in
    let p = same_byte x y (bytes_text xs ++ rest) (bytes_text n) hx.0 hn.0 grouped in
    let q = goes_on xs rest n hx.1 hn.1 p.1 in
    let head = p.0 in
    let tail = q.whole in
    record { more = q.more; whole = cc (head, tail); left = q.left; small = q.small }

name_bytes : (n : List ℕ) → AreBytes n → AllByRecursion IsByte n
name_bytes n h = recursion_from_All IsByte n h

nothing_left : (more : List ℕ) → [] ≡ bytes_text more → more ≡ []
nothing_left [] e = refl
nothing_left (b ∷ more) e = absurd (not_nil b (bytes_text more) (sym e))

same_bytes :
    (m n : List ℕ) → AllByRecursion IsByte m → AllByRecursion IsByte n → bytes_text m ≡ bytes_text n
    → m ≡ n
same_bytes m n hm hn e =
    let f : bytes_text m ++ [] ≡ bytes_text n = append-nil (bytes_text m) ∙ e in
    let g = goes_on m [] n hm hn f in
    let ends = nothing_left g.more g.left in
    sym (append-nil m) ∙ (ap (λ more. m ++ more) (sym ends) ∙ sym g.whole)

-- the spelling of the empty name is none of bytes
not_empty_name : (b : ℕ) (n : List ℕ) → bytes_text (b ∷ n) ≡ codes "%-" → ⊥
not_empty_name b n e =
    elim (plain_or b) [
      | inl p ↦ (let f : b ∷ bytes_text n ≡ codes "%-" = rw (spelled_plain b p) at e in not_percent b (cc f) p)
      | inr p ↦ (let f : 37 ∷ hex_digit (b / 16) ∷ hex_digit (b % 16) ∷ bytes_text n ≡ codes "%-" = rw (spelled_escaped b p) at e in cc f)
    ]

-- two names with one spelling are one
pub same_name : (m n : List ℕ) → AreBytes m → AreBytes n → spelled m ≡ spelled n → m ≡ n
same_name [] [] hm hn e = refl
same_name [] (b ∷ n) hm hn e = absurd (not_empty_name b n (sym e))
same_name (a ∷ m) [] hm hn e = absurd (not_empty_name a m e)
same_name (a ∷ m) (b ∷ n) hm hn e = same_bytes (a ∷ m) (b ∷ n) (name_bytes (a ∷ m) hm) (name_bytes (b ∷ n) hn) e

-- ---- a spelling as the prefix of a text

begins : (b : ℕ) (rest : List ℕ) → 0 < length (spelled_byte b ++ rest)
begins b rest =
    elim (plain_or b) [
      | inl p ↦ rw (spelled_plain b p) (omega arith)
      | inr p ↦ rw (spelled_escaped b p) (omega arith)
    ]

-- an empty text begins with no spelling
pub empty_begins :
    (text : List ℕ) (b : ℕ) (rest : List ℕ) → length text < 1 → text ≡ spelled_byte b ++ rest → ⊥
empty_begins text b rest short e = let long = begins b rest in let same = ap length e in omega arith

-- the spelling of a byte as the prefix of a text that begins with no plain byte
pub record Escapes (first b : ℕ) (more rest : List ℕ) : Type 0 where
  pub percent : first ≡ 37
  pub bare : is_plain b ≡ false
  pub digits : more ≡ hex_digit (b / 16) ∷ hex_digit (b % 16) ∷ rest

pub only_escaped :
    (text more : List ℕ) (first b : ℕ) (rest : List ℕ) → text ≡ first ∷ more
    → is_plain first ≡ false → text ≡ spelled_byte b ++ rest → Escapes first b more rest
only_escaped text more first b rest starts bare e =
    elim (plain_or b) [
      | inl p ↦ absurd (let f : text ≡ b ∷ rest = rw (spelled_plain b p) at e in let same : first ≡ b = cc in false≢true (sym (subst (λ (x : ℕ). is_plain x ≡ false) same bare) ∙ p))
      | inr p ↦ (let f : text ≡ 37 ∷ hex_digit (b / 16) ∷ hex_digit (b % 16) ∷ rest = rw (spelled_escaped b p) at e in record { percent = cc; bare = p; digits = cc })
    ]

-- it is longer than such a rest
pub long_enough : (first b : ℕ) (more rest : List ℕ) → Escapes first b more rest → 2 ≤ length more
long_enough first b more rest h = let size = ap length h.digits in omega arith

pub plain_prefix :
    (text rest : List ℕ) (b : ℕ) → text ≡ b ∷ rest → is_plain b ≡ true
    → text ≡ spelled_byte b ++ rest
plain_prefix text rest b e p = rw (spelled_plain b p) e

pub escaped_prefix :
    (text more : List ℕ) (first b : ℕ) → text ≡ first ∷ more → first ≡ 37 → 2 ≤ length more
    → is_plain b ≡ false
    → hex_digit (b / 16) ∷ hex_digit (b % 16) ∷ []
    ≡ get_or (take 2 more) 0 0 ∷ get_or (take 2 more) 1 0 ∷ []
    → text ≡ spelled_byte b ++ drop 2 more
escaped_prefix text [] first b e percent long p same = absurd (omega arith)
escaped_prefix text (x ∷ []) first b e percent long p same = absurd (omega arith)
escaped_prefix text (x ∷ y ∷ rest) first b e percent long p same = rw (spelled_escaped b p) (cc (e, percent, same))

-- ---- bytes that were read up to a rest

-- what is left begins with no spelling
pub stops :
    (text xs rest : List ℕ) → text ≡ bytes_text xs ++ rest → AreBytes xs → 0 < length rest
    → ((b : ℕ) (more : List ℕ) → b < 256 → rest ≢ spelled_byte b ++ more) → (n : List ℕ)
    → AreBytes n → bytes_text n ≢ text
stops text xs rest e small long none n h same =
    let g = goes_on xs rest n (name_bytes xs small) (name_bytes n h) (sym e ∙ sym same) in
    next g.more g.left g.small
  where
    next : (more : List ℕ) → rest ≡ bytes_text more → AllByRecursion IsByte more → ⊥
    next [] left bytes = let nothing = ap length left in omega arith
    next (b ∷ more) left bytes = none b (bytes_text more) bytes.0 left

-- nothing is left
pub read_whole :
    (text xs rest : List ℕ) → text ≡ bytes_text xs ++ rest → length rest ≡ 0 → bytes_text xs ≡ text
read_whole text xs [] e none = sym (e ∙ append-nil (bytes_text xs))
read_whole text xs (b ∷ rest) e none = absurd (omega arith)

-- one byte more
pub read_on :
    (text xs rest after : List ℕ) (b : ℕ) → text ≡ bytes_text xs ++ rest
    → rest ≡ spelled_byte b ++ after → text ≡ bytes_text (xs ++ b ∷ []) ++ after
read_on text xs rest after b e f =
    let spelled_on : bytes_text (xs ++ b ∷ []) ≡ bytes_text xs ++ spelled_byte b = flat_map-append spelled_byte xs (b ∷ []) ∙ ap (λ t. bytes_text xs ++ t) (append-nil (spelled_byte b)) in
    e ∙ (ap (λ r. bytes_text xs ++ r) f ∙ (sym (append_assoc (bytes_text xs) (spelled_byte b) after) ∙ ap (λ t. t ++ after) (sym spelled_on)))

pub shorter :
    (rest after : List ℕ) (b : ℕ) → rest ≡ spelled_byte b ++ after → length after < length rest
shorter rest after b e =
    elim (plain_or b) [
      | inl p ↦ (let f : rest ≡ b ∷ after = rw (spelled_plain b p) at e in let size = ap length f in omega arith)
      | inr p ↦ (let f : rest ≡ 37 ∷ hex_digit (b / 16) ∷ hex_digit (b % 16) ∷ after = rw (spelled_escaped b p) at e in let size = ap length f in omega arith)
    ]

-- ---- a name by its bytes

-- a name's spelling is a text
name_begins : (n : List ℕ) → 0 < length (spelled n)
name_begins [] = omega arith
name_begins (b ∷ n) = begins b (bytes_text n)

pub no_name : (word : List ℕ) → length word ≡ 0 → (n : List ℕ) → spelled n ≢ word
no_name word none n same = let long = name_begins n in let size = ap length same in omega arith

-- a word that is not `%-` spells a name as its bytes
pub name_read :
    (word : List ℕ) (r : Result (List ℕ) LineFault) → word ≢ codes "%-" → 0 < length word
    → ReadsUnless bytes_text AreBytes word r → ReadsUnless spelled AreBytes word r
name_read word (Ok []) other some h = absurd (let size = ap length h.1 in omega arith)
name_read word (Ok (b ∷ n)) other some h = h
name_read word (Err Malformed) other some h = none
  where
    none : (n : List ℕ) → AreBytes n → spelled n ≢ word
    none [] bytes same = other (sym same)
    none (b ∷ n) bytes same = h (b ∷ n) bytes same
name_read word (Err OutOfMemory) other some h = tt

-- ---- a test of emptiness

pub empty : (xs : List ℕ) (b : Bool) → b ≡ eqb (length xs) 0 → b ≡ true → length xs ≡ 0
empty xs b e is = eqb-true (length xs) 0 (sym e ∙ is)

pub not_empty : (xs : List ℕ) (b : Bool) → b ≡ eqb (length xs) 0 → b ≡ false → 0 < length xs
not_empty [] b e not_so = absurd (false≢true (sym not_so ∙ e))
not_empty (x ∷ xs) b e not_so = omega arith

-- ---- a spelling is a word

plain_above : (b : ℕ) → is_plain b ≡ true → leb 33 b ≡ true
plain_above b h = grind (arith, nat_tests)

digit_above : (d : ℕ) → d < 16 → leb 33 (hex_digit d) ≡ true
digit_above d small = grind (arith, nat_tests)

byte_word : (b : ℕ) → b < 256 → IsWord (spelled_byte b)
byte_word b small =
    elim (plain_or b) [
      | inl p ↦ rw (spelled_plain b p, plain_above b p) refl
      | inr p ↦ rw (spelled_escaped b p, digit_above (b / 16) (omega arith), digit_above (b % 16) (omega arith)) refl
    ]

text_word : (n : List ℕ) → AllByRecursion IsByte n → IsWord (bytes_text n)
text_word [] h = refl
text_word (b ∷ n) h = rw (list_all-append (λ c. leb 33 c) (spelled_byte b) (bytes_text n), byte_word b h.0) (text_word n h.1)

pub name_word : (n : List ℕ) → AreBytes n → IsWord (spelled n)
name_word [] h = refl
name_word (b ∷ n) h = text_word (b ∷ n) (name_bytes (b ∷ n) h)
