-- The bytes that are not refused are the names.
use Rattle.std.proofs.Common.{◌≡◌, ℕ, ◌≤◌, ◌↔◌, Bool, true, false, true≢false, ◌||◌, nat_lt, ◌==◌, if◌then◌else◌, List, length, Option, Some, None, Result, Ok, Err, IsOk, codes, arith, refl, sym, ap, ◌∙◌, subst, ⊎_elim, get_or}
use Rattle.std.specs.List.{Contains, list_any}
use Rattle.std.specs.Str.{bytes_eq}
use Rattle.std.specs.Result.{result_err}
use Rattle.std.proofs.lemmas.Slice.Eq.{bytes_eq-Decides}
use Rattle.std.proofs.lemmas.Bool.Decides.{nat_tests, Decides-eqb, not_from_Decides}
use Rattle.std.proofs.lemmas.Bool.{or_cases, or_parts, or_from, false_from_ne_true}
use Rattle.std.proofs.lemmas.List.Folds.{list_any_at, Any-from_list_any}
use Rattle.dht_types.specs.declared.errors.Errno.{Errno}
use Rattle.dht_types.specs.declared.errors.Errno.TheVariants.{Einval, Enametoolong}
use Rattle.dht_types.specs.Name.{IsName, is_invalid, is_forbidden, is_dots, refusal_of}

none_is_not : (e : Errno) → ◌≡◌ {A = Option Errno} None (Some e) → ⊥
none_is_not e same = cc

-- an element that passes the test settles it
passes : (p : ℕ → Bool) (xs : List ℕ) (x : ℕ) → Contains xs x → p x ≡ true → list_any p xs ≡ true
passes p xs x found pass = list_any_at p xs found.0 x found.1 (ap p found.2 ∙ pass)

-- where the bytes have no forbidden byte
none_forbidden :
    (bytes : List ℕ) → ¬ Contains bytes 47 → ¬ Contains bytes 0
    → list_any is_forbidden bytes ≡ false
none_forbidden bytes no_slash no_zero =
    false_from_ne_true (list_any is_forbidden bytes) (λ some.
    let (k, byte, within, at, forbidden) = Any-from_list_any is_forbidden bytes some in
    let found : (b : ℕ) → byte ≡ b → Contains bytes b = λ b same. (k, within, subst (λ (x : ℕ). get_or bytes k x ≡ x) same at) in
    ⊎_elim (λ slash. no_slash (found 47 ((Decides-eqb byte 47).0 slash))) (λ zeroed. no_zero (found 0 ((Decides-eqb byte 0).0 zeroed))) (or_cases (byte == 47) (byte == 0) forbidden))

named : (bytes : List ℕ) → is_invalid bytes ≡ false → length bytes ≤ 255 → IsName bytes
named bytes valid short =
    let parts = or_parts ((length bytes == 0) || is_dots bytes) (list_any is_forbidden bytes) valid in
    let short_or_dots = or_parts (length bytes == 0) (is_dots bytes) parts.0 in
    let dots = or_parts (bytes_eq bytes (codes ".")) (bytes_eq bytes (codes "..")) short_or_dots.1 in
    record {
      positive = grind (arith, nat_tests, short_or_dots.0);
      short = short;
      not_here = not_from_Decides _ (bytes_eq-Decides bytes (codes ".")) dots.0;
      not_above = not_from_Decides _ (bytes_eq-Decides bytes (codes "..")) dots.1;
      no_slash = λ found. true≢false (sym (passes is_forbidden bytes 47 found refl) ∙ parts.1);
      no_zero = λ found. true≢false (sym (passes is_forbidden bytes 0 found refl) ∙ parts.1);
    }

valid : (bytes : List ℕ) → IsName bytes → is_invalid bytes ≡ false
valid bytes name =
    let positive = name.positive in
    let here : bytes_eq bytes (codes ".") ≡ false = false_from_ne_true _ (λ same. name.not_here ((bytes_eq-Decides bytes (codes ".")).0 same)) in
    let above : bytes_eq bytes (codes "..") ≡ false = false_from_ne_true _ (λ same. name.not_above ((bytes_eq-Decides bytes (codes "..")).0 same)) in
    let size : (length bytes == 0) ≡ false = grind (arith, nat_tests) in
    or_from ((length bytes == 0) || is_dots bytes) (list_any is_forbidden bytes)
    (or_from (length bytes == 0) (is_dots bytes) size (or_from (bytes_eq bytes (codes ".")) (bytes_eq bytes (codes "..")) here above))
    (none_forbidden bytes name.no_slash name.no_zero)

-- no bytes are both refused and a name
pub refusal_of-IsName : (bytes : List ℕ) → IsName bytes → refusal_of bytes ≡ None
refusal_of-IsName bytes name =
    let short = name.short in
    let size : nat_lt 255 (length bytes) ≡ false = grind (arith, nat_tests) in
    rw (valid bytes name, size) refl

not_refused :
    (bytes : List ℕ) (invalid long : Bool) → is_invalid bytes ≡ invalid
    → nat_lt 255 (length bytes) ≡ long
    → None ≡ (if invalid then Some Einval else if long then Some Enametoolong else None) → IsName bytes
not_refused bytes true long is_it size same = absurd (none_is_not Einval same)
not_refused bytes false true is_it size same = absurd (none_is_not Enametoolong same)
not_refused bytes false false is_it size same = named bytes is_it (grind (arith, nat_tests, size))

-- bytes that are not refused are a name
pub IsName-not_refused : (bytes : List ℕ) → None ≡ refusal_of bytes → IsName bytes
IsName-not_refused bytes same = not_refused bytes (is_invalid bytes) (nat_lt 255 (length bytes)) refl refl same

pub IsOk-check :
    {T : Type 0} (r : Result T Errno) (bytes : List ℕ) → result_err r ≡ refusal_of bytes
    → IsOk r ↔ IsName bytes
IsOk-check (Ok x) bytes same = (λ _. IsName-not_refused bytes same, λ _. refl)
IsOk-check (Err e) bytes same = (λ ok. absurd (true≢false (sym ok)), λ name. absurd (none_is_not e (sym (same ∙ refusal_of-IsName bytes name))))

-- invalid bytes are no name
pub refused-IsName : (bytes : List ℕ) → is_invalid bytes ≡ true → (false ≡ true) ↔ IsName bytes
refused-IsName bytes invalid =
    (λ never. absurd (true≢false (sym never)), λ name. sym (valid bytes name) ∙ invalid)
