-- Bytes that are grown and written over are bytes that were written.
use Rattle.std.proofs.Common.{◌≡◌, ℕ, ◌+◌, ◌-◌, ◌≤◌, List, [], ◌++◌, length, take, drop, replicate, length-append, sym, ap, ◌∙◌, arith, ⊎_elim}
use Rattle.std.proofs.lemmas.Bool.{cases_lt}
use Rattle.std.proofs.lemmas.List.{append-nil, take_all, drop_all, take-append-le, take-replicate, length-replicate}
use Rattle.std.proofs.Math.Seq.{take-append-add}
use Rattle.dht_types.specs.Content.{cut_to, written}

-- no zeros are added to bytes that are long enough
no_zeros : (xs : List ℕ) (k : ℕ) → k ≤ length xs → replicate {A = ℕ} (k - length xs) 0 ≡ []
no_zeros xs k long = let none : k - length xs ≡ 0 = omega arith in ap (λ n. replicate {A = ℕ} n 0) none

-- a prefix of bytes that were grown to a length above it
prefix_grown :
    (xs : List ℕ) (k m : ℕ) → k ≤ m → take k (xs ++ replicate (m - length xs) 0) ≡ cut_to xs k
prefix_grown xs k m below = ⊎_elim
    (λ short. let past : length xs + (k - length xs) ≡ k = omega arith in
    let fits : k - length xs ≤ m - length xs = omega arith in
    let size : length xs ≤ k = omega arith in
    ap (λ n. take n (xs ++ replicate (m - length xs) 0)) (sym past)
    ∙ take-append-add xs (replicate (m - length xs) 0) (k - length xs)
    ∙ ap (λ ys. xs ++ ys) (take-replicate (k - length xs) (m - length xs) 0 fits)
    ∙ ap (λ ys. ys ++ replicate (k - length xs) 0) (sym (take_all k xs size)))
    (λ long. take-append-le k xs (replicate (m - length xs) 0) long
    ∙ sym (append-nil (take k xs))
    ∙ ap (λ zs. take k xs ++ zs) (sym (no_zeros xs k long)))
    (cases_lt (length xs) k)

-- nothing is left behind the length to which bytes were grown, but what was there
back : (xs : List ℕ) (k : ℕ) → drop k (xs ++ replicate (k - length xs) 0) ≡ drop k xs
back xs k = ⊎_elim
    (λ short. let whole : length (xs ++ replicate (k - length xs) 0) ≤ k = omega (arith, length-append xs (replicate (k - length xs) 0), length-replicate {A = ℕ} (k - length xs) 0) in
    let size : length xs ≤ k = omega arith in
    drop_all k (xs ++ replicate (k - length xs) 0) whole ∙ sym (drop_all k xs size))
    (λ long. ap (λ zs. drop k (xs ++ zs)) (no_zeros xs k long) ∙ ap (drop k) (append-nil xs))
    (cases_lt (length xs) k)

-- to grow the bytes and then to write over them is to write
pub written_over :
    (old piece : List ℕ) (start : ℕ)
    → let grown = old ++ replicate (start + length piece - length old) 0 in
    take start grown ++ piece ++ drop (start + length piece) grown ≡ written old start piece
written_over old piece start =
    let below : start ≤ start + length piece = omega arith in
    ap (λ xs. xs ++ piece ++ drop (start + length piece) (old ++ replicate (start + length piece - length old) 0)) (prefix_grown old start (start + length piece) below)
    ∙ ap (λ ys. cut_to old start ++ piece ++ ys) (back old (start + length piece))

-- all of a list that is written back
pub written_back :
    (size : ℕ) (bytes items : List ℕ) → length bytes ≡ size → length items ≡ size
    → take size (bytes ++ drop (length bytes) items) ≡ bytes
written_back size bytes items e f =
    let short : length items ≤ length bytes = omega arith in
    let whole : length bytes ≤ size = omega arith in
    ap (λ rest. take size (bytes ++ rest)) (drop_all (length bytes) items short) ∙ ap (take size) (append-nil bytes) ∙ take_all size bytes whole
