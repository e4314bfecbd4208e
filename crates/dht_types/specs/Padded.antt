-- A list at the start of a place of fixed size, with one filler behind it.
use Rattle.std.specs.Prelude.{ℕ, ◌≡◌, ◌+◌, ◌-◌, ◌≤◌, List, ◌++◌, length, take, drop, replicate}
use Rattle.std.proofs.Common.{sym, ap, ◌∙◌, arith, length-append}
use Rattle.std.proofs.lemmas.List.{take-append-drop, length-take-le, length-drop, length-replicate, drop-drop, drop-replicate}
use Rattle.std.proofs.Math.Seq.{take-append_seam, drop-append_seam}

-- the first n of so many places count, and the others have the filler
pub record IsPadded {A : Type 0} (size : ℕ) (filler : A) (n : ℕ) (places : List A) : Type 0 where
  pub full : length places ≡ size
  pub short : n ≤ size
  pub filled : drop n places ≡ replicate (size - n) filler

-- the elements that count, padded again
abbrev pub padded : {A : Type 0} → ℕ → A → List A → List A
padded size filler xs = xs ++ replicate (size - length xs) filler

pub length_back :
    {A : Type 0} (size : ℕ) (filler : A) (n : ℕ) (places : List A) → IsPadded size filler n places
    → length (take n places) ≡ n
length_back size filler n places h = let full = h.full in let short = h.short in length-take-le n places (omega arith)

pub places_back :
    {A : Type 0} (size : ℕ) (filler : A) (n : ℕ) (places : List A) → IsPadded size filler n places
    → padded size filler (take n places) ≡ places
places_back size filler n places h =
    ap (λ m. take n places ++ replicate (size - m) filler) (length_back size filler n places h)
    ∙ (ap (λ rest. take n places ++ rest) (sym h.filled) ∙ take-append-drop n places)

-- to pad is to pad
pub padded_is :
    {A : Type 0} (size : ℕ) (filler : A) (xs : List A) → length xs ≤ size
    → IsPadded size filler (length xs) (padded size filler xs)
padded_is {A} size filler xs h = record {
  full = omega (arith, length-append xs (replicate (size - length xs) filler), length-replicate {A = A} (size - length xs) filler);
  short = h;
  filled = drop-append_seam xs (replicate (size - length xs) filler);
}

pub padded_prefix :
    {A : Type 0} (size : ℕ) (filler : A) (xs : List A)
    → take (length xs) (padded size filler xs) ≡ xs
padded_prefix size filler xs = take-append_seam xs (replicate (size - length xs) filler)

-- a piece more
behind :
    {A : Type 0} (size n : ℕ) (filler : A) (places piece : List A) → IsPadded size filler n places
    → length (take n places ++ piece) ≡ n + length piece
behind size n filler places piece h =
    let full = h.full in
    let short = h.short in
    let first = length-take-le n places (omega arith) in
    omega (arith, length-append (take n places) piece)

pub longer_padded :
    {A : Type 0} (size n : ℕ) (filler : A) (places piece joined : List A)
    → IsPadded size filler n places → n + length piece ≤ size
    → joined ≡ take n places ++ piece ++ drop (n + length piece) places
    → IsPadded size filler (n + length piece) joined
longer_padded size n filler places piece joined h fits e =
    let first = take n places ++ piece in
    let rest = drop (n + length piece) places in
    let m = n + length piece in
    let at : length first ≡ m = behind size n filler places piece h in
    let full = h.full in
    let rested : length rest ≡ length places - m = length-drop m places in
    let whole : length joined ≡ length (first ++ rest) = ap length e in
    let same : size - n - length piece ≡ size - m = omega arith in
    record {
      full = omega (arith, length-append first rest);
      short = fits;
      filled = ap (λ xs. drop m xs) e
          ∙ (ap (λ (i : ℕ). drop i (first ++ rest)) (sym at)
          ∙ (drop-append_seam first rest
          ∙ (sym (drop-drop (length piece) n places)
          ∙ (ap (λ xs. drop (length piece) xs) h.filled
          ∙ (drop-replicate (length piece) (size - n) filler ∙ ap (λ (i : ℕ). replicate i filler) same)))));
    }

pub longer_is :
    {A : Type 0} (size n : ℕ) (filler : A) (places piece joined : List A)
    → IsPadded size filler n places
    → joined ≡ take n places ++ piece ++ drop (n + length piece) places
    → take (n + length piece) joined ≡ take n places ++ piece
longer_is size n filler places piece joined h e =
    let first = take n places ++ piece in
    let rest = drop (n + length piece) places in
    ap (λ xs. take (n + length piece) xs) e
    ∙ (ap (λ (i : ℕ). take i (first ++ rest)) (sym (behind size n filler places piece h))
    ∙ take-append_seam first rest)
