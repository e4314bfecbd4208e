-- Steps of what a sink tells and of what a source tells.
use Rattle.std.proofs.Common.{◌≡◌, ℕ, ◌+◌, List, ◌++◌, Option, None, Some, take, drop, refl, sym, ap, ◌∙◌, append_assoc}
use Rattle.std.proofs.Math.Seq.{take-add}
use Rattle.dht_run.specs.Outside.{before_told, after_told}

-- bytes that are taken after others are taken as one run
pub after_told-after_told :
    (told : Option (List ℕ)) (xs ys : List ℕ)
    → after_told (after_told told xs) ys ≡ after_told told (xs ++ ys)
after_told-after_told None xs ys = refl
after_told-after_told (Some prefix) xs ys = ap Some (append_assoc prefix xs ys)

-- a sink that took the first bytes, and then the next of the rest, took so many more of the first
pub took_more :
    (was now next : Option (List ℕ)) (bytes rest : List ℕ) (d n : ℕ)
    → now ≡ after_told was (take d bytes) → rest ≡ drop d bytes
    → next ≡ after_told now (take n rest) → next ≡ after_told was (take (d + n) bytes)
took_more was now next bytes rest d n first is second =
    second ∙ ap (λ t. after_told t (take n rest)) first ∙ after_told-after_told was (take d bytes) (take n rest)
    ∙ ap (λ r. after_told was (take d bytes ++ take n r)) is ∙ ap (after_told was) (sym (take-add d n bytes))

-- bytes before others are before what is told as one run
pub before_told-before_told :
    (xs ys : List ℕ) (told : Option (List ℕ))
    → before_told xs (before_told ys told) ≡ before_told (xs ++ ys) told
before_told-before_told xs ys None = refl
before_told-before_told xs ys (Some rest) = ap Some (sym (append_assoc xs ys rest))
