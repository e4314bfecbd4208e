-- The words of a block, one at a time from the start.
use Rattle.std.proofs.Common.{◌≡◌, ℕ, zero, suc, ◌<◌, ◌≤◌, List, [], ◌∷◌, length, take, drop, replicate, refl, ap, arith}
use Rattle.std.specs.Prelude.{fold}
use Rattle.byteorder.specs.Endian.{little_number}
use Rattle.dht_hash.specs.DaviesMeyer.{words, take_in}

-- past the bytes each word is a pad
words-empty : (pad n : ℕ) → words pad n [] ≡ replicate n pad
unfolding words
words-empty pad zero = refl
words-empty pad (suc n) = refl

-- fewer than four bytes go into the pad
pub words-short : (pad n : ℕ) (bytes : List ℕ) → length bytes < 4
    → words pad (suc n) bytes ≡ fold take_in pad bytes ∷ words pad n []
unfolding words
words-short pad n (a ∷ b ∷ c ∷ d ∷ rest) short = absurd (omega arith)
words-short pad n (a ∷ b ∷ c ∷ []) short = rw (words-empty pad n) refl
words-short pad n (a ∷ b ∷ []) short = rw (words-empty pad n) refl
words-short pad n (a ∷ []) short = rw (words-empty pad n) refl
words-short pad n [] short = rw (words-empty pad n) refl

-- four bytes are the number that they write, the lowest first
pub words-whole : (pad n : ℕ) (bytes : List ℕ) → 4 ≤ length bytes
    → words pad (suc n) bytes ≡ little_number 4 (take 4 bytes) ∷ words pad n (drop 4 bytes)
unfolding words
words-whole pad n (a ∷ b ∷ c ∷ d ∷ rest) whole = ap (λ (w : ℕ). w ∷ words pad n rest) (omega arith)
words-whole pad n (a ∷ b ∷ c ∷ []) whole = absurd (omega arith)
words-whole pad n (a ∷ b ∷ []) whole = absurd (omega arith)
words-whole pad n (a ∷ []) whole = absurd (omega arith)
words-whole pad n [] whole = absurd (omega arith)
