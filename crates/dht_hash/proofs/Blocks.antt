-- The blocks of a name, one at a time from the start.
use Rattle.std.proofs.Common.{◌≡◌, ℕ, suc, ◌/◌, ◌<◌, ◌≤◌, List, length, take, drop, length-drop, refl, arith}
use Rattle.dht_hash.specs.DaviesMeyer.{words, absorb, absorb_all}
use Rattle.dht_hash.specs.declared.cipher.State.{State}

-- a whole block as a prefix
pub absorb_all-block : (pad : ℕ) (bytes : List ℕ) (v : State) → 16 ≤ length bytes
    → absorb_all pad (length bytes / 16) bytes v
    ≡ absorb_all pad (length (drop 16 bytes) / 16) (drop 16 bytes) (absorb 6 (words pad 4 (take 16 bytes)) v)
unfolding absorb_all
absorb_all-block pad bytes v whole =
    let count : length bytes / 16 ≡ suc (length (drop 16 bytes) / 16) = omega (arith, length-drop 16 bytes) in
    rw count refl

-- the last block
pub absorb_all-last : (pad : ℕ) (bytes : List ℕ) (v : State) → length bytes < 16
    → absorb_all pad (length bytes / 16) bytes v ≡ absorb 10 (words pad 4 bytes) v
unfolding absorb_all
absorb_all-last pad bytes v short =
    let count : length bytes / 16 ≡ 0 = omega arith in
    rw count refl
