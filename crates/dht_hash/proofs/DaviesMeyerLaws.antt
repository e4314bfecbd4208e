-- The hash of a name is a number below 2 ^ 32.
use Rattle.std.proofs.Common.{ℕ, zero, suc, ◌<◌, ◌^◌, List, length, ◌/◌, arith, take, drop}
use Rattle.std.proofs.lemmas.Nat.{xor_of_32}
use Rattle.dht_hash.specs.declared.cipher.State.{State}
use Rattle.dht_hash.specs.DaviesMeyer.{words, absorb, absorb_all, pad_of, dm}

-- both halves of a state are words
pub record AreWords (v : State) : Type 0 where
  pub first : v.h0 < 2 ^ 32
  pub second : v.h1 < 2 ^ 32

absorbed : (r : ℕ) (block : List ℕ) (v : State) → AreWords (absorb r block v)
unfolding absorb
absorbed r block v = record { first = omega arith; second = omega arith }

absorbed_all : (pad n : ℕ) (bytes : List ℕ) (v : State) → AreWords (absorb_all pad n bytes v)
unfolding absorb_all
absorbed_all pad zero bytes v = absorbed 10 (words pad 4 bytes) v
absorbed_all pad (suc n) bytes v = absorbed_all pad n (drop 16 bytes) (absorb 6 (words pad 4 (take 16 bytes)) v)

pub dm_below : (name : List ℕ) → dm name < 2 ^ 32
unfolding dm
dm_below name =
    let first : State = record { h0 = 0x9464a485; h1 = 0x542e1a94 } in
    let w = absorbed_all (pad_of name) (length name / 16) name first in
    xor_of_32 _ _ w.first w.second
