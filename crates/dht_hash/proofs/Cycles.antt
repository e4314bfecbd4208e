-- TEA, one cycle at a time.
use Rattle.std.proofs.Common.{◌≡◌, ℕ, suc, ◌+◌, ◌*◌, ◌%◌, ◌^◌, List, refl, arith}
use Rattle.dht_hash.specs.DaviesMeyer.{cycle, encrypt}
use Rattle.dht_hash.specs.declared.cipher.State.{State}

-- one more cycle, with the sum grown by delta
pub encrypt-more : (key : List ℕ) (r sum : ℕ) (v : State) → sum ≡ r * 0x9e3779b9 % 2 ^ 32
    → cycle key ((sum + 0x9e3779b9) % 2 ^ 32) (encrypt key r v) ≡ encrypt key (r + 1) v
unfolding encrypt
encrypt-more key r sum v at =
    let plus : r + 1 ≡ suc r = omega arith in
    let next : (sum + 0x9e3779b9) % 2 ^ 32 ≡ suc r * 0x9e3779b9 % 2 ^ 32 = omega arith in
    rw (plus, next) refl
