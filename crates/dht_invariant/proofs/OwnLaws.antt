-- A gfid tells its run, and which call of which client made it.
use Rattle.std.proofs.Common.{◌≡◌, ◌<◌, ◌≤◌, ◌^◌, ◌+◌, ◌*◌, ◌/◌, ℕ, sym, ap, ◌∙◌, subst, arith}
use Rattle.dht_types.specs.Gfid.{run_of}
use Rattle.dht_types.specs.History.{IsOwn}
use Rattle.dht_types.specs.declared.identifiers.Gfid.{Gfid}
use Rattle.dht_types.specs.declared.identifiers.ClientNo.{ClientNo}
use Rattle.dht_types.specs.declared.identifiers.CallNo.{CallNo}

parts_same :
    (run c k h d j i : ℕ) → h < 65536 → i < 65536 → k < 18446744073709551616
    → j < 18446744073709551616
    → (run * 65536 + c) * 1208925819614629174706176 + (k * 65536 + h)
    ≡ (run * 65536 + d) * 1208925819614629174706176 + (j * 65536 + i)
    → (c ≡ d) × (k ≡ j)
parts_same run c k h d j i lh li lk lj e = (omega arith, omega arith)

-- the run in which a gfid was made is that of its call, where the client's
-- number has 16 bits and the call's 64; else it is no earlier one
run_within :
    (run c k h : ℕ) → c < 65536 → k < 18446744073709551616 → h < 65536
    → ((run * 65536 + c) * 1208925819614629174706176 + (k * 65536 + h)) /
    79228162514264337593543950336
    ≤ run
run_within run c k h lc lk lh = omega arith

run_above :
    (run c k h : ℕ)
    → run
    ≤ ((run * 65536 + c) * 1208925819614629174706176 + (k * 65536 + h)) /
    79228162514264337593543950336
run_above run c k h = omega arith

pub own_run :
    (run : ℕ) (c : ClientNo) (k : CallNo) (g : Gfid) → c.0 < 65536 → k.0 < 2 ^ 64 → IsOwn run c k g
    → run_of g ≤ run
own_run run c k g lc lk h = subst (λ (x : Gfid). run_of x ≤ run) (sym h.2) (run_within run c.0 k.0 h.0 lc lk h.1)

pub own_later : (run : ℕ) (c : ClientNo) (k : CallNo) (g : Gfid) → IsOwn run c k g → run ≤ run_of g
own_later run c k g h = subst (λ (x : Gfid). run ≤ run_of x) (sym h.2) (run_above run c.0 k.0 h.0)

pub own_is :
    (run : ℕ) (c d : ClientNo) (k j : CallNo) (g : Gfid) → k.0 < 2 ^ 64 → j.0 < 2 ^ 64
    → IsOwn run c k g → IsOwn run d j g → (c.0 ≡ d.0) × (k.0 ≡ j.0)
own_is run c d k j g lk lj h i = parts_same run c.0 k.0 h.0 d.0 j.0 i.0 h.1 i.1 lk lj (ap (λ (x : Gfid). x.0) (sym h.2 ∙ i.2))
