-- What others may make of the shape of a guarded name:
-- nothing, twice, and where what is shown stays.
use Rattle.std.proofs.Common.{◌≡◌, ℕ, Bool, true, false, refl, sym, ap, ◌∙◌, subst}
use Rattle.std.specs.Prelude.{Option, Some, None, nat_eq, if◌then◌else◌}
use Rattle.dht_types.specs.declared.identifiers.Gfid.{Gfid}
use Rattle.dht_types.specs.declared.stored.Main.{Main}
use Rattle.dht_types.specs.declared.stored.Main.TheVariants.{Dir}
use Rattle.dht_types.specs.declared.stored.Standby.TheVariants.{Copy}
use Rattle.dht_types.specs.declared.stored.Slot.{Slot}
use Rattle.dht_section.specs.Shapes.{NameShape, Bare, Folder, Plain, Marked, Contested, Standing, Copied, Committed, Grows, when_on, core_at}
use Rattle.dht_section.specs.Views.{links_to}

pub grows_refl : (h : NameShape) → Grows h h
grows_refl Bare = refl
grows_refl (Folder g on) = (on, refl, λ b q. q)
grows_refl (Plain b f) = refl
grows_refl (Marked b f x) = refl
grows_refl (Contested b f x g) = refl
grows_refl (Standing x g) = refl
grows_refl (Copied b f t) = refl
grows_refl (Committed t f) = (false, refl)

committed_on :
    (t : ℕ) (f : Gfid) (done : Bool) (k : NameShape)
    → Grows (if done then Plain t f else Committed t f) k → Grows (Committed t f) k
committed_on t f true k h = (true, h)
committed_on t f false k h = h

pub grows_on : (a h k : NameShape) → Grows a h → Grows h k → Grows a k
grows_on Bare h k p q = subst (λ (x : NameShape). Grows x k) p q
grows_on (Folder g on) h k p q = (let r = subst (λ (x : NameShape). Grows x k) p.1 q in (r.0, r.1, λ b z. r.2 b (p.2 b z)))
grows_on (Plain b f) h k p q = subst (λ (x : NameShape). Grows x k) p q
grows_on (Marked b f x) h k p q = subst (λ (x : NameShape). Grows x k) p q
grows_on (Contested b f x g) h k p q = subst (λ (x : NameShape). Grows x k) p q
grows_on (Standing x g) h k p q = subst (λ (x : NameShape). Grows x k) p q
grows_on (Copied b f t) h k p q = subst (λ (x : NameShape). Grows x k) p q
grows_on (Committed t f) h k p q = committed_on t f p.0 k (subst (λ (x : NameShape). Grows x k) p.1 q)

-- ---- what grew twice and is shown as at first was so between

main_of : Slot → Option Main
main_of p = p.main

between :
    (x y z : Bool) (g : Gfid) → (x ≡ true → y ≡ true) → (y ≡ true → z ≡ true)
    → when_on z (Dir g) ≡ when_on x (Dir g) → y ≡ x
between true y z g p q e = p refl
between false false z g p q e = refl
between false true z g p q e = absurd (let w : Some (Dir g) ≡ None = ap (λ (v : Bool). when_on v (Dir g)) (sym (q refl)) ∙ e in cc)

committed_between :
    (t b : ℕ) (f : Gfid) (done : Bool) (k : NameShape)
    → Grows (if done then Plain t f else Committed t f) k → core_at k b ≡ core_at (Committed t f) b
    → core_at (if done then Plain t f else Committed t f) b ≡ core_at (Committed t f) b
committed_between t b f false k h e = refl
committed_between t b f true k h e = ap (λ (x : NameShape). core_at x b) (sym h) ∙ e

pub grew_between :
    (a h k : NameShape) (b : ℕ) → Grows a h → Grows h k → core_at k b ≡ core_at a b
    → core_at h b ≡ core_at a b
grew_between Bare h k b p q e = ap (λ (x : NameShape). core_at x b) p
grew_between (Folder g on) h k b p q e =
    let r = subst (λ (x : NameShape). Grows x k) p.1 q in
    let shown : when_on (r.0 b) (Dir g) ≡ when_on (on b) (Dir g) = ap (λ (s : Slot). s.main) (ap (λ (x : NameShape). core_at x b) (sym r.1) ∙ e) in
    ap (λ (x : NameShape). core_at x b) p.1 ∙ ap (λ v. record { main = when_on v (Dir g); standby = None }) (between (on b) (p.0 b) (r.0 b) g (p.2 b) (r.2 b) shown)
grew_between (Plain c f) h k b p q e = ap (λ (x : NameShape). core_at x b) p
grew_between (Marked c f x) h k b p q e = ap (λ (y : NameShape). core_at y b) p
grew_between (Contested c f x g) h k b p q e = ap (λ (y : NameShape). core_at y b) p
grew_between (Standing x g) h k b p q e = ap (λ (y : NameShape). core_at y b) p
grew_between (Copied c f t) h k b p q e = ap (λ (y : NameShape). core_at y b) p
grew_between (Committed t f) h k b p q e = ap (λ (x : NameShape). core_at x b) p.1 ∙ committed_between t b f p.0 k (subst (λ (x : NameShape). Grows x k) p.1 q) e

-- ---- what links to a file does not grow

folder_links :
    (f g : Gfid) (v : Bool)
    → links_to f (record { main = when_on v (Dir g); standby = None }) ≡ false
folder_links f g true = refl
folder_links f g false = refl

committed_links :
    (f g : Gfid) (v : Bool)
    → links_to f (record { main = None; standby = if v then Some (Copy g) else None }) ≡ false
committed_links f g true = refl
committed_links f g false = refl

pub linked_stays :
    (f : Gfid) (h k : NameShape) (b : ℕ) → Grows h k → links_to f (core_at h b) ≡ true
    → core_at k b ≡ core_at h b
linked_stays f Bare k b p e = ap (λ (x : NameShape). core_at x b) p
linked_stays f (Folder g on) k b p e = absurd (let w : true ≡ false = sym e ∙ folder_links f g (on b) in cc)
linked_stays f (Plain c g) k b p e = ap (λ (x : NameShape). core_at x b) p
linked_stays f (Marked c g x) k b p e = ap (λ (y : NameShape). core_at y b) p
linked_stays f (Contested c g x i) k b p e = ap (λ (y : NameShape). core_at y b) p
linked_stays f (Standing x g) k b p e = ap (λ (y : NameShape). core_at y b) p
linked_stays f (Copied c g t) k b p e = ap (λ (y : NameShape). core_at y b) p
linked_stays f (Committed t g) k b p e = absurd (let w : true ≡ false = sym e ∙ committed_links f g (nat_eq b t) in cc)
