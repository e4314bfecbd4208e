-- The pending calls as the history counts them: what each kind of line leaves of it.
use Rattle.std.proofs.Common.{◌≡◌, ◌≢◌, ◌+◌, ◌⊎◌, ℕ, Bool, true, false, List, [], ◌∷◌, refl, sym, ap, ◌∙◌, subst, inl, inr, arith}
use Rattle.std.specs.Prelude.{Option, Some, None, is_some, nat_eq, if◌then◌else◌}
use Rattle.dht_types.specs.Put.{put}
use Rattle.dht_types.proofs.PutLaws.{put_same, put_other, exact_nat}
use Rattle.dht_types.specs.History.{History, PendingCall, accepted, without, is_empty, with_line}
use Rattle.dht_types.specs.declared.calls.Call.{Call}
use Rattle.dht_types.specs.declared.identifiers.CallNo.{CallNo}
use Rattle.dht_types.specs.declared.identifiers.Gfid.{Gfid}
use Rattle.dht_types.specs.declared.lines.Line.TheVariants.{Called}
use Rattle.dht_section.proofs.EarlyLaws.{nat_cases}
use Rattle.dht_types.specs.Counted.{IsListed, CallsCounted}

pub none_if : {A : Type 0} (o : Option A) → ((x : A) → o ≡ Some x → ⊥) → o ≡ None
none_if None h = refl
none_if (Some x) h = absurd (h x refl)

pub not_none : {A : Type 0} (o : Option A) (x : A) → o ≡ None → o ≡ Some x → ⊥
not_none o x h k = let e : None ≡ Some x = sym h ∙ k in cc

pub some_is : {A : Type 0} (o : Option A) (x y : A) → o ≡ Some x → o ≡ Some y → x ≡ y
some_is o x y h k = let e : Some x ≡ Some y = sym h ∙ k in cc

-- what stands at a place where something was put
pub put_is :
    {A : Type 0} (f : ℕ → A) (k : ℕ) (v x : A) (m : ℕ) → put nat_eq f k v m ≡ x
    → ((m ≡ k) × (v ≡ x)) ⊎ ((m ≢ k) × (f m ≡ x))
put_is f k v x m e = elim (nat_cases m k) [
  | inl q ↦ inl (q, sym (ap (put nat_eq f k v) q ∙ put_same nat_eq exact_nat f k v) ∙ e)
  | inr ne ↦ inr (ne, sym (put_other nat_eq exact_nat f k v m ne) ∙ e)
]

-- ---- the clients of a list

pub not_empty : (c : ℕ) (xs : List ℕ) → IsListed c xs → is_empty xs ≡ true → ⊥
not_empty c [] h e = h
not_empty c (x ∷ xs) h e = let z : false ≡ true = e in cc

keep_if :
    (c x : ℕ) (xs : List ℕ) (v : Bool) → nat_eq x c ≡ v → (w : ℕ) → w ≢ c → (x ≡ w) ⊎ IsListed w xs
    → (IsListed w xs → IsListed w (without c xs))
    → IsListed w (if v then without c xs else x ∷ without c xs)
keep_if c x xs true e w ne h more = elim h [
  | inl q ↦ absurd (ne (sym q ∙ (exact_nat x c).0 e))
  | inr l ↦ more l
]
keep_if c x xs false e w ne h more = elim h [
  | inl q ↦ inl q
  | inr l ↦ inr (more l)
]

listed_without : (c : ℕ) (xs : List ℕ) (w : ℕ) → w ≢ c → IsListed w xs → IsListed w (without c xs)
listed_without c [] w ne h = h
listed_without c (x ∷ xs) w ne h = keep_if c x xs (nat_eq x c) refl w ne h (λ l. listed_without c xs w ne l)

drop_if :
    (c x : ℕ) (xs : List ℕ) (v : Bool) → nat_eq x c ≡ v → (w : ℕ)
    → IsListed w (if v then without c xs else x ∷ without c xs)
    → (IsListed w (without c xs) → (w ≢ c) × IsListed w xs) → (w ≢ c) × ((x ≡ w) ⊎ IsListed w xs)
drop_if c x xs true e w h more = (let m = more h in (m.0, inr m.1))
drop_if c x xs false e w h more = elim h [
  | inl q ↦ (λ k. (let z : true ≡ false = sym ((exact_nat x c).1 (q ∙ k)) ∙ e in cc), inl q)
  | inr l ↦ (let m = more l in (m.0, inr m.1))
]

listed_still : (c : ℕ) (xs : List ℕ) (w : ℕ) → IsListed w (without c xs) → (w ≢ c) × IsListed w xs
listed_still c [] w h = absurd h
listed_still c (x ∷ xs) w h = drop_if c x xs (nat_eq x c) refl w h (listed_still c xs w)

-- a client has a call where something was put, or had one elsewhere
calls_put :
    (f g : ℕ → Option PendingCall) (c : ℕ) (new : PendingCall) (w : ℕ)
    → g ≡ put nat_eq f c (Some new) → (w ≢ c → is_some (f w) ≡ true) → is_some (g w) ≡ true
calls_put f g c new w e h = elim (nat_cases w c) [
  | inl q ↦ ap is_some (ap g q ∙ (ap (λ (k : ℕ → Option PendingCall). k c) e ∙ put_same nat_eq exact_nat f c (Some new)))
  | inr ne ↦ ap is_some (ap (λ (k : ℕ → Option PendingCall). k w) e ∙ put_other nat_eq exact_nat f c (Some new) w ne) ∙ h ne
]

-- ---- a call ended, by its answer or its client's death

pub counted_ended :
    (s t : History) (c : ℕ) → CallsCounted s → t.pending ≡ put nat_eq s.pending c None
    → t.callers ≡ without c s.callers → t.calls ≡ s.calls → CallsCounted t
counted_ended s t c h pending callers calls =
    let was : (w : ℕ) (r : PendingCall) → t.pending w ≡ Some r → (w ≢ c) × (s.pending w ≡ Some r) =
    (λ w r e. elim (put_is s.pending c None (Some r) w (sym (ap (λ (f : ℕ → Option PendingCall). f w) pending) ∙ e)) [
      | inl q ↦ absurd (let z : None ≡ Some r = q.1 in cc)
      | inr q ↦ q
    ]) in
    record {
      listed = λ w r e. subst (IsListed w) (sym callers) (listed_without c s.callers w (was w r e).0 (h.listed w r (was w r e).1));
      calling = λ w l. (let still = listed_still c s.callers w (subst (IsListed w) callers l) in
          ap is_some (ap (λ (f : ℕ → Option PendingCall). f w) pending ∙ put_other nat_eq exact_nat s.pending c None w still.0) ∙ h.calling w still.1);
      numbered = λ w r e. (let l = h.numbered w r (was w r e).1 in omega arith);
      from_one = λ w r e. h.from_one w r (was w r e).1;
      alone = λ x w r e first last ne. none_if (t.pending w) (λ q m. not_none (s.pending w) q (h.alone x w r (was x r e).1 first (last ∙ calls) ne) (was w q m).1);
    }

-- ---- a call was accepted

pub counted_called :
    (s : History) (c k : ℕ) (call : Call Gfid) → CallsCounted s → k ≡ s.calls + 1
    → CallsCounted (with_line s (Called (record { 0 = k }) (record { 0 = c }) call))
counted_called s c k call h ek =
    let n : CallNo = record { 0 = k } in
    let new : PendingCall = accepted (s.called c) s.callers (s.size + 1) n call in
    let t = with_line s (Called n (record { 0 = c }) call) in
    let cases : (w : ℕ) (r : PendingCall) → t.pending w ≡ Some r → ((w ≡ c) × (Some new ≡ Some r)) ⊎ ((w ≢ c) × (s.pending w ≡ Some r)) =
    (λ w r e. put_is s.pending c (Some new) (Some r) w e) in
    record {
      listed = λ w r e. elim (cases w r e) [
        | inl q ↦ inl (sym q.0)
        | inr q ↦ inr (h.listed w r q.1)
      ];
      calling = λ w l. calls_put s.pending t.pending c new w refl (λ ne. elim l [
        | inl q ↦ absurd (ne (sym q))
        | inr m ↦ h.calling w m
      ]);
      numbered = λ w r e. elim (cases w r e) [
        | inl q ↦ (let z : new ≡ r = (let y : Some new ≡ Some r = q.1 in cc) in let l : k ≡ r.number.0 = ap (λ (x : PendingCall). x.number.0) z in omega arith)
        | inr q ↦ (let l = h.numbered w r q.1 in omega arith)
      ];
      from_one = λ w r e. elim (cases w r e) [
        | inl q ↦ (let z : new ≡ r = (let y : Some new ≡ Some r = q.1 in cc) in let l : k ≡ r.number.0 = ap (λ (x : PendingCall). x.number.0) z in omega arith)
        | inr q ↦ h.from_one w r q.1
      ];
      alone = λ x w r e first last ne. elim (cases x r e) [
        | inl q ↦ (let z : new ≡ r = (let y : Some new ≡ Some r = q.1 in cc) in
            let empty : is_empty s.callers ≡ true = ap (λ (y : PendingCall). y.alone) z ∙ first in
            none_if (t.pending w) (λ o m. elim (cases w o m) [
              | inl p ↦ absurd (ne (p.0 ∙ sym q.0))
              | inr p ↦ not_empty w s.callers (h.listed w o p.1) empty
            ]))
        | inr q ↦ absurd (let l = h.numbered x r q.1 in omega arith)
      ];
    }

-- ---- a call went on

went_is :
    (new mine r : PendingCall) → new.number ≡ mine.number → new.alone ≡ mine.alone
    → Some new ≡ Some r → (r.number.0 ≡ mine.number.0) × (r.alone ≡ mine.alone)
went_is new mine r number alone e =
    let z : r ≡ new = (let y : new ≡ r = cc in sym y) in
    (ap (λ (x : PendingCall). x.number.0) z ∙ ap (λ (x : CallNo). x.0) number, ap (λ (x : PendingCall). x.alone) z ∙ alone)

pub counted_went :
    (s t : History) (c : ℕ) (mine new : PendingCall) → CallsCounted s → s.pending c ≡ Some mine
    → t.pending ≡ put nat_eq s.pending c (Some new) → t.callers ≡ s.callers → t.calls ≡ s.calls
    → new.number ≡ mine.number → new.alone ≡ mine.alone → CallsCounted t
counted_went s t c mine new h runs pending callers calls number alone =
    let cases : (w : ℕ) (r : PendingCall) → t.pending w ≡ Some r → ((w ≡ c) × (Some new ≡ Some r)) ⊎ ((w ≢ c) × (s.pending w ≡ Some r)) =
    (λ w r e. put_is s.pending c (Some new) (Some r) w (sym (ap (λ (f : ℕ → Option PendingCall). f w) pending) ∙ e)) in
    let was : (w : ℕ) (r : PendingCall) → t.pending w ≡ Some r → (o : PendingCall) × (s.pending w ≡ Some o) × (r.number.0 ≡ o.number.0) × (r.alone ≡ o.alone) =
    (λ w r e. elim (cases w r e) [
      | inl q ↦ (let both = went_is new mine r number alone q.1 in (mine, ap s.pending q.0 ∙ runs, both.0, both.1))
      | inr q ↦ (r, q.1, refl, refl)
    ]) in
    record {
      listed = λ w r e. subst (IsListed w) (sym callers) (h.listed w (was w r e).0 (was w r e).1);
      calling = λ w l. calls_put s.pending t.pending c new w pending (λ ne. h.calling w (subst (IsListed w) callers l));
      numbered = λ w r e. (let b = was w r e in let l = h.numbered w b.0 b.1 in let n = b.2 in omega arith);
      from_one = λ w r e. (let b = was w r e in let l = h.from_one w b.0 b.1 in let n = b.2 in omega arith);
      alone = λ x w r e first last ne. (let b = was x r e in
          none_if (t.pending w) (λ q m. (let a = was w q m in not_none (s.pending w) a.0 (h.alone x w b.0 b.1 (sym b.3 ∙ first) (sym b.2 ∙ (last ∙ calls)) ne) a.1)));
    }
