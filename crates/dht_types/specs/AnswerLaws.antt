-- How long an answer stays right.
use Rattle.std.proofs.Common.{◌≡◌, ◌≤◌, ℕ, true, inl, inr, sym, ◌∙◌, ap, subst, arith}
use Rattle.std.specs.Prelude.{Option, Some, None}
use Rattle.dht_types.specs.Calls.{refusal_at_once}
use Rattle.dht_types.specs.Tree.{Tree, says, answer_of}
use Rattle.dht_types.specs.declared.identifiers.Gfid.{Gfid}
use Rattle.dht_types.specs.History.{History, PendingCall, Deeds, Tells, HasPoint, IsAtOnce, Answers, FaultHolds}
use Rattle.dht_types.specs.declared.calls.Call.{Call}
use Rattle.dht_types.specs.declared.calls.Answer.{Answer}
use Rattle.dht_types.specs.declared.calls.Answer.TheVariants.{File, Dir, Made, Done, Fault}
use Rattle.dht_types.specs.declared.errors.Errno.{Errno}
use Rattle.dht_types.specs.declared.errors.Errno.TheVariants.{Enoent, Enomem, Eexist, Einval, Enametoolong, Enotdir, Eisdir, Enotempty, Estale, Enotconn, Eio}

tells_at :
    (s t : History) (call : Call Gfid) (deeds : Option Deeds) (j : ℕ) (a : Answer)
    → t.past j ≡ s.past j → Tells s call deeds j a → Tells t call deeds j a
tells_at s t call None j a e h = λ g. ap (λ (p : Tree). answer_of (says p call g)) e ∙ h g
tells_at s t call (Some d) j a e h = h

-- the history continues, and the call's tree lines stay
pub record Continues (s t : History) (x y : PendingCall) : Type 0 where
  pub since : y.since ≡ x.since
  pub call : y.call ≡ x.call
  pub deeds : y.deeds ≡ x.deeds
  pub told_down : x.was_down ≡ true → y.was_down ≡ true
  pub told_failed : x.has_failed ≡ true → y.has_failed ≡ true
  pub later : s.size ≤ t.size
  pub past : (j : ℕ) → j ≤ s.size → t.past j ≡ s.past j

point_kept :
    (s t : History) (x y : PendingCall) (at : Option ℕ) (a : Answer) → Continues s t x y
    → HasPoint s x at a → HasPoint t y at a
point_kept s t x y at a g h =
    let later = g.later in
    let before = h.before in
    let since = g.since in
    let after = h.after in
    record {
      point = h.point;
      printed = h.printed;
      after = omega arith;
      before = omega arith;
      tells = subst (λ (c : Call Gfid). Tells t c y.deeds h.point a) (sym g.call) (subst (λ (d : Option Deeds). Tells t x.call d h.point a) (sym g.deeds) (tells_at s t x.call x.deeds h.point a (g.past h.point h.before) h.tells));
    }

at_once_kept :
    (s t : History) (x y : PendingCall) (at : Option ℕ) (e : Errno) → Continues s t x y
    → IsAtOnce x at e → IsAtOnce y at e
at_once_kept s t x y at e g h = record {
  refused = ap (λ (c : Call Gfid). refusal_at_once c) g.call ∙ h.refused;
  unprinted = h.unprinted;
}

fault_kept :
    (s t : History) (x y : PendingCall) (at : Option ℕ) (e : Errno) → Continues s t x y
    → FaultHolds s x at e → FaultHolds t y at e
fault_kept s t x y at Enoent g h = point_kept s t x y at _ g h
fault_kept s t x y at Enomem g h = h
fault_kept s t x y at Eexist g h = point_kept s t x y at _ g h
fault_kept s t x y at Enotconn g h = (h.0, g.told_down h.1)
fault_kept s t x y at Eio g h = (h.0, g.told_failed h.1)
fault_kept s t x y at Einval g h = at_once_kept s t x y at _ g h
fault_kept s t x y at Enametoolong g (inl h) = inl (at_once_kept s t x y at _ g h)
fault_kept s t x y at Enametoolong g (inr h) = inr (point_kept s t x y at _ g h)
fault_kept s t x y at Enotdir g h = point_kept s t x y at _ g h
fault_kept s t x y at Eisdir g h = point_kept s t x y at _ g h
fault_kept s t x y at Enotempty g h = point_kept s t x y at _ g h
fault_kept s t x y at Estale g h = point_kept s t x y at _ g h

pub answers_kept :
    (s t : History) (x y : PendingCall) (at : Option ℕ) (a : Answer) → Continues s t x y
    → Answers s x at a → Answers t y at a
answers_kept s t x y at (File f) g h = point_kept s t x y at _ g h
answers_kept s t x y at (Dir k) g h = point_kept s t x y at _ g h
answers_kept s t x y at (Made f) g h = point_kept s t x y at _ g h
answers_kept s t x y at Done g h = point_kept s t x y at _ g h
answers_kept s t x y at (Fault e) g h = fault_kept s t x y at e g h
