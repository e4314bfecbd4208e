-- The steps of a call that heals a directory.
use Rattle.std.proofs.Common.{◌≡◌, ℕ, Bool, true, false, refl, sym, ◌∙◌, ap, subst, arith, List}
use Rattle.std.specs.Prelude.{if◌then◌else◌, Option, Some, None}
use Rattle.dht_types.specs.History.{Deeds, Tells}
use Rattle.dht_types.specs.Tree.{Refuse, Say, Tree, answer_of, says}
use Rattle.dht_types.specs.declared.calls.Answer.{Answer}
use Rattle.dht_types.specs.declared.calls.Answer.TheVariants as answer
use Rattle.dht_types.specs.declared.calls.Call.{Call}
use Rattle.dht_types.specs.declared.calls.Call.TheVariants as call
use Rattle.dht_types.specs.declared.errors.Errno.TheVariants.{Estale}
use Rattle.dht_types.specs.declared.identifiers.Gfid.{Gfid}
use Rattle.dht_brick.specs.declared.replies.Reply.{Reply}
use Rattle.dht_section.proofs.PartSteps.{part_goes_on, part_served}
use Rattle.dht_section.specs.Again.{IsUnanswered}
use Rattle.dht_section.specs.Ended.{Learns}
use Rattle.dht_section.specs.Faults.{NotesFault}
use Rattle.dht_section.specs.Healed.{IsHealed}
use Rattle.dht_section.specs.Scene.{MayAnswer, Scene}
use Rattle.dht_section.specs.Stages.{EndsIn, GoesOn, LeavesWhole, MatchTurn, Moves, Served}
use Rattle.dht_section.specs.declared.machine.Finish.{Finish}
use Rattle.dht_section.specs.declared.machine.Turn.{Turn}
use Rattle.dht_section.specs.declared.machine.Turn.TheVariants.{Go, Done}
use Rattle.dht_heal.proofs.HealBeginning.{begin_dir, begin_knows}
use Rattle.dht_heal.proofs.HealNotes.{heal_again, heal_keeps, heal_notes}
use Rattle.dht_heal.proofs.HealSteps.{heal_moves}
use Rattle.dht_heal.specs.Heal.{HealTold, IsDone, IsGone, IsStopped, KeepsDir, NotesStop, WasDir, end_dir, first_room, heal_after, heal_dir, heal_ending, heal_stage}
use Rattle.dht_heal.specs.HealCall.{IsHeal, MayCallHeal, call_after, call_ended, call_fault, call_layout, call_stage, call_taught, call_went, first_call}
use Rattle.dht_heal.specs.declared.call.HealCall.{HealCall}
use Rattle.dht_heal.specs.declared.heal.Heal.{Heal}
use Rattle.dht_heal.specs.declared.heal.HealEnd.{HealEnd}

-- ---- what the tree says

says_done :
    (p : Tree) (d g : Gfid) → p.dirs d ≡ true
    → answer_of (says p (call.Heal d) g) ≡ Some answer.Done
says_done p d g e = ap (λ b. answer_of (if b then Say answer.Done else Refuse Estale)) e

says_gone :
    (p : Tree) (d g : Gfid) → p.dirs d ≡ false
    → answer_of (says p (call.Heal d) g) ≡ Some (answer.Fault Estale)
says_gone p d g e = ap (λ b. answer_of (if b then Say answer.Done else Refuse Estale)) e

tells_so :
    (d : Gfid) (a : Answer) (v : Bool) (at : ℕ) (s : Scene)
    → ((p : Tree) (g : Gfid) → p.dirs d ≡ v → answer_of (says p (call.Heal d) g) ≡ Some a)
    → IsHeal d s → s.mine.deeds ≡ None → WasDir d v at s
    → Tells s.history s.mine.call s.mine.deeds at a
tells_so d a v at s says_so called fresh was = subst (λ (o : Option Deeds). Tells s.history s.mine.call o at a) (sym fresh)
    (λ (g : Gfid). ap (λ (c : Call Gfid). answer_of (says (s.history.past at) c g)) called ∙ says_so (s.history.past at) g was.was)

told_answers :
    (d : Gfid) (f : Finish) (s : Scene) → IsHeal d s → s.mine.deeds ≡ None → HealTold d f s
    → MayAnswer f s
told_answers d f s called fresh (IsDone at e was healed) = subst (λ (x : Finish). MayAnswer x s) (sym e) (record {
  point = at;
  printed = refl;
  after = was.after;
  before = was.before;
  tells = tells_so d answer.Done true at s (λ p g. says_done p d g) called fresh was;
})
told_answers d f s called fresh (IsGone at e was gone) = subst (λ (x : Finish). MayAnswer x s) (sym e) (record {
  point = at;
  printed = refl;
  after = was.after;
  before = was.before;
  tells = tells_so d (answer.Fault Estale) false at s (λ p g. says_gone p d g) called fresh was;
})
told_answers d f s called fresh (IsStopped x e brick may) = may

told_whole : (d : Gfid) (f : Finish) (s : Scene) → IsHeal d s → HealTold d f s → LeavesWhole f s
told_whole d f s called (IsDone at e was healed) g is done alone = subst (IsHealed s.disk s.history.tree) (let z : call.Heal d ≡ call.Heal g = sym called ∙ is in let k : d ≡ g = cc in k) (healed alone)
told_whole d f s called (IsGone at e was gone) g is done alone = absurd (let z : answer.Fault Estale ≡ answer.Done = sym (ap (λ (x : Finish). x.answer) e) ∙ done in cc)
told_whole d f s called (IsStopped x e brick may) g is done alone = absurd (let z : answer.Fault x ≡ answer.Done = sym (ap (λ (y : Finish). y.answer) e) ∙ done in cc)

-- ---- its steps

call_step :
    (m : HealCall) (turn : Turn Heal HealEnd) (r : Reply) (at : ℕ) (s t : Scene)
    → MatchTurn turn (λ n. GoesOn (heal_stage m.heal) (heal_stage n) r t)
    (λ d. EndsIn (heal_stage m.heal) (heal_ending d) t)
    → KeepsDir m.heal turn → Served (call_stage m) r at s t
    → MatchTurn (call_went turn) (λ n. GoesOn (call_stage m) (call_stage n) r t)
    (λ d. EndsIn (call_stage m) (call_ended d) t)
call_step m (Go n) r at s t went same v = part_goes_on (heal_stage m.heal) (heal_stage n) 0 (λ s. IsHeal (heal_dir m.heal) s) (λ s. IsHeal (heal_dir n) s) r t went
    (v.moved.mine.call ∙ (v.is_at.knows.1 ∙ ap (λ (d : Gfid). call.Heal d) (sym same)))
call_step m (Done e) r at s t went same v =
    let called : IsHeal (end_dir e) t = v.moved.mine.call ∙ (v.is_at.knows.1 ∙ ap (λ (d : Gfid). call.Heal d) (sym same)) in
    record {
      claims = went.claims;
      earned = (told_answers (end_dir e) e.finish t called went.earned.deeds went.earned.told, told_whole (end_dir e) e.finish t called went.earned.told);
    }

pub call_moves :
    (m : HealCall) (r : Reply) (at : ℕ) → Moves call_stage call_ended m r at (call_after m r at)
call_moves m r at s t v =
    call_step m (heal_after m.heal r at) r at s t (heal_moves m.heal r at s t (part_served (heal_stage m.heal) 0 (λ s. IsHeal (heal_dir m.heal) s) r at s t v)) (heal_keeps m.heal r at) v

-- ---- its beginning

pub first_knows :
    (weights : List ℕ) (bricks : ℕ) (d : Gfid) (s : Scene) → MayCallHeal weights bricks d s
    → (call_stage (first_call weights bricks d)).knows s
first_knows weights bricks d s h = (
  begin_knows (first_room weights) bricks d s (record {
    room = record { path = refl; weights = sym h.weighed };
    count = h.count;
    few = h.few;
    home = h.home;
    deeds = h.deeds;
  }),
  h.call ∙ ap (λ (g : Gfid). call.Heal g) (sym (begin_dir (first_room weights) bricks d refl)),
)

-- ---- what it learns and notes, and what it sends again

learns :
    (m : HealCall) (turn : Turn Heal HealEnd) (r : Reply)
    → Learns call_layout call_taught m r (call_went turn)
learns m (Go n) r = refl
learns m (Done e) r = refl

pub call_learns :
    (m : HealCall) (r : Reply) (at : ℕ) → Learns call_layout call_taught m r (call_after m r at)
call_learns m r at = learns m (heal_after m.heal r at) r

notes :
    (m : HealCall) (turn : Turn Heal HealEnd) (r : Reply) → NotesStop m.heal r turn
    → NotesFault call_fault m (call_stage m).asks.request r (call_went turn)
notes m (Go n) r h = h
notes m (Done e) r h = h

pub call_notes :
    (m : HealCall) (r : Reply) (at : ℕ)
    → NotesFault call_fault m (call_stage m).asks.request r (call_after m r at)
call_notes m r at = notes m (heal_after m.heal r at) r (heal_notes m.heal r at)

pub call_again :
    (m : HealCall) (r : Reply) (at : ℕ) → IsUnanswered (call_stage m) r → call_after m r at ≡ Go m
call_again m r at h = ap call_went (heal_again m.heal r at h)
