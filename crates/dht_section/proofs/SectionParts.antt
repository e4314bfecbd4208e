-- A section as a part of a call.
use Rattle.std.proofs.Common.{◌≡◌, ℕ, false, refl, sym, ◌∙◌, ap, subst, arith}
use Rattle.std.specs.Prelude.{Option, Some, None, zero, suc}
use Rattle.dht_types.specs.History.{Deeds, Tells}
use Rattle.dht_types.specs.Tree.{Tree, says, answer_of}
use Rattle.dht_types.specs.declared.calls.Answer.TheVariants.{Fault}
use Rattle.dht_types.specs.declared.calls.Call.{Call}
use Rattle.dht_types.specs.declared.errors.Errno.{Errno}
use Rattle.dht_types.specs.declared.errors.Errno.TheVariants.{Estale}
use Rattle.dht_types.specs.declared.identifiers.Gfid.{Gfid}
use Rattle.dht_brick.specs.declared.replies.Reply.{Reply}
use Rattle.dht_brick.specs.declared.replies.Reply.TheVariants as reply
use Rattle.dht_section.specs.Replies.{fault_of}
use Rattle.dht_section.specs.Scene.{Scene, MayAnswer}
use Rattle.dht_section.specs.Section.{IsOfName, WasGone, fault_now, section_fault, section_stage, unheld_fault}
use Rattle.dht_section.specs.Shapes.{either}
use Rattle.dht_section.specs.Want.{Scoped, claimed}
use Rattle.dht_section.specs.declared.section.Section.{Section}
use Rattle.dht_section.specs.declared.section.Section.TheVariants.{Locking, Looking, Unlocking}
use Rattle.dht_section.specs.Again.{IsUnanswered}
use Rattle.dht_section.specs.Faults.{fault_for, part_fault}
use Rattle.dht_section.specs.Ended.{gone_at}
use Rattle.dht_section.specs.Location.{scope_at}
use Rattle.dht_section.specs.declared.location.Location.{Location}

-- ---- the error that it notes

pub fault_errors : (r : Reply) → part_fault (fault_of r) ≡ fault_of r
fault_errors (reply.Ok g) = refl
fault_errors (reply.Refused w) = refl
fault_errors (reply.Wait c) = refl
fault_errors reply.Down = refl
fault_errors reply.Failed = refl
fault_errors reply.NoMemory = refl

pub either_none : {A : Type 0} (o : Option A) → o ≡ either o None
either_none None = refl
either_none (Some x) = refl

pub section_notes :
    (m : Section) (r : Reply) (o : Option Errno) → o ≡ fault_now m r
    → part_fault o
    ≡ either (part_fault (section_fault m)) (fault_for (section_stage m).asks.request r)
section_notes (Locking w i looks) r o e = ap part_fault e ∙ fault_errors r
section_notes (Looking w looks n b x) r o e = ap part_fault e ∙ fault_errors r
section_notes (Unlocking w i x) r o e = ap part_fault e ∙ either_none (part_fault (unheld_fault x))

-- ---- it takes each reply itself

pub never_unanswered : (m : Section) (r : Reply) → IsUnanswered (section_stage m) r → ⊥
unfolding claimed
never_unanswered (Locking w i looks) r h = h.1
never_unanswered (Looking w looks n b x) r h = h.1
never_unanswered (Unlocking w i x) r h = h.1

-- ---- a directory that was gone

-- the one name is the location's
one_directory : (l : Location) (g : Gfid) → IsOfName (scope_at l) g → l.directory ≡ g
one_directory l g (zero, within, e) = e
one_directory l g (suc n, within, e) = absurd (omega arith)

pub gone_directory :
    (l : Location) (w : Scoped) (g : Gfid) → w ≡ scope_at l → IsOfName w g → l.directory ≡ g
gone_directory l w g e h = one_directory l g (subst (λ (v : Scoped). IsOfName v g) e h)

-- the tree refused the call at that line
pub gone_earned :
    (d : Gfid) (call : Call Gfid) (g : Gfid) (at : ℕ) (s : Scene)
    → ((p : Tree) (x : Gfid) → p.dirs d ≡ false → answer_of (says p call x) ≡ Some (Fault Estale))
    → s.mine.call ≡ call → d ≡ g → WasGone g at s → MayAnswer (gone_at at) s
gone_earned d call g at s refuses is e h = record {
  point = at;
  printed = refl;
  after = h.after;
  before = h.before;
  tells = subst (λ (o : Option Deeds). Tells s.history s.mine.call o at (Fault Estale)) (sym h.deeds)
      (λ (x : Gfid). ap (λ (c : Call Gfid). answer_of (says (s.history.past at) c x)) is
      ∙ refuses (s.history.past at) x (ap (s.history.past at).dirs e ∙ h.gone));
}
