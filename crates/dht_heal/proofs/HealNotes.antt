-- What a heal keeps, the error that it notes, and what it sends again.
use Rattle.std.proofs.Common.{◌≡◌, ◌+◌, ℕ, Bool, true, false, refl, sym, ◌∙◌, ap, arith, List}
use Rattle.std.specs.Prelude.{zero, suc, nat_lt, if◌then◌else◌, length, Option, Some, None, slice_index_or, slice_set}
use Rattle.std.proofs.lemmas.List.{get_or-set_other}
use Rattle.dht_types.specs.Gfid.{root}
use Rattle.dht_types.specs.declared.errors.Errno.{Errno}
use Rattle.dht_types.specs.declared.identifiers.Gfid.{Gfid}
use Rattle.dht_brick.specs.declared.replies.Reply.{Reply}
use Rattle.dht_brick.specs.declared.replies.Reply.TheVariants as reply
use Rattle.dht_brick.specs.declared.replies.Why.TheVariants.{Nodir}
use Rattle.dht_section.proofs.SectionParts.{either_none, fault_errors}
use Rattle.dht_section.specs.Again.{IsUnanswered}
use Rattle.dht_section.specs.Faults.{brick_error, fault_for, part_fault}
use Rattle.dht_section.specs.Looks.{is_nodir, with_at}
use Rattle.dht_section.specs.Replies.{fault_of, is_shown}
use Rattle.dht_section.specs.Shapes.{either}
use Rattle.dht_section.specs.Stages.{MatchTurn}
use Rattle.dht_section.specs.declared.machine.Turn.{Turn}
use Rattle.dht_section.specs.declared.machine.Turn.TheVariants.{Go, Done}
use Rattle.dht_heal.proofs.HealBeginning.{by_root, on_dir}
use Rattle.dht_heal.proofs.HealOneSteps.{heal_one_again, heal_one_notes}
use Rattle.dht_heal.specs.Heal.{KeepsDir, NotesStop as Notes, climb_answered, climb_by, climb_told, climb_unless, climbed, end_fault, heal_after, heal_dir, heal_fault, heal_from, heal_on, heal_stage, heal_went, healed_below, longest, next_climb, parent_shown, path_at}
use Rattle.dht_heal.specs.HealOne.{NotesStop, heal_one_after, heal_one_fault, heal_one_stage, told_fault}
use Rattle.dht_heal.specs.declared.heal.Climb.{Climb}
use Rattle.dht_heal.specs.declared.heal.Heal.{Heal}
use Rattle.dht_heal.specs.declared.heal.Heal.TheVariants.{Climbing, Healing}
use Rattle.dht_heal.specs.declared.heal.HealEnd.{HealEnd}
use Rattle.dht_heal.specs.declared.heal_one.HealOne.{HealOne}
use Rattle.dht_heal.specs.declared.heal_one.HealOne.TheVariants.{Locking, Surveying, Copying, Laying, Unlocking}
use Rattle.dht_heal.specs.declared.heal_one.HealedOne.{HealedOne}
use Rattle.dht_heal.specs.declared.heal_one.HealedOne.TheVariants.{Healed, Gone, Parent, Stopped}

-- ---- its directory

first_stays : (xs : List Gfid) (n : ℕ) (x : Gfid) → path_at (with_at xs (n + 1) x) 0 ≡ path_at xs 0
first_stays xs n x = by (nat_lt (n + 1) (length xs))
  where
    by : (v : Bool) → slice_index_or (if v then slice_set xs (n + 1) x else xs) 0 root ≡ slice_index_or xs 0 root
    by true = get_or-set_other xs (n + 1) 0 x root (λ q. absurd (omega arith))
    by false = refl

climbed_dir : (c : Climb) (p : Gfid) → heal_dir (climbed c p) ≡ path_at c.room.path 0
climbed_dir c p = by (nat_lt c.place longest)
  where
    by : (v : Bool) → heal_dir (if v then heal_on (next_climb c p) else Climbing c) ≡ path_at c.room.path 0
    by true = on_dir (next_climb c p) ∙ first_stays c.room.path c.place p
    by false = refl

by_dir : (c : Climb) (o : Option Gfid) → heal_dir (climb_by o c) ≡ path_at c.room.path 0
by_dir c None = refl
by_dir c (Some p) = climbed_dir c p

told_dir : (c : Climb) (v : Bool) (r : Reply) (at : ℕ) → KeepsDir (Climbing c) (climb_told v c r at)
told_dir c true r at = refl
told_dir c false r at = by_dir c (parent_shown r)

unless_dir :
    (c : Climb) (o : Option Errno) (r : Reply) (at : ℕ)
    → KeepsDir (Climbing c) (climb_unless o c r at)
unless_dir c None r at = told_dir c (is_nodir r) r at
unless_dir c (Some e) r at = refl

below_dir :
    (m : HealOne) (place : ℕ) (c : Climb) (at : ℕ)
    → KeepsDir (Healing m c) (healed_below place c at)
below_dir m zero c at = refl
below_dir m (suc place) c at = refl

went_dir :
    (m : HealOne) (c : Climb) (turn : Turn HealOne HealedOne)
    → KeepsDir (Healing m c) (heal_went c turn)
went_dir m c (Go n) = refl
went_dir m c (Done (Healed at)) = below_dir m c.place c at
went_dir m c (Done (Gone at)) = refl
went_dir m c (Done (Parent b)) = on_dir (record c { place = 0 })
went_dir m c (Done (Stopped e)) = refl

pub heal_keeps : (m : Heal) (r : Reply) (at : ℕ) → KeepsDir m (heal_after m r at)
heal_keeps (Climbing c) r at = unless_dir c (fault_of r) r at
heal_keeps (Healing m c) r at = went_dir m c (heal_one_after m r at)

-- ---- the error that it notes

on_fault : (c : Climb) → heal_fault (heal_on c) ≡ None
on_fault c = by_root (λ m. heal_fault m ≡ None) c (λ e. refl) (λ ne. refl)

climbed_fault : (c : Climb) (p : Gfid) → heal_fault (climbed c p) ≡ None
climbed_fault c p = by (nat_lt c.place longest)
  where
    by : (v : Bool) → heal_fault (if v then heal_on (next_climb c p) else Climbing c) ≡ None
    by true = on_fault (next_climb c p)
    by false = refl

by_fault : (c : Climb) (o : Option Gfid) → heal_fault (climb_by o c) ≡ None
by_fault c None = refl
by_fault c (Some p) = climbed_fault c p

told_notes :
    (c : Climb) (v : Bool) (r : Reply) (at : ℕ) → fault_of r ≡ None
    → Notes (Climbing c) r (climb_told v c r at)
told_notes c true r at z = sym z
told_notes c false r at z = by_fault c (parent_shown r) ∙ sym z

unless_notes :
    (c : Climb) (o : Option Errno) (r : Reply) (at : ℕ) → fault_of r ≡ o
    → Notes (Climbing c) r (climb_unless o c r at)
unless_notes c None r at z = told_notes c (is_nodir r) r at z
unless_notes c (Some e) r at z = ap part_fault (sym z) ∙ fault_errors r

either_fault : (a : Option Errno) → part_fault (either a None) ≡ either (part_fault a) None
either_fault None = refl
either_fault (Some e) = either_none (brick_error e)

one_fault :
    (m : HealOne) (r : Reply) (o : Option Errno)
    → o ≡ either (heal_one_fault m) (fault_for (heal_one_stage m).asks.request r)
    → part_fault o
    ≡ either (part_fault (heal_one_fault m)) (fault_for (heal_one_stage m).asks.request r)
one_fault (Locking x) r o e = ap part_fault e ∙ fault_errors r
one_fault (Surveying x b v) r o e = ap part_fault e ∙ fault_errors r
one_fault (Copying x b v k) r o e = ap part_fault e ∙ fault_errors r
one_fault (Laying x b at) r o e = ap part_fault e ∙ fault_errors r
one_fault (Unlocking x d) r o e = ap part_fault e ∙ either_fault (told_fault d)

-- what it has noted after the healing of one directory
abbrev Noted : Option Errno → Turn Heal HealEnd → Type 0
Noted o turn = MatchTurn turn (λ n. heal_fault n ≡ o) (λ d. end_fault d ≡ o)

below_fault : (place : ℕ) (c : Climb) (at : ℕ) → Noted None (healed_below place c at)
below_fault zero c at = refl
below_fault (suc place) c at = refl

from_fault : (c : Climb) (d : HealedOne) → Noted (part_fault (told_fault d)) (heal_from c d)
from_fault c (Healed at) = below_fault c.place c at
from_fault c (Gone at) = refl
from_fault c (Parent b) = on_fault (record c { place = 0 })
from_fault c (Stopped e) = refl

noted_as : (turn : Turn Heal HealEnd) (o p : Option Errno) → o ≡ p → Noted o turn → Noted p turn
noted_as (Go n) o p e h = h ∙ e
noted_as (Done d) o p e h = h ∙ e

went_notes :
    (m : HealOne) (c : Climb) (turn : Turn HealOne HealedOne) (r : Reply) → NotesStop m r turn
    → Noted (either (part_fault (heal_one_fault m)) (fault_for (heal_one_stage m).asks.request r))
    (heal_went c turn)
went_notes m c (Go n) r h = one_fault m r (heal_one_fault n) h
went_notes m c (Done d) r h = noted_as (heal_from c d) (part_fault (told_fault d)) _ (one_fault m r (told_fault d) h) (from_fault c d)

pub heal_notes : (m : Heal) (r : Reply) (at : ℕ) → Notes m r (heal_after m r at)
heal_notes (Climbing c) r at = unless_notes c (fault_of r) r at refl
heal_notes (Healing m c) r at = went_notes m c (heal_one_after m r at) r (heal_one_notes m r at)

-- ---- what it sends again

climb_again :
    (c : Climb) (r : Reply) (at : ℕ) → fault_of r ≡ None → is_shown r ≡ false
    → climb_answered c r at ≡ Go (Climbing c)
climb_again c (reply.Ok given) at z e = absurd (let k : true ≡ false = e in cc)
climb_again c (reply.Refused Nodir) at z e = absurd (let k : true ≡ false = e in cc)
climb_again c (reply.Refused why) at z e = refl
climb_again c (reply.Wait holder) at z e = refl
climb_again c reply.Down at z e = absurd (let k = z in cc)
climb_again c reply.Failed at z e = absurd (let k = z in cc)
climb_again c reply.NoMemory at z e = absurd (let k = z in cc)

pub heal_again :
    (m : Heal) (r : Reply) (at : ℕ) → IsUnanswered (heal_stage m) r → heal_after m r at ≡ Go m
heal_again (Climbing c) r at h = climb_again c r at h.0 h.1
heal_again (Healing m c) r at h = ap (heal_went c) (heal_one_again m r at h)
