-- Each step of the section, as a reply takes it on.
use Rattle.std.proofs.Common.{◌≡◌, ◌<◌, ◌+◌, ◌-◌, ℕ, Bool, true, false, refl, arith, List, sym}
use Rattle.std.specs.Prelude.{Option, Some, None, suc, length, nat_lt, if◌then◌else◌}
use Rattle.std.proofs.lemmas.Bool.Decides.{nat_tests}
use Rattle.dht_types.specs.History.{is_carried}
use Rattle.dht_types.specs.declared.errors.Errno.{Errno}
use Rattle.dht_brick.specs.Kinds.{reply_kind}
use Rattle.dht_brick.specs.declared.replies.Reply.{Reply}
use Rattle.dht_section.proofs.SectionLocks.{unheld_moved, locked_next, first_look, none_wanted, lock_again, lock_stopped}
use Rattle.dht_section.proofs.SectionLooks.{left_now, next_brick, next_name, looked_last, look_stopped, look_gone, look_again}
use Rattle.dht_section.proofs.UnlockingSteps.{unlocking_next, nothing_claimed, still_earned}
use Rattle.dht_section.specs.Looks.{sight_with, with_looked}
use Rattle.dht_section.specs.Replies.{fault_of, is_shown}
use Rattle.dht_section.specs.Scene.{Scene}
use Rattle.dht_section.specs.Section.{GoneOfName, IsOfScope, KeepsScope, LeavesUnlocks, NamesGone, NotesFault, Outlasts, all_locked, last_lock, lock_answered, locked, look_answered, looked, name_looked, opened_as, opened_ending, opened_fault, section_after, section_scope, section_stage, shows_gone, unheld_earned, unheld_fault, unless_fault}
use Rattle.dht_section.specs.Stages.{Served, GoesOn, EndsIn, Moves, MatchTurn}
use Rattle.dht_section.specs.Want.{Scoped, name_at}
use Rattle.dht_section.specs.declared.looks.Looked.{Looked}
use Rattle.dht_section.specs.declared.looks.Sight.{Sight}
use Rattle.dht_types.specs.declared.identifiers.BrickNo.{BrickNo}
use Rattle.dht_section.specs.declared.machine.Turn.{Turn}
use Rattle.dht_section.specs.declared.machine.Turn.TheVariants.{Go, Done}
use Rattle.dht_types.specs.declared.identifiers.Gfid.{Gfid}
use Rattle.dht_section.specs.declared.section.Opened.{Opened}
use Rattle.dht_section.specs.declared.section.Opened.TheVariants.{Held as Holding}
use Rattle.dht_section.specs.declared.section.Section.{Section}
use Rattle.dht_section.specs.declared.section.Section.TheVariants.{Locking, Looking, Unlocking}
use Rattle.dht_section.specs.declared.section.Unheld.{Unheld}
use Rattle.dht_section.specs.declared.section.Unheld.TheVariants.{Gone, Stopped}

-- a section went on so, or ended
abbrev Went : Section → Reply → Scene → Turn Section Opened → Type 0
Went m r t turn = MatchTurn turn (λ n. GoesOn (section_stage m) (section_stage n) r t) (λ d. EndsIn (section_stage m) (opened_ending d) t)

either :
    (m : Section) (r : Reply) (t : Scene) (c : Bool) (x y : Turn Section Opened)
    → (c ≡ true → Went m r t x) → (c ≡ false → Went m r t y) → Went m r t (if c then x else y)
either m r t true x y h k = h refl
either m r t false x y h k = k refl

faulty :
    (m : Section) (r : Reply) (t : Scene) (w : Scoped) (i : ℕ) (turn : Turn Section Opened)
    (o : Option Errno)
    → fault_of r ≡ o
    → ((e : Errno) → fault_of r ≡ Some e → Went m r t (Go (Unlocking w i (Stopped e))))
    → (fault_of r ≡ None → Went m r t turn) → Went m r t (unless_fault o w i turn)
faulty m r t w i turn None e stop go = go e
faulty m r t w i turn (Some x) e stop go = stop x e

ended :
    (w : Scoped) (i : ℕ) (x : Unheld) (r : Reply) (at : ℕ) (s t : Scene) → i ≡ 0
    → Served (section_stage (Unlocking w i x)) r at s t
    → EndsIn (section_stage (Unlocking w i x)) (opened_ending (opened_as x)) t
ended w i (Gone g line) r at s t e v = record { claims = nothing_claimed w i (unheld_earned w (Gone g line)) e r at s t v; earned = (still_earned w i (unheld_earned w (Gone g line)) (unheld_moved w (Gone g line)) r at s t v).1 }
ended w i (Stopped x) r at s t e v = record { claims = nothing_claimed w i (unheld_earned w (Stopped x)) e r at s t v; earned = still_earned w i (unheld_earned w (Stopped x)) (unheld_moved w (Stopped x)) r at s t v }

pub section_moves :
    (m : Section) (r : Reply) (at : ℕ)
    → Moves section_stage opened_ending m r at (section_after m r at)
section_moves (Locking w i looks) r at s t v = faulty (Locking w i looks) r t w i (lock_answered w i looks r) (fault_of r) refl
    (λ e z. lock_stopped w i looks e r at s t z v)
    (λ z. either (Locking w i looks) r t (is_carried (reply_kind r)) (locked w i looks) (Go (Locking w i looks))
    (λ k. either (Locking w i looks) r t (nat_lt 1 (length w.keys - i)) (Go (Locking w (i + 1) looks)) (all_locked w looks)
    (λ e. locked_next w i (i + 1) looks r at s t (omega arith) k e v)
    (λ e. either (Locking w i looks) r t (nat_lt 0 (length w.names)) _ _
    (λ q. first_look w i looks r at s t k e q v)
    (λ q. none_wanted w i looks r at s t k e q v)))
    (λ k. lock_again w i looks r at s t z k v))
section_moves (Looking w looks n b x) r at s t v = faulty (Looking w looks n b x) r t w (last_lock w) (look_answered w looks n b x r at) (fault_of r) refl
    (λ e z. look_stopped w looks n b x e r at s t z v)
    (λ z. either (Looking w looks n b x) r t (shows_gone (name_at w n).0 b r) _ _
    (λ k. look_gone w looks n b x r at s t z k v)
    (λ going. either (Looking w looks n b x) r t (is_shown r) (looked w looks n b (sight_with w.bricks x b r) at) _
    (λ q. either (Looking w looks n b x) r t (nat_lt 1 (w.bricks - b.0)) _ (name_looked w (with_looked looks n (record { sight = sight_with w.bricks x b r; at = at })) n)
    (λ e. next_brick w looks n b x r at s t z going e v)
    (λ e. either (Looking w looks n b x) r t (nat_lt 1 (length w.names - n)) _ _
    (λ f. next_name w looks n (n + 1) b x r at s t (omega arith) z going e f v)
    (λ f. looked_last w looks n b x r at s t z going e f v)))
    (λ q. look_again w looks n b x r at s t z q v)))
section_moves (Unlocking w i x) r at s t v = either (Unlocking w i x) r t (nat_lt 0 i) _ _
    (λ e. unlocking_next w i (unheld_earned w x) (unheld_moved w x) (grind (arith, nat_tests, e)) r at s t v)
    (λ e. ended w i x r at s t (grind (arith, nat_tests, e)) v)

-- ---- what it keeps, and what it notes

pub either_turn :
    (P : Turn Section Opened → Type 0) (c : Bool) (x y : Turn Section Opened) → (c ≡ true → P x)
    → (c ≡ false → P y) → P (if c then x else y)
either_turn P true x y h k = h refl
either_turn P false x y h k = k refl

pub unless_kept :
    (P : Turn Section Opened → Type 0) (w : Scoped) (i : ℕ) (turn : Turn Section Opened)
    (o r : Option Errno)
    → r ≡ o → ((e : Errno) → r ≡ Some e → P (Go (Unlocking w i (Stopped e)))) → (r ≡ None → P turn)
    → P (unless_fault o w i turn)
unless_kept P w i turn None r e stop go = go e
unless_kept P w i turn (Some x) r e stop go = stop x e

of_scope : (w : Scoped) (x : Unheld) → IsOfScope w (opened_as x)
of_scope w (Gone g at) = tt
of_scope w (Stopped e) = tt

fault_opened : (x : Unheld) → opened_fault (opened_as x) ≡ unheld_fault x
fault_opened (Gone g at) = refl
fault_opened (Stopped e) = refl

-- a fact of each turn
turns :
    (m : Section) (r : Reply) (at : ℕ) (P : Turn Section Opened → Type 0)
    → ((e : Errno) (i : ℕ) → fault_of r ≡ Some e
    → P (Go (Unlocking (section_scope m) i (Stopped e))))
    → (fault_of r ≡ None → (i : ℕ) (looks : List Looked)
    → P (Go (Locking (section_scope m) i looks)))
    → (fault_of r ≡ None → (looks : List Looked) (n : ℕ) (b : BrickNo) (x : Sight)
    → P (Go (Looking (section_scope m) looks n b x)))
    → (fault_of r ≡ None → (g : Gfid) (i : ℕ) → P (Go (Unlocking (section_scope m) i (Gone g at))))
    → (fault_of r ≡ None → (looks : List Looked)
    → P (Done (Holding (record { scope = section_scope m; looks = looks }))))
    → ((i : ℕ) (x : Unheld) → m ≡ Unlocking (section_scope m) i x
    → ((j : ℕ) → P (Go (Unlocking (section_scope m) j x))) × P (Done (opened_as x)))
    → P (section_after m r at)
turns (Locking w i looks) r at P stop lock look gone done unlock = unless_kept P w i _ (fault_of r) (fault_of r) refl (λ e z. stop e i z)
    (λ z. either_turn P (is_carried (reply_kind r)) (locked w i looks) _
    (λ k. either_turn P (nat_lt 1 (length w.keys - i)) _ (all_locked w looks) (λ q. lock z (i + 1) looks)
    (λ q. either_turn P (nat_lt 0 (length w.names)) _ _ (λ f. look z looks 0 _ _) (λ f. done z looks)))
    (λ k. lock z i looks))
turns (Looking w looks n b x) r at P stop lock look gone done unlock = unless_kept P w (last_lock w) _ (fault_of r) (fault_of r) refl (λ e z. stop e (last_lock w) z)
    (λ z. either_turn P (shows_gone (name_at w n).0 b r) _ _ (λ k. gone z _ _)
    (λ k. either_turn P (is_shown r) (looked w looks n b (sight_with w.bricks x b r) at) _
    (λ q. either_turn P (nat_lt 1 (w.bricks - b.0)) _ (name_looked w (with_looked looks n (record { sight = sight_with w.bricks x b r; at = at })) n) (λ f. look z _ _ _ _)
    (λ f. either_turn P (nat_lt 1 (length w.names - n)) _ _ (λ y. look z _ _ _ _) (λ y. done z _)))
    (λ q. look z looks n b x)))
turns (Unlocking w i x) r at P stop lock look gone done unlock = either_turn P (nat_lt 0 i) _ _ (λ e. (unlock i x refl).0 (i - 1)) (λ e. (unlock i x refl).1)

pub keeps_scope : (m : Section) (r : Reply) (at : ℕ) → KeepsScope m (section_after m r at)
keeps_scope m r at = turns m r at (KeepsScope m) (λ e i z. refl) (λ z i looks. refl) (λ z looks n b x. refl) (λ z g i. refl) (λ z looks. refl) (λ i x e. (λ j. refl, of_scope (section_scope m) x))

-- a directory that was gone is that of one of the names
gone_of_name :
    (w : Scoped) (x : Unheld) (s : Scene) → unheld_earned w x s → GoneOfName w (opened_as x)
gone_of_name w (Gone g at) s h = h.0
gone_of_name w (Stopped e) s h = tt

pub names_gone :
    (m : Section) (r : Reply) (at : ℕ) (s : Scene) → (section_stage m).knows s
    → NamesGone m (section_after m r at)
names_gone (Locking w i looks) r at s h = turns (Locking w i looks) r at (NamesGone (Locking w i looks)) (λ e j z. tt) (λ z j k. tt) (λ z k n b x. tt) (λ z g j. tt) (λ z k. tt) (λ j x e. absurd (let z : Locking w i looks ≡ Unlocking w j x = e in cc))
names_gone (Looking w looks n b x) r at s h = turns (Looking w looks n b x) r at (NamesGone (Looking w looks n b x)) (λ e j z. tt) (λ z j k. tt) (λ z k m c y. tt) (λ z g j. tt) (λ z k. tt) (λ j y e. absurd (let z : Looking w looks n b x ≡ Unlocking w j y = e in cc))
names_gone (Unlocking w i x) r at s h = either_turn (NamesGone (Unlocking w i x)) (nat_lt 0 i) _ _ (λ e. tt) (λ e. gone_of_name w x s h.earned)

pub notes_fault : (m : Section) (r : Reply) (at : ℕ) → NotesFault m r (section_after m r at)
notes_fault (Locking w i looks) r at = turns (Locking w i looks) r at (NotesFault (Locking w i looks) r) (λ e j z. sym z) (λ z j k. sym z) (λ z k n b x. sym z) (λ z g j. sym z) (λ z k. sym z) (λ j x e. absurd (let z : Locking w i looks ≡ Unlocking w j x = e in cc))
notes_fault (Looking w looks n b x) r at = turns (Looking w looks n b x) r at (NotesFault (Looking w looks n b x) r) (λ e j z. sym z) (λ z j k. sym z) (λ z k m c y. sym z) (λ z g j. sym z) (λ z k. sym z) (λ j y e. absurd (let z : Looking w looks n b x ≡ Unlocking w j y = e in cc))
notes_fault (Unlocking w i x) r at = either_turn (NotesFault (Unlocking w i x) r) (nat_lt 0 i) _ _ (λ e. refl) (λ e. fault_opened x)

-- ---- what is left before it is held

more_than_unlocks :
    (m : Section) (s : Scene) → (section_stage m).knows s
    → ((w : Scoped) (i : ℕ) (x : Unheld) → m ≡ Unlocking w i x → ⊥)
    → suc (last_lock (section_scope m)) < (section_stage m).variant
more_than_unlocks (Locking w i looks) s h other = let l = h.within in omega arith
more_than_unlocks (Looking w looks n b x) s h other =
    let left = left_now w.bricks n (length w.names) h.name in
    let l = h.within in
    omega arith
more_than_unlocks (Unlocking w i x) s h other = absurd (other w i x refl)

opened_outlasted : (m : Section) (x : Unheld) → Outlasts m (opened_as x)
opened_outlasted m (Gone g at) = tt
opened_outlasted m (Stopped e) = tt

pub leaves_unlocks :
    (m : Section) (r : Reply) (at : ℕ) (s : Scene) → (section_stage m).knows s
    → LeavesUnlocks m (section_after m r at)
leaves_unlocks (Locking w i looks) r at s h = turns (Locking w i looks) r at (LeavesUnlocks (Locking w i looks)) (λ e j z. tt) (λ z j k. tt) (λ z k n b x. tt) (λ z g j. tt) (λ z k. more_than_unlocks (Locking w i looks) s h (λ v j x e. let q : Locking w i looks ≡ Unlocking v j x = e in cc)) (λ j x e. (λ n. tt, opened_outlasted (Locking w i looks) x))
leaves_unlocks (Looking w looks n b x) r at s h = turns (Looking w looks n b x) r at (LeavesUnlocks (Looking w looks n b x)) (λ e j z. tt) (λ z j k. tt) (λ z k m c y. tt) (λ z g j. tt) (λ z k. more_than_unlocks (Looking w looks n b x) s h (λ v j y e. let q : Looking w looks n b x ≡ Unlocking v j y = e in cc)) (λ j y e. (λ i. tt, opened_outlasted (Looking w looks n b x) y))
leaves_unlocks (Unlocking w i x) r at s h = either_turn (LeavesUnlocks (Unlocking w i x)) (nat_lt 0 i) _ _ (λ e. tt) (λ e. opened_outlasted (Unlocking w i x) x)
