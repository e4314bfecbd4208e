-- The steps of a restart.
use Rattle.std.proofs.Common.{◌≡◌, ◌<◌, ◌≤◌, ◌+◌, ◌*◌, ◌-◌, ◌⊎◌, ℕ, Bool, true, false, refl, sym, ◌∙◌, ap, subst, arith, inl, inr}
use Rattle.std.specs.Prelude.{List, Option, Some, None, length, suc, nat_lt, if◌then◌else◌}
use Rattle.dht_types.specs.Cost.{heal_cost}
use Rattle.dht_types.specs.Gfid.{home}
use Rattle.dht_types.specs.declared.calls.Answer.{Answer}
use Rattle.dht_types.specs.declared.calls.Answer.TheVariants as answer
use Rattle.dht_types.specs.declared.errors.Errno.{Errno}
use Rattle.dht_types.specs.declared.errors.Errno.TheVariants as errno
use Rattle.dht_types.specs.declared.identifiers.Gfid.{Gfid}
use Rattle.dht_types.specs.declared.locks.Mode.TheVariants.{Shared}
use Rattle.dht_hash.specs.DaviesMeyer.{dm}
use Rattle.dht_xattr.proofs.LayoutLaws.{holder_within}
use Rattle.dht_xattr.specs.declared.range.Range.{Range}
use Rattle.dht_brick.specs.declared.replies.Reply.{Reply}
use Rattle.dht_section.proofs.FirstSection.{starts}
use Rattle.dht_section.proofs.LocationLaws.{looked_is}
use Rattle.dht_section.proofs.PartSteps.{part_served, part_goes_on}
use Rattle.dht_section.proofs.ReleaseSteps.{release_moves, releases}
use Rattle.dht_section.proofs.UnlockingSteps.{scope_moved}
use Rattle.dht_section.proofs.WholeSteps.{sees_whole_begun, sees_whole_next}
use Rattle.dht_section.specs.Again.{IsUnanswered}
use Rattle.dht_section.specs.Faults.{brick_error, brick_fault, part_fault}
use Rattle.dht_section.specs.Healed.{IsHealed}
use Rattle.dht_section.specs.Location.{IsHeldAt, entry_at, scope_at}
use Rattle.dht_section.specs.Looks.{looks_left, mark_at}
use Rattle.dht_section.specs.Moves.{Guarantee}
use Rattle.dht_section.specs.Release.{CanBegin, memory_of, release_after, release_stage, released_ending}
use Rattle.dht_section.specs.Scene.{IfAlone, MayAnswer, Scene, Sound}
use Rattle.dht_section.specs.Section.{IsHeld, begun, held_holder, held_layout, held_looked, last_lock, section_after, section_stage}
use Rattle.dht_section.specs.SectionLaws.{bricks_are}
use Rattle.dht_section.specs.Stages.{EndsIn, GoesOn, MatchTurn, Moves, Served}
use Rattle.dht_section.specs.Want.{Scoped}
use Rattle.dht_section.specs.Whole.{HasHolder}
use Rattle.dht_section.specs.declared.location.Location.{Location}
use Rattle.dht_section.specs.declared.machine.Ask.{Ask}
use Rattle.dht_section.specs.declared.machine.Finish.{Finish}
use Rattle.dht_section.specs.declared.machine.Turn.{Turn}
use Rattle.dht_section.specs.declared.machine.Turn.TheVariants.{Go, Done}
use Rattle.dht_section.specs.declared.release.Release.{Release}
use Rattle.dht_section.specs.declared.section.Held.{Held}
use Rattle.dht_section.specs.declared.section.Opened.{Opened}
use Rattle.dht_section.specs.declared.section.Prepared.{Prepared}
use Rattle.dht_section.specs.declared.section.Section.{Section}
use Rattle.dht_heal.proofs.HealBeginning.{begin_dir, begin_knows, begin_starts, by_root, on_claims}
use Rattle.dht_heal.proofs.HealNotes.{heal_again, heal_keeps, heal_notes}
use Rattle.dht_heal.proofs.HealSteps.{heal_moves, room_moved}
use Rattle.dht_heal.specs.Heal.{HealTold, IsDone, IsGone, IsRoom, IsStopped, KeepsDir, MayHeal, NotesStop, end_dir, end_fault, first_climb, first_heal, heal_after, heal_dir, heal_ending, heal_fault, heal_stage}
use Rattle.dht_heal.specs.Restart.{Awaits, EndsAnew, IsOfScope, IsReady, KeepsScope, NotesFault, Releases, Restarts, SeesAnew, first_dir, heal_first, if_copied, ready_holder, restart_after, restart_healed, restart_released, restart_ended, restart_stage, restarted_by, restarted_ending, restarted_fault}
use Rattle.dht_heal.specs.declared.heal.Heal.{Heal}
use Rattle.dht_heal.specs.declared.heal.HealEnd.{HealEnd}
use Rattle.dht_heal.specs.declared.restart.Restart.{Restart}
use Rattle.dht_heal.specs.declared.restart.Restart.TheVariants.{Releasing, Healing}
use Rattle.dht_heal.specs.declared.restart.Restarted.{Restarted}
use Rattle.dht_heal.specs.declared.room.HealRoom.{HealRoom}

-- a restart went on so, or ended
abbrev Went : Restart → Reply → Scene → Turn Restart Restarted → Type 0
Went m r t turn = MatchTurn turn (λ n. GoesOn (restart_stage m) (restart_stage n) r t) (λ d. EndsIn (restart_stage m) (restarted_ending d) t)

-- ---- the release

abbrev OfScope : Scoped → Turn Release Prepared → Type 0
OfScope w turn = MatchTurn turn (λ n. n.scope ≡ w) (λ p. p.scope ≡ w)

release_keeps : (m : Release) → OfScope m.scope (release_after m)
release_keeps m = by (nat_lt 0 m.place)
  where
    by : (v : Bool) → OfScope m.scope (if v then Go (record { scope = m.scope; looks = m.looks; place = m.place - 1 }) else Done (memory_of m))
    by true = refl
    by false = refl

-- no lock is held any more: the heal begins
heals_next :
    (m : Release) (room : HealRoom) (p : Prepared) (r : Reply) (t : Scene) → Sound t
    → p.scope ≡ m.scope → 0 < length m.scope.names → IsRoom room t
    → EndsIn (release_stage m) (released_ending p) t
    → GoesOn (restart_stage (Releasing m room)) (restart_stage (heal_first room p)) r t
heals_next m room p r t sound same named there ends =
    let few = sound.kept.few in
    let counted = sound.kept.counted in
    let scope = ends.earned.fresh.scope in
    let some : 0 < length p.scope.names = subst (λ (w : Scoped). 0 < length w.names) (sym same) named in
    let may : MayHeal room p.scope.bricks (first_dir p.scope) t = record { room = there; few = omega arith; count = scope.bricks; home = scope.homes 0 some; deeds = ends.earned.fresh.deeds } in
    let most = begin_starts room p.scope.bricks (first_dir p.scope) in
    let count = ap (λ (w : Scoped). w.bricks) same in
    record {
      claims = on_claims (first_climb room p.scope.bricks (first_dir p.scope)) t _ ends.claims;
      knows = (
        begin_knows room p.scope.bricks (first_dir p.scope) t may,
        record { order = ends.earned.order; scope = scope; room = ends.earned.room; heals = begin_dir room p.scope.bricks (first_dir p.scope) there.path },
      );
      nearer = λ u. (λ w. omega arith, omega arith);
    }

released_step :
    (m : Release) (room : HealRoom) (turn : Turn Release Prepared) (r : Reply) (at : ℕ)
    (s t : Scene)
    → MatchTurn turn (λ n. GoesOn (release_stage m) (release_stage n) r t)
    (λ d. EndsIn (release_stage m) (released_ending d) t)
    → OfScope m.scope turn → Served (restart_stage (Releasing m room)) r at s t
    → Went (Releasing m room) r t (restart_released room turn)
released_step m room (Go n) r at s t went same v =
    let k = v.is_at.knows.1 in
    let beside : Releases n room t = record { memory = room_moved room s t _ r k.memory v.moved; named = subst (λ (w : Scoped). 0 < length w.names) (sym same) k.named } in
    subst (λ (w : Scoped). GoesOn (restart_stage (Releasing m room)) (Rattle.dht_section.specs.Parts.as_part (release_stage n) (heal_cost w.bricks) (λ s. Releases n room s)) r t) (sym same)
    (part_goes_on (release_stage m) (release_stage n) (heal_cost m.scope.bricks) (λ s. Releases m room s) (λ s. Releases n room s) r t went beside)
released_step m room (Done p) r at s t went same v =
    let k = v.is_at.knows.1 in
    heals_next m room p r t v.after same k.named (room_moved room s t _ r k.memory v.moved) went

-- ---- the heal

awaits_moved :
    (m n : Heal) (p : Prepared) (s t : Scene) (a : Ask) (r : Reply) → heal_dir n ≡ heal_dir m
    → Awaits m p s → Guarantee s a r t → Awaits n p t
awaits_moved m n p s t a r e h g = record { order = h.order; scope = scope_moved p.scope s t a r h.scope g; room = h.room; heals = e ∙ h.heals }

-- the section may begin anew
ready :
    (p : Prepared) (e : HealEnd) (t : Scene)
    → IfAlone
    (λ s.
    IsHealed s.disk s.history.tree (first_dir p.scope)
    ⊎ (s.history.tree.dirs (first_dir p.scope) ≡ false))
    t
    → CanBegin p t → IsRoom e.room t → IsReady p e.room t
ready p e t alone begins room = record { begins = begins; whole = sees_whole_begun (first_dir p.scope) p t alone; memory = room }

-- an error that a brick brought about is its answer's
told_step :
    (m : Heal) (p : Prepared) (e : HealEnd) (t : Scene) → end_dir e ≡ first_dir p.scope
    → CanBegin p t → HealTold (end_dir e) e.finish t → EndsIn (heal_stage m) (heal_ending e) t
    → EndsIn (restart_stage (Healing m p)) (restarted_ending (restart_ended p e)) t
told_step m p e t same begins (IsDone at is was alone) ends =
    subst (λ (f : Finish). EndsIn (restart_stage (Healing m p)) (restarted_ending (restarted_by (brick_fault f.answer) p e.room)) t) (sym is)
    (record {
      claims = ends.claims;
      earned = ready p e t (λ now. inl (subst (λ (g : Gfid). IsHealed t.disk t.history.tree g) same (alone now))) begins ends.earned.room;
    })
told_step m p e t same begins (IsGone at is was alone) ends =
    subst (λ (f : Finish). EndsIn (restart_stage (Healing m p)) (restarted_ending (restarted_by (brick_fault f.answer) p e.room)) t) (sym is)
    (record {
      claims = ends.claims;
      earned = ready p e t (λ now. inr (ap t.history.tree.dirs (sym same) ∙ alone now)) begins ends.earned.room;
    })
told_step m p e t same begins (IsStopped x is brick may) ends =
    subst (λ (f : Finish). EndsIn (restart_stage (Healing m p)) (restarted_ending (restarted_by (brick_fault f.answer) p e.room)) t) (sym is)
    (subst (λ (o : Option Errno). EndsIn (restart_stage (Healing m p)) (restarted_ending (restarted_by o p e.room)) t) (sym brick)
    (record { claims = ends.claims; earned = subst (λ (f : Finish). MayAnswer f t) is may }))

healed_step :
    (m : Heal) (p : Prepared) (turn : Turn Heal HealEnd) (r : Reply) (at : ℕ) (s t : Scene)
    → MatchTurn turn (λ n. GoesOn (heal_stage m) (heal_stage n) r t)
    (λ d. EndsIn (heal_stage m) (heal_ending d) t)
    → KeepsDir m turn → Served (restart_stage (Healing m p)) r at s t
    → Went (Healing m p) r t (restart_healed p turn)
healed_step m p (Go n) r at s t went same v = part_goes_on (heal_stage m) (heal_stage n) 0 (λ s. Awaits m p s) (λ s. Awaits n p s) r t went (awaits_moved m n p s t _ r same v.is_at.knows.1 v.moved)
healed_step m p (Done e) r at s t went same v =
    let k = awaits_moved m m p s t _ r refl v.is_at.knows.1 v.moved in
    told_step m p e t (same ∙ k.heals) (record { order = k.order; fresh = record { scope = k.scope; deeds = went.earned.deeds }; room = k.room }) went.earned.told went

-- ---- all of it

pub restart_moves :
    (m : Restart) (r : Reply) (at : ℕ)
    → Moves restart_stage restarted_ending m r at (restart_after m r at)
restart_moves (Releasing m room) r at s t v = released_step m room (release_after m) r at s t (release_moves m r at s t (part_served (release_stage m) (heal_cost m.scope.bricks) (λ s. Releases m room s) r at s t v)) (release_keeps m) v
restart_moves (Healing m p) r at s t v = healed_step m p (heal_after m r at) r at s t (heal_moves m r at s t (part_served (heal_stage m) 0 (λ s. Awaits m p s) r at s t v)) (heal_keeps m r at) v

-- ---- what it is of

released_keeps :
    (m : Release) (room : HealRoom) (turn : Turn Release Prepared) → OfScope m.scope turn
    → KeepsScope (Releasing m room) (restart_released room turn)
released_keeps m room (Go n) e = e
released_keeps m room (Done p) e = e

ended_keeps :
    (p : Prepared) (o : Option Errno) (room : HealRoom) → IsOfScope p.scope (restarted_by o p room)
ended_keeps p None room = refl
ended_keeps p (Some e) room = tt

healed_keeps :
    (m : Heal) (p : Prepared) (turn : Turn Heal HealEnd)
    → KeepsScope (Healing m p) (restart_healed p turn)
healed_keeps m p (Go n) = refl
healed_keeps m p (Done e) = ended_keeps p (end_fault e) e.room

pub restart_keeps : (m : Restart) (r : Reply) (at : ℕ) → KeepsScope m (restart_after m r at)
restart_keeps (Releasing m room) r at = released_keeps m room (release_after m) (release_keeps m)
restart_keeps (Healing m p) r at = healed_keeps m p (heal_after m r at)

-- ---- the error that it notes

released_notes :
    (m : Release) (room : HealRoom) (turn : Turn Release Prepared) (r : Reply)
    → NotesFault (Releasing m room) r (restart_released room turn)
released_notes m room (Go n) r = refl
released_notes m room (Done p) r = first_notes room p.scope.bricks (first_dir p.scope)
  where
    first_notes : (room : HealRoom) (bricks : ℕ) (d : Gfid) → heal_fault (first_heal room bricks d) ≡ None
    first_notes room bricks d = by_root (λ m. heal_fault m ≡ None) (first_climb room bricks d) (λ e. refl) (λ e. refl)

-- an error that only a brick brings about is kept as it is
same_error : (e : Errno) → part_fault (brick_error e) ≡ brick_error e
same_error errno.Enotconn = refl
same_error errno.Eio = refl
same_error errno.Enomem = refl
same_error errno.Enoent = refl
same_error errno.Eexist = refl
same_error errno.Einval = refl
same_error errno.Enametoolong = refl
same_error errno.Enotdir = refl
same_error errno.Eisdir = refl
same_error errno.Enotempty = refl
same_error errno.Estale = refl

same_fault : (a : Answer) → part_fault (brick_fault a) ≡ brick_fault a
same_fault (answer.File f) = refl
same_fault (answer.Dir g) = refl
same_fault (answer.Made f) = refl
same_fault answer.Done = refl
same_fault (answer.Fault e) = same_error e

ended_fault :
    (o : Option Errno) (p : Prepared) (room : HealRoom)
    → restarted_fault (restarted_by o p room) ≡ part_fault o
ended_fault None p room = refl
ended_fault (Some e) p room = refl

healed_notes :
    (m : Heal) (p : Prepared) (turn : Turn Heal HealEnd) (r : Reply) → NotesStop m r turn
    → NotesFault (Healing m p) r (restart_healed p turn)
healed_notes m p (Go n) r e = e
healed_notes m p (Done d) r e = ended_fault (end_fault d) p d.room ∙ (same_fault d.finish.answer ∙ e)

pub restart_notes : (m : Restart) (r : Reply) (at : ℕ) → NotesFault m r (restart_after m r at)
restart_notes (Releasing m room) r at = released_notes m room (release_after m) r
restart_notes (Healing m p) r at = healed_notes m p (heal_after m r at) r (heal_notes m r at)

-- ---- what it sends again

pub restart_again :
    (m : Restart) (r : Reply) (at : ℕ) → IsUnanswered (restart_stage m) r
    → restart_after m r at ≡ Go m
restart_again (Releasing m room) r at h = absurd h.1
restart_again (Healing m p) r at h = ap (restart_healed p) (heal_again m r at h)

-- ---- its beginning

pub restarts :
    (h : Held) (room : HealRoom) (s : Scene) → IsHeld h s → IsRoom room s → 0 < length h.scope.names
    → Restarts h room s
restarts h room s k there named =
    let x = releases h s k in
    let v = x.variant in
    record {
      claims = x.claims;
      knows = (x.knows, record { memory = there; named = named });
      variant = omega arith;
    }

-- ---- the section that begins anew

-- it sends as many requests at most as the first one
pub begun_variant :
    (l : Location) (p : Prepared) → p.scope ≡ scope_at l
    → (section_stage (begun p)).variant ≡ l.bricks + 4
begun_variant l p e = ap (λ (w : Scoped). length w.keys - 0 + looks_left w.bricks (length w.names) + suc (last_lock w)) e ∙ (starts l.bricks l.directory Shared l.name).variant

-- ---- when a section need not begin anew

ready_by : (l : Location) (h : Held) (b : ℕ) (o : Option ℕ) → if_copied l h o ≡ Some b → o ≡ Some b
ready_by l h b None e = absurd (let z : None ≡ Some b = e in cc)
ready_by l h b (Some c) e = by (mark_at (held_looked h (entry_at l)).sight.copies c) e
  where
    by : (v : Bool) → (if v then Some c else None) ≡ Some b → Some c ≡ Some b
    by true q = q
    by false q = absurd (let z : None ≡ Some b = q in cc)

pub ready_holds :
    (l : Location) (h : Held) (b : ℕ) → ready_holder l h ≡ Some b
    → held_holder h (entry_at l) ≡ Some b
ready_holds l h b e = ready_by l h b (held_holder h (entry_at l)) e

pub ready_there :
    (l : Location) (h : Held) (b : ℕ) (s : Scene) → Sound s → IsHeldAt l h s
    → ready_holder l h ≡ Some b → b < s.disk.count
ready_there l h b s sound k e =
    let within = holder_within (held_layout h (entry_at l)) (dm l.name) b (ready_holds l h b e) in
    let whole = (looked_is l h s k).whole in
    let bricks = bricks_are h.scope s sound k.held.fresh.scope in
    omega arith

-- after a heal, while the call is alone, there is a holder that showed its copy
pub has_ready :
    (l : Location) (h : Held) (s : Scene) (k : HasHolder l h s) → ready_holder l h ≡ Some k.brick
has_ready l h s k =
    ap (if_copied l h) k.holds
    ∙ ap (λ (v : Bool). if v then Some k.brick else None) k.copied

-- ---- how a section goes on that began after a heal

either_way : (turn : Turn Section Opened) → MatchTurn turn (λ n. Unit {0}) (λ d. Unit {0})
either_way (Go n) = tt
either_way (Done d) = tt

pub anew_next :
    (learned : Option (List (Option Range))) (g : Gfid) (m : Section) (r : Reply) (at : ℕ)
    (s t : Scene)
    → Served (section_stage m) r at s t → SeesAnew learned g m s
    → MatchTurn (section_after m r at) (λ n. SeesAnew learned g n t) (λ d. EndsAnew learned g d t)
anew_next None g m r at s t v h = either_way (section_after m r at)
anew_next (Some layout) g m r at s t v h = sees_whole_next g m r at s t v h
