-- A lookup as the first part of an rmdir.
use Rattle.std.proofs.Common.{◌≡◌, ◌<◌, ◌+◌, ℕ, Bool, true, false, refl, sym, ◌∙◌, ap, subst, inl, inr, arith, List}
use Rattle.std.specs.Prelude.{Option, Some, None, nat_lt, if◌then◌else◌}
use Rattle.dht_types.specs.History.{Deeds, HasPoint, Tells, FaultHolds, IsAtOnce}
use Rattle.dht_types.specs.Calls.{refusal_at_once}
use Rattle.dht_types.specs.Gfid.{root}
use Rattle.dht_types.specs.Tree.{Tree, Node, IsDir, IsFile, Refuse, answer_of, looked_up, removed, says}
use Rattle.dht_types.specs.declared.calls.Answer.{Answer}
use Rattle.dht_types.specs.declared.calls.Answer.TheVariants as answer
use Rattle.dht_types.specs.declared.calls.Call.{Call}
use Rattle.dht_types.specs.declared.calls.Call.TheVariants.{Lookup as Looked, Rmdir as Called}
use Rattle.dht_types.specs.declared.errors.Errno.{Errno}
use Rattle.dht_types.specs.declared.errors.Errno.TheVariants.{Enoent, Enomem, Eexist, Einval, Enametoolong, Enotdir, Eisdir, Enotempty, Estale, Enotconn, Eio}
use Rattle.dht_types.specs.declared.identifiers.BrickNo.{BrickNo}
use Rattle.dht_types.specs.declared.identifiers.Gfid.{Gfid}
use Rattle.dht_xattr.specs.declared.range.Range.{Range}
use Rattle.dht_brick.specs.declared.replies.Reply.{Reply}
use Rattle.dht_brick.specs.declared.replies.Reply.TheVariants as reply
use Rattle.dht_section.proofs.TaughtLaws.{taught_at}
use Rattle.dht_section.specs.AsCall.{as_call}
use Rattle.dht_section.specs.Location.{entry_at}
use Rattle.dht_section.specs.Looks.{lengthened}
use Rattle.dht_section.specs.Release.{release_after}
use Rattle.dht_section.specs.Replies.{fault_of, is_shown, range_shown}
use Rattle.dht_section.specs.Scene.{Scene}
use Rattle.dht_section.specs.Section.{section_after, section_stage, shows_gone, turn_layout}
use Rattle.dht_section.specs.Stages.{MatchTurn}
use Rattle.dht_section.specs.declared.location.Location.{Location}
use Rattle.dht_section.specs.declared.machine.Turn.{Turn}
use Rattle.dht_section.specs.declared.machine.Turn.TheVariants.{Go, Done}
use Rattle.dht_section.specs.declared.section.Opened.{Opened}
use Rattle.dht_section.specs.declared.section.Opened.TheVariants.{Held as Holding, Gone as IsGone, Stopped as IsStopped}
use Rattle.dht_section.specs.declared.section.Prepared.{Prepared}
use Rattle.dht_section.specs.declared.section.Section.{Section}
use Rattle.dht_resolve.specs.Lookup.{aimed_at, lookup_stage, lookup_taught, lookup_with, holder_in, survey_taught}
use Rattle.dht_resolve.specs.Turns.{lookup_after, release_turned, section_turned, survey_answered, surveyed, unless_fault}
use Rattle.dht_resolve.specs.declared.lookup.Lookup.{Lookup}
use Rattle.dht_resolve.specs.declared.lookup.Lookup.TheVariants.{Surveying, LookingAtHolder, FollowingLinkto, LookingEverywhere, LayingLinkto, Ending}
use Rattle.dht_resolve.specs.declared.lookup.Resolved.{Resolved}
use Rattle.dht_resolve.specs.LookupName.{lookup_location}
use Rattle.dht_section.specs.Section.{begun}

-- ---- its name, where it begins

aimed_location :
    (l : Location) (p : Prepared) (learned : Option (List (Option Range))) (o : Option ℕ)
    → lookup_location (aimed_at l p learned o) ≡ l
aimed_location l p learned None = refl
aimed_location l p learned (Some b) = by (nat_lt b l.bricks)
  where
    by : (v : Bool) → lookup_location (if v then LookingAtHolder (record { location = l; brick = record { 0 = b }; learned = learned }) p else LookingEverywhere l (begun p) learned) ≡ l
    by true = refl
    by false = refl

pub with_location :
    (p : Prepared) (l : Location) (layout learned : Option (List (Option Range)))
    → lookup_location (lookup_with p l layout learned) ≡ l
with_location p l None learned = refl
with_location p l (Some ranges) learned = aimed_location l p learned (holder_in ranges l.name)

-- ---- it has a request left until it ends

section_goes_on : (m : Section) → 0 < (section_stage m).variant + 1
section_goes_on m = omega arith

pub goes_on : (m : Lookup) → 0 < (lookup_stage m).variant
goes_on (Surveying l p b ranges) = omega arith
goes_on (LookingAtHolder x p) = omega arith
goes_on (FollowingLinkto x p) = omega arith
goes_on (LookingEverywhere l m learned) = section_goes_on m
goes_on (LayingLinkto y) = omega arith
goes_on (Ending m x) = omega arith

-- ---- a reply by which it ends teaches nothing

abbrev pub NoneAtEnd : Option (List (Option Range)) → Turn Lookup Resolved → Type 0
NoneAtEnd taught turn = MatchTurn turn (λ n. Unit {0}) (λ d. taught ≡ None)

not_shown :
    (r : Reply) (e : Errno) (g : Gfid) (b : BrickNo) → fault_of r ≡ Some e
    → (shows_gone g b r ≡ false) × (is_shown r ≡ false)
not_shown (reply.Ok given) e g b z = absurd (let k : None ≡ Some e = z in cc)
not_shown (reply.Refused why) e g b z = absurd (let k : None ≡ Some e = z in cc)
not_shown (reply.Wait holder) e g b z = absurd (let k : None ≡ Some e = z in cc)
not_shown reply.Down e g b z = (refl, refl)
not_shown reply.Failed e g b z = (refl, refl)
not_shown reply.NoMemory e g b z = (refl, refl)

survey_end :
    (l : Location) (p : Prepared) (b : BrickNo) (ranges : List (Option Range)) (r : Reply) (at : ℕ)
    (gone shown : Bool)
    → NoneAtEnd (survey_taught gone shown l b (lengthened ranges (range_shown r)))
    (if gone
    then Rattle.dht_resolve.specs.Turns.gone l at None
    else (if shown
    then Go (surveyed l p b (lengthened ranges (range_shown r)))
    else Go (Surveying l p b ranges)))
survey_end l p b ranges r at true shown = refl
survey_end l p b ranges r at false true = tt
survey_end l p b ranges r at false false = tt

survey_ended :
    (l : Location) (p : Prepared) (b : BrickNo) (ranges : List (Option Range)) (r : Reply) (at : ℕ)
    (o : Option Errno)
    → fault_of r ≡ o
    → NoneAtEnd (lookup_taught (Surveying l p b ranges) r)
    (unless_fault o l None (survey_answered l p b ranges r at))
survey_ended l p b ranges r at None z = survey_end l p b ranges r at (shows_gone l.directory b r) (is_shown r)
survey_ended l p b ranges r at (Some e) z =
    let q = not_shown r e l.directory b z in
    ap (λ (v : Bool). survey_taught v (is_shown r) l b (lengthened ranges (range_shown r))) q.0
    ∙ ap (λ (v : Bool). survey_taught false v l b (lengthened ranges (range_shown r))) q.1

none_at_end : (turn : Turn Lookup Resolved) → NoneAtEnd None turn
none_at_end (Go m) = tt
none_at_end (Done d) = refl

section_end :
    (l : Location) (learned : Option (List (Option Range))) (turn : Turn Section Opened)
    → NoneAtEnd (turn_layout (entry_at l) turn) (section_turned l turn learned)
section_end l learned (Go m) = tt
section_end l learned (Done (Holding h)) = tt
section_end l learned (Done (IsGone g at)) = refl
section_end l learned (Done (IsStopped e)) = refl

pub taught_none :
    (m : Lookup) (r : Reply) (at : ℕ) → NoneAtEnd (lookup_taught m r) (lookup_after m r at)
taught_none (Surveying l p b ranges) r at = survey_ended l p b ranges r at (fault_of r) refl
taught_none (LookingAtHolder x p) r at = none_at_end (lookup_after (LookingAtHolder x p) r at)
taught_none (FollowingLinkto x p) r at = none_at_end (lookup_after (FollowingLinkto x p) r at)
taught_none (LookingEverywhere l m learned) r at = subst (λ (o : Option (List (Option Range))). NoneAtEnd o (section_turned l (section_after m r at) learned)) (taught_at (entry_at l) m r at 0) (section_end l learned (section_after m r at))
taught_none (LayingLinkto y) r at = tt
taught_none (Ending m x) r at = none_at_end (release_turned (release_after m) x)

-- ---- what its answers are as those of an rmdir

refused_too :
    (p : Tree) (d : Gfid) (n : List ℕ) (e : Errno) (v : Bool) (o : Option Node)
    → answer_of (if v then looked_up o else Refuse Estale) ≡ Some (answer.Fault e)
    → answer_of (if v then removed p d n o else Refuse Estale) ≡ Some (answer.Fault e)
refused_too p d n e true None h = h
refused_too p d n e true (Some (IsFile f)) h = absurd (let z : Some (answer.File f) ≡ Some (answer.Fault e) = h in cc)
refused_too p d n e true (Some (IsDir g)) h = absurd (let z : Some (answer.Dir g) ≡ Some (answer.Fault e) = h in cc)
refused_too p d n e false o h = h

file_refused :
    (p : Tree) (d : Gfid) (n : List ℕ) (f : Gfid) (v : Bool) (o : Option Node)
    → answer_of (if v then looked_up o else Refuse Estale) ≡ Some (answer.File f)
    → answer_of (if v then removed p d n o else Refuse Estale) ≡ Some (answer.Fault Enotdir)
file_refused p d n f true None h = absurd (let z : Some (answer.Fault Enoent) ≡ Some (answer.File f) = h in cc)
file_refused p d n f true (Some (IsFile g)) h = refl
file_refused p d n f true (Some (IsDir g)) h = absurd (let z : Some (answer.Dir g) ≡ Some (answer.File f) = h in cc)
file_refused p d n f false o h = absurd (let z : Some (answer.Fault Estale) ≡ Some (answer.File f) = h in cc)

never_done :
    (v : Bool) (o : Option Node)
    → answer_of (if v then looked_up o else Refuse Estale) ≡ Some answer.Done → ⊥
never_done true None h = (let z : Some (answer.Fault Enoent) ≡ Some answer.Done = h in cc)
never_done true (Some (IsFile g)) h = (let z : Some (answer.File g) ≡ Some answer.Done = h in cc)
never_done true (Some (IsDir g)) h = (let z : Some (answer.Dir g) ≡ Some answer.Done = h in cc)
never_done false o h = (let z : Some (answer.Fault Estale) ≡ Some answer.Done = h in cc)

never_made :
    (f : Gfid) (v : Bool) (o : Option Node)
    → answer_of (if v then looked_up o else Refuse Estale) ≡ Some (answer.Made f) → ⊥
never_made f true None h = (let z : Some (answer.Fault Enoent) ≡ Some (answer.Made f) = h in cc)
never_made f true (Some (IsFile g)) h = (let z : Some (answer.File g) ≡ Some (answer.Made f) = h in cc)
never_made f true (Some (IsDir g)) h = (let z : Some (answer.Dir g) ≡ Some (answer.Made f) = h in cc)
never_made f false o h = (let z : Some (answer.Fault Estale) ≡ Some (answer.Made f) = h in cc)

module _ (d : Gfid) (n : List ℕ) (s : Scene) (called : s.mine.call ≡ Called d n) (fresh : s.mine.deeds ≡ None) where
  -- what a lookup was told at a point
  told_at : (at : Option ℕ) (a : Answer) → (h : HasPoint s.history (as_call (Looked d n) s).mine at a) → (x : Gfid) → answer_of (says (s.history.past h.point) (Looked d n) x) ≡ Some a
  told_at at a h = subst (λ (y : Option Deeds). Tells s.history (Looked d n) y h.point a) fresh h.tells

  point_as : (at : Option ℕ) (a b : Answer) → ((p : Tree) (x : Gfid) → answer_of (says p (Looked d n) x) ≡ Some a → answer_of (says p (Called d n) x) ≡ Some b) → HasPoint s.history (as_call (Looked d n) s).mine at a → HasPoint s.history s.mine at b
  point_as at a b turn h = record {
    point = h.point;
    printed = h.printed;
    after = h.after;
    before = h.before;
    tells = subst (λ (y : Option Deeds). Tells s.history s.mine.call y h.point b) (sym fresh)
        (λ (x : Gfid). ap (λ (c : Call Gfid). answer_of (says (s.history.past h.point) c x)) called ∙ turn (s.history.past h.point) x (told_at at a h x));
  }

  refused_as : (at : Option ℕ) (e : Errno) → HasPoint s.history (as_call (Looked d n) s).mine at (answer.Fault e) → HasPoint s.history s.mine at (answer.Fault e)
  refused_as at e h = point_as at (answer.Fault e) (answer.Fault e) (λ p x. refused_too p d n e (p.dirs d) (p.names (d, n))) h

  pub file_as : (at : Option ℕ) (f : Gfid) → HasPoint s.history (as_call (Looked d n) s).mine at (answer.File f) → HasPoint s.history s.mine at (answer.Fault Enotdir)
  file_as at f h = point_as at (answer.File f) (answer.Fault Enotdir) (λ p x. file_refused p d n f (p.dirs d) (p.names (d, n))) h

  pub done_never : (at : Option ℕ) → HasPoint s.history (as_call (Looked d n) s).mine at answer.Done → ⊥
  done_never at h = never_done ((s.history.past h.point).dirs d) ((s.history.past h.point).names (d, n)) (told_at at answer.Done h root)

  pub made_never : (at : Option ℕ) (f : Gfid) → HasPoint s.history (as_call (Looked d n) s).mine at (answer.Made f) → ⊥
  made_never at f h = never_made f ((s.history.past h.point).dirs d) ((s.history.past h.point).names (d, n)) (told_at at (answer.Made f) h root)

  at_once_as : (at : Option ℕ) (e : Errno) → IsAtOnce (as_call (Looked d n) s).mine at e → IsAtOnce s.mine at e
  at_once_as at e h = record { refused = ap (λ (c : Call Gfid). refusal_at_once c) called ∙ h.refused; unprinted = h.unprinted }

  pub fault_as : (at : Option ℕ) (e : Errno) → FaultHolds s.history (as_call (Looked d n) s).mine at e → FaultHolds s.history s.mine at e
  fault_as at Enomem h = h
  fault_as at Enotconn h = h
  fault_as at Eio h = h
  fault_as at Einval h = at_once_as at Einval h
  fault_as at Enametoolong (inl h) = inl (at_once_as at Enametoolong h)
  fault_as at Enametoolong (inr h) = inr (refused_as at Enametoolong h)
  fault_as at Enoent h = refused_as at Enoent h
  fault_as at Eexist h = refused_as at Eexist h
  fault_as at Enotdir h = refused_as at Enotdir h
  fault_as at Eisdir h = refused_as at Eisdir h
  fault_as at Enotempty h = refused_as at Enotempty h
  fault_as at Estale h = refused_as at Estale h
