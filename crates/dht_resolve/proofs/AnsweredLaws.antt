-- What a lookup may answer, and how long it stays right under requests of its own.
use Rattle.std.proofs.Common.{◌≡◌, ◌≢◌, ◌+◌, ℕ, true, false, refl, sym, ◌∙◌, ap, subst, arith, List}
use Rattle.std.specs.Prelude.{Option, Some, None, if◌then◌else◌}
use Rattle.dht_types.specs.Gfid.{Entry}
use Rattle.dht_types.specs.History.{Deeds, HasPoint, Tells}
use Rattle.dht_types.specs.Tree.{Tree, IsDir, IsTree, Refuse, says, looked_up as tree_says, answer_of, depth_in}
use Rattle.dht_types.specs.declared.calls.Answer.TheVariants as answer
use Rattle.dht_types.specs.declared.calls.Call.{Call}
use Rattle.dht_types.specs.declared.calls.Call.TheVariants as call
use Rattle.dht_types.specs.declared.errors.Errno.{Errno}
use Rattle.dht_types.specs.declared.errors.Errno.TheVariants.{Estale}
use Rattle.dht_types.specs.declared.identifiers.BrickNo.{BrickNo}
use Rattle.dht_types.specs.declared.identifiers.Gfid.{Gfid}
use Rattle.dht_xattr.specs.declared.range.Range.{Range}
use Rattle.dht_brick.specs.declared.replies.Reply.{Reply}
use Rattle.dht_section.proofs.LocationLaws.{looked_is}
use Rattle.dht_section.proofs.SceneLaws.{alone_before}
use Rattle.dht_section.proofs.SectionParts.{fault_errors, gone_earned}
use Rattle.dht_section.proofs.ShownLaws.{node_there}
use Rattle.dht_section.specs.AsCall.{as_call}
use Rattle.dht_section.specs.AsCallLaws.{fault_as, may_answer_as_moved}
use Rattle.dht_section.specs.Ended.{gone_at}
use Rattle.dht_section.specs.Faults.{brick_error, part_fault}
use Rattle.dht_section.specs.Location.{IsHeldAt, entry_at}
use Rattle.dht_section.specs.Looks.{file_in}
use Rattle.dht_section.specs.Moves.{Guarantee}
use Rattle.dht_section.specs.Replies.{fault_of}
use Rattle.dht_section.specs.Scene.{Scene, Sound, MayAnswer, fault_finish}
use Rattle.dht_section.specs.Section.{IsLooked, WasGone, held_looked, node_seen}
use Rattle.dht_section.specs.declared.location.Location.{Location}
use Rattle.dht_section.specs.declared.looks.Looked.{Looked}
use Rattle.dht_section.specs.declared.looks.Place.{Place}
use Rattle.dht_section.specs.declared.looks.What.{What}
use Rattle.dht_section.specs.declared.looks.What.TheVariants as what
use Rattle.dht_section.specs.declared.machine.Ask.{Ask}
use Rattle.dht_section.specs.declared.section.Held.{Held}
use Rattle.dht_resolve.specs.Lookup.{HasPlace, IsAnswered, IsApart, IsStillSo, found_answer, seen_finish}
use Rattle.dht_resolve.specs.LookupLaws.{still_same}
use Rattle.dht_resolve.specs.Turns.{answers_so}
use Rattle.dht_resolve.specs.declared.lookup.Answered.{Answered}

-- ---- a request of one's own that is no step of the tree

pub answered_moved :
    (x : Answered) (s t : Scene) (a : Ask) (r : Reply) → t.mine.deeds ≡ s.mine.deeds
    → t.history.tree ≡ s.history.tree → Guarantee s a r t → IsAnswered x s → IsAnswered x t
answered_moved x s t a r deeds tree m h = record {
  told = may_answer_as_moved (call.Lookup x.location.directory x.location.name) x.finish s t a r deeds m h.told;
  place = h.place;
  apart = h.apart;
  still = λ now. still_same x.location x.finish.answer s t tree (h.still (alone_before s t a r m now));
  deeds = deeds ∙ h.deeds;
}

-- ---- the error of a brick

pub brick_errors : (r : Reply) (e : Errno) → fault_of r ≡ Some e → brick_error e ≡ Some e
brick_errors r e z = sym (ap part_fault z) ∙ (fault_errors r ∙ z)

pub fault_answered :
    (l : Location) (e : Errno) (layout : Option (List (Option Range))) (s : Scene)
    → brick_error e ≡ Some e → MayAnswer (fault_finish e) s → s.mine.deeds ≡ None
    → IsAnswered (answers_so l (fault_finish e) None layout) s
fault_answered l e layout s is told deeds = record {
  told = fault_as (call.Lookup l.directory l.name) e s is told;
  place = refl;
  apart = tt;
  still = λ now. tt;
  deeds = deeds;
}

-- ---- a directory that was gone

refuses_lookup :
    (l : Location) (p : Tree) (g : Gfid) → p.dirs l.directory ≡ false
    → answer_of (says p (call.Lookup l.directory l.name) g) ≡ Some (answer.Fault Estale)
refuses_lookup l p g e = ap (λ b. answer_of (if b then tree_says (p.names (entry_at l)) else Refuse Estale)) e

-- whatever call it is that found it gone
gone_as :
    (c : Call Gfid) (g : Gfid) (at : ℕ) (s : Scene) → WasGone g at s → WasGone g at (as_call c s)
gone_as c g at s h = record { deeds = h.deeds; after = h.after; before = h.before; gone = h.gone }

pub gone_answered :
    (l : Location) (g : Gfid) (at : ℕ) (layout : Option (List (Option Range))) (s : Scene)
    → l.directory ≡ g → WasGone g at s → IsAnswered (answers_so l (gone_at at) None layout) s
gone_answered l g at layout s e h = record {
  told = gone_earned l.directory (call.Lookup l.directory l.name) g at (as_call (call.Lookup l.directory l.name) s) (refuses_lookup l) refl e (gone_as (call.Lookup l.directory l.name) g at s h);
  place = refl;
  apart = tt;
  still = λ now. tt;
  deeds = h.deeds;
}

-- ---- what was seen

-- a directory does not stand in itself
pub not_in_itself :
    (p : Tree) (e : Entry) (g : Gfid) → IsTree p → p.names e ≡ Some (IsDir g) → g ≢ e.0
not_in_itself p e g is h same =
    let own : p.descents e.0 ≡ Some (record { depth = depth_in (p.descents e.0) + 1; place = Some e }) = ap p.descents (sym same) ∙ (is.child e g h).descent in
    let deeper : depth_in (p.descents e.0) ≡ depth_in (p.descents e.0) + 1 = ap depth_in own in
    omega arith

pub seen_apart :
    (l : Location) (x : What) (s : Scene) → Sound s
    → s.history.tree.names (entry_at l) ≡ node_seen x → IsApart l.directory (found_answer x)
seen_apart l what.Absent s sound e = tt
seen_apart l (what.Dir g) s sound e = not_in_itself s.history.tree (entry_at l) g sound.kept.tree e
seen_apart l (what.File f b links) s sound e = tt

seen_still :
    (l : Location) (x : What) (s : Scene) → s.history.tree.names (entry_at l) ≡ node_seen x
    → IsStillSo l (found_answer x) s
seen_still l what.Absent s e = tt
seen_still l (what.Dir g) s e = e
seen_still l (what.File f b links) s e = tt

-- what was found on all bricks, the lookup answers
held_says :
    (p : Tree) (l : Location) (x : What) (g : Gfid) → p.dirs l.directory ≡ true
    → p.names (entry_at l) ≡ node_seen x
    → answer_of (says p (call.Lookup l.directory l.name) g) ≡ Some (found_answer x)
held_says p l what.Absent g e k = ap (λ b. answer_of (if b then tree_says (p.names (entry_at l)) else Refuse Estale)) e ∙ ap (λ o. answer_of (tree_says o)) k
held_says p l (what.Dir d) g e k = ap (λ b. answer_of (if b then tree_says (p.names (entry_at l)) else Refuse Estale)) e ∙ ap (λ o. answer_of (tree_says o)) k
held_says p l (what.File f b links) g e k = ap (λ b. answer_of (if b then tree_says (p.names (entry_at l)) else Refuse Estale)) e ∙ ap (λ o. answer_of (tree_says o)) k

by_answer :
    (x : What) (at : ℕ) (s : Scene) → HasPoint s.history s.mine (Some at) (found_answer x)
    → MayAnswer (record { answer = found_answer x; at = Some at }) s
by_answer what.Absent at s h = h
by_answer (what.Dir d) at s h = h
by_answer (what.File f b links) at s h = h

seen_told :
    (bricks : ℕ) (l : Location) (x : Looked) (s : Scene) → s.mine.deeds ≡ None
    → IsLooked bricks (entry_at l) x s
    → MayAnswer (seen_finish x) (as_call (call.Lookup l.directory l.name) s)
seen_told bricks l x s fresh k = by_answer x.sight.what x.at (as_call (call.Lookup l.directory l.name) s) (record {
  point = x.at;
  printed = refl;
  after = k.saw.after;
  before = k.saw.before;
  tells = subst (λ (o : Option Deeds). Tells s.history (call.Lookup l.directory l.name) o x.at (found_answer x.sight.what)) (sym fresh)
      (λ (g : Gfid). held_says (s.history.past x.at) l x.sight.what g k.saw.directory k.saw.node);
})

-- so does one whose section is held
pub held_answered :
    (l : Location) (h : Held) (place : Option BrickNo) (layout : Option (List (Option Range)))
    (s : Scene)
    → Sound s → HasPlace (found_answer (held_looked h (entry_at l)).sight.what) place
    → IsHeldAt l h s
    → IsAnswered (answers_so l (seen_finish (held_looked h (entry_at l))) place layout) s
held_answered l h place layout s sound is held =
    let x : Looked = held_looked h (entry_at l) in
    let k = looked_is l h s held in
    let node = node_there s (entry_at l) x.sight.what k.stands in
    record {
      told = seen_told h.scope.bricks l x s held.held.fresh.deeds k;
      place = is;
      apart = seen_apart l x.sight.what s sound node;
      still = λ now. seen_still l x.sight.what s node;
      deeds = held.held.fresh.deeds;
    }

-- a brick is told exactly where it is a file
pub no_place : (x : What) → file_in x ≡ None → HasPlace (found_answer x) None
no_place what.Absent e = refl
no_place (what.Dir d) e = refl
no_place (what.File f b links) e = absurd (let z : ◌≡◌ {A = Option Place} (Some (record { brick = b; file = f })) None = e in cc)

pub a_place :
    (x : What) (p : Place) (b : BrickNo) → file_in x ≡ Some p → HasPlace (found_answer x) (Some b)
a_place what.Absent p b e = absurd (let z : None ≡ Some p = e in cc)
a_place (what.Dir d) p b e = absurd (let z : None ≡ Some p = e in cc)
a_place (what.File f c links) p b e = refl
