-- The laws of a lookup as a machine.
use Rattle.std.proofs.Common.{◌≡◌, ◌<◌, ◌≤◌, ◌+◌, ℕ, [], ◌∷◌, ◌++◌, length, decimal, codes, refl, sym, ap, ◌∙◌, subst, arith}
use Rattle.std.specs.Prelude.{Option, Some, None}
use Rattle.std.proofs.Common.{length-append}
use Rattle.std.proofs.lemmas.Fmt.{length-decimal-le}
use Rattle.dht_types.specs.Linkto.{linkto_value}
use Rattle.dht_types.specs.Tree.{Tree}
use Rattle.dht_types.specs.declared.calls.Answer.{Answer}
use Rattle.dht_types.specs.declared.calls.Answer.TheVariants as answer
use Rattle.dht_types.specs.declared.calls.Call.TheVariants as call
use Rattle.dht_types.specs.Saved.{IsValue}
use Rattle.dht_types.specs.Volume.{replay_name, replay_names}
use Rattle.dht_brick.specs.declared.requests.NameRequest.TheVariants.{MakeLinkto}
use Rattle.dht_xattr.proofs.LayoutLaws.{holder_within}
use Rattle.dht_xattr.proofs.LinktoLaws.{replay_value}
use Rattle.dht_hash.specs.DaviesMeyer.{dm}
use Rattle.dht_section.proofs.EarlyLaws.{here_at}
use Rattle.dht_section.proofs.HeldLaws.{stands_found}
use Rattle.dht_section.proofs.LocationLaws.{held_at_stable, held_holder_is, looked_is, name_held}
use Rattle.dht_section.proofs.ShownLaws.{name_stands_at}
use Rattle.dht_section.specs.AsCallLaws.{may_answer_as_stable}
use Rattle.dht_section.specs.Disk.{file_of_main, name_at}
use Rattle.dht_section.specs.Location.{entry_at}
use Rattle.dht_section.specs.Looks.{IsNoDir, file_in}
use Rattle.dht_section.specs.PartLaws.{part_permitted, part_stable}
use Rattle.dht_section.specs.Permits.{Changes}
use Rattle.dht_section.specs.Release.{release_stage}
use Rattle.dht_section.specs.ReleaseLaws.{can_begin_stable, release_permitted, release_stable}
use Rattle.dht_section.specs.Rely.{Rely}
use Rattle.dht_section.specs.Scene.{Scene, Sound, NameStands}
use Rattle.dht_section.specs.Section.{found_shape, held_layout, section_stage}
use Rattle.dht_section.specs.SectionLaws.{bricks_are, section_permitted, section_stable}
use Rattle.dht_section.specs.Shapes.{Plain}
use Rattle.dht_section.specs.Stages.{MaySend, IsStable}
use Rattle.dht_section.specs.WholeLaws.{if_alone_stable}
use Rattle.dht_section.specs.Want.{Scoped}
use Rattle.dht_section.specs.declared.location.Location.{Location}
use Rattle.dht_section.specs.declared.looks.Place.{Place}
use Rattle.dht_section.specs.declared.looks.What.{What}
use Rattle.dht_section.specs.declared.looks.What.TheVariants as what
use Rattle.dht_section.specs.declared.looks.What.TheVariants.{Absent}
use Rattle.dht_types.specs.declared.identifiers.BrickNo.{BrickNo}
use Rattle.dht_types.specs.declared.stored.Main.TheVariants.{File}
use Rattle.dht_resolve.specs.Lookup.{Answers, IsAnswered, IsMisplaced, IsRoom, IsStillSo, Seeks, Secures, lookup_stage}
use Rattle.dht_resolve.specs.declared.lookup.Answered.{Answered}
use Rattle.dht_resolve.specs.declared.lookup.Lookup.{Lookup}
use Rattle.dht_resolve.specs.declared.lookup.Lookup.TheVariants.{Surveying, LookingAtHolder, FollowingLinkto, LookingEverywhere, LayingLinkto, Ending}
use Rattle.dht_resolve.specs.declared.lookup.Misplaced.{Misplaced}
use Rattle.dht_section.specs.declared.release.Release.{Release}
use Rattle.dht_section.specs.declared.section.Prepared.{Prepared}

-- ---- the bricks that it asks

-- the volume has as many bricks as the name's section is for
pub room_count :
    (l : Location) (p : Prepared) (s : Scene) → Sound s → IsRoom l p s → s.disk.count ≡ l.bricks
room_count l p s sound h = bricks_are p.scope s sound h.can.fresh.scope ∙ ap (λ (w : Scoped). w.bricks) h.scope

pub seeks_there :
    (l : Location) (p : Prepared) (b : BrickNo) (s : Scene) → Sound s → Seeks l p b s
    → b.0 < s.disk.count
seeks_there l p b s sound h =
    let count = room_count l p s sound h.waits in
    let within = h.within in
    omega arith

held_bricks :
    (y : Misplaced) (s : Scene) → Sound s → IsMisplaced y s → s.disk.count ≡ y.held.scope.bricks
held_bricks y s sound h = bricks_are y.held.scope s sound h.held.held.fresh.scope

pub holder_there :
    (y : Misplaced) (s : Scene) → Sound s → IsMisplaced y s → y.holder.0 < s.disk.count
holder_there y s sound h =
    let l = y.location in
    let bricks = held_bricks y s sound h in
    let whole = (looked_is l y.held s h.held).whole in
    let within = holder_within (held_layout y.held (entry_at l)) (dm l.name) y.holder.0 h.holds in
    omega arith

-- ---- the file

-- a name that is a file's is no directory's
file_plain : (x : What) (p : Place) → file_in x ≡ Some p → IsNoDir x
file_plain Absent p e = tt
file_plain (what.Dir g) p e = absurd (let z : None ≡ Some p = e in cc)
file_plain (what.File f b links) p e = tt

pub misplaced_stands :
    (y : Misplaced) (s : Scene) → IsMisplaced y s
    → NameStands s (entry_at y.location) (Plain y.place.brick.0 y.place.file)
misplaced_stands y s h = subst (λ (o : Option Place). NameStands s (entry_at y.location) (found_shape o)) h.file
    (stands_found (entry_at y.location) _ s (file_plain _ y.place h.file) (looked_is y.location y.held s h.held).stands)

pub misplaced_name :
    (y : Misplaced) (s : Scene) → IsMisplaced y s
    → name_at s.disk y.place.brick.0 (entry_at y.location) ≡ Some y.place.file
misplaced_name y s h =
    let stands = misplaced_stands y s h in
    name_stands_at s (entry_at y.location) (Plain y.place.brick.0 y.place.file) y.place.brick.0 stands.fits stands
    ∙ ap file_of_main (here_at (Some (File y.place.file None)) y.place.brick.0)

-- in the first run a file is on its holder
later_run : (y : Misplaced) (s : Scene) → Sound s → IsMisplaced y s → s.history.run ≡ 1 → ⊥
later_run y s sound h first =
    let e = entry_at y.location in
    let holds = held_holder_is y.location y.held y.holder.0 s sound h.held h.holds in
    let at = sound.early.held e y.place.brick.0 y.place.file first (misplaced_stands y s h).fits (misplaced_name y s h) in
    h.apart (let z : Some y.holder.0 ≡ Some y.place.brick.0 = sym holds ∙ at in cc)

-- the value is a short one
value_fits : (count b : ℕ) → b < count → count ≤ 32 → IsValue (linkto_value (replay_names count) b)
value_fits count b within few =
    let short : length (decimal b) ≤ 2 = length-decimal-le 2 b (omega arith) (omega arith) (omega arith) in
    let name : length (replay_name b) ≡ 6 + length (decimal b) = length-append (codes "brick-") (decimal b) in
    let whole = length-append (replay_name b) (0 ∷ []) in
    let value : length (linkto_value (replay_names count) b) ≡ length (replay_name b ++ 0 ∷ []) = ap length (replay_value count b within) in
    omega arith

-- ---- what it may ask

-- the name stays the file's
lays_linkto :
    (y : Misplaced) (s : Scene) → Sound s → IsMisplaced y s
    → Changes s y.holder.0
    (MakeLinkto y.location.directory y.location.name
    (linkto_value (replay_names y.location.bricks) y.place.brick.0))
lays_linkto y s sound h =
    let stands = misplaced_stands y s h in
    let bricks = held_bricks y s sound h in
    let same : y.held.scope.bricks ≡ y.location.bricks = ap (λ (w : Scoped). w.bricks) h.held.scope in
    let within : y.place.brick.0 < s.disk.count = stands.fits in
    let few = sound.kept.few in
    record {
      holds = name_held y.location y.held s h.held;
      from = Plain y.place.brick.0 y.place.file;
      to = Plain y.place.brick.0 y.place.file;
      stands = stands;
      takes = refl;
      wants = tt;
      also = (value_fits y.location.bricks y.place.brick.0 (omega arith) (omega arith), later_run y s sound h);
    }

pub lookup_permitted : (m : Lookup) → MaySend (lookup_stage m)
lookup_permitted (Surveying l p b ranges) s sound h = record { there = seeks_there l p b s sound h.knows; may = (tt, tt) }
lookup_permitted (LookingAtHolder x p) s sound h = record { there = seeks_there x.location p x.brick s sound h.knows; may = (tt, tt) }
lookup_permitted (FollowingLinkto x p) s sound h = record { there = seeks_there x.location p x.brick s sound h.knows; may = (tt, tt) }
lookup_permitted (LookingEverywhere l m learned) s sound h = part_permitted (section_stage m) 1 (λ s. Secures l m s) (section_permitted m) s sound h
lookup_permitted (LayingLinkto y) s sound h = record { there = holder_there y s sound h.knows; may = (tt, lays_linkto y s sound h.knows) }
lookup_permitted (Ending m x) s sound h = part_permitted (release_stage m) 0 (λ s. Answers m x s) (release_permitted m) s sound h

-- ---- what others leave

-- what the tree has at a name
pub still_same :
    (l : Location) (a : Answer) (s t : Scene) → t.history.tree ≡ s.history.tree → IsStillSo l a s
    → IsStillSo l a t
still_same l (answer.Dir g) s t same h = ap (λ (p : Tree). p.names (entry_at l)) same ∙ h
still_same l (answer.File f) s t same h = tt
still_same l (answer.Made g) s t same h = tt
still_same l answer.Done s t same h = tt
still_same l (answer.Fault e) s t same h = tt

-- an answer that was right stays so
pub answered_stable : (x : Answered) (s t : Scene) → IsAnswered x s → Rely s t → IsAnswered x t
answered_stable x s t h o = record {
  told = may_answer_as_stable (call.Lookup x.location.directory x.location.name) x.finish s t h.told o;
  place = h.place;
  apart = h.apart;
  still = if_alone_stable (IsStillSo x.location x.finish.answer) (λ a b same. still_same x.location x.finish.answer a b same.tree) s t h.still o;
  deeds = o.mine.deeds ∙ h.deeds;
}

-- and memory may be used still
pub room_stable :
    (l : Location) (p : Prepared) (s t : Scene) → IsRoom l p s → Rely s t → IsRoom l p t
room_stable l p s t h o = record { scope = h.scope; can = can_begin_stable p s t h.can o }

seeks_stable :
    (l : Location) (p : Prepared) (b : BrickNo) (s t : Scene) → Seeks l p b s → Rely s t
    → Seeks l p b t
seeks_stable l p b s t h o = record { waits = room_stable l p s t h.waits o; within = h.within }

answers_stable :
    (m : Release) (x : Answered) (s t : Scene) → Answers m x s → Rely s t → Answers m x t
answers_stable m x s t h o = record { right = answered_stable x s t h.right o; scope = h.scope }

pub lookup_stable : (m : Lookup) → IsStable (lookup_stage m)
lookup_stable (Surveying l p b ranges) s t h o = seeks_stable l p b s t h o
lookup_stable (LookingAtHolder x p) s t h o = seeks_stable x.location p x.brick s t h o
lookup_stable (FollowingLinkto x p) s t h o = seeks_stable x.location p x.brick s t h o
lookup_stable (LookingEverywhere l m learned) s t h o = part_stable (section_stage m) 1 (λ s. Secures l m s) (section_stable m) (λ a b k v. record { scope = k.scope; fault = k.fault; deeds = v.mine.deeds ∙ k.deeds }) s t h o
lookup_stable (LayingLinkto y) s t h o = record { held = held_at_stable y.location y.held s t h.held o; file = h.file; holds = h.holds; apart = h.apart; copied = h.copied }
lookup_stable (Ending m x) s t h o = part_stable (release_stage m) 0 (λ s. Answers m x s) (release_stable m) (answers_stable m x) s t h o
