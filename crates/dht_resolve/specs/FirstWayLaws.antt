-- How long what is known on the way of a first lookup stays so.
use Rattle.std.proofs.Common.{◌≡◌, ◌∙◌, ℕ, sym, ap, arith, List}
use Rattle.std.specs.Prelude.{Option, length}
use Rattle.dht_types.specs.Gfid.{Entry}
use Rattle.dht_types.specs.declared.identifiers.Gfid.{Gfid}
use Rattle.dht_brick.specs.Contents.{Store, file}
use Rattle.dht_brick.specs.Parts.{is_live}
use Rattle.dht_hash.specs.DaviesMeyer.{dm}
use Rattle.dht_xattr.specs.Layout.{holder}
use Rattle.dht_xattr.specs.declared.range.Range.{Range}
use Rattle.dht_section.specs.Disk.{holder_of, ranges_below}
use Rattle.dht_section.specs.FirstLookup.{IsFirstLookup}
use Rattle.dht_section.specs.HealedLaws.{ranges_kept}
use Rattle.dht_section.specs.Location.{entry_at}
use Rattle.dht_section.specs.Rely.{Rely}
use Rattle.dht_section.specs.Scene.{Scene}
use Rattle.dht_section.specs.Truth.{Placed}
use Rattle.dht_section.specs.Whole.{StoresTheSame}
use Rattle.dht_section.specs.WholeLaws.{alone_same, same_dir, same_layout, same_slot}
use Rattle.dht_section.specs.declared.location.Location.{Location}
use Rattle.dht_resolve.specs.FirstWay.{HasAimed, HasRead, IfFirst, IsElsewhere, OnWay}
use Rattle.dht_resolve.specs.declared.lookup.Lookup.{Lookup}
use Rattle.dht_resolve.specs.declared.lookup.Lookup.TheVariants.{Surveying, LookingAtHolder, FollowingLinkto, LookingEverywhere, LayingLinkto, Ending}

-- ---- where nothing changed

-- the ranges that were read
pub same_below :
    (s t : Scene) (g : Gfid) (n : ℕ) → StoresTheSame s t
    → ranges_below t.disk g n ≡ ranges_below s.disk g n
same_below s t g n h = ranges_kept s.disk t.disk g (λ b. same_dir s t b g h) n

-- the holder of a name
pub same_holder :
    (s t : Scene) (e : Entry) → StoresTheSame s t → holder_of t.disk e ≡ holder_of s.disk e
same_holder s t e h = ap (λ (xs : List (Option Range)). holder xs (dm e.1)) (same_layout s t e.0 h)

-- and a name that is placed was placed
pub placed_before :
    (s t : Scene) (e : Entry) → StoresTheSame s t → Placed t.disk e → Placed s.disk e
placed_before s t e h p =
    let count = h.count in
    let there = p.there in
    record {
      brick = p.brick;
      there = omega arith;
      holds = sym (same_holder s t e h) ∙ p.holds;
      file = p.file;
      slot = sym (same_slot s t p.brick e h) ∙ p.slot;
      recorded = ap (λ (x : Store). is_live (file x p.file)) (sym (h.stores p.brick)) ∙ p.recorded;
      alone = λ b l ne. sym (same_slot s t b e h) ∙ p.alone b (omega arith) ne;
    }

-- ---- what others leave

-- what holds of a first lookup
first_stable :
    (l : Location) (P : Scene → Type 0) (s t : Scene) → (StoresTheSame s t → P s → P t)
    → IfFirst l P s → Rely s t → IfFirst l P t
first_stable l P s t stays h o now = stays (alone_same s t o now.alone) (h was_first)
  where
    was_first : IsFirstLookup s.history s.mine (entry_at l)
    was_first = record {
      looks_up = sym o.mine.call ∙ now.looks_up;
      first = sym o.mine.is_first ∙ now.first;
      alone = (o.still now.alone).before;
    }

elsewhere_stable :
    (l : Location) (s t : Scene) → IfFirst l (IsElsewhere l) s → Rely s t
    → IfFirst l (IsElsewhere l) t
elsewhere_stable l s t h o = first_stable l (IsElsewhere l) s t (λ same away p. away (placed_before s t (entry_at l) same p)) h o

pub way_stable :
    (m : Lookup) (s t : Scene) → OnWay m s → Rely s t → t.mine.steps ≡ s.mine.steps → OnWay m t
way_stable (Surveying l p b ranges) s t h o steps =
    first_stable l (HasRead l b ranges) s t
    (λ same k. (let few = k.steps in record {
      steps = omega arith;
      read = k.read ∙ sym (same_below s t l.directory b.0 same);
    })) h o
way_stable (LookingAtHolder x p) s t h o steps =
    first_stable x.location (HasAimed x) s t
    (λ same k. (let few = k.steps in let weights = ap length same.weights in record {
      steps = omega arith;
      holds = same_holder s t (entry_at x.location) same ∙ k.holds;
    })) h o
way_stable (FollowingLinkto x p) s t h o steps = elsewhere_stable x.location s t h o
way_stable (LookingEverywhere l m learned) s t h o steps = elsewhere_stable l s t h o
way_stable (LayingLinkto y) s t h o steps = elsewhere_stable y.location s t h o
way_stable (Ending m x) s t h o steps = elsewhere_stable x.location s t h o
