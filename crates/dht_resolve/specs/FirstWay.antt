-- The way of a client's first lookup that is alone: the range of each brick is
-- read, and then the name's holder shows the file; or the name is not placed.
use Rattle.std.specs.Prelude.{◌+◌, ◌≤◌, ◌≡◌, Option, Some, List, length}
use Rattle.dht_types.specs.declared.calls.Answer.TheVariants.{File}
use Rattle.dht_types.specs.declared.identifiers.BrickNo.{BrickNo}
use Rattle.dht_types.specs.declared.identifiers.Gfid.{Gfid}
use Rattle.dht_xattr.specs.declared.range.Range.{Range}
use Rattle.dht_section.specs.Disk.{holder_of, ranges_below}
use Rattle.dht_section.specs.FirstLookup.{IsFirstLookup}
use Rattle.dht_section.specs.Location.{entry_at}
use Rattle.dht_section.specs.Scene.{Scene}
use Rattle.dht_section.specs.Truth.{Placed}
use Rattle.dht_section.specs.declared.location.Location.{Location}
use Rattle.dht_resolve.specs.declared.lookup.Answered.{Answered}
use Rattle.dht_resolve.specs.declared.lookup.Lookup.{Lookup}
use Rattle.dht_resolve.specs.declared.lookup.Lookup.TheVariants.{Surveying, LookingAtHolder, FollowingLinkto, LookingEverywhere, LayingLinkto, Ending}
use Rattle.dht_resolve.specs.declared.lookup.Sought.{Sought}

-- this holds if the call is its client's first lookup, of this name, and was alone so far
abbrev pub IfFirst : Location → (Scene → Type 0) → Scene → Type 0
IfFirst l P s = IsFirstLookup s.history s.mine (entry_at l) → P s

-- the bricks below this one have shown their ranges, which these are, each in one step
pub record HasRead (l : Location) (b : BrickNo) (ranges : List (Option Range)) (s : Scene)
    : Type 0 where
  pub steps : s.mine.steps ≤ b.0
  pub read : ranges ≡ ranges_below s.disk l.directory b.0

-- so did all bricks, and this one is the name's holder
pub record HasAimed (x : Sought) (s : Scene) : Type 0 where
  pub steps : s.mine.steps ≤ length s.history.weights
  pub holds : holder_of s.disk (entry_at x.location) ≡ Some x.brick.0

-- the name is not placed
abbrev pub IsElsewhere : Location → Scene → Type 0
IsElsewhere l s = Placed s.disk (entry_at l) → ⊥

-- what a lookup knows on its way
abbrev pub OnWay : Lookup → Scene → Type 0
OnWay (Surveying l p b ranges) s = IfFirst l (HasRead l b ranges) s
OnWay (LookingAtHolder x p) s = IfFirst x.location (HasAimed x) s
OnWay (FollowingLinkto x p) s = IfFirst x.location (IsElsewhere x.location) s
OnWay (LookingEverywhere l m learned) s = IfFirst l (IsElsewhere l) s
OnWay (LayingLinkto y) s = IfFirst y.location (IsElsewhere y.location) s
OnWay (Ending m x) s = IfFirst x.location (IsElsewhere x.location) s

-- and at its end: if it answers a file that is placed,
-- it took one step more than there are bricks at most
abbrev pub IsAtEnd : Answered → Scene → Type 0
IsAtEnd x s =
    (g : Gfid) → x.finish.answer ≡ File g → Placed s.disk (entry_at x.location)
    → IfFirst x.location (λ t. t.mine.steps ≤ length t.history.weights + 1) s
