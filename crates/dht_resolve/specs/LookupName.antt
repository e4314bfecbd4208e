-- A lookup is of one name from its beginning to its end.
use Rattle.std.specs.Prelude.{◌≡◌}
use Rattle.dht_section.specs.Stages.{MatchTurn}
use Rattle.dht_section.specs.declared.location.Location.{Location}
use Rattle.dht_section.specs.declared.machine.Turn.{Turn}
use Rattle.dht_resolve.specs.declared.lookup.Lookup.{Lookup}
use Rattle.dht_resolve.specs.declared.lookup.Lookup.TheVariants.{Surveying, LookingAtHolder, FollowingLinkto, LookingEverywhere, LayingLinkto, Ending}
use Rattle.dht_resolve.specs.declared.lookup.Resolved.{Resolved}

-- the name that it looks up
abbrev pub lookup_location : Lookup → Location
lookup_location (Surveying l p b ranges) = l
lookup_location (LookingAtHolder x p) = x.location
lookup_location (FollowingLinkto x p) = x.location
lookup_location (LookingEverywhere l m learned) = l
lookup_location (LayingLinkto y) = y.location
lookup_location (Ending m x) = x.location

-- it stays the same
abbrev pub KeepsLocation : Lookup → Turn Lookup Resolved → Type 0
KeepsLocation m turn =
    MatchTurn turn (λ n. lookup_location n ≡ lookup_location m)
    (λ d. d.answered.location ≡ lookup_location m)
