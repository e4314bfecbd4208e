-- Where the gfids above another one begin, in a map by gfids.
use Rattle.std.specs.Prelude.{Option, Some, None}
use Rattle.std.specs.declared.ops.Bound.{Bound}
use Rattle.std.specs.declared.ops.Bound.TheVariants.{Excluded, Unbounded}
use Rattle.dht_types.specs.declared.identifiers.Gfid.{Gfid}

abbrev pub gfids_from : Option Gfid → Bound Gfid
gfids_from None = Unbounded
gfids_from (Some after) = Excluded after
