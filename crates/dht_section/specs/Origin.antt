-- Where the gfids of new files and directories come from.
use Rattle.std.specs.Prelude.{ℕ, ◌^◌, ◌<◌, ◌≡◌}
use Rattle.dht_types.specs.Gfid.{made}
use Rattle.dht_types.specs.declared.identifiers.Gfid.{Gfid}
use Rattle.dht_section.specs.Scene.{Scene}
use Rattle.dht_section.specs.declared.origin.Origin.{Origin}

-- the gfid that the call of this origin makes, with this brick as its home
abbrev pub origin_gfid : Origin → ℕ → Gfid
origin_gfid o b = made o.run o.client o.call b

-- the scene's call is that of this origin
pub record ComesFrom (o : Origin) (s : Scene) : Type 0 where
  pub run : o.run ≡ s.history.run
  pub client : o.client ≡ s.who
  pub number : o.call ≡ s.mine.number
  pub small : o.call.0 < 2 ^ 64
