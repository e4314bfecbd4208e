use Rattle.std.proofs.Common.{sym, subst}
use Rattle.dht_section.specs.declared.section.Prepared.{Prepared}
use Rattle.dht_resolve.specs.Cache.{layout_at}
use Rattle.dht_resolve.specs.Lookup.{first_lookup}
use Rattle.dht_resolve.specs.declared.lookup.Lookup.{Lookup}
use Rattle.dht_dirops.proofs.RmdirNotes.{first_knows}
use Rattle.dht_dirops.specs.Rmdir.{rmdir_stage}
use Rattle.dht_dirops.specs.declared.rmdir.Rmdir.TheVariants.{Resolving}
use Rattle.dht_dirops.proofs.rmdir.Rmdir.begin.Goals as goal

pub returns-clause-knows : goal.returns-clause-knows
returns-clause-knows c =
    let l = c.args.location in
    let known = layout_at c.args.cache.now l.directory in
    λ s h. subst (λ (m : Lookup). (rmdir_stage (Resolving m c.in_ok-pair.pair)).knows s) (sym c.in_ok-lookup.ensures.first)
    (subst (λ (p : Prepared). (rmdir_stage (Resolving (first_lookup l known) p)).knows s) (sym c.in_ok-pair.ensures)
    (first_knows l.bricks l.directory l.name known s h))
