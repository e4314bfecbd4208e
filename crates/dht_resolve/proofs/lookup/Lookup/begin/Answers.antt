use Rattle.std.proofs.Common.{◌≡◌, ◌≤◌, sym, ap, ◌∙◌, subst}
use Rattle.std.specs.Prelude.{None}
use Rattle.std.specs.Option.{option_copied}
use Rattle.dht_resolve.proofs.LookupSteps.{first_knows, first_steps}
use Rattle.dht_resolve.specs.Cache.{layout_at}
use Rattle.dht_resolve.specs.Lookup.{first_lookup, lookup_stage, lookup_steps, lookup_with}
use Rattle.dht_resolve.specs.declared.lookup.Lookup.{Lookup}
use Rattle.dht_section.specs.declared.section.Prepared.{Prepared}
use Rattle.dht_resolve.proofs.lookup.Lookup.begin.Goals as goal

pub returns-clause-knows : goal.returns-clause-knows
returns-clause-knows c =
    let l = c.args.location in
    let same : c.with_room.result ≡ first_lookup l (layout_at c.args.cache.now l.directory) =
    c.with_room.ensures ∙ (ap (λ (p : Prepared). lookup_with p l (option_copied c.get.result) None) c.in_ok-room.ensures ∙ ap (first_lookup l) c.get.ensures.layout) in
    λ s h. subst (λ (m : Lookup). (lookup_stage m).knows s) (sym same) (first_knows l (layout_at c.args.cache.now l.directory) s h)

pub returns-clause-steps : goal.returns-clause-steps
returns-clause-steps c =
    let l = c.args.location in
    let same : c.with_room.result ≡ first_lookup l (layout_at c.args.cache.now l.directory) =
    c.with_room.ensures ∙ (ap (λ (p : Prepared). lookup_with p l (option_copied c.get.result) None) c.in_ok-room.ensures ∙ ap (first_lookup l) c.get.ensures.layout) in
    subst (λ (m : Lookup). (lookup_stage m).variant ≤ lookup_steps l (layout_at c.args.cache.now l.directory)) (sym same) (first_steps l (layout_at c.args.cache.now l.directory))
