use Rattle.std.proofs.Common.{◌≡◌, ◌≤◌, List, sym, ap, ◌∙◌, subst}
use Rattle.std.specs.Prelude.{Option}
use Rattle.dht_xattr.specs.declared.range.Range.{Range}
use Rattle.dht_resolve.proofs.LookupSteps.{again_ready}
use Rattle.dht_resolve.specs.Lookup.{lookup_again, lookup_stage, lookup_steps, lookup_with}
use Rattle.dht_resolve.specs.declared.lookup.Lookup.{Lookup}
use Rattle.dht_resolve.proofs.lookup.Lookup.again.Goals as goal

pub returns-clause-steps : goal.returns-clause-steps
returns-clause-steps c =
    let l = c.args.location in
    let same : c.with_room.result ≡ lookup_again c.args.room l c.args.read = c.with_room.ensures ∙ ap (λ (o : Option (List (Option Range))). lookup_with c.args.room l o c.args.read) c.as_ref.ensures.value in
    λ s h. subst (λ (m : Lookup). (lookup_stage m).variant ≤ lookup_steps l c.args.read) (sym same) (again_ready c.args.room l c.args.read s h).variant
