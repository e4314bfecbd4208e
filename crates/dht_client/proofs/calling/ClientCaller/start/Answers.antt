use Rattle.std.proofs.Common.{◌∙◌, ap, sym, subst, arith}
use Rattle.std.specs.Prelude.{Option, is_some, length}
use Rattle.dht_types.specs.Calls.{directory_of}
use Rattle.dht_client.specs.Client.{client_layout, first_claim, running_fault, running_learned, running_looks_up, running_stage}
use Rattle.dht_client.specs.Program.{is_lookup, on_way, program_stage, program_fault, program_layout}
use Rattle.dht_client.specs.declared.calling.Running.{Running}
use Rattle.dht_client.specs.declared.program.Program.{Program}
use Rattle.dht_client.proofs.ClientSteps.{first_asked, first_claimed, first_copy, first_fault, first_knows, first_learned, first_steps, first_verb, first_way, steps_cost}
use Rattle.dht_client.proofs.calling.ClientCaller.start.Goals as goal

pub returns-in-Ok-clause-knows : goal.returns-in-Ok-clause-knows
returns-in-Ok-clause-knows c = λ s b.
    let known = first_knows c.args.self.now c.args.weights.now c.args.run c.args.call c.args.what.now s c.in-Ok.ensures.small c.requires.few (sym c.in_ok-subject.ensures.refusal) b in
    let way = first_way c.args.self.now c.args.weights.now c.args.run c.args.call c.args.what.now s b in
    let k = subst (λ (p : Program). (on_way p).knows s) (sym c.in-Ok.ensures.program) (known, way) in
    subst (λ (o : Option Running). (running_stage o).knows s) (sym c.replace.ensures.after) k

pub returns-in-Ok-clause-variant : goal.returns-in-Ok-clause-variant
returns-in-Ok-clause-variant c =
    let o = ap (λ (o : Option Running). (running_stage o).variant) c.replace.ensures.after in
    let e = ap (λ (p : Program). (program_stage p).variant) c.in-Ok.ensures.program in
    let f = first_steps c.args.self.now c.args.weights.now c.args.run c.args.call c.args.what.now in
    let l = steps_cost (is_some (client_layout c.args.self.now (directory_of c.args.what.now))) (length c.args.weights.now) c.args.what.now in
    omega arith

pub returns-in-Ok-clause-copy : goal.returns-in-Ok-clause-copy
returns-in-Ok-clause-copy c = ap (λ (o : Option Running). (running_stage o).claims.copy) c.replace.ensures.after ∙ (ap (λ (p : Program). (program_stage p).claims.copy) c.in-Ok.ensures.program ∙ first_copy c.args.self.now c.args.weights.now c.args.run c.args.call c.args.what.now)

pub returns-in-Ok-clause-asks : goal.returns-in-Ok-clause-asks
returns-in-Ok-clause-asks c = ap (λ (o : Option Running). (running_stage o).asks) c.replace.ensures.after ∙ (ap (λ (p : Program). (program_stage p).asks) c.in-Ok.ensures.program ∙ first_asked c.args.self.now c.args.weights.now c.args.run c.args.call c.args.what.now)

pub returns-in-Ok-clause-claims : goal.returns-in-Ok-clause-claims
returns-in-Ok-clause-claims c =
    let o = c.replace.ensures.after in
    let e = c.in-Ok.ensures.program in
    let k = ap (λ (p : Program). (program_stage p).claims) e ∙ (first_claimed c.args.self.now c.args.weights.now c.args.run c.args.call c.args.what.now ∙ ap (λ (p : Program). first_claim (program_stage p).asks) (sym e)) in
    ap (λ (o : Option Running). (running_stage o).claims) o ∙ (k ∙ ap (λ (o : Option Running). first_claim (running_stage o).asks) (sym o))

pub returns-in-Ok-clause-steps : goal.returns-in-Ok-clause-steps
returns-in-Ok-clause-steps c =
    let o = ap (λ (o : Option Running). (running_stage o).variant) c.replace.ensures.after in
    let e = ap (λ (p : Program). (program_stage p).variant) c.in-Ok.ensures.program in
    let f = first_steps c.args.self.now c.args.weights.now c.args.run c.args.call c.args.what.now in
    omega arith

pub returns-in-Ok-clause-learned : goal.returns-in-Ok-clause-learned
returns-in-Ok-clause-learned c = ap running_learned c.replace.ensures.after ∙ (ap program_layout c.in-Ok.ensures.program ∙ first_learned c.args.self.now c.args.weights.now c.args.run c.args.call c.args.what.now)

pub returns-in-Ok-clause-fault : goal.returns-in-Ok-clause-fault
returns-in-Ok-clause-fault c = ap running_fault c.replace.ensures.after ∙ (ap program_fault c.in-Ok.ensures.program ∙ first_fault c.args.self.now c.args.weights.now c.args.run c.args.call c.args.what.now)

pub returns-in-Ok-clause-verb : goal.returns-in-Ok-clause-verb
returns-in-Ok-clause-verb c = ap running_looks_up c.replace.ensures.after ∙ (ap is_lookup c.in-Ok.ensures.program ∙ first_verb c.args.self.now c.args.weights.now c.args.run c.args.call c.args.what.now)
