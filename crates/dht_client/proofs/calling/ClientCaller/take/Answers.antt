use Rattle.std.proofs.Common.{refl, sym, ◌∙◌, ap, subst}
use Rattle.std.specs.Prelude.{is_some}
use Rattle.dht_section.proofs.PartSteps.{goes_as}
use Rattle.dht_client.specs.Client.{client_stage, running_looks_up, running_stage}
use Rattle.dht_section.specs.Stages.{EndsIn, GoesOn, Served, Stage}
use Rattle.dht_resolve.specs.Found.{ShowsDir, ShowsFile}
use Rattle.dht_client.specs.Program.{on_way, program_ended}
use Rattle.dht_client.proofs.ProgramSteps.{call_ends, call_goes_on}
use Rattle.dht_client.proofs.calling.ClientCaller.take.Goals as goal

pub returns-in-Go-clause-moves : goal.returns-in-Go-clause-moves
returns-in-Go-clause-moves c = λ s t h.
    let old = client_stage c.args.self.now in
    let p = c.in-Some.field-0.program in
    let q = c.in-Go.program in
    let was = ap running_stage (sym c.take.ensures.value ∙ c.in-Some.is) in (
      ap is_some c.replace.ensures.after,
      subst (λ (x : Stage). GoesOn old x c.args.reply t) (sym (ap running_stage c.replace.ensures.after))
          (goes_as old (on_way p) (on_way q) (on_way q) c.args.reply c.args.at s t was refl
          (call_goes_on p q c.args.reply c.args.at s t (c.in-Go.ensures.moves s t) (c.in-Go.ensures.way s t)) h),
    )

pub returns-in-Done-clause-moves : goal.returns-in-Done-clause-moves
returns-in-Done-clause-moves c = λ s t h.
    let p = c.in-Some.field-0.program in
    let was = ap running_stage (sym c.take.ensures.value ∙ c.in-Some.is) in
    let served = subst (λ (x : Stage). Served x c.args.reply c.args.at s t) was h in
    let both = call_ends p c.in-Done.end c.args.reply c.args.at s t (c.in-Done.ensures.moves s t) (c.in-Done.ensures.way s t) served in (
      ap is_some c.take.ensures.after,
      subst (λ (x : Stage). EndsIn x (program_ended c.in-Done.end) t) (sym was) both.0,
      both.1,
    )

pub returns-in-Go-clause-found : goal.returns-in-Go-clause-found
returns-in-Go-clause-found c = λ v f h. absurd (c.in-Go.ensures.found (sym (ap running_looks_up (sym c.take.ensures.value ∙ c.in-Some.is)) ∙ v) f (subst (λ (x : Stage). ShowsFile x c.args.reply f) (ap running_stage (sym c.take.ensures.value ∙ c.in-Some.is)) h))

pub returns-in-Go-clause-folder : goal.returns-in-Go-clause-folder
returns-in-Go-clause-folder c = λ v g h. absurd (c.in-Go.ensures.folder (sym (ap running_looks_up (sym c.take.ensures.value ∙ c.in-Some.is)) ∙ v) g (subst (λ (x : Stage). ShowsDir x c.args.reply g) (ap running_stage (sym c.take.ensures.value ∙ c.in-Some.is)) h))
