use Rattle.std.proofs.Common.{sym, subst}
use Rattle.std.specs.Prelude.{None}
use Rattle.dht_section.specs.declared.section.Section.{Section}
use Rattle.dht_fileops.proofs.CreateSteps.{first_knows, first_starts}
use Rattle.dht_fileops.specs.Create.{StartsCreate, create_stage, target_of}
use Rattle.dht_fileops.specs.declared.create.Create.TheVariants.{Securing}
use Rattle.dht_fileops.proofs.create.Create.begin.Goals as goal

pub returns-clause-knows : goal.returns-clause-knows
returns-clause-knows c = λ s h. subst (λ (m : Section). (create_stage (Securing (target_of c.args.bricks c.args.directory c.args.name c.args.origin) None c.args.room m)).knows s) (sym c.in_ok-section.ensures) (first_knows c.args.bricks c.args.directory c.args.name c.args.origin c.args.room s h)

pub returns-clause-starts : goal.returns-clause-starts
returns-clause-starts c = subst (λ (m : Section). StartsCreate c.args.bricks c.args.directory (create_stage (Securing (target_of c.args.bricks c.args.directory c.args.name c.args.origin) None c.args.room m))) (sym c.in_ok-section.ensures) (first_starts c.args.bricks c.args.directory c.args.name c.args.origin c.args.room)
