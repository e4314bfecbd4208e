use Rattle.std.proofs.Common.{sym, subst}
use Rattle.dht_section.specs.declared.section.Section.{Section}
use Rattle.dht_dirops.proofs.MkdirSteps.{first_knows, first_starts}
use Rattle.dht_dirops.specs.Mkdir.{StartsMkdir, first_round, mkdir_stage}
use Rattle.dht_dirops.specs.declared.mkdir.Mkdir.TheVariants.{Securing}
use Rattle.dht_dirops.proofs.mkdir.Mkdir.begin.Goals as goal

pub returns-clause-knows : goal.returns-clause-knows
returns-clause-knows c = λ s h. subst (λ (m : Section). (mkdir_stage (Securing (first_round c.args.bricks c.args.directory c.args.name c.args.origin c.args.room) m)).knows s) (sym c.in_ok-section.ensures) (first_knows c.args.bricks c.args.directory c.args.name c.args.origin c.args.room s h)

pub returns-clause-starts : goal.returns-clause-starts
returns-clause-starts c = subst (λ (m : Section). StartsMkdir c.args.bricks c.args.directory (mkdir_stage (Securing (first_round c.args.bricks c.args.directory c.args.name c.args.origin c.args.room) m))) (sym c.in_ok-section.ensures) (first_starts c.args.bricks c.args.directory c.args.name c.args.origin c.args.room)
