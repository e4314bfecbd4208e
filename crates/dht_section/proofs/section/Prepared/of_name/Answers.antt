use Rattle.dht_section.proofs.FirstSection.{prepared_ok}
use Rattle.dht_section.proofs.section.Prepared.of_name.Goals as goal

pub returns : goal.returns
returns c = prepared_ok _ c.new.result c.args.bricks c.args.directory c.args.mode c.args.name c.in_ok-want.want c.in_ok-want.ensures.dirs c.in_ok-want.ensures.names c.new.ensures.scope c.new.ensures.looks
