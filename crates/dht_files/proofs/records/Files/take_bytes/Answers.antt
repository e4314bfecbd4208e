use Rattle.dht_files.specs.Records.{files_in}
use Rattle.dht_files.proofs.RecordLemmas.{placed, placed_again}
use Rattle.dht_files.proofs.records.Files.take_bytes.Goals as goal

pub returns-in-Some-Standby-clause-kept : goal.returns-in-Some-Standby-clause-kept
returns-in-Some-Standby-clause-kept c = placed (files_in c.args.self.now) (files_in c.replace.new.self) c.args.file _ c.replace.ensures.after

pub returns-in-Some-Standby-clause-others : goal.returns-in-Some-Standby-clause-others
returns-in-Some-Standby-clause-others c = placed_again (files_in c.args.self.now) (files_in c.replace.new.self) c.args.file _ c.replace.ensures.after

pub returns-in-Some-Live-clause-kept : goal.returns-in-Some-Live-clause-kept
returns-in-Some-Live-clause-kept c = placed (files_in c.args.self.now) (files_in c.replace.new.self) c.args.file _ c.replace.ensures.after

pub returns-in-Some-Live-clause-others : goal.returns-in-Some-Live-clause-others
returns-in-Some-Live-clause-others c = placed_again (files_in c.args.self.now) (files_in c.replace.new.self) c.args.file _ c.replace.ensures.after

pub returns-in-Some-Live-2-clause-kept : goal.returns-in-Some-Live-2-clause-kept
returns-in-Some-Live-2-clause-kept c = placed (files_in c.args.self.now) (files_in c.replace.new.self) c.args.file _ c.replace.ensures.after

pub returns-in-Some-Live-2-clause-others : goal.returns-in-Some-Live-2-clause-others
returns-in-Some-Live-2-clause-others c = placed_again (files_in c.args.self.now) (files_in c.replace.new.self) c.args.file _ c.replace.ensures.after

pub returns-in-Some-Forward-clause-kept : goal.returns-in-Some-Forward-clause-kept
returns-in-Some-Forward-clause-kept c = placed (files_in c.args.self.now) (files_in c.replace.new.self) c.args.file _ c.replace.ensures.after

pub returns-in-Some-Forward-clause-others : goal.returns-in-Some-Forward-clause-others
returns-in-Some-Forward-clause-others c = placed_again (files_in c.args.self.now) (files_in c.replace.new.self) c.args.file _ c.replace.ensures.after
