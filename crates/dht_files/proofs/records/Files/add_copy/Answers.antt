use Rattle.std.proofs.Common.{sym}
use Rattle.dht_brick.specs.Contents.{store_of}
use Rattle.dht_files.specs.Records.{files_in}
use Rattle.dht_files.proofs.RecordLemmas.{placed}
use Rattle.dht_files.proofs.ServeLemmas.{from_err, given_back}
use Rattle.dht_files.proofs.records.Files.add_copy.Goals as goal

pub put_back-requires : goal.put_back-requires
put_back-requires g c = placed (files_in c.args.self.now) (files_in c.exchange.new.self) c.args.file c.args.kept c.in-Ok.ensures.ok

pub returns-then-is_err-clause-row : goal.returns-then-is_err-clause-row
returns-then-is_err-clause-row g c =
    let tables = from_err c.put_copy.result (sym c.if-is_err.ensures.value) c.put_copy.ensures.err in
    let files = given_back (files_in c.args.self.now) (files_in c.exchange.new.self) (files_in c.put_back.new.self) c.args.file c.args.kept c.in-Ok.before c.in-Ok.ensures.before c.in-Ok.ensures.ok c.put_back.ensures in
    λ i. store_of (tables i) (files i)
