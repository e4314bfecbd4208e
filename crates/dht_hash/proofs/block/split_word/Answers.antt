use Rattle.std.proofs.Common.{rules, ◌≡◌, arith}
use Rattle.std.specs.Prelude.{fold}
use Rattle.dht_hash.specs.DaviesMeyer.{take_in}
use Rattle.dht_hash.proofs.Words.{words-short, words-whole}
use Rattle.dht_hash.proofs.block.split_word.Goals as goal

pub returns-in-Some : goal.returns-in-Some
returns-in-Some c = λ n.
    let split = c.in-Some.ensures.cases in
    let whole = words-whole c.args.pad n c.args.bytes.now (omega arith) in
    cc

pub returns-in-None : goal.returns-in-None
returns-in-None c = λ n.
    let short = words-short c.args.pad n c.args.bytes.now c.in-None.ensures.cases in
    let folded : c.fold-word.result ≡ fold take_in c.args.pad c.args.bytes.now = search rules in
    cc
