use Rattle.std.proofs.Common.{◌≡◌, arith}
use Rattle.dht_hash.specs.DaviesMeyer.{dm, pad_of}
use Rattle.dht_hash.proofs.Blocks.{absorb_all-block, absorb_all-last}
use Rattle.dht_hash.proofs.dm_hash.Goals as goal

pub loop-bytes-preserved : goal.loop-bytes-preserved
loop-bytes-preserved c =
    let split = c.in-Some.ensures.cases in
    let pad = c.from_le_bytes-pad.result in
    let whole = absorb_all-block pad c.loop-bytes.rest.now c.loop-bytes.state (omega arith) in
    cc

pub returns : goal.returns
unfolding dm
returns c =
    let pad = c.from_le_bytes-pad.result in
    let last = absorb_all-last pad c.loop-bytes.rest.now c.loop-bytes.state c.in_default.ensures.cases in
    let pad_is : pad ≡ pad_of c.args.name.now = omega (arith, c.from_le_bytes-pad.ensures) in
    cc
