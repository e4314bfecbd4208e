use Rattle.dht_hash.specs.DaviesMeyer.{words}
use Rattle.dht_hash.proofs.block.words.Goals as goal

pub returns : goal.returns
unfolding words
returns c =
    let first = c.split_word-first.ensures 3 in
    let second = c.split_word-second.ensures 2 in
    let third = c.split_word-third.ensures 1 in
    let fourth = c.split_word-fourth.ensures 0 in
    cc
