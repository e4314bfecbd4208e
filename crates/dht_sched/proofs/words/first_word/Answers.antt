use Rattle.std.proofs.Common.{sym}
use Rattle.dht_sched.proofs.WordLemmas.{words_of_space, words_of_none}
use Rattle.dht_sched.proofs.words.first_word.Goals as goal

pub returns-in-Some : goal.returns-in-Some
returns-in-Some c = words_of_space c.args.text.now c.in-Some.at (sym c.in-Some.ensures)

pub returns-in-None : goal.returns-in-None
returns-in-None c = words_of_none c.args.text.now (sym c.in-None.ensures)
