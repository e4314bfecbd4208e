use Rattle.std.proofs.Common.{arith}
use Rattle.dht_sched.proofs.LineLemmas.{read_text, read_malformed, read_only, too_long, short_words}
use Rattle.dht_sched.proofs.schedule.read_line.Goals as goal

pub returns-then-line-ge-LINE_LIMIT-clause-malformed :
    goal.returns-then-line-ge-LINE_LIMIT-clause-malformed
returns-then-line-ge-LINE_LIMIT-clause-malformed c = λ bad. too_long c.args.line.now (omega arith)

pub returns-then-line-ge-LINE_LIMIT-clause-only : goal.returns-then-line-ge-LINE_LIMIT-clause-only
returns-then-line-ge-LINE_LIMIT-clause-only c = λ e h same. absurd (too_long c.args.line.now (omega arith) e h same)

pub read_words-requires : goal.read_words-requires
read_words-requires c = short_words c.args.line.now _ c.of.ensures (omega arith)

pub returns-clause-text : goal.returns-clause-text
returns-clause-text c = read_text c.args.line.now c.read_words.result (rw c.of.ensures at c.read_words.ensures.reads)

pub returns-clause-malformed : goal.returns-clause-malformed
returns-clause-malformed c = read_malformed c.args.line.now c.read_words.result (rw c.of.ensures at c.read_words.ensures.reads)

pub returns-clause-only : goal.returns-clause-only
returns-clause-only c = read_only c.args.line.now c.read_words.result (rw c.of.ensures at c.read_words.ensures.reads) (rw c.of.ensures at c.read_words.ensures.memory)

pub returns-clause-memory : goal.returns-clause-memory
returns-clause-memory c = rw c.of.ensures at c.read_words.ensures.memory
