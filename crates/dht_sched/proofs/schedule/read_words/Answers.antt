use Rattle.std.proofs.Common.{rules, ◌≡◌, ◌≢◌, codes, arith, inl, inr}
use Rattle.std.proofs.lemmas.Slice.Eq.{text_from_reads}
use Rattle.dht_sched.proofs.LineLemmas.{kind_words, no_first, reads_or}
use Rattle.dht_sched.proofs.schedule.read_words.Goals as goal

pub returns-in-volume-clause-reads : goal.returns-in-volume-clause-reads
returns-in-volume-clause-reads c =
    let kind : c.in-Some.kind.now ≡ codes "volume" = text_from_reads c.in-Some.kind.now (codes "volume") (omega arith) (omega arith, (omega arith, (omega arith, (omega arith, (omega arith, (omega arith, tt)))))) in
    rw (kind_words c.args.words c.next.new.self c.in-Some.kind.now (codes "volume") c.in-Some.ensures.steps kind) c.read_volume.ensures

pub returns-in-volume-clause-memory : goal.returns-in-volume-clause-memory
returns-in-volume-clause-memory c = λ memory.
    let kind : c.in-Some.kind.now ≡ codes "volume" = text_from_reads c.in-Some.kind.now (codes "volume") (omega arith) (omega arith, (omega arith, (omega arith, (omega arith, (omega arith, (omega arith, tt)))))) in
    (c.next.new.self, inl (kind_words c.args.words c.next.new.self c.in-Some.kind.now (codes "volume") c.in-Some.ensures.steps kind))

pub returns-in-remount-clause-reads : goal.returns-in-remount-clause-reads
returns-in-remount-clause-reads c =
    let kind : c.in-Some.kind.now ≡ codes "remount" = text_from_reads c.in-Some.kind.now (codes "remount") (omega arith) (omega arith, (omega arith, (omega arith, (omega arith, (omega arith, (omega arith, (omega arith, tt))))))) in
    rw (kind_words c.args.words c.next.new.self c.in-Some.kind.now (codes "remount") c.in-Some.ensures.steps kind) c.read_remount.ensures

pub returns-in-remount-clause-memory : goal.returns-in-remount-clause-memory
returns-in-remount-clause-memory c = λ memory.
    let kind : c.in-Some.kind.now ≡ codes "remount" = text_from_reads c.in-Some.kind.now (codes "remount") (omega arith) (omega arith, (omega arith, (omega arith, (omega arith, (omega arith, (omega arith, (omega arith, tt))))))) in
    (c.next.new.self, inr (inl (kind_words c.args.words c.next.new.self c.in-Some.kind.now (codes "remount") c.in-Some.ensures.steps kind)))

pub returns-in-call-clause-memory : goal.returns-in-call-clause-memory
returns-in-call-clause-memory c = λ memory.
    let kind : c.in-Some.kind.now ≡ codes "call" = text_from_reads c.in-Some.kind.now (codes "call") (omega arith) (omega arith, (omega arith, (omega arith, (omega arith, tt)))) in
    (c.next.new.self, inr (inr (kind_words c.args.words c.next.new.self c.in-Some.kind.now (codes "call") c.in-Some.ensures.steps kind)))

pub returns-in-step-clause-reads : goal.returns-in-step-clause-reads
returns-in-step-clause-reads c =
    let kind : c.in-Some.kind.now ≡ codes "step" = text_from_reads c.in-Some.kind.now (codes "step") (omega arith) (omega arith, (omega arith, (omega arith, (omega arith, tt)))) in
    let words = kind_words c.args.words c.next.new.self c.in-Some.kind.now (codes "step") c.in-Some.ensures.steps kind in
    rw words (reads_or _ c.read_step.result c.ok_or-in-step.result c.ok_or-in-step.ensures.value c.read_step.ensures)

pub returns-in-down-clause-reads : goal.returns-in-down-clause-reads
returns-in-down-clause-reads c =
    let kind : c.in-Some.kind.now ≡ codes "down" = text_from_reads c.in-Some.kind.now (codes "down") (omega arith) (omega arith, (omega arith, (omega arith, (omega arith, tt)))) in
    let words = kind_words c.args.words c.next.new.self c.in-Some.kind.now (codes "down") c.in-Some.ensures.steps kind in
    rw words (reads_or _ c.read_down.result c.ok_or-in-down.result c.ok_or-in-down.ensures.value c.read_down.ensures)

pub returns-in_default-kind-clause-reads : goal.returns-in_default-kind-clause-reads
returns-in_default-kind-clause-reads c =
    let kind = c.in-Some.kind.now in
    let volume : kind ≢ codes "volume" = search rules in
    let remount : kind ≢ codes "remount" = search rules in
    let call : kind ≢ codes "call" = search rules in
    let step : kind ≢ codes "step" = search rules in
    let down : kind ≢ codes "down" = search rules in
    let up : kind ≢ codes "up" = search rules in
    let die : kind ≢ codes "die" = search rules in
    no_first c.args.words c.next.new.self kind c.in-Some.ensures.steps volume remount call step down up die
