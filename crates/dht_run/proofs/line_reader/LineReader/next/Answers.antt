use Rattle.std.proofs.Common.{◌≡◌, ◌≢◌, [], false, true, length, refl, ap, ◌∙◌, arith}
use Rattle.dht_run.specs.declared.source.Got.TheVariants.{Bytes}
use Rattle.dht_run.specs.LineReader.{input_of, HasNoNewline, IsFirstNewline, IsWithinLimits, HasNoLine}
use Rattle.dht_run.proofs.LineReaderLaws.{no_line_at, no_line_full, no_line_held, no_line_told, no_line_end, input_of_end, is_at_end, one_line_still, input_of_more, cuts_line}
use Rattle.dht_run.proofs.line_reader.LineReader.next.Goals as goal

pub returns-then-not-allows-clause-no_line : goal.returns-then-not-allows-clause-no_line
returns-then-not-allows-clause-no_line g c =
    let past : ¬ IsWithinLimits c.newline.new.self.cut c.in-Some.len = λ within. let e : false ≡ true = c.if-not-allows.ensures.1 within in cc in
    let first : IsFirstNewline c.newline.new.self.pending c.in-Some.len = rw c.newline.ensures.same c.in-Some.ensures.found in
    λ _. no_line_told c.args.self.now c.newline.new.self _ (g.S.Source.left c.loop-len.source)
    (rw c.newline.ensures.same c.loop-len.invariant.input) (rw c.newline.ensures.same c.loop-len.invariant.cut)
    (no_line_at _ _ _ first past)

pub returns-then-not-allows-clause-no_line_held : goal.returns-then-not-allows-clause-no_line_held
returns-then-not-allows-clause-no_line_held g c =
    let past : ¬ IsWithinLimits c.newline.new.self.cut c.in-Some.len = λ within. let e : false ≡ true = c.if-not-allows.ensures.1 within in cc in
    let first : IsFirstNewline c.newline.new.self.pending c.in-Some.len = rw c.newline.ensures.same c.in-Some.ensures.found in
    λ _. no_line_held _ _ (no_line_at _ _ _ first past)

pub returns-in-Some-clause-line : goal.returns-in-Some-clause-line
returns-in-Some-clause-line g c =
    let cut = c.cut_line.ensures in
    λ _. cuts_line c.args.self.now c.newline.new.self c.cut_line.new.self _ (g.S.Source.left c.loop-len.source) c.in-Some.len
    (rw c.newline.ensures.same c.loop-len.invariant.input) (rw c.newline.ensures.same c.loop-len.invariant.cut)
    (rw c.newline.ensures.same c.in-Some.ensures.found) (c.if-not-allows.ensures.0 refl) cut.line cut.pending cut.cut

pub returns-then-is_full-clause-no_line : goal.returns-then-is_full-clause-no_line
returns-then-is_full-clause-no_line g c =
    let one : HasNoNewline c.newline.new.self.pending = rw c.newline.ensures.same c.in_default.ensures.none in
    λ _. no_line_told c.args.self.now c.newline.new.self _ (g.S.Source.left c.loop-len.source)
    (rw c.newline.ensures.same c.loop-len.invariant.input) (rw c.newline.ensures.same c.loop-len.invariant.cut)
    (no_line_full c.newline.new.self one (c.if-is_full.ensures.0 refl))

pub returns-then-is_full-clause-no_line_held : goal.returns-then-is_full-clause-no_line_held
returns-then-is_full-clause-no_line_held g c =
    let full = c.if-is_full.ensures.0 refl in
    let one : HasNoNewline c.newline.new.self.pending = rw c.newline.ensures.same c.in_default.ensures.none in
    λ _. no_line_end _ _ (λ none. omega (arith, full.0, ap length none)) one

pub returns-in-Bytes-eq0-clause-end : goal.returns-in-Bytes-eq0-clause-end
returns-in-Bytes-eq0-clause-end g c =
    let fill = c.in-Bytes-eq0.ensures in
    let input : input_of c.newline.new.self (g.S.Source.left c.loop-len.source) ≡ input_of c.args.self.now (g.S.Source.left c.args.source.now) = rw c.newline.ensures.same c.loop-len.invariant.input in
    let none = c.if-is_empty.ensures.0 refl in
    λ _. (
      is_at_end _ (input_of_end c.args.self.now c.fill.new.self _ (g.S.Source.left c.fill.new.source)
          (input_of_more _ _ _ _ _ fill.adds ∙ input) (fill.end (ap Bytes c.in-Bytes-eq0.field-0-test)) (λ bytes. bytes ≡ []) none),
      none,
    )

pub returns-in-Bytes-eq0-2-clause-no_line : goal.returns-in-Bytes-eq0-2-clause-no_line
returns-in-Bytes-eq0-2-clause-no_line g c =
    let fill = c.in-Bytes-eq0.ensures in
    let before : HasNoNewline c.newline.new.self.pending = rw c.newline.ensures.same c.in_default.ensures.none in
    let one : HasNoNewline c.fill.new.self.pending = one_line_still _ _ _ _ _ fill.adds c.in-Bytes-eq0.field-0-test before in
    let input : input_of c.newline.new.self (g.S.Source.left c.loop-len.source) ≡ input_of c.args.self.now (g.S.Source.left c.args.source.now) = rw c.newline.ensures.same c.loop-len.invariant.input in
    let more : c.fill.new.self.pending ≢ [] = λ none. let no : false ≡ true = c.if-is_empty.ensures.1 none in cc in
    λ _. input_of_end c.args.self.now c.fill.new.self _ (g.S.Source.left c.fill.new.source)
    (input_of_more _ _ _ _ _ fill.adds ∙ input) (fill.end (ap Bytes c.in-Bytes-eq0.field-0-test)) (HasNoLine c.args.self.now.cut)
    (no_line_end _ _ more one)

pub returns-in-Bytes-eq0-2-clause-no_line_held : goal.returns-in-Bytes-eq0-2-clause-no_line_held
returns-in-Bytes-eq0-2-clause-no_line_held g c =
    let before : HasNoNewline c.newline.new.self.pending = rw c.newline.ensures.same c.in_default.ensures.none in
    let more : c.fill.new.self.pending ≢ [] = λ none. let no : false ≡ true = c.if-is_empty.ensures.1 none in cc in
    λ _. no_line_end _ _ more (one_line_still _ _ _ _ _ c.in-Bytes-eq0.ensures.adds c.in-Bytes-eq0.field-0-test before)
