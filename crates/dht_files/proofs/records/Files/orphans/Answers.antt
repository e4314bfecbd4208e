use Rattle.std.proofs.Common.{rules, arith, ◌∙◌, ◌≡◌, ◌≤◌, ◌<◌, ◌-◌, ◌++◌, ◌∷◌, [], length, ap, sym, subst, map, append-nil}
use Rattle.std.specs.Prelude.{None, filter, take}
use Rattle.std.proofs.lemmas.List.{length-append}
use Rattle.dht_brick.proofs.TableLemmas.{gfid_total, gfid_exact, entries-plain}
use Rattle.std.specs.BTreeMap.Range.{entries_between}
use Rattle.std.specs.declared.ops.Bound.TheVariants.{Unbounded}
use Rattle.dht_brick.specs.Contents.{gfid_cmp, store_of}
use Rattle.dht_brick.specs.Looks.{is_orphan, orphans_of}
use Rattle.dht_files.specs.Records.{files_in}
use Rattle.dht_files.proofs.PageLemmas.{filled_more, nothing_left, full_page, filter_yes, filter_no, orphans_within}
use Rattle.dht_files.proofs.records.Files.orphans.Goals as goal

pub loop-file-init : goal.loop-file-init
loop-file-init g c =
    let es = c.args.self.now.records.entries in
    let test = is_orphan (store_of (g.S.Slots.tables c.args.slots.now) (files_in c.args.self.now)) None in
    let items = c.new-each.ensures.items in (
      subst (λ zs. length zs ≤ 256) (sym items) (omega arith),
      ap (λ zs. zs ++ take (256 - length zs) (map (λ e. e.0) (filter test c.into_iter-file-iterator.result))) items
          ∙ ap (λ zs. take 256 (map (λ e. e.0) (filter test zs))) (c.into_iter-file-iterator.ensures.into_iter_gives ∙ c.range-file-items.ensures.between tt ∙ ap (λ b. entries_between gfid_cmp b Unbounded es) c.gfids_from.ensures),
    )

pub loop-file-preserved-in-Continue-1 : goal.loop-file-preserved-in-Continue-1
loop-file-preserved-in-Continue-1 g c =
    let test = is_orphan (store_of (g.S.Slots.tables c.args.slots.now) (files_in c.args.self.now)) None in
    let xs = c.loop-file.each.items in
    let pushed = c.in_ok-push.ensures.items in
    let room : length xs < 256 = search rules in
    let rest = map (λ e. e.0) (filter test c.next.new.self) in
    let passes = filter_yes test (c.in-Some.file.now, c.in-Some.record.now) c.next.new.self (sym (c.if-is_orphan.ensures (files_in c.args.self.now))) in (
      subst (λ zs. length zs ≤ 256) (sym pushed) (omega (arith, length-append xs (c.in-Some.file.now ∷ []), room)),
      ap (λ zs. zs ++ take (256 - length zs) rest) pushed ∙ filled_more 256 xs c.in-Some.file.now rest room
          ∙ ap (λ zs. xs ++ take (256 - length xs) (map (λ e. e.0) zs)) (sym passes)
          ∙ ap (λ zs. xs ++ take (256 - length xs) (map (λ e. e.0) (filter test zs))) (sym c.in-Some.ensures.steps) ∙ c.loop-file.invariant.1,
    )

pub loop-file-preserved : goal.loop-file-preserved
loop-file-preserved g c =
    let test = is_orphan (store_of (g.S.Slots.tables c.args.slots.now) (files_in c.args.self.now)) None in
    let xs = c.loop-file.each.items in
    let fails = filter_no test (c.in-Some.file.now, c.in-Some.record.now) c.next.new.self (sym (c.if-is_orphan.ensures (files_in c.args.self.now))) in (
      c.loop-file.invariant.0,
      ap (λ zs. xs ++ take (256 - length xs) (map (λ e. e.0) zs)) (sym fails)
          ∙ ap (λ zs. xs ++ take (256 - length xs) (map (λ e. e.0) (filter test zs))) (sym c.in-Some.ensures.steps) ∙ c.loop-file.invariant.1,
    )

pub returns-then-len-eq-PAGE_SIZE : goal.returns-then-len-eq-PAGE_SIZE
unfolding files_in orphans_of
returns-then-len-eq-PAGE_SIZE g c =
    let test = is_orphan (store_of (g.S.Slots.tables c.args.slots.now) (files_in c.args.self.now)) None in
    let xs = c.loop-file.each.items in
    let full : length xs ≡ 256 = search rules in
    c.new.ensures ∙ sym (full_page 256 xs (map (λ e. e.0) (filter test c.loop-file.file-iterator)) full) ∙ c.loop-file.invariant.1
    ∙ ap (λ zs. take 256 (map (λ e. e.0) zs)) (sym (orphans_within (store_of (g.S.Slots.tables c.args.slots.now) (files_in c.args.self.now)) c.args.after c.args.self.now.records.entries))
    ∙ ap (λ zs. take 256 (map (λ e. e.0) (filter (is_orphan (store_of (g.S.Slots.tables c.args.slots.now) (files_in c.args.self.now)) c.args.after) zs))) (sym (entries-plain gfid_total gfid_exact c.args.self.now.records.entries c.range-file-items.ensures.ordered))

pub returns : goal.returns
unfolding files_in orphans_of
returns g c =
    let test = is_orphan (store_of (g.S.Slots.tables c.args.slots.now) (files_in c.args.self.now)) None in
    let xs = c.loop-file.each.items in
    let left = map (λ e. e.0) (filter test c.loop-file.file-iterator) in
    c.new-2.ensures ∙ sym (append-nil xs) ∙ ap (λ zs. xs ++ zs) (sym (nothing_left (256 - length xs) left (ap (λ zs. map (λ e. e.0) (filter test zs)) c.in-None.ensures.steps.0))) ∙ c.loop-file.invariant.1
    ∙ ap (λ zs. take 256 (map (λ e. e.0) zs)) (sym (orphans_within (store_of (g.S.Slots.tables c.args.slots.now) (files_in c.args.self.now)) c.args.after c.args.self.now.records.entries))
    ∙ ap (λ zs. take 256 (map (λ e. e.0) (filter (is_orphan (store_of (g.S.Slots.tables c.args.slots.now) (files_in c.args.self.now)) c.args.after) zs))) (sym (entries-plain gfid_total gfid_exact c.args.self.now.records.entries c.range-file-items.ensures.ordered))
