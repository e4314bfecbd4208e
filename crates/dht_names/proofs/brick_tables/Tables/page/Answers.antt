use Rattle.std.proofs.Common.{◌∙◌, ap, sym, refl}
use Rattle.dht_brick.specs.Contents.{store_of}
use Rattle.dht_brick.specs.Looks.{page_of}
use Rattle.dht_brick.specs.Outcome.{Do}
use Rattle.dht_brick.specs.declared.replies.Given.TheVariants as given
use Rattle.dht_names.specs.Kept.{tables_in, dirs_in}
use Rattle.std.specs.FinMap.{get}
use Rattle.dht_names.proofs.RowLemmas.{in_dir-known}
use Rattle.dht_names.proofs.brick_tables.Tables.page.Goals as goal

pub returns-in-Ok : goal.returns-in-Ok
returns-in-Ok c = λ f.
    let s = store_of (tables_in c.args.self.now) f in
    record {
      served =
          in_dir-known (get (dirs_in c.args.self.now.dirs) c.args.dir) (Do (given.Page (page_of s.slots c.args.dir c.args.after.now)) s) (sym c.contains.ensures ∙ c.if-not-contains.false)
          ∙ ap (λ p. Do (given.Page p) s) (sym c.in-Ok.ensures);
      bricks = refl;
    }
