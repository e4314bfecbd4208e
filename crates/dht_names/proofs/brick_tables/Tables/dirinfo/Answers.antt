use Rattle.std.proofs.Common.{◌∙◌, ap, sym, refl}
use Rattle.dht_brick.specs.Contents.{store_of}
use Rattle.dht_brick.specs.Outcome.{in_dir, Do}
use Rattle.dht_brick.specs.Looks.{info_of}
use Rattle.dht_brick.specs.declared.replies.Given.TheVariants as given
use Rattle.dht_names.specs.Kept.{tables_in}
use Rattle.dht_names.proofs.brick_tables.Tables.dirinfo.Goals as goal

pub returns-in-Ok : goal.returns-in-Ok
returns-in-Ok c = λ f.
    let s = store_of (tables_in c.args.self.now) f in
    record {
      served =
          ap (λ o. in_dir o (λ r. Do (given.Dirinfo (info_of s c.args.dir r)) s)) (sym c.in-Some.ensures)
          ∙ ap (λ i. Do (given.Dirinfo i) s) (sym (c.in-Ok.ensures f));
      bricks = refl;
    }
