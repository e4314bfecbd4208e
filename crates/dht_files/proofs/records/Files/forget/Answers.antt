use Rattle.std.proofs.Common.{rules, ◌∙◌, ap}
use Rattle.std.specs.Prelude.{Some, not}
use Rattle.std.proofs.lemmas.Map.Made.{filter_same_pairs}
use Rattle.dht_brick.specs.Parts.{is_forward}
use Rattle.dht_files.specs.Records.{files_in}
use Rattle.dht_files.proofs.RecordLemmas.{files_of, forgotten-at}
use Rattle.dht_files.proofs.records.Files.forget.Goals as goal

pub returns : goal.returns
unfolding files_in
returns c =
    ap files_of (filter_same_pairs _ (λ e. not (is_forward (Some e.1))) _ (λ k v b w f' t. search rules) _ _ c.retain.ensures.filtered)
    ∙ forgotten-at c.args.self.now.records.entries c.retain.ensures.was_ordered
