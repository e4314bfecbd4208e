-- What is left where a record was given back.
use Rattle.std.proofs.Common.{◌≡◌, sym, ap, subst, ◌∙◌}
use Rattle.std.specs.Prelude.{Option, true, T, Result, Ok, Err, OnErr}
use Rattle.std.specs.Result.{is_err}
use Rattle.std.specs.FinMap.{get, insert}
use Rattle.dht_types.specs.declared.identifiers.Gfid.{Gfid}
use Rattle.dht_types.specs.declared.stored.Record.{Record}
use Rattle.dht_brick.specs.Contents.{Files}
use Rattle.dht_files.specs.Records.{with_record}
use Rattle.dht_files.proofs.RecordLemmas.{undone}

-- what was given back leaves everything as it was
pub given_back :
    (m one two : Files) (f : Gfid) (v : Record) (before : Option Record) → before ≡ get m f
    → one ≡ insert m f v → two ≡ with_record one f before → two ≡ m
given_back m one two f v before was put back = back ∙ ap (λ x. with_record x f before) put ∙ ap (with_record (insert m f v) f) was ∙ undone m f v

pub from_err : {A E P : Type 0} (r : Result A E) → is_err r ≡ true → OnErr r P → P
from_err (Ok x) e h = absurd (subst T (sym e) tt)
from_err (Err x) e h = h
