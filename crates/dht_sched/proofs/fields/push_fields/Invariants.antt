use Rattle.std.proofs.Common.{◌≡◌, ◌++◌, take}
use Rattle.std.specs.List.{flat_map}
use Rattle.dht_sched.specs.Printing.{field_words, behind_spaces}
use Rattle.dht_sched.proofs.fields.push_fields.Given as goal

abbrev pub invariant-loop-field : goal.invariant-loop-field
invariant-loop-field l = l.out.items ≡ l.initial.out.items ++ behind_spaces (flat_map field_words (take l.field-index l.fields))
