-- The lines of a request that was answered: its step line, and
-- the tree line of the step that it did; or its wait line.
use Rattle.std.specs.Prelude.{Option, Some, None, List, [], ◌∷◌}
use Rattle.dht_types.specs.declared.identifiers.ClientNo.{ClientNo}
use Rattle.dht_types.specs.declared.identifiers.CallNo.{CallNo}
use Rattle.dht_types.specs.declared.calls.TreeStep.{TreeStep}
use Rattle.dht_types.specs.declared.lines.Line.{Line}
use Rattle.dht_types.specs.declared.lines.Line.TheVariants.{Stepped, Waited, Tree}
use Rattle.dht_brick.specs.Kinds.{kind_of, reply_kind}
use Rattle.dht_brick.specs.declared.replies.Reply.{Reply}
use Rattle.dht_brick.specs.declared.replies.Reply.TheVariants.{Wait}
use Rattle.dht_section.specs.declared.machine.Ask.{Ask}
use Rattle.dht_section.specs.Moves.{step_of}

abbrev pub tree_lines : CallNo → Option TreeStep → List Line
tree_lines k None = []
tree_lines k (Some step) = Tree k step ∷ []

-- the step line of a request that was answered so
abbrev pub step_line : CallNo → ClientNo → Ask → Reply → Line
step_line k c a r = Stepped k c a.brick (kind_of a.request) (reply_kind r)

abbrev pub request_lines : CallNo → ClientNo → Ask → Reply → List Line
request_lines k c a (Wait holder) = Waited k c a.brick holder ∷ []
request_lines k c a r = step_line k c a r ∷ tree_lines k (step_of a.brick.0 a.request r)
