-- What the table of dht_guard says of the rows of requests about a file's record.
use Rattle.std.specs.Prelude.{ℕ, ◌≡◌, List}
use Rattle.dht_types.specs.declared.identifiers.Gfid.{Gfid}
use Rattle.dht_guard.specs.FileTable.{file_cell_of}
use Rattle.dht_guard.specs.declared.cells.Cell.{Cell}
use Rattle.dht_guard.specs.declared.cells.Cell.TheVariants as cell
use Rattle.dht_guard.specs.declared.records.State.{State}
use Rattle.dht_brick.specs.Contents.{Store, file}
use Rattle.dht_brick.specs.FileRows.{file_row, state_refusal}
use Rattle.dht_brick.specs.Kinds.{row_of}
use Rattle.dht_brick.specs.Named.{file_of}
use Rattle.dht_brick.specs.Outcome.{Outcome, Do, Refuse, Await}
use Rattle.dht_brick.specs.Parts.{state_of}
use Rattle.dht_brick.specs.declared.replies.Given.{Given}
use Rattle.dht_brick.specs.declared.replies.Why.{Why}
use Rattle.dht_brick.specs.declared.requests.FileRequest.{FileRequest}

-- the cell of a request, by the state of its file's record
abbrev pub cell_of : FileRequest → Store → Cell
cell_of q s = file_cell_of (row_of q) (state_of (file s (file_of q)))

-- the state in which a cell leaves a record that is in a state
abbrev pub left_in : Cell → State → State
left_in cell.Refuse state = state
left_in cell.Keep state = state
left_in (cell.To next) state = next
left_in (cell.Test next) state = next

-- what is done leaves the record of the file in this state
abbrev pub Leaves : State → Gfid → Outcome Store → Type 0
Leaves state f (Do given new) = state_of (file new f) ≡ state
Leaves state f (Refuse why) = Unit {0}
Leaves state f (Await holder) = Unit {0}

abbrev pub IsCarriedOut : Outcome Store → Type 0
IsCarriedOut outcome = (given : Given) × ((new : Store) × (outcome ≡ Do given new))

-- a cell that refuses names the state, one that keeps
-- changes nothing, and one without a test always changes
abbrev pub Obeys : Cell → Store → Why → Outcome Store → Type 0
Obeys cell.Refuse s why outcome = outcome ≡ Refuse why
Obeys cell.Keep s why outcome = (given : Given) × (outcome ≡ Do given s)
Obeys (cell.To next) s why outcome = IsCarriedOut outcome
Obeys (cell.Test next) s why outcome = Unit {0}

-- the rows are those of the table
abbrev pub LeavesAsTheTable : Type 0
LeavesAsTheTable = (bricks : List (List ℕ)) (q : FileRequest) (s : Store)
    → Leaves (left_in (cell_of q s) (state_of (file s (file_of q)))) (file_of q)
    (file_row bricks q s)

abbrev pub ObeysTheTable : Type 0
ObeysTheTable = (bricks : List (List ℕ)) (q : FileRequest) (s : Store)
    → Obeys (cell_of q s) s (state_refusal (file s (file_of q))) (file_row bricks q s)
