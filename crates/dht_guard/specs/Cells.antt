-- Which cell of a matrix a request and a state have.
use Rattle.std.specs.Prelude.{ℕ, List, []}
use Rattle.std.specs.List.{slice_index_or}
use Rattle.dht_guard.specs.declared.cells.Cell.{Cell}
use Rattle.dht_guard.specs.declared.cells.Cell.TheVariants.{Refuse}

-- the cell in a row and a column, each numbered from 0, and a refusal outside the matrix
abbrev pub cell_at : List (List Cell) → ℕ → ℕ → Cell
cell_at rows row column = slice_index_or (slice_index_or rows row []) column Refuse
