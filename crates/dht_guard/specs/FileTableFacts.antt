-- What is said of the table of the requests on a file's record.
use Rattle.std.specs.Prelude.{◌≡◌}
use Rattle.dht_guard.specs.declared.records.State.{State}
use Rattle.dht_guard.specs.declared.cells.Cell.{Cell}
use Rattle.dht_guard.specs.declared.cells.Cell.TheVariants.{Refuse, Keep, To, Test}
use Rattle.dht_guard.specs.declared.file_table.FileRow.{FileRow}
use Rattle.dht_guard.specs.declared.file_table.FileRow.TheVariants.{MakeStandby, StandbyWrite, CopyWrite, ClearDirty, DropStandby, Promote}

-- a request with this cell may change the record to this state
abbrev pub LeadsTo : Cell → State → Type 0
LeadsTo Refuse state = ⊥
LeadsTo Keep state = ⊥
LeadsTo (To next) state = next ≡ state
LeadsTo (Test next) state = next ≡ state

-- the request makes a standby, fills it, commits it or gives it up
abbrev pub IsForStandby : FileRow → Type 0
IsForStandby MakeStandby = Unit {0}
IsForStandby StandbyWrite = Unit {0}
IsForStandby CopyWrite = Unit {0}
IsForStandby ClearDirty = Unit {0}
IsForStandby DropStandby = Unit {0}
IsForStandby Promote = Unit {0}
IsForStandby _ = ⊥
