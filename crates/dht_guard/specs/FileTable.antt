-- The table of the requests on a file's record, a line for each request.
use Rattle.dht_guard.specs.declared.records.State.{State}
use Rattle.dht_guard.specs.declared.records.State.TheVariants.{Absent, Live, Moving, Standby, Forward}
use Rattle.dht_guard.specs.declared.cells.Cell.{Cell}
use Rattle.dht_guard.specs.declared.cells.Cell.TheVariants.{Refuse, Keep, To, Test}
use Rattle.dht_guard.specs.declared.file_table.FileRow.{FileRow}
use Rattle.dht_guard.specs.declared.file_table.FileRow.TheVariants.{Read, Write, LockedWrite, Truncate, LockedTruncate, Stat, Mark, Unmark, MakeStandby, StandbyWrite, CopyWrite, ClearDirty, DropStandby, Demote, Promote, Drop}

-- the cell in a state, where these are the cells from Absent to Forward
abbrev pub cells : Cell → Cell → Cell → Cell → Cell → State → Cell
cells absent live moving standby forward Absent = absent
cells absent live moving standby forward Live = live
cells absent live moving standby forward Moving = moving
cells absent live moving standby forward Standby = standby
cells absent live moving standby forward Forward = forward

-- what a request may do to a record that is Absent, Live, Moving, Standby or Forward
abbrev pub file_cell_of : FileRow → State → Cell
file_cell_of Read = cells Refuse Keep Keep Refuse Refuse
file_cell_of Write = cells Refuse (To Live) Refuse Refuse Refuse
file_cell_of LockedWrite = cells Refuse (To Live) (To Moving) Refuse Refuse
file_cell_of Truncate = cells Refuse (To Live) Refuse Refuse Refuse
file_cell_of LockedTruncate = cells Refuse (To Live) (To Moving) Refuse Refuse
file_cell_of Stat = cells Refuse Keep Keep Refuse Refuse
file_cell_of Mark = cells Refuse (Test Moving) Refuse Refuse Refuse
file_cell_of Unmark = cells Refuse Refuse (To Live) Refuse Refuse
file_cell_of MakeStandby = cells (Test Standby) Refuse Refuse (Test Standby) (Test Standby)
file_cell_of StandbyWrite = cells Refuse Refuse Refuse (Test Standby) Refuse
file_cell_of CopyWrite = cells Refuse Refuse Refuse (Test Standby) Refuse
file_cell_of ClearDirty = cells Refuse Refuse Refuse (To Standby) Refuse
file_cell_of DropStandby = cells Refuse Refuse Refuse (To Forward) Refuse
file_cell_of Demote = cells Refuse Refuse (Test Forward) Refuse Refuse
file_cell_of Promote = cells Refuse Refuse Refuse (Test Live) Refuse
file_cell_of Drop = cells Refuse (Test Absent) Refuse Refuse Refuse
