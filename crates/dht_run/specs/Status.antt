-- The statuses of the program.
use Rattle.std.specs.Prelude.{ℕ}
use Rattle.dht_run.specs.declared.ending.Ending.{Ending}
use Rattle.dht_run.specs.declared.ending.Ending.TheVariants.{Done, Usage, Malformed, SourceFailed, SinkFailed, OutOfMemory, Limit}

abbrev pub status_of : Ending → ℕ
status_of Done = 0
status_of Usage = 2
status_of Malformed = 3
status_of SourceFailed = 4
status_of SinkFailed = 5
status_of OutOfMemory = 6
status_of Limit = 7
