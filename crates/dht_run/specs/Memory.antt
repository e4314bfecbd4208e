-- What the sources and sinks in memory tell.
use Rattle.std.specs.Prelude.{◌≡◌, ◌<◌, ℕ, List, length, drop}
use Rattle.dht_run.specs.declared.faults.FaultPlan.{FaultPlan}
use Rattle.dht_run.specs.declared.source.MemSource.{MemSource}
use Rattle.dht_run.specs.declared.sink.MemSink.{MemSink}

-- the bytes that a source in memory has left
abbrev pub source_left : MemSource → List ℕ
source_left s = drop s.read s.bytes.items

-- which reads of a source in memory are to fail, and how many did
abbrev pub source_plan : MemSource → FaultPlan
source_plan s = s.plan

-- the bytes that a sink in memory took
abbrev pub sink_taken : MemSink → List ℕ
sink_taken s = s.bytes.items

-- how many bytes a sink in memory takes in all
abbrev pub sink_room : MemSink → ℕ
sink_room s = s.room

-- which writes of a sink in memory are to fail, and how many did
abbrev pub sink_plan : MemSink → FaultPlan
sink_plan s = s.plan

-- a sink in memory has no room left for a piece that is not empty
abbrev pub IsFullFor : MemSink → List ℕ → Type 0
IsFullFor s piece = (0 < length piece) × (s.room ≡ length s.bytes.items)
