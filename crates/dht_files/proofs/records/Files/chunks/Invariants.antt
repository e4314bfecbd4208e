use Rattle.std.proofs.Common.{◌≡◌, ◌+◌, ◌*◌, ◌^◌, ◌≤◌, map, length}
use Rattle.std.specs.Prelude.{sum_by}
use Rattle.dht_brick.specs.Events.{chunks_of}
use Rattle.dht_files.proofs.records.Files.chunks.Given as goal

-- the chunks so far, and those of the records that are left, each of few
abbrev pub invariant-loop-record : goal.invariant-loop-record
invariant-loop-record l =
    (l.total + sum_by chunks_of (map (λ e. e.1) l.record-iterator) ≡ sum_by chunks_of (map (λ e. e.1) l.self.records.entries)) ×
    (l.total + length l.record-iterator * 2 ^ 48 ≤ length l.self.records.entries * 2 ^ 48)
