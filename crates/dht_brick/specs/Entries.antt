-- The entries of a journal, and how many more it takes without memory.
use Rattle.std.specs.Prelude.{ℕ, List}
use Rattle.dht_brick.specs.declared.journal.JournalEntry.{JournalEntry}

pub record Entries : Type 0 where
  pub each : List JournalEntry
  pub spare : ℕ
