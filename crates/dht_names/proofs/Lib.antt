pub mod CountLemmas
pub mod RangeLemmas
pub mod SlotLemmas
pub mod DirLemmas
pub mod RowLemmas
pub mod TableCounts
