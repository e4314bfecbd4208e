pub mod Counts
pub mod Kept
pub mod Served
pub mod Slots
