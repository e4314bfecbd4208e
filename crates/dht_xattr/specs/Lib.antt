pub mod Range
pub mod Layout
pub mod Faults
pub mod Plan
