pub mod Cycles
pub mod Words
pub mod Blocks
pub mod DaviesMeyerLaws
