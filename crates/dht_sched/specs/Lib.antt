pub mod Spelling
pub mod Reading
pub mod Schedule
pub mod Transcript
pub mod Printing
pub mod Commands
pub mod Dump
pub mod Kinds
