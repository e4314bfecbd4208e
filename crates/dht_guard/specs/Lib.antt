pub mod Cells
pub mod FileTable
pub mod FileTableFacts
