pub mod DirectoryLemmas
pub mod HexLemmas
pub mod LineLemmas
pub mod NameLemmas
pub mod NumberLemmas
pub mod PrintLemmas
pub mod WordLemmas
