pub mod Mkdir
pub mod MkdirLaws
pub mod Rmdir
pub mod RmdirLaws
