pub mod Unlink
pub mod UnlinkLaws
pub mod Create
pub mod CreateLaws
