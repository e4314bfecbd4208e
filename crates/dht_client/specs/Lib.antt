pub mod Program
pub mod ProgramLaws
pub mod Client
pub mod ClientLaws
