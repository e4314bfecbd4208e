pub mod ProgramSteps
pub mod ClientSteps
