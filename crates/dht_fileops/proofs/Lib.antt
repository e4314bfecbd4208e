pub mod UnlinkSteps
pub mod CreateSteps
