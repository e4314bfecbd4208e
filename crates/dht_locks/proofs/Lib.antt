pub mod AwaitedLemmas
pub mod HoldLemmas
pub mod LockLemmas
