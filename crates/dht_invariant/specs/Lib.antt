pub mod Makes
pub mod New
pub mod Remount
pub mod Touches
pub mod Transition
pub mod Locality
pub mod Laws
