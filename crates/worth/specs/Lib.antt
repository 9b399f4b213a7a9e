pub mod Keeps
pub mod Worth
pub mod KeepsLaws
pub mod PeriodicLaws
pub mod LowerLaws
