pub mod Ring
pub mod Solver
pub mod Identities
pub mod Residue
pub mod Pair
pub mod First
pub mod Power
pub mod Sums
