pub mod Promises
pub mod Within
pub mod BasisLaws
