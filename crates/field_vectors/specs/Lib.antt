pub mod Vectors
pub mod VectorLaws
pub mod Report
