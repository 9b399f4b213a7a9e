pub mod Words
pub mod Residues
pub mod Squaring
