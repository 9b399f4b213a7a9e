pub mod Signed
pub mod SignedLaws
