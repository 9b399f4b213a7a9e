pub mod Terms
pub mod Arrays
pub mod TermLaws
pub mod Split
pub mod SplitLaws
