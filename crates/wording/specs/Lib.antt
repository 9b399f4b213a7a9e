pub mod Kinds
pub mod KindLaws
pub mod Refused
pub mod RefusedLaws
