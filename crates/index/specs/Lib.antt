pub mod Index
pub mod IndexLaws
pub mod WalkLaws
pub mod NodeIndexLaws
pub mod Promises
