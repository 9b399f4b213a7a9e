pub mod File
pub mod Promises
pub mod FileLaws
pub mod CutLaws
pub mod NearLaws
