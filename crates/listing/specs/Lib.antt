pub mod Listing
pub mod Promises
pub mod LineLaws
pub mod CallLaws
pub mod SizeLaws
pub mod InputLaws
