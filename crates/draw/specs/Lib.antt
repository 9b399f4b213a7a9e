pub mod Drawing
pub mod Calls
pub mod Promises
pub mod LineLaws
pub mod SizeLaws
pub mod CallLaws
