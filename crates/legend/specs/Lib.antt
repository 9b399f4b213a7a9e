pub mod Lines
pub mod ReadLaws
pub mod LineLaws
pub mod SameLaws
pub mod Legend
