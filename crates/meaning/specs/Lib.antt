pub mod Values
pub mod ValueLaws
