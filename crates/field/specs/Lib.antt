pub mod Table
pub mod Field
pub mod Generators
pub mod Fields
pub mod Numbers
pub mod NumberLaws
