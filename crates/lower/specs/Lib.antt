pub mod Lower
pub mod Promises
pub mod FormLaws
pub mod CallLaws
