pub mod Calls
pub mod Promises
pub mod RecordLaws
pub mod ValueStepLaws
pub mod CallLaws
