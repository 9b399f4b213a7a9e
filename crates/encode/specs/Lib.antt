pub mod Encode
pub mod EncodeLaws
pub mod CountLaws
pub mod Calls
pub mod Promises
pub mod WriteLaws
pub mod CallLaws
pub mod EmitLaws
