pub mod Circuit
pub mod CircuitLaws
pub mod Promises
pub mod EmitLaws
pub mod AceCircuits
pub mod Once
