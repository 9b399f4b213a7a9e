pub mod FileDrawing
pub mod Promises
pub mod FileDrawingLaws
