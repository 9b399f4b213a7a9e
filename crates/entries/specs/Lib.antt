pub mod Entries
pub mod EntryLaws
pub mod KeyIndex
pub mod KeyIndexLaws
