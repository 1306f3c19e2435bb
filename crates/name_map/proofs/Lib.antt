pub mod KeptLemmas
pub mod KeyLemmas
pub mod ListedLemmas
pub mod ShelfLemmas
pub mod StateLemmas
pub mod WorkedNames
