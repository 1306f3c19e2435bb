pub mod Appended
pub mod BoardCalls
pub mod CallFronts
pub mod CallWords
pub mod Cuts
pub mod EventLines
pub mod FaultLines
pub mod Names
pub mod Numerals
pub mod OneSpelling
pub mod Options
pub mod Parts
pub mod Prefixes
pub mod RowHeads
pub mod RowLines
pub mod Separators
pub mod Spaces
pub mod Spellings
pub mod Walks
mod WorkedCalls
mod WorkedFits
pub mod WorkedTexts
pub mod WriteLines
