pub mod Values
pub mod Pick
pub mod LinearRange
pub mod RangeTable
pub mod Laws
