pub mod Values
pub mod ListPick
pub mod VoltList
pub mod ListFault
pub mod Laws
