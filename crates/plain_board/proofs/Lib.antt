pub mod Enumerated
pub mod Played
pub mod PlayedBoards
pub mod Rows
pub mod Throughout
pub mod Untied
pub mod AloneLeast
pub mod Run
pub mod ValuesTo
pub mod AlonePath
pub mod MovedAlone
pub mod RailMoves
pub mod Grown
pub mod Requests
pub mod SetMoves
pub mod KeptUse
pub mod ChangedRequest
pub mod OwnHandle
pub mod KeptSet
pub mod KeptOpen
pub mod CallLaws
pub mod Switches
pub mod ChainEnds
pub mod SwitchedOn
pub mod SwitchedOff
pub mod ChangedRow
pub mod KeptSwitched
pub mod KeptClose
pub mod GrownLists
pub mod CallKeeps
pub mod KeptEnable
pub mod KeptDisable
pub mod KeptRelease
pub mod SwitchMoves
pub mod HandleCallLaws
pub mod HandleMoves
pub mod SwitchedVotes
pub mod OnInTurn
pub mod TwoRails
mod WorkedCoupled
mod WorkedDemo
mod WorkedEvents
mod WorkedFew
mod WorkedHandles
mod WorkedHistory
mod WorkedInv
mod WorkedKept
mod WorkedLaw
mod WorkedLoads
mod WorkedSeen
mod WorkedStops
mod WorkedSupplied
mod WorkedSuspended
mod WorkedSwitched
mod WorkedUntied
