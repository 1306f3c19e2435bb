-- What is asked of a board's gaps, of its values while it is suspended, and of its loads.
pub use Rattle.board_checks.specs.GapFault.{gap_fault}
pub use Rattle.board_checks.specs.Asleep.{pairs_of, suspend_fault}
pub use Rattle.board_checks.specs.Loads.{load_fault}
