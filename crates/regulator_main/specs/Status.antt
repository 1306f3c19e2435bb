-- The exit status of the program.
use Rattle.std.specs.Prelude.{ℕ}
use Rattle.regulator_main.specs.declared.status.Status.{Status}
use Rattle.regulator_main.specs.declared.status.Status.TheVariants.{Done, Memory, Words, ReadFault, WriteFault, SessionRefused, LoadFault}

abbrev pub code_of : Status → ℕ
code_of Done = 0
code_of Memory = 1
code_of Words = 2
code_of ReadFault = 3
code_of (WriteFault kept) = 4
code_of (SessionRefused fault) = 5
code_of (LoadFault chip reg) = 6
