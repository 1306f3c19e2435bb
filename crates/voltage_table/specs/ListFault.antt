-- Which fault a list of values is refused for.
use Rattle.std.specs.Prelude.{ℕ, ◌==◌, nat_lt, if◌then◌else◌, List, length, Option, None, Some}
use Rattle.voltage_table.specs.declared.list_fault.ListFault.{ListFault}
use Rattle.voltage_table.specs.declared.list_fault.ListFault.TheVariants.{Empty, TooMany}

-- the fault of a list of values for a table of at most n
abbrev pub first_fault : ℕ → List ℕ → Option ListFault
first_fault n xs =
    if length xs == 0 then Some Empty
    else if nat_lt n (length xs) then Some (TooMany (length xs))
    else None
