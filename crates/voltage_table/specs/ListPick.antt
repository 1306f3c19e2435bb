-- A pick, as the pair of its selector and its value.
use Rattle.std.specs.Prelude.{ℕ}
use Rattle.voltage_table.specs.declared.list_pick.ListPick.{ListPick}

-- the pair (selector, µV) of a pick
abbrev pub pair_of : ListPick → ℕ × ℕ
pair_of p = (p.sel, p.uv)
