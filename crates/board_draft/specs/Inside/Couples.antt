-- The first rail that names badly, rail by rail.
use Rattle.std.specs.Prelude.{ℕ, Bool, ◌||◌, Option, None, Some, if◌then◌else◌}
use Rattle.board_graph.specs.Order.{is_taken}
use Rattle.board_draft.specs.declared.couples.Named.{Named}
use Rattle.board_draft.specs.Links.{has_twice}

-- rail r names what is no rail, itself, or a rail twice
abbrev pub is_bad : ℕ → Named → Bool
is_bad r named = named.lacking || is_taken named.rails r || has_twice named.rails

-- the first rail that names badly, with one rail more
abbrev pub first_bad : Option ℕ → ℕ → Named → Option ℕ
first_bad None r named = if is_bad r named then Some r else None
first_bad (Some bad) r named = Some bad
