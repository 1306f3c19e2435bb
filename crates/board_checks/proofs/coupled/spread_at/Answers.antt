use Rattle.std.proofs.Common.{◌≡◌, ℕ, Option, Some, sym, ap, ◌∙◌}
use Rattle.std.specs.Prelude.{slice_get, unwrap_or, slice_index}
use Rattle.std.specs.Option.{option_map_or}
use Rattle.std.proofs.lemmas.Option.{unwrap_or-slice_get}
use Rattle.board.specs.declared.board.Board.{Board}
use Rattle.board_checks.specs.Rails.{spread_at}
use Rattle.board_checks.proofs.coupled.spread_at.Goals as goal

told : (board : Board) (r group : ℕ) (spread : Option ℕ) → slice_get board.graph.group r ≡ Some group → slice_get board.spread group ≡ spread → unwrap_or spread 0 ≡ spread_at board r
told board r group spread in_group is =
    ap (λ o. unwrap_or o 0) (sym is) ∙ unwrap_or-slice_get board.spread group 0 ∙ ap (λ o. option_map_or (slice_index board.spread) o 0) (sym in_group)

pub returns-in-Some : goal.returns-in-Some
returns-in-Some c =
    c.unwrap_or.ensures
    ∙ told c.args.board.now c.args.r c.in-Some.group.now c.copied.result (sym c.in-Some.ensures)
    (ap (λ n. slice_get c.args.board.now.spread n) (sym c.from.ensures) ∙ sym c.get-in-Some.ensures ∙ sym c.copied.ensures)
