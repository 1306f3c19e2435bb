use Rattle.std.proofs.Common.{ℕ, ◌<◌, ◌^◌, Bool, true, false, cond, [], ◌∷◌, arith, map, filter}
use Rattle.std.specs.Prelude.{All}
use Rattle.std.proofs.lemmas.List.Elements.{All-nil, All-cons, All-map, All-filter, All-weaker}
use Rattle.value_list.specs.Laws.{IsBounded}
use Rattle.board.specs.declared.rail.Rail.{Rail}
use Rattle.board.specs.Rail.{is_within}
use Rattle.board.specs.Table.{values_of}
use Rattle.board_checks.proofs.gaps.know_values.Goals as goal

abbrev Fits : ℕ → Type 0
Fits value = value < 2 ^ 32

fit : (rail : Rail) (changeable : Bool) → rail.kept_uv < 2 ^ 32 → IsBounded (values_of rail.desc.table)
    → All Fits (map (λ p. p.1) (cond changeable (filter (λ p. is_within rail.limits.bounds p.1) (values_of rail.desc.table)) ((0, rail.kept_uv) ∷ [])))
fit rail true kept bounded =
    All-map Fits (λ p. p.1) (filter (λ p. is_within rail.limits.bounds p.1) (values_of rail.desc.table))
    (All-filter (λ p. is_within rail.limits.bounds p.1) (λ p. Fits p.1) (values_of rail.desc.table)
    (All-weaker (λ p. (p.0 < 2 ^ 16) × (p.1 < 2 ^ 32)) (λ p. Fits p.1) (λ p is. is.1) (values_of rail.desc.table) bounded))
fit rail false kept bounded = All-cons Fits rail.kept_uv [] kept (All-nil Fits)

pub returns : goal.returns
returns c = fit c.args.rail.now c.args.rail.now.changeable (omega arith) c.know_table.ensures
