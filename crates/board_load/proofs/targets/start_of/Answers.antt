use Rattle.std.proofs.Common.{ℕ, leb, Some, map, filter, sym, ap, ◌∙◌}
use Rattle.std.specs.Prelude.{unwrap_or}
use Rattle.board.specs.Rail.{is_within}
use Rattle.board.specs.Table.{values_of}
use Rattle.board_load.specs.Start.{greatest}
use Rattle.board_load.proofs.TargetLemmas.{start_kept, start_off, start_least}
use Rattle.board_load.proofs.targets.start_of.Goals as goal
use Rattle.board_load.proofs.targets.start_of.Goals.{then-is_on, else-is_on}

pub returns-in-Some-floor : goal.returns-in-Some-floor
returns-in-Some-floor c =
    let rail = c.args.rail.now in
    let regs = c.args.regs.now in
    let bounds : ℕ × ℕ = (c.in-Some.low, c.in-Some.high) in
    elim c.if-is_on.branch [
      | then-is_on w ↦
          let found = w.greatest_within-floor.ensures ∙ ap (λ u. greatest (filter (λ v. leb v u) (filter (is_within (Some bounds)) (map (λ (p : ℕ × ℕ). p.1) (values_of rail.desc.table))))) c.uv-found.ensures in
          sym (start_kept rail regs bounds c.in-Some.is c.requires.inside c.in-Some-floor.uv (sym c.is_on.ensures ∙ w.if-is_on.true) (sym found ∙ sym w.floor-is ∙ c.in-Some-floor.is))
      | else-is_on w ↦ let none = w.floor-is in let some = c.in-Some-floor.is in absurd (cc)
    ]

pub returns-in-None : goal.returns-in-None
returns-in-None c =
    let rail = c.args.rail.now in
    let regs = c.args.regs.now in
    let bounds : ℕ × ℕ = (c.in-Some.low, c.in-Some.high) in
    c.unwrap_or.ensures ∙ ap (λ o. unwrap_or o 0) c.least_within.ensures
    ∙ elim c.if-is_on.branch [
      | then-is_on w ↦
          let found = w.greatest_within-floor.ensures ∙ ap (λ u. greatest (filter (λ v. leb v u) (filter (is_within (Some bounds)) (map (λ (p : ℕ × ℕ). p.1) (values_of rail.desc.table))))) c.uv-found.ensures in
          sym (start_least rail regs bounds c.in-Some.is c.requires.inside (sym c.is_on.ensures ∙ w.if-is_on.true) (sym found ∙ sym w.floor-is ∙ c.in-None.is))
      | else-is_on w ↦ sym (start_off rail regs bounds c.in-Some.is c.requires.inside (sym c.is_on.ensures ∙ w.if-is_on.false))
    ]
