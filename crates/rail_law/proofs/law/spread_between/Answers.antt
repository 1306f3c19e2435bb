use Rattle.std.proofs.Common.{◌<◌, length, sym, ap, ◌∙◌, subst}
use Rattle.std.specs.Prelude.{slice_index}
use Rattle.rail_law.proofs.Judged.{group_within, binds_both}
use Rattle.rail_law.proofs.law.spread_between.Goals as goal

pub bounds-as_slice-from : goal.bounds-as_slice-from
bounds-as_slice-from c =
    subst (λ spreads. c.from.result < length spreads) (sym c.as_slice.ensures)
    (group_within c.args.board.now c.args.r c.from.result c.requires.valid.sound c.requires.rail (c.from.ensures ∙ ap (λ groups. slice_index groups c.args.r) c.as_slice-groups.ensures))

pub returns : goal.returns
returns c =
    let is = c.from.ensures ∙ ap (λ groups. slice_index groups c.args.r) c.as_slice-groups.ensures in
    binds_both c.args.board.now c.args.r c.args.other c.from.result _ c.requires.valid.sound c.requires.rail c.requires.other c.if-r-other.false is
    (c.from.ensures ∙ c.if-groups-r.false ∙ ap (λ groups. slice_index groups c.args.other) c.as_slice-groups.ensures)
    (ap (λ spreads. slice_index spreads c.from.result) c.as_slice.ensures)
