use Rattle.std.proofs.Common.{◌≡◌, ◌∷◌, [], ◌*◌, ◌^◌, ℕ, List, Some, arith, sym, ap, subst, ◌∙◌}
use Rattle.chip_regs.specs.Field.{FitsField}
use Rattle.chip_regs.proofs.Fields.{mask-lt}
use Rattle.board.specs.declared.board.Board.{Board}
use Rattle.board.specs.declared.part.Part.TheVariants.{Selector}
use Rattle.board.specs.Fields.{field_at}
use Rattle.reg_outside.specs.Bus.{Updates, told_by}
use Rattle.rail_state.specs.Sight.{KeepsLaw}
use Rattle.rail_ops.specs.Taking.{Tells}
use Rattle.rail_ops.proofs.Selected.{fits_byte, keeps_law, move_update, selector_at, selector_fits, selector_is_field}
use Rattle.rail_ops.proofs.walking.put_selector.Given as given
use Rattle.rail_ops.proofs.walking.put_selector.Goals as goal
use Rattle.rail_ops.proofs.walking.put_selector.Goals.{In-Some}

-- the selector has room in its field
room : (g : given.Over) (c : In-Some g) → FitsField c.in-Some.field c.args.pick.now.sel
room g c = selector_fits c.args.board.now c.requires.valid c.args.r.0 c.args.rail.now c.requires.there c.in-Some.field c.in-Some.is c.args.pick.now.uv c.args.pick.now.sel c.requires.first c.requires.value

pub overflow_cast-number : goal.overflow_cast-number
overflow_cast-number g c =
    let byte = mask-lt c.in-Some.field (selector_is_field c.args.board.now c.requires.valid c.args.r.0 c.args.rail.now c.requires.there c.in-Some.field c.in-Some.is) in
    let below = fits_byte c.in-Some.field c.args.pick.now.sel (room g (goal.at.overflow_cast-number g c).In-Some) byte in
    omega (arith, below)

pub try_update-requires-clause-field : goal.try_update-requires-clause-field
try_update-requires-clause-field g c = selector_is_field c.args.board.now c.requires.valid c.args.r.0 c.args.rail.now c.requires.there c.in-Some.field c.in-Some.is

pub try_update-requires-clause-room : goal.try_update-requires-clause-room
try_update-requires-clause-room g c = room g (goal.at.try_update-requires-clause-room g c).In-Some

pub write-requires-clause-room : goal.write-requires-clause-room
write-requires-clause-room g c =
    let field = c.in-Some.field in
    let here = selector_at c.args.board.now c.requires.valid c.args.r.0 c.args.rail.now c.requires.there field c.in-Some.is in (
      field,
      subst (λ (b : Board). field_at b c.args.r.0 Selector ≡ Some field) (sym c.requires.board) here,
      room g (goal.at.write-requires-clause-room g c).In-Some,
      subst (λ (b : Board). KeepsLaw b (g.R.Rails.rails c.args.rails.now) (g.R.Rails.bits c.args.rails.now) field c.args.pick.now.sel) (sym c.requires.board)
          (keeps_law c.args.board.now c.requires.valid c.args.r.0 c.args.rail.now c.requires.there field c.in-Some.is c.args.pick.now.uv c.args.pick.now.sel c.requires.first c.requires.value c.requires.places c.requires.changeable c.requires.among
          c.requires.untied (g.R.Rails.rails c.args.rails.now) (g.R.Rails.bits c.args.rails.now)),
    )
