use Rattle.std.proofs.Common.{◌<◌, length, sym, subst}
use Rattle.board.specs.declared.board.Board.{Board}
use Rattle.board.specs.Valid.{IsValid}
use Rattle.plain_board.specs.Untied.{IsUntied}
use Rattle.rail_ops.specs.Inside.Supplied.{HavePlaces}
use Rattle.rail_ops.specs.Sight.{shown_by}
use Rattle.rail_ops.proofs.Found.{element}
use Rattle.rail_ops.proofs.GoesOff.{may_lower}
use Rattle.rail_ops.proofs.Ready.{guards_itself}
use Rattle.rail_ops.proofs.falling.lower.Goals as goal

pub write-requires-clause-room : goal.write-requires-clause-room
write-requires-clause-room g c =
    let hands = shown_by g.R.Rails.board g.R.Rails.rails g.R.Rails.bits g.R.Rails.states c.args.rails.now in
    let same = sym c.requires.board in
    let there = element hands.board.rails c.args.r.0 (subst (λ (b : Board). c.args.r.0 < length b.rails) same c.requires.there) in
    let held = c.requires.owned c.args.r.0 (guards_itself c.args.board.now c.requires.valid c.args.r.0 c.requires.there) in
    may_lower hands (subst IsValid same c.requires.valid) (subst IsUntied same c.requires.untied) (subst HavePlaces same c.requires.places) c.args.r.0 there.0 there.1 held c.requires.free
