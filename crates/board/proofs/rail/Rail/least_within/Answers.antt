use Rattle.std.proofs.Common.{leb, sym, ap, ◌∙◌}
use Rattle.std.specs.Option.{option_map}
use Rattle.board.specs.Table.{passing}
use Rattle.board.proofs.Choices.{least-within}
use Rattle.board.proofs.rail.Rail.least_within.Goals as goal

pub returns-in_err-pick : goal.returns-in_err-pick
returns-in_err-pick c =
    rw c.from_residual.ensures
    (ap (option_map (λ p. p.1)) (c.in_err-pick.ensures ∙ ap (passing (λ v. leb v c.args.greatest)) c.at_or_above.ensures.pick) ∙ sym (least-within c.args.self.now c.args.least c.args.greatest))

pub returns : goal.returns
returns c =
    ap (option_map (λ p. p.1)) (c.in_ok-pick.ensures ∙ ap (passing (λ v. leb v c.args.greatest)) c.at_or_above.ensures.pick)
    ∙ sym (least-within c.args.self.now c.args.least c.args.greatest)
