use Rattle.std.proofs.Common.{inr, refl}
use Rattle.regulator_main.proofs.commands.reply.Goals as goal

pub returns-in_ok-refuse-in-Err : goal.returns-in_ok-refuse-in-Err
returns-in_ok-refuse-in-Err g c =
    let said = c.in_ok-refuse-in-Err.ensures in
    inr (record {
      fault = c.in-Err.fault;
      first = c.in-Err.ensures.fault said.known;
      known = said.known;
      text = said.text;
      end = refl;
      wires = refl;
    })
