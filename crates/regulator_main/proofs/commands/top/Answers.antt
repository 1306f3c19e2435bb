use Rattle.regulator_main.proofs.commands.top.Goals as goal

pub returns : goal.returns
returns g c = c.front.ensures
