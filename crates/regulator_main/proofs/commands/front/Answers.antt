use Rattle.std.proofs.Common.{inl, inr, refl}
use Rattle.regulator_main.proofs.Fronts.{is_run}
use Rattle.regulator_main.proofs.commands.front.Goals as goal

pub returns-in-Some : goal.returns-in-Some
returns-in-Some g c =
    let laws = c.one_reading.ensures in
    is_run laws.sessions_have_no_fault laws.one_fault laws.one_session _ _ _ _
    (inr (record { command = c.in-Some.command; are = c.in-Some.ensures.some; goes = c.answer.ensures }))

pub returns-in-None : goal.returns-in-None
returns-in-None g c =
    let laws = c.one_reading.ensures in
    is_run laws.sessions_have_no_fault laws.one_fault laws.one_session _ _ _ _
    (inl (record { none = c.in-None.ensures.none; stays = refl; ends = refl }))
