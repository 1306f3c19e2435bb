use Rattle.std.proofs.Common.{◌≡◌, None, Some, refl, sym, ◌∙◌}
use Rattle.rows.specs.declared.call.Call.TheVariants.{Open}
use Rattle.rows.specs.Reading.{Spells}
use Rattle.rows.proofs.Spellings.{one_spelling}
use Rattle.script.specs.RailNames.{rail_named}
use Rattle.script.specs.CallLines.{OpensNoRail}
use Rattle.script.proofs.Told.{apart, named_apart}
use Rattle.script.proofs.lines.read_call.Goals as goal

pub returns-in-Some-rail_named-clause-no_rail : goal.returns-in-Some-rail_named-clause-no_rail
returns-in-Some-rail_named-clause-no_rail c =
    let named : rail_named c.args.names.now.entries c.in-Some.word.now ≡ Some c.in-Some-rail_named.rail = sym c.rail_named.ensures ∙ c.in-Some-rail_named.is in
    (λ e. absurd (cc), λ other. absurd (named_apart one_spelling c.args.names.now.entries c.args.line.now c.in-Some.word.now c.in-Some.call c.in-Some-rail_named.rail c.in-Some.ensures.some.0 named other))

pub returns-in-None-clause-read : goal.returns-in-None-clause-read
returns-in-None-clause-read c =
    let unnamed : rail_named c.args.names.now.entries c.in-Some.word.now ≡ None = sym c.rail_named.ensures ∙ c.in-None.is in
    let spells : Spells c.in-Some.word.now (Open c.in-Open.handle c.in-Open.rail c.in-Open.exclusive) c.args.line.now = rw c.in-Open.is at c.in-Some.ensures.some.0 in
    let nothing : OpensNoRail c.args.names.now.entries c.args.line.now = record {
      word = c.in-Some.word.now;
      call = Open c.in-Open.handle c.in-Open.rail c.in-Open.exclusive;
      spells = spells;
      opens = refl;
      unnamed = unnamed;
    } in
    λ call is. absurd (apart one_spelling c.args.names.now.entries c.args.line.now call is nothing)
