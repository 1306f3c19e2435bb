use Rattle.std.proofs.Common.{◌∷◌, [], refl}
use Rattle.board.specs.declared.event.Event.{Event}
use Rattle.rows.specs.Tails.{IsEvent}
use Rattle.rows.proofs.Options.{none_then, some_then}
use Rattle.rows.proofs.Parts.{an_event, no_event}
use Rattle.rows.proofs.event_reading.parse_event.Goals as goal

pub returns-in-None : goal.returns-in-None
returns-in-None c =
    let words = c.args.words.now in
    record {
      some = some_then c.switch_event.result _ _ c.switch_event.ensures.some (λ (event : Event) (is : IsEvent event (words ∷ [])). an_event words (words ∷ []) event refl is);
      none = none_then c.switch_event.result _ _ c.switch_event.ensures.none (λ (none : (event : Event) → ¬ IsEvent event (words ∷ [])). no_event words (words ∷ []) refl c.in-None.ensures.none none);
    }

pub returns-in-Some : goal.returns-in-Some
returns-in-Some c =
    let words = c.args.words.now in
    let parts = c.in-Some.word.now ∷ c.in-Some.values.now ∷ [] in
    record {
      some = some_then c.voltage_event.result _ _ c.voltage_event.ensures.some (λ (event : Event) (is : IsEvent event parts). an_event words parts event c.in-Some.ensures.parts is);
      none = none_then c.voltage_event.result _ _ c.voltage_event.ensures.none (λ (none : (event : Event) → ¬ IsEvent event parts). no_event words parts c.in-Some.ensures.parts c.in-Some.ensures.first none);
    }
