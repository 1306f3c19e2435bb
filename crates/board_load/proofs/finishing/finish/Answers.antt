use Rattle.std.proofs.Common.{◌≡◌, [], sym, ap, ◌∙◌, map}
use Rattle.board_load.specs.Loading.{board_at}
use Rattle.board_load.specs.Start.{is_asked_on}
use Rattle.board_load.specs.Inside.Puts.{loading_puts, after_puts}
use Rattle.board_load.specs.Inside.Targets.{start_of}
use Rattle.board_load.proofs.FinishLemmas.{HasParts, puts_placed, puts_fit, puts_shaped, loaded_is, inv_is, valid_is, untied_is}
use Rattle.board_load.proofs.StartValues.{no_vector_none}
use Rattle.board_load.proofs.finishing.finish.Goals as goal

pub plain_of-requires-clause-placed : goal.plain_of-requires-clause-placed
plain_of-requires-clause-placed c =
    let board = c.args.draft.board in
    let regs = c.args.regs in
    let are : c.as_slice-2.result.now ≡ loading_puts board regs (map (start_of regs) board.rails) =
    c.as_slice-2.ensures ∙ c.in_ok-puts.ensures ∙ ap (loading_puts board regs) (c.as_slice.ensures ∙ c.in_ok-values.ensures) in
    puts_placed board c.requires.valid c.requires.untied c.requires.inside regs c.requires.chips c.hold_fields.ensures c.as_slice-2.result.now are

pub plain_of-requires-clause-room : goal.plain_of-requires-clause-room
plain_of-requires-clause-room c =
    let board = c.args.draft.board in
    let regs = c.args.regs in
    let are : c.as_slice-2.result.now ≡ loading_puts board regs (map (start_of regs) board.rails) =
    c.as_slice-2.ensures ∙ c.in_ok-puts.ensures ∙ ap (loading_puts board regs) (c.as_slice.ensures ∙ c.in_ok-values.ensures) in
    puts_fit board c.requires.valid c.requires.untied c.requires.inside regs c.requires.chips c.hold_fields.ensures c.as_slice-2.result.now are

pub writes_of-requires-clause-room : goal.writes_of-requires-clause-room
writes_of-requires-clause-room c =
    let board = c.args.draft.board in
    let regs = c.args.regs in
    let are : c.as_slice-3.result.now ≡ loading_puts board regs (map (start_of regs) board.rails) =
    c.as_slice-3.ensures ∙ c.in_ok-puts.ensures ∙ ap (loading_puts board regs) (c.as_slice.ensures ∙ c.in_ok-values.ensures) in
    puts_fit board c.requires.valid c.requires.untied c.requires.inside regs c.requires.chips c.hold_fields.ensures c.as_slice-3.result.now are

pub writes_of-requires-clause-shape : goal.writes_of-requires-clause-shape
writes_of-requires-clause-shape c =
    let board = c.args.draft.board in
    let regs = c.args.regs in
    let are : c.as_slice-3.result.now ≡ loading_puts board regs (map (start_of regs) board.rails) =
    c.as_slice-3.ensures ∙ c.in_ok-puts.ensures ∙ ap (loading_puts board regs) (c.as_slice.ensures ∙ c.in_ok-values.ensures) in
    puts_shaped board c.requires.valid c.requires.untied c.requires.inside regs c.requires.chips c.hold_fields.ensures c.as_slice-3.result.now are

pub returns-clause-loaded : goal.returns-clause-loaded
returns-clause-loaded c =
    let board = c.args.draft.board in
    let regs = c.args.regs in
    let are : c.as_slice-3.result.now ≡ loading_puts board regs (map (start_of regs) board.rails) =
    c.as_slice-3.ensures ∙ c.in_ok-puts.ensures ∙ ap (loading_puts board regs) (c.as_slice.ensures ∙ c.in_ok-values.ensures) in
    let kept : c.with_kept.result ≡ board_at board (map (start_of regs) board.rails) = c.with_kept.ensures ∙ ap (board_at board) (c.as_slice-4.ensures ∙ c.in_ok-values.ensures) in
    let parts : HasParts c.in_ok-plain.plain (after_puts regs c.as_slice-3.result.now) (map (is_asked_on regs) board.rails) (map (λ _. []) board.rails) = record {
      regs_are = c.in_ok-plain.ensures.regs ∙ ap (after_puts regs) (c.as_slice-2.ensures ∙ sym c.as_slice-3.ensures);
      handles_are = c.in_ok-plain.ensures.handles;
      holds_are = c.in_ok-plain.ensures.holds;
      suspended_is = c.in_ok-plain.ensures.suspended;
      events_are = c.in_ok-plain.ensures.events;
    } in
    loaded_is board c.requires.valid c.requires.untied c.requires.inside regs c.requires.chips c.hold_fields.ensures c.as_slice-3.result.now are c.with_kept.result c.in_ok-writes.writes c.in_ok-plain.plain kept
    c.in_ok-writes.ensures parts

pub returns-clause-vector : goal.returns-clause-vector
returns-clause-vector c = no_vector_none c.args.draft.board c.args.regs c.requires.untied c.requires.inside

pub returns-clause-valid : goal.returns-clause-valid
returns-clause-valid c =
    let board = c.args.draft.board in
    let regs = c.args.regs in
    let kept : c.with_kept.result ≡ board_at board (map (start_of regs) board.rails) = c.with_kept.ensures ∙ ap (board_at board) (c.as_slice-4.ensures ∙ c.in_ok-values.ensures) in
    valid_is board c.requires.valid c.requires.untied c.requires.inside regs c.requires.chips c.hold_fields.ensures c.with_kept.result kept

pub returns-clause-inv : goal.returns-clause-inv
returns-clause-inv c =
    let board = c.args.draft.board in
    let regs = c.args.regs in
    let are : c.as_slice-3.result.now ≡ loading_puts board regs (map (start_of regs) board.rails) =
    c.as_slice-3.ensures ∙ c.in_ok-puts.ensures ∙ ap (loading_puts board regs) (c.as_slice.ensures ∙ c.in_ok-values.ensures) in
    let kept : c.with_kept.result ≡ board_at board (map (start_of regs) board.rails) = c.with_kept.ensures ∙ ap (board_at board) (c.as_slice-4.ensures ∙ c.in_ok-values.ensures) in
    let parts : HasParts c.in_ok-plain.plain (after_puts regs c.as_slice-3.result.now) (map (is_asked_on regs) board.rails) (map (λ _. []) board.rails) = record {
      regs_are = c.in_ok-plain.ensures.regs ∙ ap (after_puts regs) (c.as_slice-2.ensures ∙ sym c.as_slice-3.ensures);
      handles_are = c.in_ok-plain.ensures.handles;
      holds_are = c.in_ok-plain.ensures.holds;
      suspended_is = c.in_ok-plain.ensures.suspended;
      events_are = c.in_ok-plain.ensures.events;
    } in
    inv_is board c.requires.valid c.requires.untied c.requires.inside regs c.requires.chips c.hold_fields.ensures c.as_slice-3.result.now are c.with_kept.result c.in_ok-plain.plain kept parts

pub returns-clause-untied : goal.returns-clause-untied
returns-clause-untied c =
    let board = c.args.draft.board in
    let regs = c.args.regs in
    let kept : c.with_kept.result ≡ board_at board (map (start_of regs) board.rails) = c.with_kept.ensures ∙ ap (board_at board) (c.as_slice-4.ensures ∙ c.in_ok-values.ensures) in
    untied_is board c.requires.valid c.requires.untied c.requires.inside regs c.requires.chips c.hold_fields.ensures c.with_kept.result kept
