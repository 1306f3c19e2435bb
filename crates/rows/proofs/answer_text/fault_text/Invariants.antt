use Rattle.std.proofs.Common.{◌≡◌, ◌++◌, take, flat_map, string_bytes}
use Rattle.rows.specs.Row.{rail_name}
use Rattle.rows.specs.AnswerText.{now_text}
use Rattle.rows.proofs.answer_text.fault_text.Given as goal

-- the text so far is what it was, and the rails so far behind it
abbrev pub invariant-loop-id : goal.invariant-loop-id
invariant-loop-id l =
    string_bytes l.text ≡ string_bytes l.initial.text ++ flat_map (now_text (rail_name l.board)) (take l.id-index l.now)
