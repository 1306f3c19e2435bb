-- Scripts played on the definitions: what each call is answered, and the plain board after all of them.
use Rattle.std.specs.Prelude.{ℕ, List, [], ◌∷◌, ◌++◌, Option, Some, None, codes, flat_map, replicate, slice_set, fold}
use Rattle.arrayvec.specs.ArrayString.{ArrayString}
use Rattle.chip_regs.specs.Width.{chip_registers}
use Rattle.board.specs.declared.board.Board.{Board}
use Rattle.board.specs.declared.rail_id.RailId.{RailId}
use Rattle.rows.specs.declared.answer.Answer.{Answer}
use Rattle.rows.specs.declared.call.Call.{Call}
use Rattle.plain_board.specs.declared.plain.Plain.{Plain}
use Rattle.plain_board.specs.Answer.{answer}

-- a worker's call, and after how many moves the bus refuses one, where it does
pub record Turn : Type 0 where
  pub worker : ℕ
  pub call : Call
  pub stop : Option ℕ

-- the first worker's call, which the bus lets be done, or stops after so many moves
abbrev pub asks : Call → Turn
asks call = record { worker = 1; call = call; stop = None }

abbrev pub cut_after : ℕ → Call → Turn
cut_after made call = record { worker = 1; call = call; stop = Some made }

-- the second worker's call
abbrev pub other_asks : Call → Turn
other_asks call = record { worker = 2; call = call; stop = None }

-- what these calls are answered, one after another
abbrev pub answers : Board → Plain → List Turn → List Answer
answers board plain [] = []
answers board plain (turn ∷ turns) =
    let both = answer board plain turn.worker turn.call turn.stop in both.0 ∷ answers board both.1 turns

-- the plain board after them
abbrev pub played : Board → Plain → List Turn → Plain
played board plain [] = plain
played board plain (turn ∷ turns) = played board (answer board plain turn.worker turn.call turn.stop).1 turns

-- the name of a handle, and the number of a rail
abbrev pub named : List ℕ → ArrayString
named text = record { bytes = text; spare = [] }

abbrev pub rail : ℕ → RailId
rail n = record { 0 = n }

abbrev pub a : ArrayString
a = named (codes "a")

abbrev pub b : ArrayString
b = named (codes "b")

-- a chip whose registers hold 0 but for these, each with what it holds
abbrev pub chip_with : List (ℕ × ℕ) → List ℕ
chip_with bytes = fold (λ chip byte. slice_set chip byte.0 byte.1) (replicate chip_registers 0) bytes

-- lines of text
abbrev pub lines : List (List ℕ) → List ℕ
lines texts = flat_map (λ text. text ++ 10 ∷ []) texts
