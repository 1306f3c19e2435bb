-- The grammar of a session, line by line: its head, its board, its setup, its workers, its end.
use Rattle.std.specs.Prelude.{ℕ, ◌≡◌, ◌≢◌, ◌^◌, ◌<◌, ◌≤◌, List, [], ◌∷◌, ◌++◌, map, flat_map, codes, decimal, All}
use Rattle.chip_regs.specs.Width.{chip_registers, register_contents}
use Rattle.rows.specs.Words.{spaced, hex_text}
use Rattle.session.specs.declared.setup.Setup.{Setup}
use Rattle.session.specs.declared.setup.Setup.TheVariants.{Register, Refusal}

-- a line that stands between the board and the workers: a register's content, or an update that is refused
abbrev pub setup_text : Setup → List ℕ
setup_text (Register chip reg value) = spaced (codes "%reg" ∷ decimal chip ∷ hex_text reg ∷ hex_text value ∷ [])
setup_text (Refusal worker update) = spaced (codes "%fault" ∷ decimal worker ∷ decimal update ∷ [])

-- the numbers of a setup line have their ranges
abbrev pub IsSetup : Setup → Type 0
IsSetup (Register chip reg value) = (chip < 2 ^ 32) × (reg < chip_registers) × (value < register_contents)
IsSetup (Refusal worker update) = (worker ≤ 16) × (1 ≤ update) × (update < 2 ^ 32)

-- the board of a session: the built-in one, or the lines of a devicetree text
pub data BoardPart : Type 0 where
  Demo : BoardPart
  Text : (lines : List (List ℕ)) → BoardPart

-- the parts of a session: its board, its setup, and the call lines of each worker
pub record Frame : Type 0 where
  pub board : BoardPart
  pub setup : List Setup
  pub workers : List (List (List ℕ))

abbrev pub end_line : List ℕ
end_line = codes "%end"

abbrev pub board_lines : BoardPart → List (List ℕ)
board_lines Demo = codes "%board demo" ∷ []
board_lines (Text lines) = codes "%board dts" ∷ lines ++ end_line ∷ []

abbrev pub worker_lines : List (List ℕ) → List (List ℕ)
worker_lines calls = codes "%worker" ∷ calls ++ end_line ∷ []

-- the lines of a session
abbrev pub frame_lines : Frame → List (List ℕ)
frame_lines frame =
    codes "%session 1" ∷ board_lines frame.board ++ (map setup_text frame.setup ++ (flat_map worker_lines frame.workers ++ codes "%done" ∷ []))

-- what stands before an end line is no end line
abbrev pub HasNoEnd : List (List ℕ) → Type 0
HasNoEnd lines = All (λ line. line ≢ end_line) lines

abbrev pub IsBoardPart : BoardPart → Type 0
IsBoardPart Demo = Unit {0}
IsBoardPart (Text lines) = HasNoEnd lines

-- a session of the grammar, whatever its boards, calls and limits
pub record IsFrame (frame : Frame) : Type 0 where
  pub board : IsBoardPart frame.board
  pub setup : All IsSetup frame.setup
  pub workers : All HasNoEnd frame.workers

-- the lines are the beginning of a session
abbrev pub Begins : (Frame → Type 0) → List (List ℕ) → Type 0
Begins IsGood lines = (frame : Frame) × IsGood frame × (more : List (List ℕ)) × (frame_lines frame ≡ lines ++ more)
