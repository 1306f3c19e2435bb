-- What a row's first line tells.
use Rattle.std.specs.Prelude.{ℕ, ◌≡◌, ◌^◌, ◌<◌, ◌+◌, ◌==◌, ◌||◌, Bool, List, [], ◌∷◌, codes, decimal, if◌then◌else◌}
use Rattle.std.specs.Str.{bytes_eq}
use Rattle.board.specs.declared.board.Board.{Board}
use Rattle.rows.specs.declared.call.Call.{Call}
use Rattle.rows.specs.CallText.{call_text}
use Rattle.rows.specs.Reading.{IsCall}
use Rattle.rows.specs.Row.{rail_name, NamesRail}
use Rattle.rows.specs.Words.{spaced}

-- how many spaces there are
abbrev pub spaces : List ℕ → ℕ
spaces [] = 0
spaces (byte ∷ bytes) = (if byte == 32 then 1 else 0) + spaces bytes

-- what stands before the first space
abbrev pub first_word : List ℕ → List ℕ
first_word [] = []
first_word (byte ∷ bytes) = if byte == 32 then [] else byte ∷ first_word bytes

-- of how many words a call is, by its first word
abbrev pub is_any : List ℕ → List ℕ → List ℕ → Bool
is_any word one other = bytes_eq word one || bytes_eq word other

abbrev pub arity : List ℕ → ℕ
arity verb =
    if is_any verb (codes "resume") (codes "release-boot") then 1 else
    if is_any verb (codes "set") (codes "supported") then 4 else
    if is_any verb (codes "open") (codes "openx") || is_any verb (codes "load") (codes "list") then 3 else 2

-- the call line of a call on this board
pub record IsCallOn (board : Board) (call : Call) (text : List ℕ) : Type 0 where
  pub is : IsCall call
  pub rail : NamesRail board call
  pub spelled : text ≡ call_text (rail_name board) call

-- the line of a row of this board, up to its answer
pub record IsHead (board : Board) (line : List ℕ) (worker number : ℕ) (call : Call) (answer : List ℕ) : Type 0 where
  pub is : IsCall call
  pub rail : NamesRail board call
  pub small_worker : worker < 2 ^ 16
  pub small_number : number < 2 ^ 32
  pub spelled : line ≡ spaced (decimal worker ∷ decimal number ∷ call_text (rail_name board) call ∷ codes "->" ∷ answer ∷ [])
