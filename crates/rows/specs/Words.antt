-- Words and lines, as they are printed and read.
use Rattle.std.specs.Prelude.{ℕ, ◌≡◌, ◌≢◌, ◌≤◌, ◌<◌, ◌+◌, ◌/◌, ◌%◌, nat_lt, Bool, List, [], ◌∷◌, ◌++◌, All, length, slice_index, codes, if◌then◌else◌}
use Rattle.std.specs.List.{join_with_byte}
use Rattle.load_modes.specs.declared.mode.Mode.{Mode}
use Rattle.load_modes.specs.declared.mode.Mode.TheVariants.{Fast, Normal, Idle, Standby}
use Rattle.board.specs.declared.state.State.{State}
use Rattle.board.specs.declared.state.State.TheVariants.{Standby as StandbyState, Mem, Disk}

-- words with one space between each two
abbrev pub spaced : List (List ℕ) → List ℕ
spaced words = join_with_byte 32 words

-- a line with the newline that ends it
abbrev pub ended : List ℕ → List ℕ
ended line = line ++ 10 ∷ []

-- a digit of a hexadecimal number
abbrev pub hex_digit : ℕ → ℕ
hex_digit n = if nat_lt n 10 then 48 + n else 87 + n

-- a byte in hexadecimal
abbrev pub hex_text : ℕ → List ℕ
hex_text n = codes "0x" ++ hex_digit (n / 16) ∷ hex_digit (n % 16) ∷ []

-- a mode, in a word
abbrev pub mode_text : Mode → List ℕ
mode_text Fast = codes "fast"
mode_text Normal = codes "normal"
mode_text Idle = codes "idle"
mode_text Standby = codes "standby"

-- how a board is suspended, in a word
abbrev pub state_text : State → List ℕ
state_text StandbyState = codes "standby"
state_text Mem = codes "mem"
state_text Disk = codes "disk"

-- whether a rail is on, in a word
abbrev pub on_text : Bool → List ℕ
on_text on = if on then codes "on" else codes "off"

-- an answer to a question
abbrev pub yes_text : Bool → List ℕ
yes_text is = if is then codes "yes" else codes "no"

-- neither a plus sign stands in front nor a zero that isn't the whole number
abbrev pub IsPlain : List ℕ → Type 0
IsPlain word = (slice_index word 0 ≢ 43) × (slice_index word 0 ≡ 48 → length word ≤ 1)

-- each byte is ASCII
abbrev pub IsAsciiWord : List ℕ → Type 0
IsAsciiWord word = All (λ byte. byte < 128) word
