-- What serves the contracts inside the crate, and nobody has to believe.
use Rattle.std.specs.Prelude.{ℕ, ◌≡◌, ◌+◌, ◌≤◌, true, List, length, slice_get, Option, Some, None, IfSome}
use Rattle.chip_regs.specs.Registers.{HasChip}
use Rattle.board_graph.specs.Graph.{Supplies, IsIn, AreCoupled}
use Rattle.board_graph.specs.Sets.{IsLinked}
use Rattle.board.specs.declared.board.Board.{Board}
use Rattle.board.specs.declared.rail.Rail.{Rail}
use Rattle.board.specs.declared.write.Write.{Write}
use Rattle.board.specs.Rail.{uv, is_on, IsAllowed}
use Rattle.board.specs.Valid.{IsValid}
use Rattle.rail_law.specs.Moves.{after_write}

-- the registers after a write, where there is one
abbrev pub shown : Option Write → List (List ℕ) → List (List ℕ)
shown None regs = regs
shown (Some write) regs = after_write regs write

-- the chip that is written is there
abbrev pub IsThere : Option Write → List (List ℕ) → Type 0
IsThere write regs = IfSome write (λ w. HasChip regs w.chip)

-- a sound board, its registers, and a write of one of them
pub record AreJudged (board : Board) (regs : List (List ℕ)) (write : Option Write) : Type 0 where
  pub valid : IsValid board
  pub chips : length regs ≡ board.chips
  pub there : IsThere write regs

-- the rail is no further above another that it is coupled with than their spread
abbrev pub KeepsSpread : Board → List (List ℕ) → ℕ → ℕ → Type 0
KeepsSpread board regs i j =
    (group spread : ℕ) (a b : Rail) → AreCoupled board.graph i j → IsIn board.graph group i → slice_get board.spread group ≡ Some spread
    → slice_get board.rails i ≡ Some a → slice_get board.rails j ≡ Some b → uv a regs ≤ uv b regs + spread

-- the rail has its supply on, where it has one and is on
abbrev pub HasSupplyOn : Board → List (List ℕ) → ℕ → Type 0
HasSupplyOn board regs lower =
    (upper : ℕ) (a b : Rail) → Supplies board.graph upper lower
    → slice_get board.rails upper ≡ Some a → slice_get board.rails lower ≡ Some b → is_on b regs ≡ true → is_on a regs ≡ true

-- the rail is its dropout below its supply, where it is linked to it
abbrev pub KeepsDropout : Board → List (List ℕ) → ℕ → Type 0
KeepsDropout board regs lower =
    (upper : ℕ) (a b : Rail) → Supplies board.graph upper lower → IsLinked board.graph lower
    → slice_get board.rails upper ≡ Some a → slice_get board.rails lower ≡ Some b → uv b regs + b.desc.dropout ≤ uv a regs

-- what the law asks of one rail
pub record HoldsFor (board : Board) (regs : List (List ℕ)) (r : ℕ) : Type 0 where
  pub value : (rail : Rail) → slice_get board.rails r ≡ Some rail → IsAllowed rail (uv rail regs)
  pub spreads : (other : ℕ) → KeepsSpread board regs r other
  pub supply : HasSupplyOn board regs r
  pub dropout : KeepsDropout board regs r

-- the spread that binds two coupled rails
pub record Binds (board : Board) (i j spread : ℕ) : Type 0 where
  pub group : ℕ
  pub coupled : AreCoupled board.graph i j
  pub in_group : IsIn board.graph group i
  pub spread_is : slice_get board.spread group ≡ Some spread
