-- The law of a board: where its rails may stand.
use Rattle.std.specs.Prelude.{ℕ, ◌≡◌, ◌+◌, ◌≤◌, true, List, Some, slice_get}
use Rattle.board_graph.specs.Graph.{Supplies, IsIn, AreCoupled}
use Rattle.board_graph.specs.Sets.{IsLinked}
use Rattle.board.specs.declared.board.Board.{Board}
use Rattle.board.specs.declared.rail.Rail.{Rail}
use Rattle.board.specs.Rail.{uv, is_on, IsAllowed}

-- each rail stands at a value that it may stand at
abbrev pub StandAllowed : Board → List (List ℕ) → Type 0
StandAllowed board regs = (i : ℕ) (a : Rail) → slice_get board.rails i ≡ Some a → IsAllowed a (uv a regs)

-- of two coupled rails the one is no further above the other than the spread of their group. (That the
-- other isn't either says the same, with the rails exchanged.)
abbrev pub KeepSpreads : Board → List (List ℕ) → Type 0
KeepSpreads board regs =
    (i j group spread : ℕ) (a b : Rail) → AreCoupled board.graph i j → IsIn board.graph group i → slice_get board.spread group ≡ Some spread
    → slice_get board.rails i ≡ Some a → slice_get board.rails j ≡ Some b → uv a regs ≤ uv b regs + spread

-- a rail that is on has its supply on, where it has one
abbrev pub HaveSuppliesOn : Board → List (List ℕ) → Type 0
HaveSuppliesOn board regs =
    (upper lower : ℕ) (a b : Rail) → Supplies board.graph upper lower
    → slice_get board.rails upper ≡ Some a → slice_get board.rails lower ≡ Some b → is_on b regs ≡ true → is_on a regs ≡ true

-- a supply stands above a rail that is linked to it, by the rail's dropout at the least
abbrev pub KeepDropouts : Board → List (List ℕ) → Type 0
KeepDropouts board regs =
    (upper lower : ℕ) (a b : Rail) → Supplies board.graph upper lower → IsLinked board.graph lower
    → slice_get board.rails upper ≡ Some a → slice_get board.rails lower ≡ Some b → uv b regs + b.desc.dropout ≤ uv a regs

-- what holds of a board's registers at every time. But for `supplies` a rail that is off is as one that is on.
pub record Law (board : Board) (regs : List (List ℕ)) : Type 0 where
  -- each rail stands at a value that it may stand at
  pub values : StandAllowed board regs
  -- two coupled rails differ by the spread of their group at the most
  pub spreads : KeepSpreads board regs
  -- a rail that is on has its supply on
  pub supplies : HaveSuppliesOn board regs
  -- a supply stands above what is linked to it, by a dropout
  pub dropouts : KeepDropouts board regs
