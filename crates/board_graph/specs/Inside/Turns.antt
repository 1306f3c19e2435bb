-- Leaders taken in turn, each once all that feed it are taken.
use Rattle.std.specs.Prelude.{ℕ, zero, suc, ◌≡◌, ◌+◌, cond, Bool, true, false, not, nat_eq, nat_lt, ◌&&◌, List, [], ◌∷◌, ◌++◌, length, slice_index, Contains}
use Rattle.std.specs.List.{count_by}
use Rattle.std.specs.BTreeSet.{contains}
use Rattle.std.specs.Ordering.{nat_cmp}
use Rattle.board_graph.specs.declared.feeds.Feeds.{Feeds}
use Rattle.board_graph.specs.declared.turns.Turns.{Turns}
use Rattle.board_graph.specs.Order.{is_taken}
use Rattle.board_graph.specs.Loops.{IsLeastSuch}
use Rattle.board_graph.specs.Inside.Lists.{AreLists}

-- how many pairs come to the number from one that isn't taken
abbrev pub waiting : List (ℕ × ℕ) → List ℕ → ℕ → ℕ
waiting pairs taken v = count_by (λ p. nat_eq p.1 v && not (is_taken taken p.0)) pairs

-- the rail is its own leader
abbrev pub is_leader : List ℕ → ℕ → Bool
is_leader leaders v = nat_lt v (length leaders) && nat_eq (slice_index leaders v) v

-- a leader that isn't taken, and all that feed it are
abbrev pub is_next : List ℕ → List (ℕ × ℕ) → List ℕ → ℕ → Bool
is_next leaders pairs taken v = is_leader leaders v && not (is_taken taken v) && nat_eq (waiting pairs taken v) 0

-- once these are taken, the leaders come in turn, each the least that may
abbrev pub LeadersInTurn : List ℕ → List (ℕ × ℕ) → List ℕ → List ℕ → Type 0
LeadersInTurn leaders pairs taken [] = Unit {0}
LeadersInTurn leaders pairs taken (leader ∷ rest) =
    IsLeastSuch (λ v. is_next leaders pairs taken v ≡ true) leader × LeadersInTurn leaders pairs (taken ++ leader ∷ []) rest

-- all leaders in turn until none may come
pub record AreAllTurns (leaders : List ℕ) (pairs : List (ℕ × ℕ)) (taken : List ℕ) : Type 0 where
  pub turns : LeadersInTurn leaders pairs [] taken
  pub none : (v : ℕ) → is_next leaders pairs taken v ≡ false

-- pairs of leaders, and the lists that they are shared out to
pub record AreFeeds (leaders : List ℕ) (feeds : Feeds) : Type 0 where
  pub lists : AreLists (length leaders) feeds.pairs feeds.down
  pub led : (a b : ℕ) → Contains {X = ℕ × ℕ} feeds.pairs (a, b) → (is_leader leaders a ≡ true) × (is_leader leaders b ≡ true)

-- the leaders that are taken came in turn, and those that may come next are ready
pub record AreTurns (leaders : List ℕ) (pairs : List (ℕ × ℕ)) (turns : Turns) : Type 0 where
  pub order : LeadersInTurn leaders pairs [] turns.taken
  pub size : length turns.waits ≡ length leaders
  pub waits : (v : ℕ) → slice_index turns.waits v ≡ waiting pairs turns.taken v
  pub ready : (v : ℕ) → contains nat_cmp turns.ready v ≡ is_next leaders pairs turns.taken v
  pub done : (v : ℕ) → is_taken turns.taken v ≡ true → waiting pairs turns.taken v ≡ 0

-- how many of the numbers below n fail
abbrev pub failing : (ℕ → Bool) → ℕ → ℕ
failing p zero = 0
failing p (suc n) = cond (p n) 0 1 + failing p n

-- how many rails aren't among those that are taken
abbrev pub left_in : List ℕ → List ℕ → ℕ
left_in leaders taken = failing (is_taken taken) (length leaders)
