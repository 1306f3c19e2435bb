-- What a walk knows on its way.
use Rattle.std.specs.Prelude.{ℕ, ◌≡◌, ◌+◌, ◌<◌, ◌≤◌, ◌⊎◌, Bool, true, false, cond, not, ◌||◌, nat_eq, nat_lt, List, [], ◌∷◌, ◌++◌, length, reverse, slice_index, slice_index_or, slice_set}
use Rattle.std.specs.List.{list_any}
use Rattle.board_graph.specs.declared.visit.Visit.{Visit}
use Rattle.board_graph.specs.declared.visit.Visit.TheVariants.{New, Open, Done}
use Rattle.board_graph.specs.declared.knot.Knot.{Knot}
use Rattle.board_graph.specs.declared.walk.Walk.{Walk}
use Rattle.board_graph.specs.Ways.{Leads}
use Rattle.board_graph.specs.Order.{is_taken}
use Rattle.board_graph.specs.Inside.Net.{next_of, StepsTo}

-- the one is the other, or leads to it
abbrev pub Reaches : List (List ℕ) → ℕ → ℕ → Type 0
Reaches next a b = (a ≡ b) ⊎ Leads (StepsTo next) a b

-- how far the walk has come with a vertex
abbrev pub visit_of : List Visit → ℕ → Visit
visit_of visits v = slice_index_or visits v New

-- the walk is done with the vertex
abbrev pub IsDone : List Visit → ℕ → Type 0
IsDone visits v = (on_loop : Bool) × (visit_of visits v ≡ Done on_loop)

-- the vertex stands among the open ones from a place on
abbrev pub IsOpenFrom : List Visit → ℕ → ℕ → Type 0
IsOpenFrom visits first v = (at : ℕ) × (first ≤ at) × (visit_of visits v ≡ Open at)

-- the open vertices up to before `end` and the pending steps up to before `last`, from the knot's first on, are a knot
pub record IsKnot (next : List (List ℕ)) (visits : List Visit) (path pending : List ℕ) (knot : Knot) (end last : ℕ) : Type 0 where
  pub some : knot.first < end
  pub steps : knot.step ≤ last
  pub back : (i : ℕ) → knot.first ≤ i → i < end → Reaches next (slice_index path i) (slice_index path knot.first)
  pub from : (p : ℕ) → knot.step ≤ p → p < last → (i : ℕ) × (knot.first ≤ i) × (i < end) × StepsTo next (slice_index path i) (slice_index pending p)
  pub to : (i v : ℕ) → knot.first ≤ i → i < end → StepsTo next (slice_index path i) v
      → ((p : ℕ) × (knot.step ≤ p) × (p < last) × (slice_index pending p ≡ v)) ⊎ (IsDone visits v ⊎ IsOpenFrom visits knot.first v)

-- the knots, the last one first, share out the open vertices and the pending steps
abbrev pub AreKnots : List (List ℕ) → List Visit → List ℕ → List ℕ → List Knot → ℕ → ℕ → Type 0
AreKnots next visits path pending [] end last = end ≡ 0
AreKnots next visits path pending (knot ∷ knots) end last =
    IsKnot next visits path pending knot end last × AreKnots next visits path pending knots knot.first knot.step

-- what a walk knows on its way
pub record IsSound (next : List (List ℕ)) (walk : Walk) : Type 0 where
  pub size : length walk.visits ≡ length next
  pub places : (i : ℕ) → i < length walk.path → visit_of walk.visits (slice_index walk.path i) ≡ Open i
  pub opens : (v i : ℕ) → visit_of walk.visits v ≡ Open i → (i < length walk.path) × (slice_index walk.path i ≡ v)
  pub rises : (i j : ℕ) → i ≤ j → j < length walk.path → Reaches next (slice_index walk.path i) (slice_index walk.path j)
  pub done_steps : (v u : ℕ) → IsDone walk.visits v → StepsTo next v u → IsDone walk.visits u
  pub on_loop : (v : ℕ) → visit_of walk.visits v ≡ Done true → Leads (StepsTo next) v v
  pub on_none : (v : ℕ) → visit_of walk.visits v ≡ Done false → ¬ Leads (StepsTo next) v v
  pub knots : AreKnots next walk.visits walk.path walk.pending (reverse walk.knots) (length walk.path) (length walk.pending)

-- from the visits to later ones, what is done stays done, and what is open stays in its place or is done
pub record GoOn (visits later : List Visit) : Type 0 where
  pub done : (v : ℕ) → IsDone visits v → IsDone later v
  pub opens : (v at : ℕ) → visit_of visits v ≡ Open at → (visit_of later v ≡ Open at) ⊎ IsDone later v

-- the vertex comes to the path, as a knot of its own
abbrev pub opened : List (List ℕ) → Walk → ℕ → Walk
opened next walk v = record {
  visits = slice_set walk.visits v (Open (length walk.path));
  path = walk.path ++ v ∷ [];
  pending = walk.pending ++ next_of next v;
  knots = walk.knots ++ record { first = length walk.path; step = length walk.pending } ∷ [];
}

-- the vertices of the path from a place on are on a loop: they are several, or the one steps to itself
abbrev pub is_loop_from : List (List ℕ) → List ℕ → ℕ → Bool
is_loop_from next path first = nat_lt (first + 1) (length path) || list_any (nat_eq (slice_index path first)) (next_of next (slice_index path first))

-- the visits once those vertices are done
abbrev pub AreSettled : List Visit → List ℕ → Bool → List Visit → Type 0
AreSettled visits done on_loop settled =
    (length settled ≡ length visits) × ((v : ℕ) → visit_of settled v ≡ cond (is_taken done v) (Done on_loop) (visit_of visits v))

-- the walk hasn't come to the vertex
abbrev pub is_new : Visit → Bool
is_new New = true
is_new (Open at) = false
is_new (Done on_loop) = false

-- the walk has come to a vertex with this visit
abbrev pub is_seen : Visit → Bool
is_seen visit = not (is_new visit)

-- the walk has come to the vertex
abbrev pub IsSeen : List Visit → ℕ → Type 0
IsSeen visits v = is_new (visit_of visits v) ≡ false

-- from the visits to later ones, all that comes in can be reached from what was seen
abbrev pub Grows : List (List ℕ) → List Visit → List Visit → Type 0
Grows next visits later = (v : ℕ) → IsSeen later v → (u : ℕ) × IsSeen visits u × Reaches next u v

-- from the visits to later ones, all that comes in can be reached from the vertex
abbrev pub GrowsFrom : List (List ℕ) → ℕ → List Visit → List Visit → Type 0
GrowsFrom next root visits later = (v : ℕ) → IsSeen later v → IsSeen visits v ⊎ Reaches next root v

-- the steps and vertices that the walk hasn't come to
abbrev pub left_of : List Visit → List (List ℕ) → ℕ
left_of [] next = 0
left_of (visit ∷ visits) [] = 0
left_of (visit ∷ visits) (steps ∷ next) = cond (is_new visit) (length steps + 2) 0 + left_of visits next

-- how many steps the walk has at the most before it
abbrev pub work_of : List (List ℕ) → Walk → ℕ
work_of next walk = left_of walk.visits next + length walk.pending + length walk.knots

-- the walk knows of each vertex, and none is open
pub record IsAtRest (next : List (List ℕ)) (walk : Walk) : Type 0 where
  pub sound : IsSound next walk
  pub rest : walk.knots ≡ []

-- a vertex that is done is on a loop
abbrev pub is_on_loop : Visit → Bool
is_on_loop New = false
is_on_loop (Open at) = false
is_on_loop (Done on_loop) = on_loop

-- of each vertex whether it is on a loop
pub record AreLoops (next : List (List ℕ)) (loops : List Bool) : Type 0 where
  pub size : length loops ≡ length next
  pub on : (v : ℕ) → slice_index_or loops v false ≡ true → Leads (StepsTo next) v v
  pub all : (v : ℕ) → v < length next → Leads (StepsTo next) v v → slice_index_or loops v false ≡ true

-- of each vertex whether it is the first one or can be reached from it
pub record AreReached (next : List (List ℕ)) (root : ℕ) (reached : List Bool) : Type 0 where
  pub size : length reached ≡ length next
  pub on : (v : ℕ) → slice_index_or reached v false ≡ true → Reaches next root v
  pub all : (v : ℕ) → v < length next → Reaches next root v → slice_index_or reached v false ≡ true
