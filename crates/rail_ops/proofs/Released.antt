-- The end of the holds of the start, from how the rails went down that are idle then.
use Rattle.std.proofs.Common.{◌≡◌, ℕ, zero, suc, ◌+◌, ◌<◌, ◌&&◌, Bool, true, false, cond, List, [], ◌∷◌, Option, Some, None, inl, inr, refl, sym, ap, ◌∙◌, subst, arith, length, map, reverse, take, get_or, slice_get, All}
use Rattle.std.specs.Prelude.{Contains, unwrap_or, if◌then◌else◌}
use Rattle.std.specs.List.{enumerate_from, zip}
use Rattle.std.specs.Option.{option_map_or}
use Rattle.std.proofs.lemmas.Bool.{cases_eq, cases_lt}
use Rattle.std.proofs.lemmas.List.{reverse-append, take_all, take_more}
use Rattle.std.proofs.lemmas.List.Elements.{All-filter, All-map}
use Rattle.std.proofs.lemmas.List.FromFn.{get_or-enumerate_from, length-enumerate_from}
use Rattle.std.proofs.lemmas.Option.{slice_get_past}
use Rattle.reg_outside.specs.Bus.{Bus}
use Rattle.board_graph.specs.declared.graph.Graph.{Graph}
use Rattle.board_graph.specs.Graph.{count_of, members}
use Rattle.board.specs.declared.board.Board.{Board}
use Rattle.board.specs.declared.rail.Rail.{Rail}
use Rattle.board.specs.declared.write.Write.{Write}
use Rattle.board.specs.Fields.{field_at}
use Rattle.board.specs.Valid.{IsValid}
use Rattle.rail_law.proofs.Members.{All-flat_map}
use Rattle.rail_law.specs.Moves.{Move, writes_of}
use Rattle.rail_state.specs.Sight.{IsGuarded, IsOwned}
use Rattle.rail_state.proofs.Members.{Contains-from_filter}
use Rattle.rows.specs.declared.answer.Answer.{Answer}
use Rattle.rows.specs.declared.answer.Answer.TheVariants.{Suspended}
use Rattle.rows.specs.declared.call.Call.TheVariants.{ReleaseBoot}
use Rattle.use_counts.specs.Book.{Book}
use Rattle.plain_board.specs.declared.plain.Plain.{Plain}
use Rattle.plain_board.specs.Counts.{is_held}
use Rattle.plain_board.specs.Plan.{sweep_off}
use Rattle.plain_board.specs.Refusals.{refusal}
use Rattle.plain_board.specs.Seen.{book}
use Rattle.plain_board.specs.Untied.{CountsNoLoads, HoldFields, IsUntied}
use Rattle.plain_board.proofs.HandleMoves.{release_plan}
use Rattle.plain_board.proofs.SwitchMoves.{rails_of_moves, sweep_switches}
use Rattle.rail_ops.specs.Exact.{IsExact, IsLeft}
use Rattle.rail_ops.specs.Sight.{Hands, IsReady, Knows, MayBe, placed}
use Rattle.rail_ops.specs.Inside.AloneLaws.{rail_within}
use Rattle.rail_ops.specs.Inside.Falling.{Fell, IsSighted, WentDown, with_abort}
use Rattle.rail_ops.specs.Inside.Raised.{ChangesBook, raised}
use Rattle.rail_ops.specs.Inside.Releasing.{EndsHolds, is_always, released}
use Rattle.rail_ops.proofs.Exactly.{exact_refused}
use Rattle.rail_ops.proofs.FallExact.{down_exact, left_down}
use Rattle.rail_ops.proofs.Ready.{count_is, of_graph}
use Rattle.rail_ops.proofs.Reading.{first_reason}

-- the members of a group are rails
numbers_within : {X : Type 0} (xs : List X) → All (λ (p : ℕ × X). p.0 < length xs) (enumerate_from 0 xs)
numbers_within xs k d within =
    let inside : k < length xs = omega (arith, within, length-enumerate_from 0 xs) in
    omega (arith, inside, ap (λ (p : ℕ × _). p.0) (get_or-enumerate_from 0 xs k d inside))

members_within : (graph : Graph) (group : ℕ) → All (λ r. r < count_of graph) (members graph group)
members_within graph group =
    All-map (λ r. r < count_of graph) (λ (p : ℕ × ℕ). p.0) _ (All-filter _ (λ (p : ℕ × ℕ). p.0 < count_of graph) (enumerate_from 0 graph.group) (numbers_within graph.group))

module _ (board : Board) (valid : IsValid board) where
  -- the order is one of rails
  order_within : All (λ r. r < length board.rails) board.order
  order_within =
      subst (λ n. All (λ r. r < n) board.order) (count_is board valid)
      (subst (All (λ r. r < count_of board.graph)) (sym valid.sound.order.blocks)
      (All-flat_map (λ r. r < count_of board.graph) (members board.graph) valid.sound.order.groups (λ k d within. members_within board.graph _)))

  -- the last of the first so many of the order is a rail, and comes first of those from behind
  pub last_there : (at r : ℕ) → at < length board.order → get_or board.order at 0 ≡ r → r < length board.rails
  last_there at r within is = subst (λ n. n < length board.rails) is (order_within at 0 within)

  pub from_behind : (left at r : ℕ) → at < length board.order → at + 1 ≡ left → get_or board.order at 0 ≡ r → reverse (take left board.order) ≡ r ∷ reverse (take at board.order)
  from_behind left at r within next is =
      ap (λ n. reverse (take n board.order)) (sym next) ∙ ap reverse (take_more board.order at 0 within)
      ∙ reverse-append (take at board.order) (get_or board.order at 0 ∷ []) ∙ ap (λ n. n ∷ reverse (take at board.order)) is

-- a rail's hold is left where the rail is always on
and_none : (t : Bool) → false ≡ (t && false)
and_none true = refl
and_none false = refl

left_hold : (holds : List Bool) (rails : List Rail) (i : ℕ)
    → unwrap_or (slice_get (map (λ (held : Bool × Rail). held.0 && held.1.limits.always_on) (zip holds rails)) i) false ≡ (unwrap_or (slice_get holds i) false && option_map_or (λ (rail : Rail). rail.limits.always_on) (slice_get rails i) false)
left_hold [] rails i = refl
left_hold (held ∷ holds) [] i = and_none (unwrap_or (slice_get (held ∷ holds) i) false)
left_hold (held ∷ holds) (rail ∷ rails) zero = refl
left_hold (held ∷ holds) (rail ∷ rails) (suc i) = left_hold holds rails i

-- the holds of so many rails, one after another
pub ends_none : (hands : Hands) → EndsHolds 0 hands hands
ends_none hands = record { board = refl; rails = refl; bits = λ i part. refl; ended = λ i within. absurd (omega (arith, within)); others = λ i within. refl }

pub ends_more : (first mid after : Hands) (count r : ℕ) (always : Bool) → r + 1 ≡ count → always ≡ is_always first.board r
    → ChangesBook r (record (first.books r) { held = (first.books r).held && always }) first mid → EndsHolds r mid after → EndsHolds count first after
ends_more first mid after count r always next is changes ends = record {
  board = ends.board ∙ changes.board;
  rails = ends.rails ∙ changes.rails;
  bits = λ i part. ends.bits i part ∙ changes.bits i part;
  ended = λ i within. elim (cases_eq r i) [
    | inl same ↦
        ends.others i (omega (arith, same)) ∙ ap mid.books (sym same) ∙ changes.own ∙ ap (λ t. record (first.books r) { held = (first.books r).held && t }) is
        ∙ ap (λ k. record (first.books k) { held = (first.books k).held && is_always first.board k }) same
    | inr apart ↦
        ends.ended i (omega (arith, within, next, apart))
        ∙ ap (λ (b : Book). record b { held = b.held && is_always mid.board i }) (changes.others i apart)
        ∙ ap (λ (b : Board). record (first.books i) { held = (first.books i).held && is_always b i }) changes.board
  ];
  others = λ i past. ends.others i (omega (arith, past, next)) ∙ changes.others i (λ same. absurd (omega (arith, same, past, next)));
}

-- a rail that is held is owned where all are
pub owned_all : (board : Board) → IsValid board → (rails : List ℕ) → ((i : ℕ) → i < length board.rails → Contains rails i) → (r : ℕ) → IsOwned board rails r
owned_all board valid rails held r i guards = held i (rail_within board valid i (Contains-from_filter _ _ i guards).0)

-- once the holds ended the worker sees the plain board without them
pub sighted_released : (first mid : Hands) (board : Board) (here : first.board ≡ board) (plain : Plain) → IsSighted first plain → length plain.holds ≡ length board.rails → EndsHolds (length board.rails) first mid
    → IsSighted mid (released first.board plain)
sighted_released first mid board here plain sighted holds ends = record {
  chips = sighted.chips ∙ ap (λ (b : Board). b.chips) (sym ends.board);
  hold = subst (λ (b : Board). HoldFields b plain.regs) (sym ends.board) sighted.hold;
  rails = sighted.rails ∙ ap (λ (b : Board). length b.rails) (sym ends.board);
  shows = record {
    fields = λ j part field guarded is.
        sighted.shows.fields j part field
        (subst (λ (b : Board). IsGuarded b first.rails j) ends.board (subst (λ (rs : List ℕ). IsGuarded mid.board rs j) ends.rails guarded))
        (ap (λ (b : Board). field_at b j part) (sym ends.board) ∙ is)
        ∙ sym (ends.bits j part);
    books = λ i has. seen_book i (subst (λ (rs : List ℕ). Contains rs i) ends.rails has) ∙ ap (λ (b : Board). book b (released first.board plain) i) (sym ends.board);
  };
}
  where
    seen_book : (i : ℕ) → Contains first.rails i → mid.books i ≡ book first.board (released first.board plain) i
    seen_book i has = elim (cases_lt i (length board.rails)) [
      | inl within ↦
          ends.ended i within
          ∙ ap (λ (b : Book). record b { held = b.held && is_always first.board i }) (sighted.shows.books i has)
          ∙ ap (λ t. record (book first.board plain i) { held = t }) (sym (left_hold plain.holds first.board.rails i))
      | inr past ↦
          let none : is_held plain i ≡ false = ap (λ o. unwrap_or o false) (slice_get_past plain.holds i (omega (arith, past, holds))) in
          ends.others i past ∙ sighted.shows.books i has
          ∙ ap (λ t. record (book first.board plain i) { held = t }) (none ∙ sym (left_hold plain.holds first.board.rails i ∙ ap (λ t. t && is_always first.board i) none))
    ]

-- what went down from one sight went down from another that shows the same board, over the whole order
module _ (first mid after : Hands) (board : Board) (here : first.board ≡ board) (mid_board : mid.board ≡ first.board) (bus bus' : Bus) (plain : Plain) (left : ℕ) (whole : left ≡ length board.order) where
  abbrev moves_at : Board → List Move
  moves_at b = sweep_off b plain (reverse (take left board.order))

  same_moves : moves_at mid.board ≡ sweep_off first.board plain (reverse first.board.order)
  same_moves =
      ap (λ (b : Board). sweep_off b plain (reverse (take left board.order))) mid_board
      ∙ ap (λ (order : List ℕ). sweep_off first.board plain (reverse order)) (take_all left board.order (omega (arith, whole)) ∙ ap (λ (b : Board). b.order) (sym here))

  pub swept_left : (made : ℕ) (refused : Option ℕ) → WentDown mid after bus bus' made refused plain (moves_at mid.board) → WentDown first after bus bus' made refused plain (sweep_off first.board plain (reverse first.board.order))
  swept_left made refused went =
      let moved : WentDown (record mid { board = first.board }) after bus bus' made refused plain (sweep_off first.board plain (reverse first.board.order)) =
      subst (λ (b : Board). WentDown (record mid { board = b }) after bus bus' made refused plain (sweep_off first.board plain (reverse first.board.order))) mid_board
      (subst (λ (ms : List Move). WentDown mid after bus bus' made refused plain ms) same_moves went) in
      record { within = moved.within; shows = moved.shows; tells = moved.tells }

  pub swept : (keep : Bool) (said : Answer) (writes : List Write) → Fell mid after bus bus' keep said writes plain (moves_at mid.board) → Fell first after bus bus' keep said writes plain (sweep_off first.board plain (reverse first.board.order))
  swept keep said writes fell = record {
    made = fell.made;
    refused = fell.refused;
    came = record {
      went = swept_left fell.made fell.refused fell.came.went;
      all = λ none. fell.came.all none ∙ ap (λ (ms : List Move). length ms) same_moves;
      next = λ i is. ap (λ (ms : List Move). slice_get ms fell.made) (sym same_moves) ∙ fell.came.next i is;
    };
    done = fell.done;
    fault = λ i is. let told = fell.fault i is in (told.0, ap (λ (b : Board). slice_get b.rails i) (sym mid_board) ∙ told.1, told.2);
    kept =
        fell.kept ∙ ap (λ (b : Board). if keep then writes_of b (take fell.made (moves_at mid.board)) else []) mid_board
        ∙ ap (λ (ms : List Move). if keep then writes_of first.board (take fell.made ms) else []) same_moves;
  }

module _ (first : Hands) (names : List (List ℕ × ℕ)) (worker : ℕ) (valid : IsValid first.board) (untied : IsUntied first.board) (no_loads : CountsNoLoads first.board)
    (ready : IsReady (placed first names worker) ReleaseBoot) where
  -- all rails are held
  pub holds_all : (i : ℕ) → i < length first.board.rails → Contains first.rails i
  holds_all i inside = ready.held i (of_graph first.board valid i inside)

  reason_by : (suspended : Bool) → first_reason ((suspended, Suspended) ∷ []) ≡ cond suspended (Some Suspended) None
  reason_by true = refl
  reason_by false = refl

  module _ (plain : Plain) (may_be : MayBe (placed first names worker) plain) where
    refusal_is : refusal first.board plain worker ReleaseBoot ≡ cond (first.books 0).suspended (Some Suspended) None
    refusal_is = reason_by plain.suspended ∙ ap (λ t. cond t (Some Suspended) None) (sym (ap (λ (b : Book). b.suspended) (may_be.shows.books 0 (holds_all 0 valid.sound.some))))

    -- on a suspended board it is refused
    pub suspended_so : (first.books 0).suspended ≡ true → (bus : Bus) (keep : Bool) → IsExact ReleaseBoot (placed first names worker) (placed first names worker) bus bus keep Suspended [] plain
    suspended_so is bus keep =
        exact_refused (placed first names worker) ReleaseBoot bus keep Suspended refl plain may_be (refusal_is ∙ ap (λ t. cond t (Some Suspended) None) is) (placed first names worker) may_be

    pub sighted_first : IsSighted first plain
    sighted_first = record { chips = may_be.inv.kept.regs; hold = may_be.hold; rails = may_be.inv.kept.events; shows = may_be.shows }

    pub holds_long : length plain.holds ≡ length first.board.rails
    holds_long = may_be.inv.kept.holds

    module _ (awake : (first.books 0).suspended ≡ false) where
      free : refusal first.board plain worker ReleaseBoot ≡ None
      free = refusal_is ∙ ap (λ t. cond t (Some Suspended) None) awake

      commutes : (ms : List Move) (o : Option ℕ) → released first.board (with_abort (raised first.board plain ms) o) ≡ with_abort (raised first.board (released first.board plain) ms) o
      commutes ms None = refl
      commutes ms (Some i) = refl

      knows : (ms : List Move) (o : Option ℕ) → Knows names worker (released first.board (with_abort (raised first.board plain ms) o))
      knows ms None = record { rails = may_be.knows.rails; count = may_be.knows.count }
      knows ms (Some i) = record { rails = may_be.knows.rails; count = may_be.knows.count }

      module _ (after : Hands) (same : after.board ≡ first.board) (bus bus' : Bus) where
        -- the memory was out on the way
        pub left_release : (made : ℕ) → WentDown first after bus bus' made None (released first.board plain) (sweep_off first.board (released first.board plain) (reverse first.board.order))
            → IsLeft ReleaseBoot (placed first names worker) (placed after names worker) bus bus' plain
        left_release =
            left_down first names worker ReleaseBoot valid untied no_loads plain may_be (released first.board) (λ b. sweep_off first.board (released first.board plain) (reverse first.board.order))
            (rails_of_moves (sweep_off first.board (released first.board plain) (reverse first.board.order))) tt tt free (release_plan first.board plain worker free)
            (sweep_switches first.board (released first.board plain) (reverse first.board.order)) (λ now. refl) (λ now. refl) (λ now. refl) commutes knows first after refl same bus bus'

        -- the release is exact, however far the rails went down
        pub exact_release : (keep : Bool) (said : Answer) (writes : List Write)
            → Fell first after bus bus' keep said writes (released first.board plain) (sweep_off first.board (released first.board plain) (reverse first.board.order))
            → IsExact ReleaseBoot (placed first names worker) (placed after names worker) bus bus' keep said writes plain
        exact_release =
            down_exact first names worker ReleaseBoot valid untied no_loads plain may_be (released first.board) (λ b. sweep_off first.board (released first.board plain) (reverse first.board.order))
            (rails_of_moves (sweep_off first.board (released first.board plain) (reverse first.board.order))) tt tt free (release_plan first.board plain worker free)
            (sweep_switches first.board (released first.board plain) (reverse first.board.order)) (λ now. refl) (λ now. refl) (λ now. refl) commutes knows first after refl same bus bus'
