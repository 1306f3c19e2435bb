-- The way up from a rail: the rail, and the way up from its supply.
use Rattle.std.proofs.Common.{◌≡◌, ◌≢◌, ℕ, zero, suc, ◌-◌, ◌<◌, ◌≤◌, ◌&&◌, true, List, [], ◌∷◌, Option, Some, None, refl, sym, ap, ◌∙◌, subst, arith, length, slice_get, All, AllPairs}
use Rattle.std.specs.Prelude.{Contains, IfSome, option_map}
use Rattle.std.proofs.lemmas.List.Elements.{All-head, All-tail}
use Rattle.std.proofs.lemmas.Option.{same_Some}
use Rattle.std.proofs.lemmas.List.Sums.{count_by-le-length}
use Rattle.board_graph.specs.declared.graph.Graph.{Graph}
use Rattle.board_graph.specs.Graph.{supply_at}
use Rattle.board.specs.declared.board.Board.{Board}
use Rattle.board.specs.declared.part.Part.TheVariants.{Enable as EnableBit}
use Rattle.board.specs.declared.rail.Rail.{Rail}
use Rattle.board.specs.declared.rail_id.RailId.{RailId}
use Rattle.board.specs.Rail.{is_on}
use Rattle.board.specs.Valid.{IsValid}
use Rattle.use_counts.specs.Book.{Book}
use Rattle.plain_board.specs.declared.plain.Plain.{Plain}
use Rattle.plain_board.specs.Counts.{is_supply, votes}
use Rattle.plain_board.specs.Plan.{upward}
use Rattle.plain_board.proofs.OwnHandle.{pairs_first, pairs_rest}
use Rattle.rail_ops.specs.Sight.{Hands, Shows}
use Rattle.rail_ops.specs.Inside.Rising.{reaches_top, LeadsUp}
use Rattle.rail_ops.specs.Inside.Supplied.{HasUpheldSupply}
use Rattle.rail_ops.proofs.Stepped.{supply_read}
use Rattle.rail_ops.proofs.Upheld.{supply_inside, for_supply}

chain_is : (graph : Graph) (most r : ℕ) → reaches_top graph most (Some r) ≡ true → upward graph most (Some r) ≡ r ∷ upward graph (most - 1) (supply_at graph r)
chain_is graph zero r is = absurd (cc)
chain_is graph (suc m) r is = let same : suc m - 1 ≡ m = omega arith in ap (λ k. r ∷ upward graph k (supply_at graph r)) (sym same)

ends_above : (graph : Graph) (most r : ℕ) → reaches_top graph most (Some r) ≡ true → reaches_top graph (most - 1) (supply_at graph r) ≡ true
ends_above graph zero r is = absurd (cc)
ends_above graph (suc m) r is = let same : suc m - 1 ≡ m = omega arith in subst (λ k. reaches_top graph k (supply_at graph r) ≡ true) (sym same) is

some_steps : (graph : Graph) (most r : ℕ) → reaches_top graph most (Some r) ≡ true → 0 < most
some_steps graph zero r is = absurd (cc)
some_steps graph (suc m) r is = omega arith

pub nothing_above : (graph : Graph) (most : ℕ) → upward graph most None ≡ []
nothing_above graph zero = refl
nothing_above graph (suc m) = refl

module _ (board : Board) (valid : IsValid board) (most r : ℕ) (rail : Rail) (at : slice_get board.rails r ≡ Some rail) (up : LeadsUp board most (Some r)) where
  abbrev supply : Option ℕ
  supply = option_map (λ (id : RailId). id.0) rail.supply

  read : supply_at board.graph r ≡ supply
  read = supply_read board valid r rail at

  abbrev pub above : List ℕ
  above = upward board.graph (most - 1) supply

  pub way_is : upward board.graph most (Some r) ≡ r ∷ above
  way_is = chain_is board.graph most r up.ends ∙ ap (λ o. r ∷ upward board.graph (most - 1) o) read

  pub way_long : 0 < most
  way_long = some_steps board.graph most r up.ends

  pub leads_above : LeadsUp board (most - 1) supply
  leads_above = record {
    ends = subst (λ o. reaches_top board.graph (most - 1) o ≡ true) read (ends_above board.graph most r up.ends);
    apart = pairs_rest (λ i j. i ≢ j) r above (subst (AllPairs (λ i j. i ≢ j)) way_is up.apart);
  }

  pub apart_above : All (λ k. r ≢ k) above
  apart_above = pairs_first (λ i j. i ≢ j) r above (subst (AllPairs (λ i j. i ≢ j)) way_is up.apart)

  pub first_of : (P : ℕ → Type 0) → All P (upward board.graph most (Some r)) → P r
  first_of P all = All-head P r above (subst (All P) way_is all)

  pub rest_of : (P : ℕ → Type 0) → All P (upward board.graph most (Some r)) → All P above
  rest_of P all = All-tail P r above (subst (All P) way_is all)

  pub supply_there : IfSome rail.supply (λ id. id.0 < length board.rails)
  supply_there = for_supply (λ s. s < length board.rails) rail.supply (λ s is. supply_inside board valid r s (read ∙ is))

  -- what holds of all above holds of the supply
  pub supply_of_all : (P : ℕ → Type 0) → All P above → (s : ℕ) → supply ≡ Some s → P s
  supply_of_all P all s is =
      let here = leads_above in
      let first = chain_is board.graph (most - 1) s (subst (λ o. reaches_top board.graph (most - 1) o ≡ true) is here.ends) in
      All-head P s _ (subst (All P) (ap (upward board.graph (most - 1)) is ∙ first) all)

  -- a supply that has come up, as the worker sees it, upholds the rail
  pub upheld : (hands : Hands) (plain : Plain) → hands.board ≡ board → Shows hands plain → All (λ i. Contains hands.rails i) above
      → IfSome rail.supply (λ id. hands.bits id.0 EnableBit ≡ 1) → HasUpheldSupply hands r
  upheld hands plain same shows held on s is =
      let mine : supply ≡ Some s = sym read ∙ ap (λ (b : Board). supply_at b.graph r) (sym same) ∙ is in
      let there = supply_of_all (λ i. Contains hands.rails i) held s mine in
      record {
        held = there;
        on = by rail.supply mine on;
        room =
            let few = valid.sound.few in
            let most_votes : votes board plain s ≤ length board.rails = count_by-le-length (λ (a : Rail). is_supply s a.supply && is_on a plain.regs) board.rails in
            let seen : (hands.books s).votes ≡ votes board plain s = ap (λ (b : Book). b.votes) (shows.books s there) ∙ ap (λ (b : Board). votes b plain s) same in
            omega (arith, seen, most_votes, few);
      }
    where
      by : (o : Option RailId) → option_map (λ (id : RailId). id.0) o ≡ Some s → IfSome o (λ id. hands.bits id.0 EnableBit ≡ 1) → hands.bits s EnableBit ≡ 1
      by None none on = absurd (cc)
      by (Some id) some on = subst (λ (k : ℕ). hands.bits k EnableBit ≡ 1) (same_Some id.0 s some) on
