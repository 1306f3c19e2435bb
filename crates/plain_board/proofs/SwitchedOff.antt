-- Rails that nothing uses are switched off one after another: each is supply of none that is on.
use Rattle.std.proofs.Common.{◌≡◌, ℕ, ◌+◌, ◌<◌, ◌&&◌, Bool, true, false, cond, List, [], ◌∷◌, Option, Some, None, refl, sym, ap, ◌∙◌, arith, length, get_or, slice_get}
use Rattle.std.specs.Prelude.{if◌then◌else◌, option_and_then, option_map}
use Rattle.std.proofs.lemmas.Bool.{and_parts, eqb-true, eq-eqb}
use Rattle.std.proofs.lemmas.List.Sums.{get_or-le-sum_by}
use Rattle.std.proofs.lemmas.Option.{same_Some, slice_get-map, slice_get_within, get_or_from_slice_get}
use Rattle.board_graph.specs.Graph.{supply_at, Supplies}
use Rattle.board.specs.declared.board.Board.{Board}
use Rattle.board.specs.declared.rail.Rail.{Rail}
use Rattle.board.specs.declared.rail_id.RailId.{RailId}
use Rattle.board.specs.Rail.{is_on}
use Rattle.board.specs.Valid.{supply_of, IsSoundBoard}
use Rattle.plain_board.specs.declared.plain.Plain.{Plain}
use Rattle.plain_board.specs.Counts.{enables, is_held, is_supply, votes, use_count}
use Rattle.plain_board.specs.Law.{Throughout}
use Rattle.plain_board.specs.Plan.{switch, is_idle, with_off, chain_off, sweep_off}
use Rattle.plain_board.specs.Untied.{HoldFields}
use Rattle.plain_board.proofs.Switches.{IsSwitching, switch_off}

-- enables or a hold keep the rail on
abbrev pub is_kept_on : Plain → ℕ → ℕ
is_kept_on plain i = enables plain i + (if is_held plain i then 1 else 0)

-- so nobody switches it off
abbrev pub KeptOn : Plain → ℕ → Type 0
KeptOn plain i = 0 < is_kept_on plain i

-- the registers while rails of a plain board are switched off: what is kept on is on
abbrev pub IsGoingDown : Board → List (List ℕ) → Plain → List (List ℕ) → Type 0
IsGoingDown board first plain regs = IsSwitching board first (KeptOn plain) regs

-- a rail that has this one as its supply and adds no vote is off
vote_off : (s t : Bool) → s ≡ true → cond {A = ℕ} (s && t) 1 0 ≡ 0 → t ≡ false
vote_off true true is none = absurd (omega (arith, none))
vote_off true false is none = refl
vote_off false t is none = absurd (cc)

supply_number : (supply : Option RailId) (r : ℕ) → option_map (λ (s : RailId). s.0) supply ≡ Some r → is_supply r supply ≡ true
supply_number None r is = absurd (cc)
supply_number (Some s) r is = eq-eqb s.0 r (same_Some s.0 r is)

number_supply : (supply : Option RailId) (r : ℕ) → is_supply r supply ≡ true → option_map (λ (s : RailId). s.0) supply ≡ Some r
number_supply None r is = absurd (cc)
number_supply (Some s) r is = ap Some (eqb-true s.0 r is)

module _ (board : Board) (sound : IsSoundBoard board) where
  -- the graph's supply is the rail's
  supply_read : (lower : ℕ) (b : Rail) → slice_get board.rails lower ≡ Some b → supply_at board.graph lower ≡ supply_of b
  supply_read lower b at =
      ap (λ (all : List (Option ℕ)). option_and_then (λ (supply : Option ℕ). supply) (slice_get all lower)) sound.graph.supplies
      ∙ ap (option_and_then (λ (supply : Option ℕ). supply)) (slice_get-map supply_of board.rails lower ∙ ap (option_map supply_of) at)

  is_supply_of : (upper lower : ℕ) (b : Rail) → Supplies board.graph upper lower → slice_get board.rails lower ≡ Some b → is_supply upper b.supply ≡ true
  is_supply_of upper lower b supplies at = supply_number b.supply upper (sym (supply_read lower b at) ∙ supplies)

  pub rail_supplies : (upper lower : ℕ) (b : Rail) → slice_get board.rails lower ≡ Some b → is_supply upper b.supply ≡ true → Supplies board.graph upper lower
  rail_supplies upper lower b at is = supply_read lower b at ∙ number_supply b.supply upper is

  -- where a rail has no votes none that is on has it as supply
  pub no_vote : (plain : Plain) (r : ℕ) → votes board plain r ≡ 0 → (lower : ℕ) (b : Rail) → Supplies board.graph r lower → slice_get board.rails lower ≡ Some b
      → is_on b plain.regs ≡ false
  no_vote plain r none lower b supplies at =
      let weigh : Rail → ℕ = λ rail. cond (is_supply r rail.supply && is_on rail plain.regs) 1 0 in
      let less = get_or-le-sum_by weigh board.rails lower b (slice_get_within board.rails lower b at) in
      let here : weigh (get_or board.rails lower b) ≡ weigh b = ap weigh (get_or_from_slice_get board.rails lower b b at) in
      vote_off (is_supply r b.supply) (is_on b plain.regs) (is_supply_of r lower b supplies at) (omega (arith, less, here, none))

  -- an idle rail isn't used
  pub idle_unused : (plain : Plain) (r : ℕ) → is_idle board plain r ≡ true → use_count board plain r ≡ 0
  idle_unused plain r idle = eqb-true (use_count board plain r) 0 (and_parts _ _ idle).1

  module _ (first : List (List ℕ)) (chips : length first ≡ board.chips) (hold : HoldFields board first) where
    -- an idle rail may go off
    pub one_off : (plain : Plain) (r : ℕ) → IsGoingDown board first plain plain.regs → is_idle board plain r ≡ true → IsGoingDown board first plain (with_off board plain r).regs
    one_off plain r state idle =
        let none = idle_unused plain r idle in
        switch_off board sound first chips hold (KeptOn plain) r plain.regs state (no_vote plain r (omega (arith, none))) (λ need. absurd (omega (arith, none, need)))

    chain_by : (plain : Plain) (r : ℕ) (above : List ℕ) (t : Bool) → is_idle board plain r ≡ t → IsGoingDown board first plain plain.regs
        → (IsGoingDown board first plain (with_off board plain r).regs → Throughout (IsGoingDown board first plain) board (with_off board plain r).regs (chain_off board (with_off board plain r) above))
        → Throughout (IsGoingDown board first plain) board plain.regs (cond t (switch 0 r ∷ chain_off board (with_off board plain r) above) [])
    chain_by plain r above true idle state rest = (state, rest (one_off plain r state idle))
    chain_by plain r above false idle state rest = state

    -- each of the rails of a chain that goes off is idle then
    pub chain_goes_down : (plain : Plain) (rails : List ℕ) → IsGoingDown board first plain plain.regs → Throughout (IsGoingDown board first plain) board plain.regs (chain_off board plain rails)
    chain_goes_down plain [] state = state
    chain_goes_down plain (r ∷ above) state = chain_by plain r above (is_idle board plain r) refl state (chain_goes_down (with_off board plain r) above)

    sweep_by : (plain : Plain) (r : ℕ) (rest : List ℕ) (t : Bool) → is_idle board plain r ≡ t → IsGoingDown board first plain plain.regs
        → (IsGoingDown board first plain (with_off board plain r).regs → Throughout (IsGoingDown board first plain) board (with_off board plain r).regs (sweep_off board (with_off board plain r) rest))
        → Throughout (IsGoingDown board first plain) board plain.regs (sweep_off board plain rest)
        → Throughout (IsGoingDown board first plain) board plain.regs (cond t (switch 0 r ∷ sweep_off board (with_off board plain r) rest) (sweep_off board plain rest))
    sweep_by plain r rest true idle state off on = (state, off (one_off plain r state idle))
    sweep_by plain r rest false idle state off on = on

    -- and each of a sweep
    pub sweep_goes_down : (plain : Plain) (rails : List ℕ) → IsGoingDown board first plain plain.regs → Throughout (IsGoingDown board first plain) board plain.regs (sweep_off board plain rails)
    sweep_goes_down plain [] state = state
    sweep_goes_down plain (r ∷ rest) state =
        sweep_by plain r rest (is_idle board plain r) refl state (sweep_goes_down (with_off board plain r) rest) (sweep_goes_down plain rest state)
