-- Rails that come up one after another: each is switched on if it is off when its turn comes.
use Rattle.std.proofs.Common.{◌≡◌, ◌≢◌, ℕ, ◌-◌, ◌<◌, Bool, true, false, not, cond, List, [], ◌∷◌, Option, Some, None, refl, sym, ap, ◌∙◌, arith, length, get_or, map, filter, reverse, slice_get, All, AllPairs}
use Rattle.std.specs.Option.{option_map_or}
use Rattle.std.specs.Prelude.{if◌then◌else◌}
use Rattle.std.proofs.lemmas.List.{length-reverse, get_or-reverse}
use Rattle.std.proofs.lemmas.List.Elements.{All-head, All-tail}
use Rattle.board.specs.declared.board.Board.{Board}
use Rattle.board.specs.declared.rail.Rail.{Rail}
use Rattle.board.specs.Rail.{is_on}
use Rattle.board.specs.Valid.{IsSoundBoard}
use Rattle.rail_law.specs.Moves.{Move}
use Rattle.plain_board.specs.Plan.{chain, switch}
use Rattle.plain_board.specs.Switched.{is_off, off_rails}
use Rattle.plain_board.specs.Untied.{HoldFields}
use Rattle.plain_board.proofs.ChainEnds.{chain_distinct}
use Rattle.plain_board.proofs.OwnHandle.{pairs_first, pairs_rest}
use Rattle.plain_board.proofs.Switches.{AreSwitchedOnly, IsSwitchedAt, nothing_switched, after_switch, switched_at}

-- the moves of rails that come up in turn, on the registers as each finds them
abbrev pub on_in_turn : Board → List (List ℕ) → List ℕ → List Move
on_in_turn board regs [] = []
on_in_turn board regs (r ∷ rest) = if is_off board regs r then switch 1 r ∷ on_in_turn board (after_switch board 1 r regs) rest else on_in_turn board regs rest

-- two tests that agree at each element of a list keep the same of it
filter_same : (p q : ℕ → Bool) (xs : List ℕ) → All (λ x. p x ≡ q x) xs → filter p xs ≡ filter q xs
filter_same p q [] all = refl
filter_same p q (x ∷ xs) all =
    ap (λ t. cond t (x ∷ filter p xs) (filter p xs)) (All-head (λ y. p y ≡ q y) x xs all)
    ∙ ap (λ ys. cond (q x) (x ∷ ys) ys) (filter_same p q xs (All-tail (λ y. p y ≡ q y) x xs all))

module _ (board : Board) (sound : IsSoundBoard board) (first : List (List ℕ)) (chips : length first ≡ board.chips) (hold : HoldFields board first) where
  -- a rail is as far off as it was before another one came up
  off_by : (r : ℕ) (regs after : List (List ℕ)) → IsSwitchedAt board r 1 first regs after → (k : ℕ) → r ≢ k → is_off board after k ≡ is_off board regs k
  off_by r regs after step k apart = by (slice_get board.rails k) refl where
    by : (o : Option Rail) → slice_get board.rails k ≡ o → option_map_or (λ rail. not (is_on rail after)) o false ≡ option_map_or (λ rail. not (is_on rail regs)) o false
    by None none = refl
    by (Some rail) at = ap not (step.others k rail at apart)

  in_turn_by : (r : ℕ) (rest : List ℕ) (regs : List (List ℕ)) (t : Bool) → AreSwitchedOnly board first regs → All (λ k. r ≢ k) rest
      → ((new : List (List ℕ)) → AreSwitchedOnly board first new → map (switch 1) (off_rails board new rest) ≡ on_in_turn board new rest)
      → map (switch 1) (cond t (r ∷ off_rails board regs rest) (off_rails board regs rest)) ≡ cond t (switch 1 r ∷ on_in_turn board (after_switch board 1 r regs) rest) (on_in_turn board regs rest)
  in_turn_by r rest regs false only apart further = further regs only
  in_turn_by r rest regs true only apart further =
      let step = switched_at board sound first chips hold 1 (omega arith) r regs only in
      let same : off_rails board regs rest ≡ off_rails board (after_switch board 1 r regs) rest =
      filter_same (is_off board regs) (is_off board (after_switch board 1 r regs)) rest (λ k d within. sym (off_by r regs (after_switch board 1 r regs) step (get_or rest k d) (apart k d within))) in
      ap (λ rails. switch 1 r ∷ map (switch 1) rails) same ∙ ap (λ moves. switch 1 r ∷ moves) (further (after_switch board 1 r regs) step.only)

  -- where each rail stands once in a list, those that are off are those that are off in turn
  pub off_in_turn : (rails : List ℕ) → AllPairs (λ i j. i ≢ j) rails → (regs : List (List ℕ)) → AreSwitchedOnly board first regs
      → map (switch 1) (off_rails board regs rails) ≡ on_in_turn board regs rails
  off_in_turn [] apart regs only = refl
  off_in_turn (r ∷ rest) apart regs only =
      in_turn_by r rest regs (is_off board regs r) only (pairs_first (λ i j. i ≢ j) r rest apart) (off_in_turn rest (pairs_rest (λ i j. i ≢ j) r rest apart))

reverse_apart : (rails : List ℕ) → AllPairs (λ i j. i ≢ j) rails → AllPairs (λ i j. i ≢ j) (reverse rails)
reverse_apart rails apart i j d less within same =
    let long = length-reverse rails in
    let short : j < length rails = omega (arith, within, long) in
    let first = get_or-reverse rails i d (omega (arith, short, less)) in
    let second = get_or-reverse rails j d short in
    apart (length rails - 1 - j) (length rails - 1 - i) d (omega (arith, short, less)) (omega (arith, short, less)) (sym second ∙ sym same ∙ first)

-- the rails of a chain come up in turn, from above
pub chain_in_turn : (board : Board) → IsSoundBoard board → (regs : List (List ℕ)) → length regs ≡ board.chips → HoldFields board regs → (r : ℕ) → r < length board.rails
    → map (switch 1) (off_rails board regs (reverse (chain board r))) ≡ on_in_turn board regs (reverse (chain board r))
chain_in_turn board sound regs chips hold r below =
    off_in_turn board sound regs chips hold (reverse (chain board r)) (reverse_apart (chain board r) (chain_distinct board sound r below)) regs (nothing_switched board sound regs chips hold)
