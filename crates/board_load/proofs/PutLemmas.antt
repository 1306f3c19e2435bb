-- What loading puts is what its moves write.
use Rattle.std.proofs.Common.{◌≡◌, ℕ, Bool, true, false, cond, not, List, [], ◌∷◌, ◌++◌, Option, Some, None, refl, ap, ap₂, ◌∙◌, subst, map, flat_map, slice_get, slice_index, length, take, get_or, All, ◌+◌, ◌<◌}
use Rattle.std.specs.Prelude.{◌==◌, IfSome, IsSome, option_map, option_and_then}
use Rattle.std.specs.List.{filter_map, cons_option}
use Rattle.std.specs.Option.{option_map_or, option_to_list}
use Rattle.std.proofs.lemmas.List.{take_more}
use Rattle.std.proofs.lemmas.List.Elements.{All-nil, All-cons, All-head, All-tail, All-append, All-weaker, filter_passes, filter_map-append, filter-append}
use Rattle.chip_regs.specs.declared.field.Field.{Field}
use Rattle.chip_regs.specs.Field.{FitsField}
use Rattle.chip_regs.specs.Registers.{field_of, with_field}
use Rattle.load_modes.specs.declared.mode.Mode.{Mode}
use Rattle.board.specs.declared.board.Board.{Board}
use Rattle.board.specs.declared.part.Part.{Part}
use Rattle.board.specs.declared.part.Part.TheVariants.{Selector, Enable, ModePart}
use Rattle.board.specs.declared.rail.Rail.{Rail}
use Rattle.board.specs.Desc.{IsPlaced}
use Rattle.board.specs.Fields.{field_at}
use Rattle.board.specs.Rail.{uv, part_field}
use Rattle.board.specs.Valid.{IsSoundBoard}
use Rattle.rail_law.specs.Moves.{Move, field_of_move, written, after_moves, update_of_field, writes_of}
use Rattle.rail_law.proofs.Members.{All-flat_map}
use Rattle.plain_board.specs.Plan.{is_other, changing, mode_number, move_for, switch, table_selector}
use Rattle.plain_board.specs.Untied.{HoldFields}
use Rattle.board_load.specs.declared.puts.Put.{Put}
use Rattle.board_load.specs.Start.{start_mode, starts_on}
use Rattle.board_load.specs.Writes.{selector_moves, start_mode_moves, value_and_mode, on_moves, loading_moves}
use Rattle.board_load.specs.Inside.Puts.{changed_put, value_put, mode_put, on_put, value_and_mode_puts, on_puts, loading_puts, after_puts, write_of_put}
use Rattle.board_load.proofs.AimedMoves.{IsAimed, placed_at}
use Rattle.board_load.proofs.LoadingAims.{aim, all_aimed, move_to}

flat_map_same : {A B : Type 0} (f g : A → List B) (xs : List A) → ((x : A) → f x ≡ g x) → flat_map f xs ≡ flat_map g xs
flat_map_same f g [] same = refl
flat_map_same f g (x ∷ xs) same = ap (λ ys. ys ++ flat_map f xs) (same x) ∙ ap (λ ys. g x ++ ys) (flat_map_same f g xs same)

-- one put more
after_push : (regs : List (List ℕ)) (puts : List Put) (put : Put) → after_puts regs (puts ++ put ∷ []) ≡ with_field (after_puts regs puts) put.field put.bits
after_push regs [] put = refl
after_push regs (first ∷ puts) put = after_push (with_field regs first.field first.bits) puts put

pub after_more : (regs : List (List ℕ)) (puts : List Put) (k : ℕ) (d : Put) → k < length puts
    → after_puts regs (take (k + 1) puts) ≡ with_field (after_puts regs (take k puts)) ((get_or puts k d).field) ((get_or puts k d).bits)
after_more regs puts k d within = ap (after_puts regs) (take_more puts k d within) ∙ after_push regs (take k puts) (get_or puts k d)

module _ (board : Board) where
  -- the put that a move makes, where its field is there
  abbrev put_of : Move → Option Put
  put_of move = option_map (λ field. record { field = field; bits = move.bits }) (field_of_move board move)

  abbrev puts_of : List Move → List Put
  puts_of moves = filter_map put_of moves

  puts_joined : {A : Type 0} (f : A → List Move) (xs : List A) → puts_of (flat_map f xs) ≡ flat_map (λ x. puts_of (f x)) xs
  puts_joined f [] = refl
  puts_joined f (x ∷ xs) = filter_map-append put_of (f x) (flat_map f xs) ∙ ap (λ ys. puts_of (f x) ++ ys) (puts_joined f xs)

  after_by : (move : Move) (moves : List Move) (regs : List (List ℕ)) (o : Option Field) → ((rs : List (List ℕ)) → after_moves board rs moves ≡ after_puts rs (puts_of moves))
      → after_moves board (written o regs move.bits) moves ≡ after_puts regs (cons_option (option_map (λ field. record { field = field; bits = move.bits }) o) (puts_of moves))
  after_by move moves regs None later = later regs
  after_by move moves regs (Some f) later = later (with_field regs f move.bits)

  -- the registers after them
  after_are : (moves : List Move) (regs : List (List ℕ)) → after_moves board regs moves ≡ after_puts regs (puts_of moves)
  after_are [] regs = refl
  after_are (move ∷ moves) regs = after_by move moves regs (field_of_move board move) (after_are moves)

  write_by : (move : Move) (moves : List Move) (o : Option Field) → IsSome o → writes_of board moves ≡ map write_of_put (puts_of moves)
      → update_of_field o move.bits ∷ writes_of board moves ≡ map write_of_put (cons_option (option_map (λ field. record { field = field; bits = move.bits }) o) (puts_of moves))
  write_by move moves None some later = absurd (cc)
  write_by move moves (Some f) some later = ap (λ ws. update_of_field (Some f) move.bits ∷ ws) later

  -- and the masked updates, where each field is there
  writes_are : (moves : List Move) → All (λ move. IsSome (field_of_move board move)) moves → writes_of board moves ≡ map write_of_put (puts_of moves)
  writes_are [] all = refl
  writes_are (move ∷ moves) all =
      write_by move moves (field_of_move board move) (All-head (λ m. IsSome (field_of_move board m)) move moves all) (writes_are moves (All-tail (λ m. IsSome (field_of_move board m)) move moves all))

  -- what holds of each field that is there, with what it is to hold
  abbrev HasPut : (Put → Type 0) → Move → Type 0
  HasPut P move = IfSome (field_of_move board move) (λ f. P (record { field = f; bits = move.bits }))

  has_by : (P : Put → Type 0) (move : Move) (o : Option Field) (puts : List Put) → IfSome o (λ f. P (record { field = f; bits = move.bits })) → All P puts
      → All P (cons_option (option_map (λ field. record { field = field; bits = move.bits }) o) puts)
  has_by P move None puts has rest = rest
  has_by P move (Some f) puts has rest = All-cons P (record { field = f; bits = move.bits }) puts has rest

  puts_have : (P : Put → Type 0) (moves : List Move) → All (HasPut P) moves → All P (puts_of moves)
  puts_have P [] all = All-nil P
  puts_have P (move ∷ moves) all = has_by P move (field_of_move board move) (puts_of moves) (All-head (HasPut P) move moves all) (puts_have P moves (All-tail (HasPut P) move moves all))

  module _ (regs : List (List ℕ)) where
    abbrev changes_field : Move → Bool
    changes_field move = is_other regs move.bits (field_of_move board move)

    -- one move that changes its field
    put_by : (o : Option Field) (move : Move) → field_of_move board move ≡ o → puts_of (changing board regs (move ∷ [])) ≡ option_to_list (option_and_then (λ f. changed_put regs f move.bits) o)
    put_by None move is = let same : changes_field move ≡ false = ap (is_other regs move.bits) is in ap (λ (t : Bool). puts_of (cond t (move ∷ []) [])) same
    put_by (Some f) move is =
        let same : changes_field move ≡ not (field_of regs f == move.bits) = ap (is_other regs move.bits) is in
        ap (λ (t : Bool). puts_of (cond t (move ∷ []) [])) same ∙ by (field_of regs f == move.bits)
      where
        by : (t : Bool) → puts_of (cond (not t) (move ∷ []) []) ≡ option_to_list (cond t None (Some (record { field = f; bits = move.bits })))
        by true = refl
        by false = ap (λ (o : Option Field). cons_option (option_map (λ field. record { field = field; bits = move.bits }) o) []) is

    -- a number for a part of a rail, where there is one
    part_put : (r : ℕ) (part : Part) (o : Option Field) (bits : Option ℕ) → field_at board r part ≡ o
        → puts_of (changing board regs (move_for r part bits)) ≡ option_to_list (option_and_then (λ f. option_and_then (changed_put regs f) bits) o)
    part_put r part None None is = refl
    part_put r part (Some f) None is = refl
    part_put r part None (Some n) is = put_by None (move_to r part n) is
    part_put r part (Some f) (Some n) is = put_by (Some f) (move_to r part n) is

    puts_unless : (t : Bool) (moves : List Move) (put : Option Put) → puts_of (changing board regs moves) ≡ option_to_list put → puts_of (changing board regs (cond t [] moves)) ≡ option_to_list (cond t None put)
    puts_unless true moves put is = refl
    puts_unless false moves put is = is

    by_mode : (o : Option Field) (start : Option Mode)
        → option_and_then (λ f. option_and_then (changed_put regs f) (option_map mode_number start)) o ≡ option_and_then (λ f. option_and_then (λ mode. changed_put regs f (mode_number mode)) start) o
    by_mode None start = refl
    by_mode (Some f) None = refl
    by_mode (Some f) (Some mode) = refl

    module _ (values : List ℕ) where
      values_put : (r : ℕ) → puts_of (value_and_mode board regs values r) ≡ value_and_mode_puts board regs values r
      values_put r = by (slice_get board.rails r) refl where
        by : (o : Option Rail) → slice_get board.rails r ≡ o
            → puts_of (option_map_or (λ rail. changing board regs (selector_moves regs (slice_index values r) r rail ++ start_mode_moves r rail)) o [])
            ≡ option_map_or (λ rail. option_to_list (value_put regs (slice_index values r) rail) ++ option_to_list (mode_put regs rail)) o []
        by None there = refl
        by (Some rail) there =
            let v = slice_index values r in
            let first = selector_moves regs v r rail in
            let second = start_mode_moves r rail in
            let field : (part : Part) → field_at board r part ≡ part_field part rail = λ part. ap (option_and_then (part_field part)) there in
            let of_value : puts_of (changing board regs first) ≡ option_to_list (value_put regs v rail) =
            puts_unless (uv rail regs == v) (move_for r Selector (table_selector rail v)) (option_and_then (λ f. option_and_then (changed_put regs f) (table_selector rail v)) rail.desc.selector)
            (part_put r Selector rail.desc.selector (table_selector rail v) (field Selector)) in
            let of_mode : puts_of (changing board regs second) ≡ option_to_list (mode_put regs rail) =
            part_put r ModePart rail.desc.modes (option_map mode_number (start_mode rail)) (field ModePart) ∙ ap option_to_list (by_mode rail.desc.modes (start_mode rail)) in
            ap puts_of (filter-append changes_field first second)
            ∙ filter_map-append put_of (changing board regs first) (changing board regs second)
            ∙ ap₂ (λ (a b : List Put). a ++ b) of_value of_mode

      on_put_is : (r : ℕ) → puts_of (on_moves board regs r) ≡ on_puts board regs r
      on_put_is r = by (starts_on board regs r) (slice_get board.rails r) refl where
        by : (t : Bool) (o : Option Rail) → slice_get board.rails r ≡ o
            → puts_of (cond t (changing board regs (switch 1 r ∷ [])) []) ≡ option_map_or (λ rail. option_to_list (on_put regs t rail)) o []
        by false None there = refl
        by false (Some rail) there = refl
        by true None there = put_by None (switch 1 r) (ap (option_and_then (part_field Enable)) there)
        by true (Some rail) there = put_by (Some rail.desc.enable) (switch 1 r) (ap (option_and_then (part_field Enable)) there)

      pub puts_are : puts_of (loading_moves board regs values) ≡ loading_puts board regs values
      puts_are =
          filter_map-append put_of (flat_map (value_and_mode board regs values) board.order) (flat_map (on_moves board regs) board.order)
          ∙ ap₂ (λ (a b : List Put). a ++ b)
          (puts_joined (value_and_mode board regs values) board.order ∙ flat_map_same (λ r. puts_of (value_and_mode board regs values r)) (value_and_mode_puts board regs values) board.order values_put)
          (puts_joined (on_moves board regs) board.order ∙ flat_map_same (λ r. puts_of (on_moves board regs r)) (on_puts board regs) board.order on_put_is)

      -- each field that is written is there
      some_by : (o : Option Field) (bits : ℕ) → is_other regs bits o ≡ true → IsSome o
      some_by None bits other = other
      some_by (Some f) bits other = refl

      abbrev Has : Move → Type 0
      Has move = IsSome (field_of_move board move)

      all_have : (moves : List Move) → All Has (changing board regs moves)
      all_have moves = All-weaker (λ m. changes_field m ≡ true) Has (λ m other. some_by (field_of_move board m) m.bits other) (changing board regs moves) (filter_passes changes_field moves)

      values_have : (o : Option Rail) (r : ℕ) → All Has (option_map_or (λ rail. changing board regs (selector_moves regs (slice_index values r) r rail ++ start_mode_moves r rail)) o [])
      values_have None r = All-nil Has
      values_have (Some rail) r = all_have (selector_moves regs (slice_index values r) r rail ++ start_mode_moves r rail)

      on_has : (t : Bool) (r : ℕ) → All Has (cond t (changing board regs (switch 1 r ∷ [])) [])
      on_has true r = all_have (switch 1 r ∷ [])
      on_has false r = All-nil Has

      moves_have : All Has (loading_moves board regs values)
      moves_have =
          All-append Has (flat_map (value_and_mode board regs values) board.order) (flat_map (on_moves board regs) board.order)
          (All-flat_map Has (value_and_mode board regs values) board.order (λ k d within. values_have (slice_get board.rails _) _))
          (All-flat_map Has (on_moves board regs) board.order (λ k d within. on_has (starts_on board regs _) _))

      pub loading_writes : writes_of board (loading_moves board regs values) ≡ map write_of_put (loading_puts board regs values)
      loading_writes = writes_are (loading_moves board regs values) moves_have ∙ ap (map write_of_put) puts_are

      pub after_loading : after_moves board regs (loading_moves board regs values) ≡ after_puts regs (loading_puts board regs values)
      after_loading = after_are (loading_moves board regs values) regs ∙ ap (after_puts regs) puts_are

      -- each put fits its field, which lies in a chip of the board
      module _ (sound : IsSoundBoard board) (hold : HoldFields board regs) where
        abbrev is_good : Put → Type 0
        is_good put = IsPlaced board.chips put.field × FitsField put.field put.bits

        good_by : (o : Option Field) (move : Move) → field_of_move board move ≡ o → IfSome o (λ f. FitsField f move.bits) → IfSome o (λ f. IsPlaced board.chips f × FitsField f move.bits)
        good_by None move is room = tt
        good_by (Some f) move is room = (placed_at board sound hold.places move.rail.0 move.part f is, room)

        pub good_puts : All (λ put. IsPlaced board.chips put.field × FitsField put.field put.bits) (loading_puts board regs values)
        good_puts =
            subst (All is_good) puts_are
            (puts_have is_good (loading_moves board regs values)
            (All-weaker (IsAimed board (aim board regs values)) (λ move. IfSome (field_of_move board move) (λ f. IsPlaced board.chips f × FitsField f move.bits))
            (λ move aimed. good_by (field_of_move board move) move refl aimed.room) (loading_moves board regs values) (all_aimed board sound regs values)))
