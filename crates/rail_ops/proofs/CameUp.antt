-- Rails that come up one after another, as the worker sees them.
use Rattle.std.proofs.Common.{◌≡◌, ◌≢◌, ℕ, zero, suc, ◌+◌, ◌≤◌, ◌&&◌, ◌||◌, Bool, true, false, not, cond, List, [], ◌∷◌, ◌++◌, Option, Some, None, refl, sym, ap, ◌∙◌, subst, arith, map, length, take, reverse, eqb, get_or, slice_get, sum_by, All}
use Rattle.std.specs.Prelude.{IfSome, flat_map, is_some, option_map, option_and_then}
use Rattle.std.specs.List.{list_any}
use Rattle.std.specs.Option.{option_map_or}
use Rattle.std.proofs.lemmas.Bool.{eqb-true}
use Rattle.std.proofs.lemmas.List.{length-map, length-append, length-reverse, map-append, reverse-append, take-append-le, take_all, append-nil}
use Rattle.std.proofs.lemmas.List.Elements.{All-head, All-tail, filter-append}
use Rattle.std.proofs.lemmas.List.Folds.{list_any-append}
use Rattle.std.proofs.lemmas.List.Sums.{count_by-le-length, length-filter, sum_by-cons}
use Rattle.std.proofs.lemmas.Option.{same_Some, slice_get-get_or}
use Rattle.reg_outside.specs.Bus.{Bus, Updates}
use Rattle.reg_outside.specs.Told.{with_more}
use Rattle.reg_outside.proofs.ToldFacts.{with_more-with_more}
use Rattle.board_graph.specs.declared.graph.Graph.{Graph}
use Rattle.board_graph.specs.Graph.{supply_at}
use Rattle.board.specs.declared.board.Board.{Board}
use Rattle.board.specs.declared.rail.Rail.{Rail}
use Rattle.board.specs.declared.part.Part.TheVariants.{Enable as EnableBit}
use Rattle.board.specs.Rail.{is_on, part_field}
use Rattle.rail_state.specs.Sight.{IsGuarded}
use Rattle.board.specs.Valid.{IsValid, IsSoundBoard}
use Rattle.plain_board.specs.Events.{events_of_move}
use Rattle.plain_board.proofs.Switches.{AreSwitchedOnly, IsSwitchedAt, nothing_switched, after_switch, switched_at}
use Rattle.rail_ops.proofs.Stepped.{step_shows}
use Rattle.rail_law.specs.Moves.{Move, after_moves, update_of_field, writes_of}
use Rattle.plain_board.specs.declared.plain.Plain.{Plain}
use Rattle.plain_board.specs.Answer.{enable_delay, enable_time}
use Rattle.plain_board.specs.Plan.{switch, upward}
use Rattle.plain_board.specs.Switched.{is_off, off_rails, is_moved}
use Rattle.plain_board.specs.Untied.{HoldFields}
use Rattle.plain_board.specs.Update.{update_of}
use Rattle.plain_board.proofs.KeptUse.{sum_by_same}
use Rattle.plain_board.proofs.SwitchMoves.{switched_after}
use Rattle.plain_board.proofs.Throughout.{after_moves-append}
use Rattle.rail_ops.specs.Sight.{Hands, Shows, ShowsSame}
use Rattle.rail_ops.specs.Taking.{Counts, Tells, Tried, updates_of}
use Rattle.rail_ops.specs.Inside.Raised.{raised, SwitchesOn}
use Rattle.rail_ops.specs.Inside.Rising.{rises, WentUp, CameUp, IsSeen}
use Rattle.rail_ops.proofs.Raised.{raised_nil, raised_append, more_told_rails}
use Rattle.rail_ops.proofs.Tries.{tried_then}
use Rattle.rail_ops.proofs.Exactly.{shows_same, tells_nothing}

-- the moves of a rail and those above it: first those above, then the rail, if it is off
rises_last : (board : Board) (regs : List (List ℕ)) (r : ℕ) (above : List ℕ) → rises board regs (r ∷ above) ≡ rises board regs above ++ cond (is_off board regs r) (switch 1 r ∷ []) []
rises_last board regs r above =
    ap (λ rails. map (switch 1) (off_rails board regs rails)) (reverse-append (r ∷ []) above)
    ∙ ap (map (switch 1)) (filter-append (is_off board regs) (reverse above) (r ∷ []))
    ∙ map-append (switch 1) (off_rails board regs (reverse above)) (cond (is_off board regs r) (r ∷ []) [])
    ∙ ap (λ rest. rises board regs above ++ rest) (by (is_off board regs r))
  where
    by : (t : Bool) → map (switch 1) (cond t (r ∷ []) []) ≡ cond t (switch 1 r ∷ []) []
    by true = refl
    by false = refl

-- a rail that isn't among some isn't moved with them
not_moved : (board : Board) (regs : List (List ℕ)) (r : ℕ) (above : List ℕ) → All (λ k. r ≢ k) above → is_moved (rises board regs above) r ≡ false
not_moved board regs r [] apart = refl
not_moved board regs r (k ∷ above) apart =
    ap (λ moves. is_moved moves r) (rises_last board regs k above)
    ∙ list_any-append (λ (move : Move). eqb move.rail.0 r) (rises board regs above) (cond (is_off board regs k) (switch 1 k ∷ []) [])
    ∙ ap (λ t. t || list_any (λ (move : Move). eqb move.rail.0 r) (cond (is_off board regs k) (switch 1 k ∷ []) [])) (not_moved board regs r above (All-tail (λ j. r ≢ j) k above apart))
    ∙ by (is_off board regs k) (eqb k r) refl
  where
    by : (t e : Bool) → eqb k r ≡ e → list_any (λ (move : Move). eqb move.rail.0 r) (cond t (switch 1 k ∷ []) []) ≡ false
    by false e is = refl
    by true true is = absurd (All-head (λ j. r ≢ j) k above apart (sym (eqb-true k r is)))
    by true false is = rw is refl

-- where two functions agree but for one place their sums differ by what they differ there
pub sum_but_one : {X : Type 0} (f g : X → ℕ) (xs : List X) (r : ℕ) (x : X) → slice_get xs r ≡ Some x → ((k : ℕ) (y : X) → slice_get xs k ≡ Some y → (r ≡ k → ⊥) → f y ≡ g y)
    → sum_by f xs + g x ≡ sum_by g xs + f x
sum_but_one f g [] r x at others = absurd (cc)
sum_but_one f g (y ∷ ys) zero x at others =
    let same : y ≡ x = same_Some y x at in
    let rest = sum_by_same f g ys (λ k d within. others (suc k) (get_or ys k d) (slice_get-get_or ys k d within) (λ here. absurd (omega (arith, here)))) in
    omega (arith, sum_by-cons f y ys, sum_by-cons g y ys, rest, ap f same, ap g same)
sum_but_one f g (y ∷ ys) (suc r) x at others =
    let first : f y ≡ g y = others 0 y refl (λ here. absurd (omega (arith, here))) in
    let rest = sum_but_one f g ys r x at (λ k z is apart. others (suc k) z is (λ here. apart (omega (arith, here)))) in
    omega (arith, sum_by-cons f y ys, sum_by-cons g y ys, rest, first)

-- what a rail adds to the time
abbrev wait : Rail → Bool → Bool → ℕ
wait rail now before = cond (now && not before) (enable_time rail) 0

no_wait : (rail : Rail) (t : Bool) → wait rail t t ≡ 0
no_wait rail true = refl
no_wait rail false = refl

-- where nothing came up nothing takes time
no_delay_by : (rails : List Rail) (regs : List (List ℕ)) → sum_by (λ rail. wait rail (is_on rail regs) (is_on rail regs)) rails ≡ 0
no_delay_by [] regs = refl
no_delay_by (rail ∷ rest) regs = omega (arith, sum_by-cons (λ r. wait r (is_on r regs) (is_on r regs)) rail rest, no_wait rail (is_on rail regs), no_delay_by rest regs)

-- one rail more takes its time more
delay_more : (board : Board) (first before after : List (List ℕ)) (r : ℕ) (rail : Rail) → slice_get board.rails r ≡ Some rail
    → is_on rail first ≡ false → is_on rail before ≡ false → is_on rail after ≡ true
    → ((k : ℕ) (other : Rail) → slice_get board.rails k ≡ Some other → (r ≡ k → ⊥) → is_on other after ≡ is_on other before)
    → enable_delay board first after ≡ enable_delay board first before + enable_time rail
delay_more board first before after r rail at was before_off now others =
    let sums = sum_but_one (λ a. wait a (is_on a after) (is_on a first)) (λ a. wait a (is_on a before) (is_on a first)) board.rails r rail at
    (λ k other other_at apart. ap (λ t. wait other t (is_on other first)) (others k other other_at apart)) in
    let up : wait rail (is_on rail after) (is_on rail first) ≡ enable_time rail = ap (λ t. wait rail t (is_on rail first)) now ∙ ap (wait rail true) was in
    let still : wait rail (is_on rail before) (is_on rail first) ≡ 0 = ap (λ t. wait rail t (is_on rail first)) before_off ∙ ap (wait rail false) was in
    omega (arith, sums, up, still)

-- the wire took some updates, and then more
pub tells_then : (first second : Updates) (stopped : Bool) (bus mid bus' : Bus) → Tells first false bus mid → Tells second stopped mid bus' → Tells (first ++ second) stopped bus bus'
tells_then first second stopped bus mid bus' one two = record {
  taken = two.taken ∙ ap (λ told. with_more told second) one.taken ∙ with_more-with_more bus.taken first second;
  faults = subst (λ n. Counts stopped n bus'.faults) one.faults two.faults;
  tried = subst (λ n. Tried (record { made = n; stopped = stopped }) bus.plan bus'.plan) (sym (length-append first second))
      (tried_then (length first) (record { made = length second; stopped = stopped }) bus.plan mid.plan bus'.plan one.tried two.tried);
}

pub updates_append : (board : Board) (first second : List Move) → updates_of board (first ++ second) ≡ updates_of board first ++ updates_of board second
updates_append board first second =
    ap (map update_of) (map-append _ first second) ∙ map-append update_of (writes_of board first) (writes_of board second)

slice_get-front : {X : Type 0} (xs ys : List X) (k : ℕ) (x : X) → slice_get xs k ≡ Some x → slice_get (xs ++ ys) k ≡ Some x
slice_get-front [] ys k x is = absurd (cc)
slice_get-front (y ∷ xs) ys zero x is = is
slice_get-front (y ∷ xs) ys (suc k) x is = slice_get-front xs ys k x is

slice_get-seam : {X : Type 0} (xs : List X) (x : X) → slice_get (xs ++ x ∷ []) (length xs) ≡ Some x
slice_get-seam [] x = refl
slice_get-seam (y ∷ xs) x = slice_get-seam xs x

-- switches of on bits change on bits alone
pub only_after : (board : Board) → IsSoundBoard board → (first : List (List ℕ)) → length first ≡ board.chips → HoldFields board first → (rails : List ℕ) (regs : List (List ℕ)) → AreSwitchedOnly board first regs
    → AreSwitchedOnly board first (after_moves board regs (map (switch 1) rails))
only_after board sound first chips hold [] regs only = only
only_after board sound first chips hold (r ∷ rest) regs only =
    only_after board sound first chips hold rest (after_switch board 1 r regs) (switched_at board sound first chips hold 1 (omega arith) r regs only).only

-- nothing above the top
pub came_none : (first : Hands) (bus : Bus) (plain : Plain) → IsSeen first plain → CameUp first first bus bus 0 0 None plain []
came_none first bus plain seen = record {
  went = record { within = omega arith; shows = subst (Shows first) (sym (raised_nil first.board plain)) seen.shows; tells = tells_nothing bus };
  all = λ none. refl;
  next = λ i is. absurd (cc);
  takes = sym (no_delay_by first.board.rails plain.regs);
}

module _ (first : Hands) (valid : IsValid first.board) (plain : Plain) (seen : IsSeen first plain) (r : ℕ) (rail : Rail) (at : slice_get first.board.rails r ≡ Some rail) (above : List ℕ) (apart : All (λ k. r ≢ k) above) (bus bus' : Bus) (made : ℕ) where
  abbrev before : List Move
  before = rises first.board plain.regs above

  abbrev whole : List Move
  whole = rises first.board plain.regs (r ∷ above)

  abbrev last : List Move
  last = cond (is_off first.board plain.regs r) (switch 1 r ∷ []) []

  whole_is : whole ≡ before ++ last
  whole_is = rises_last first.board plain.regs r above

  same_front : made ≤ length before → take made whole ≡ take made before
  same_front within = ap (take made) whole_is ∙ take-append-le made before last within

  -- what was made of those above was made of all
  pub went_further : (mid : Hands) (stopped : Bool) → WentUp first mid bus bus' made stopped plain before → WentUp first mid bus bus' made stopped plain whole
  went_further mid stopped went = record {
    within = omega (arith, went.within, ap (λ (ms : List Move). length ms) whole_is, length-append before last);
    shows = subst (λ ms. Shows mid (raised first.board plain ms)) (sym (same_front went.within)) went.shows;
    tells = subst (λ ms. Tells (updates_of first.board ms) stopped bus bus') (sym (same_front went.within)) went.tells;
  }

  pub came_further : (mid : Hands) (delay i : ℕ) → CameUp first mid bus bus' made delay (Some i) plain before → CameUp first mid bus bus' made delay (Some i) plain whole
  came_further mid delay i came = record {
    went = went_further mid true came.went;
    all = λ none. absurd (cc);
    next = λ k is. ap (λ ms. slice_get ms made) whole_is ∙ slice_get-front before last made (switch 1 k) (came.next k is);
    takes = came.takes ∙ ap (λ ms. enable_delay first.board plain.regs (after_moves first.board plain.regs ms)) (sym (same_front came.went.within));
  }

  abbrev now : Plain
  now = raised first.board plain before

  only : AreSwitchedOnly first.board plain.regs now.regs
  only =
      only_after first.board valid.sound plain.regs seen.inv.kept.regs seen.hold (off_rails first.board plain.regs (reverse above)) plain.regs
      (nothing_switched first.board valid.sound plain.regs seen.inv.kept.regs seen.hold)

  pub now_chips : length now.regs ≡ first.board.chips
  now_chips = only.chips ∙ seen.inv.kept.regs

  pub now_hold : HoldFields first.board now.regs
  now_hold = record { image = only.image; places = seen.hold.places }

  pub now_rails : length now.events ≡ length first.board.rails
  now_rails = more_told_rails (λ i. flat_map (events_of_move i true) before) plain.events ∙ seen.inv.kept.events

  -- the rail is as it was before those above came up
  as_it_was : is_on rail now.regs ≡ is_on rail plain.regs
  as_it_was =
      ap (λ ms. is_on rail (after_moves first.board plain.regs ms)) (sym (take_all (length before) before (omega arith)))
      ∙ switched_after first.board valid.sound plain.regs seen.inv.kept.regs seen.hold 1 (omega arith) before (off_rails first.board plain.regs (reverse above)) refl (length before) r rail at
      ∙ ap (λ ms. cond (is_moved ms r) true (is_on rail plain.regs)) (take_all (length before) before (omega arith))
      ∙ ap (λ t. cond t true (is_on rail plain.regs)) (not_moved first.board plain.regs r above apart)

  off_is : is_off first.board plain.regs r ≡ not (is_on rail now.regs)
  off_is = ap (λ o. option_map_or (λ (a : Rail). not (is_on a plain.regs)) o false) at ∙ ap not (sym as_it_was)

  -- all those above came up
  module _ (mid : Hands) (delay : ℕ) (came : CameUp first mid bus bus' made delay None plain before) where
    all_made : made ≡ length before
    all_made = came.all refl

    taken : take made before ≡ before
    taken = take_all made before (omega (arith, all_made))

    pub mid_shows : Shows mid now
    mid_shows = subst (λ ms. Shows mid (raised first.board plain ms)) taken came.went.shows

    -- the rail is on already
    pub came_already : is_on rail now.regs ≡ true → (after : Hands) → ShowsSame mid after → CameUp first after bus bus' made delay None plain whole
    came_already on after same =
        let none : last ≡ [] = ap (λ t. cond t (switch 1 r ∷ []) []) (off_is ∙ ap not on) in
        let short : whole ≡ before = whole_is ∙ ap (λ ms. before ++ ms) none ∙ append-nil before in
        subst (CameUp first after bus bus' made delay None plain) (sym short)
        (record {
          went = record { within = came.went.within; shows = shows_same mid after (raised first.board plain (take made before)) same came.went.shows; tells = came.went.tells };
          all = came.all;
          next = came.next;
          takes = came.takes;
        })

    module _ (off : is_on rail now.regs ≡ false) where
      longer : whole ≡ before ++ switch 1 r ∷ []
      longer = whole_is ∙ ap (λ t. before ++ cond t (switch 1 r ∷ []) []) (off_is ∙ ap not off)

      -- the memory was out before the rail was tried
      pub went_so_far : (after : Hands) → ShowsSame mid after → WentUp first after bus bus' made false plain whole
      went_so_far after same =
          went_further after false (record { within = came.went.within; shows = shows_same mid after (raised first.board plain (take made before)) same came.went.shows; tells = came.went.tells })

      -- the bus refused the rail
      pub came_refused : (after : Hands) (bus'' : Bus) → ShowsSame mid after → Tells [] true bus' bus'' → CameUp first after bus bus'' made delay (Some r) plain whole
      came_refused after bus'' same refused = record {
        went = record {
          within = omega (arith, came.went.within, ap (λ (ms : List Move). length ms) longer, length-append before (switch 1 r ∷ []));
          shows = subst (λ ms. Shows after (raised first.board plain ms)) (sym (same_front came.went.within)) (shows_same mid after (raised first.board plain (take made before)) same came.went.shows);
          tells = subst (λ us. Tells us true bus bus'') (append-nil (updates_of first.board (take made before)) ∙ ap (updates_of first.board) (sym (same_front came.went.within)))
              (tells_then (updates_of first.board (take made before)) [] true bus bus' bus'' came.went.tells refused);
        };
        all = λ none. absurd (cc);
        next = λ k is. ap (λ ms. slice_get ms made) longer ∙ ap (slice_get (before ++ switch 1 r ∷ [])) all_made ∙ slice_get-seam before (switch 1 r) ∙ ap (λ (n : ℕ). Some (switch 1 n)) (same_Some r k is);
        takes = came.takes ∙ ap (λ ms. enable_delay first.board plain.regs (after_moves first.board plain.regs ms)) (sym (same_front came.went.within));
      }

      all_taken : take (made + 1) whole ≡ before ++ switch 1 r ∷ []
      all_taken = ap (take (made + 1)) longer ∙ take_all (made + 1) (before ++ switch 1 r ∷ []) (omega (arith, all_made, length-append before (switch 1 r ∷ [])))

      -- the rail came up too
      pub came_too : (after : Hands) (bus'' : Bus) → mid.board ≡ first.board → SwitchesOn r mid after → Tells (updates_of first.board (switch 1 r ∷ [])) false bus' bus''
          → CameUp first after bus bus'' (made + 1) (delay + enable_time rail) None plain whole
      came_too after bus'' same step told = record {
        went = record {
          within = omega (arith, all_made, ap (λ (ms : List Move). length ms) longer, length-append before (switch 1 r ∷ []));
          shows = subst (λ ms. Shows after (raised first.board plain ms)) (sym all_taken)
              (subst (Shows after) (raised_append first.board plain before (switch 1 r ∷ []))
              (subst (λ (b : Board). Shows after (raised b now (switch 1 r ∷ []))) same stepped));
          tells = subst (λ us. Tells us false bus bus'') (sym (updates_append first.board before (switch 1 r ∷ [])) ∙ ap (updates_of first.board) (sym all_taken))
              (tells_then (updates_of first.board before) (updates_of first.board (switch 1 r ∷ [])) false bus bus' bus''
              (subst (λ ms. Tells (updates_of first.board ms) false bus bus') taken came.went.tells) told);
        };
        all = λ none. omega (arith, all_made, ap (λ (ms : List Move). length ms) longer, length-append before (switch 1 r ∷ []));
        next = λ k is. absurd (cc);
        takes =
            ap (λ n. n + enable_time rail) (came.takes ∙ ap (λ ms. enable_delay first.board plain.regs (after_moves first.board plain.regs ms)) taken)
            ∙ sym (delay_more first.board plain.regs now.regs (after_switch first.board 1 r now.regs) r rail at (sym as_it_was ∙ off) off (turned.own rail at) turned.others)
            ∙ ap (enable_delay first.board plain.regs) (sym (after_moves-append first.board plain.regs before (switch 1 r ∷ [])))
            ∙ ap (λ ms. enable_delay first.board plain.regs (after_moves first.board plain.regs ms)) (sym all_taken);
      }
        where
          turned : IsSwitchedAt first.board r 1 plain.regs now.regs (after_switch first.board 1 r now.regs)
          turned = switched_at first.board valid.sound plain.regs seen.inv.kept.regs seen.hold 1 (omega arith) r now.regs only

          stepped : Shows after (raised mid.board now (switch 1 r ∷ []))
          stepped =
              step_shows mid (subst IsValid (sym same) valid) now (now_chips ∙ ap (λ (b : Board). b.chips) (sym same)) (subst (λ (b : Board). HoldFields b now.regs) (sym same) now_hold)
              (now_rails ∙ ap (λ (b : Board). length b.rails) (sym same)) r rail (ap (λ (b : Board). slice_get b.rails r) same ∙ at) after mid_shows off step

-- the number that is seen in the enable field tells whether the rail is on
pub on_by_bit : (hands : Hands) (plain : Plain) → Shows hands plain → (r : ℕ) (rail : Rail) → slice_get hands.board.rails r ≡ Some rail → IsGuarded hands.board hands.rails r
    → eqb (hands.bits r EnableBit) 1 ≡ is_on rail plain.regs
on_by_bit hands plain shows r rail at guarded = ap (λ n. eqb n 1) (sym (shows.fields r EnableBit rail.desc.enable guarded (ap (option_and_then (part_field EnableBit)) at)))

-- where the worker sees the same it sees the same rails come up
pub came_same : (first mid after : Hands) (bus bus' : Bus) (made delay : ℕ) (refused : Option ℕ) (plain : Plain) (moves : List Move) → ShowsSame mid after
    → CameUp first mid bus bus' made delay refused plain moves → CameUp first after bus bus' made delay refused plain moves
came_same first mid after bus bus' made delay refused plain moves same came = record {
  went = record { within = came.went.within; shows = shows_same mid after (raised first.board plain (take made moves)) same came.went.shows; tells = came.went.tells };
  all = came.all;
  next = came.next;
  takes = came.takes;
}

pub all_the_same : (hands : Hands) → ShowsSame hands hands
all_the_same hands = record { board = refl; rails = refl; bits = λ i part. refl; books = λ i. refl }

module _ (first : Hands) (valid : IsValid first.board) (plain : Plain) (seen : IsSeen first plain) (r : ℕ) (rail : Rail) (at : slice_get first.board.rails r ≡ Some rail) (above : List ℕ) (apart : All (λ k. r ≢ k) above)
    (bus bus' : Bus) (made delay : ℕ) (mid : Hands) (refused : Option ℕ) (came : CameUp first mid bus bus' made delay refused plain (rises first.board plain.regs above)) where
  -- the bus refused one of those above
  pub came_over : is_some refused ≡ true → CameUp first mid bus bus' made delay refused plain (rises first.board plain.regs (r ∷ above))
  came_over some = by refused refl some came where
    by : (o : Option ℕ) → refused ≡ o → is_some o ≡ true → CameUp first mid bus bus' made delay o plain (rises first.board plain.regs above) → CameUp first mid bus bus' made delay refused plain (rises first.board plain.regs (r ∷ above))
    by None is none it = absurd (cc)
    by (Some i) is one it =
        subst (λ o. CameUp first mid bus bus' made delay o plain (rises first.board plain.regs (r ∷ above))) (sym is)
        (came_further first valid plain seen r rail at above apart bus bus' made mid delay i it)

  module _ (none : refused ≡ None) (same : mid.board ≡ first.board) (guarded : IsGuarded first.board mid.rails r) where
    abbrev pub all_came : CameUp first mid bus bus' made delay None plain (rises first.board plain.regs above)
    all_came = subst (λ o. CameUp first mid bus bus' made delay o plain (rises first.board plain.regs above)) none came

    bit : eqb (mid.bits r EnableBit) 1 ≡ is_on rail (raised first.board plain (rises first.board plain.regs above)).regs
    bit =
        on_by_bit mid (raised first.board plain (rises first.board plain.regs above)) (mid_shows first valid plain seen r rail at above apart bus bus' made mid delay all_came) r rail
        (ap (λ (b : Board). slice_get b.rails r) same ∙ at) (subst (λ (b : Board). IsGuarded b mid.rails r) (sym same) guarded)

    -- the rail is on already
    pub came_on : eqb (mid.bits r EnableBit) 1 ≡ true → CameUp first mid bus bus' made delay None plain (rises first.board plain.regs (r ∷ above))
    came_on on = came_already first valid plain seen r rail at above apart bus bus' made mid delay all_came (sym bit ∙ on) mid (all_the_same mid)

    module _ (off : eqb (mid.bits r EnableBit) 1 ≡ false) where
      pub went_off : (after : Hands) → ShowsSame mid after → WentUp first after bus bus' made false plain (rises first.board plain.regs (r ∷ above))
      went_off = went_so_far first valid plain seen r rail at above apart bus bus' made mid delay all_came (sym bit ∙ off)

      pub came_off : (after : Hands) (bus'' : Bus) → ShowsSame mid after → Tells [] true bus' bus'' → CameUp first after bus bus'' made delay (Some r) plain (rises first.board plain.regs (r ∷ above))
      came_off = came_refused first valid plain seen r rail at above apart bus bus' made mid delay all_came (sym bit ∙ off)

      pub came_up_too : (after : Hands) (bus'' : Bus) → SwitchesOn r mid after → Tells (updates_of first.board (switch 1 r ∷ [])) false bus' bus''
          → CameUp first after bus bus'' (made + 1) (delay + enable_time rail) None plain (rises first.board plain.regs (r ∷ above))
      came_up_too after bus'' = came_too first valid plain seen r rail at above apart bus bus' made mid delay all_came (sym bit ∙ off) after bus'' same

-- a number that may be there is there exactly where what it is of is
pub some_mapped : {X Y : Type 0} (f : X → Y) (o : Option X) → is_some (option_map f o) ≡ is_some o
some_mapped f None = refl
some_mapped f (Some x) = refl

pub none_mapped : {X Y : Type 0} (f : X → Y) (o : Option X) → is_some o ≡ false → option_map f o ≡ None
none_mapped f None is = refl
none_mapped f (Some x) is = absurd (cc)

pub none_is : {X : Type 0} (o : Option X) → is_some o ≡ false → o ≡ None
none_is None is = refl
none_is (Some x) is = absurd (cc)

pub if_some_map : {X : Type 0} (P Q : X → Type 0) (o : Option X) → ((x : X) → P x → Q x) → IfSome o P → IfSome o Q
if_some_map P Q None all has = tt
if_some_map P Q (Some x) all has = all x has

-- no more rails come up than there are on the way
pub few_rise : (board : Board) (regs : List (List ℕ)) (rails : List ℕ) → length (rises board regs rails) ≤ length rails
few_rise board regs rails =
    let all = length-map (off_rails board regs (reverse rails)) (switch 1) in
    let kept = length-filter (is_off board regs) (reverse rails) in
    let few = count_by-le-length (is_off board regs) (reverse rails) in
    omega (arith, all, kept, few, length-reverse rails)

pub way_short : (graph : Graph) (most : ℕ) (r : Option ℕ) → length (upward graph most r) ≤ most
way_short graph zero r = omega arith
way_short graph (suc most) None = omega arith
way_short graph (suc most) (Some r) = let rest = way_short graph most (supply_at graph r) in omega arith

-- the writes that switch on a rail and those above it, by what is seen of it
module _ (hands : Hands) (plain : Plain) (shows : Shows hands plain) (r : ℕ) (rail : Rail) (at : slice_get hands.board.rails r ≡ Some rail) (guarded : IsGuarded hands.board hands.rails r) (above : List ℕ) where
  seen_off : (t : Bool) → eqb (hands.bits r EnableBit) 1 ≡ t → rises hands.board plain.regs (r ∷ above) ≡ rises hands.board plain.regs above ++ cond (not t) (switch 1 r ∷ []) []
  seen_off t is =
      rises_last hands.board plain.regs r above
      ∙ ap (λ u. rises hands.board plain.regs above ++ cond u (switch 1 r ∷ []) [])
      (ap (λ o. option_map_or (λ (a : Rail). not (is_on a plain.regs)) o false) at ∙ ap not (sym (on_by_bit hands plain shows r rail at guarded) ∙ is))

  pub writes_on : eqb (hands.bits r EnableBit) 1 ≡ true → writes_of hands.board (rises hands.board plain.regs (r ∷ above)) ≡ writes_of hands.board (rises hands.board plain.regs above)
  writes_on is = ap (writes_of hands.board) (seen_off true is ∙ append-nil (rises hands.board plain.regs above))

  pub writes_off : eqb (hands.bits r EnableBit) 1 ≡ false
      → writes_of hands.board (rises hands.board plain.regs (r ∷ above)) ≡ writes_of hands.board (rises hands.board plain.regs above) ++ update_of_field (Some rail.desc.enable) 1 ∷ []
  writes_off is =
      ap (writes_of hands.board) (seen_off false is)
      ∙ map-append _ (rises hands.board plain.regs above) (switch 1 r ∷ [])
      ∙ ap (λ o. writes_of hands.board (rises hands.board plain.regs above) ++ update_of_field (option_and_then (part_field EnableBit) o) 1 ∷ []) at
