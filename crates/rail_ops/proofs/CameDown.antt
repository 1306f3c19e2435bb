-- Rails that go down one after another, as the worker sees them.
use Rattle.std.proofs.Common.{◌≡◌, ◌≢◌, ℕ, suc, ◌+◌, ◌<◌, ◌≤◌, ◌&&◌, Bool, true, false, cond, List, [], ◌∷◌, ◌++◌, Option, Some, None, inl, inr, refl, sym, ap, ◌∙◌, subst, arith, length, take, eqb, slice_get}
use Rattle.std.specs.Prelude.{Contains, flat_map, is_some, slice_index_or}
use Rattle.std.specs.Option.{option_map_or}
use Rattle.std.proofs.lemmas.Bool.{and_parts, both_ways, cases_eq, cases_lt, eqb-true, eq-eqb, false_from_ne_true}
use Rattle.std.proofs.lemmas.List.{append-nil, get_or_past}
use Rattle.std.proofs.lemmas.Option.{same_Some, slice_get_within}
use Rattle.reg_outside.specs.Bus.{Bus}
use Rattle.board_graph.specs.Graph.{supply_at}
use Rattle.board.specs.declared.board.Board.{Board}
use Rattle.board.specs.declared.event.Event.{Event}
use Rattle.board.specs.declared.event.Event.TheVariants.{AbortDisable, PreDisable}
use Rattle.board.specs.declared.part.Part.TheVariants.{Enable as EnableBit}
use Rattle.board.specs.declared.rail.Rail.{Rail}
use Rattle.board.specs.Fields.{field_at}
use Rattle.board.specs.Rail.{is_on}
use Rattle.board.specs.Valid.{IsValid}
use Rattle.rail_law.specs.Moves.{Move}
use Rattle.rail_state.specs.Sight.{IsGuarded}
use Rattle.use_counts.specs.Book.{Book}
use Rattle.use_counts.specs.Counts.{uses_of}
use Rattle.plain_board.specs.declared.plain.Plain.{Plain}
use Rattle.plain_board.specs.Counts.{use_count, votes}
use Rattle.plain_board.specs.Events.{events_of_move, switch_events}
use Rattle.plain_board.specs.Plan.{chain_off, is_idle, switch, with_off}
use Rattle.plain_board.specs.Seen.{book}
use Rattle.plain_board.specs.Untied.{HoldFields}
use Rattle.plain_board.proofs.SwitchedOff.{idle_unused, no_vote}
use Rattle.plain_board.proofs.Switches.{AreSwitchedOnly, nothing_switched, switched_at}
use Rattle.rail_ops.specs.Sight.{Hands, Shows, ShowsSame}
use Rattle.rail_ops.specs.Taking.{Tells, updates_of}
use Rattle.rail_ops.specs.Inside.Falling.{CameDown, IsSighted, MayGoOff, WentDown, looks_idle, with_abort}
use Rattle.rail_ops.specs.Inside.Raised.{ChangesBook, SwitchesOff, raised}
use Rattle.rail_ops.proofs.CameUp.{on_by_bit, tells_then}
use Rattle.rail_ops.proofs.Exactly.{shows_same, tells_nothing}
use Rattle.rail_ops.proofs.Found.{element}
use Rattle.rail_ops.proofs.GoesOff.{guards_supplied}
use Rattle.rail_ops.proofs.Raised.{more_told_at, more_told_past, more_told_rails, raised_append, raised_nil}
use Rattle.rail_ops.proofs.Ready.{guarded}
use Rattle.rail_ops.proofs.Stepped.{step_off_shows}

-- which rails of a chain go off doesn't hang on what they told
chain_told : (board : Board) (plain : Plain) (events : List (List Event)) (rails : List ℕ) → chain_off board (record plain { events = events }) rails ≡ chain_off board plain rails
chain_told board plain events [] = refl
chain_told board plain events (r ∷ above) =
    ap (λ rest. cond (is_idle board plain r) (switch 0 r ∷ rest) []) (chain_told board (with_off board plain r) events above)

-- a rail that isn't idle ends the chain, and one that is goes off before those above it
module _ (board : Board) (plain : Plain) (r : ℕ) (above : List ℕ) where
  pub chain_stays : is_idle board plain r ≡ false → chain_off board plain (r ∷ above) ≡ []
  chain_stays idle = ap (λ t. cond t (switch 0 r ∷ chain_off board (with_off board plain r) above) []) idle

  pub chain_goes : is_idle board plain r ≡ true → chain_off board plain (r ∷ above) ≡ switch 0 r ∷ chain_off board (raised board plain (switch 0 r ∷ [])) above
  chain_goes idle =
      ap (λ t. cond t (switch 0 r ∷ chain_off board (with_off board plain r) above) []) idle
      ∙ ap (λ rest. switch 0 r ∷ rest) (sym (chain_told board (with_off board plain r) (raised board plain (switch 0 r ∷ [])).events above))

module _ (hands : Hands) (valid : IsValid hands.board) (plain : Plain) (sighted : IsSighted hands plain) (r : ℕ) (rail : Rail) (at : slice_get hands.board.rails r ≡ Some rail) (held : Contains hands.rails r) where
  inside : r < length hands.board.rails
  inside = slice_get_within hands.board.rails r rail at

  seen_on : eqb (hands.bits r EnableBit) 1 ≡ is_on rail plain.regs
  seen_on = on_by_bit hands plain sighted.shows r rail at (guarded hands.board valid hands.rails r inside held)

  -- what is seen of it tells whether it is idle
  pub idle_seen : looks_idle hands r ≡ is_idle hands.board plain r
  idle_seen =
      ap (λ (b : Book). eqb (hands.bits r EnableBit) 1 && eqb (uses_of b.rows b.held b.votes) 0) (sighted.shows.books r held)
      ∙ ap (λ (t : Bool). t && eqb (use_count hands.board plain r) 0) (seen_on ∙ sym (ap (λ o. option_map_or (λ (a : Rail). is_on a plain.regs) o false) at))

  module _ (idle : is_idle hands.board plain r ≡ true) where
    pub idle_on : is_on rail plain.regs ≡ true
    idle_on = sym (ap (λ o. option_map_or (λ (a : Rail). is_on a plain.regs) o false) at) ∙ (and_parts _ _ idle).0

    no_votes : votes hands.board plain r ≡ 0
    no_votes = let none = idle_unused hands.board valid.sound plain r idle in omega (arith, none)

    none_below : (lower : ℕ) → lower < length hands.board.rails → supply_at hands.board.graph lower ≡ Some r → hands.bits lower EnableBit ≢ 1
    none_below lower within supplied on =
        let b = element hands.board.rails lower within in
        let off = no_vote hands.board valid.sound plain r no_votes lower b.0 supplied b.1 in
        let seen = on_by_bit hands plain sighted.shows lower b.0 b.1 (guards_supplied hands.board valid hands.rails r lower inside held supplied) in
        both_ways _ off (sym seen ∙ eq-eqb _ 1 on)

    -- so it may go off, where its supply is held
    pub may_go : ((s : ℕ) → supply_at hands.board.graph r ≡ Some s → Contains hands.rails s) → MayGoOff hands r
    may_go has = record {
      below = none_below;
      supply = λ s is. record {
        held = has s is;
        some = subst (λ (b : Book). 0 < b.votes) (sym (sighted.shows.books s (has s is))) (voted s is);
      };
    }
      where
        voted : (s : ℕ) → supply_at hands.board.graph r ≡ Some s → 0 < votes hands.board plain s
        voted s is = elim (cases_lt 0 (votes hands.board plain s)) [
          | inl some ↦ some
          | inr none ↦ absurd (both_ways _ (no_vote hands.board valid.sound plain s (omega (arith, none)) r rail is at) idle_on)
        ]

    abbrev pub once_off : Plain
    once_off = raised hands.board plain (switch 0 r ∷ [])

    only : AreSwitchedOnly hands.board plain.regs once_off.regs
    only =
        (switched_at hands.board valid.sound plain.regs sighted.chips sighted.hold 0 (omega arith) r plain.regs
        (nothing_switched hands.board valid.sound plain.regs sighted.chips sighted.hold)).only

    -- once it is off the worker sees the plain board after that
    pub sighted_off : (after : Hands) → SwitchesOff r hands after → IsSighted after once_off
    sighted_off after step = record {
      chips = only.chips ∙ sighted.chips ∙ ap (λ (b : Board). b.chips) (sym step.board);
      hold = subst (λ (b : Board). HoldFields b once_off.regs) (sym step.board) (record { image = only.image; places = sighted.hold.places });
      rails = more_told_rails (λ i. flat_map (events_of_move i true) (switch 0 r ∷ [])) plain.events ∙ sighted.rails ∙ ap (λ (b : Board). length b.rails) (sym step.board);
      shows = step_off_shows hands valid plain sighted.chips sighted.hold sighted.rails r rail at after sighted.shows idle_on step;
    }

  abbrev refused_off : Plain
  refused_off = with_abort plain (Some r)

  -- where the bus refused it, the plain board where it told so
  pub abort_shows : (after : Hands) → ChangesBook r (record (hands.books r) { events = (hands.books r).events ++ PreDisable ∷ AbortDisable ∷ [] }) hands after → Shows after refused_off
  abort_shows after changes = record {
    fields = λ j part field guards is.
        sighted.shows.fields j part field
        (subst (λ (b : Board). IsGuarded b hands.rails j) changes.board (subst (λ (rs : List ℕ). IsGuarded after.board rs j) changes.rails guards))
        (ap (λ (b : Board). field_at b j part) (sym changes.board) ∙ is)
        ∙ sym (changes.bits j part);
    books = λ i has. book_of i (subst (λ (rs : List ℕ). Contains rs i) changes.rails has) ∙ ap (λ (b : Board). book b refused_off i) (sym changes.board);
  }
    where
      more : ℕ → List Event
      more i = flat_map (events_of_move i false) (switch 0 r ∷ [])

      told : (i : ℕ) → slice_index_or refused_off.events i [] ≡ slice_index_or plain.events i [] ++ more i
      told i = elim (cases_lt i (length plain.events)) [
        | inl within ↦ more_told_at (λ k. flat_map (events_of_move k false) (switch 0 r ∷ [])) plain.events i within
        | inr past ↦
            more_told_past (λ k. flat_map (events_of_move k false) (switch 0 r ∷ [])) plain.events i past
            ∙ ap (λ said. [] ++ said) (sym (silent i (λ same. absurd (omega (arith, same, past, inside, sighted.rails)))))
            ∙ ap (λ said. said ++ more i) (sym (get_or_past plain.events i [] past))
      ]
        where
          silent : (k : ℕ) → r ≢ k → more k ≡ []
          silent k apart = ap (λ (t : Bool). cond t (switch_events false 0 EnableBit) [] ++ []) (false_from_ne_true (eqb r k) (λ is. apart (eqb-true r k is)))

      quiet : (i : ℕ) → r ≢ i → more i ≡ []
      quiet i apart = ap (λ (t : Bool). cond t (switch_events false 0 EnableBit) [] ++ []) (false_from_ne_true (eqb r i) (λ is. apart (eqb-true r i is)))

      own : more r ≡ PreDisable ∷ AbortDisable ∷ []
      own = ap (λ (t : Bool). cond t (switch_events false 0 EnableBit) [] ++ []) (eq-eqb r r refl)

      book_of : (i : ℕ) → Contains hands.rails i → after.books i ≡ book hands.board refused_off i
      book_of i has = elim (cases_eq r i) [
        | inl same ↦
            ap after.books (sym same) ∙ changes.own
            ∙ ap (λ (b : Book). record b { events = b.events ++ PreDisable ∷ AbortDisable ∷ [] }) (sighted.shows.books r held)
            ∙ ap (λ (events : List Event). record (book hands.board plain r) { events = events }) (ap (λ said. slice_index_or plain.events r [] ++ said) (sym own) ∙ sym (told r))
            ∙ ap (book hands.board refused_off) same
        | inr apart ↦
            changes.others i apart ∙ sighted.shows.books i has
            ∙ ap (λ (events : List Event). record (book hands.board plain i) { events = events })
            (sym (told i ∙ ap (λ said. slice_index_or plain.events i [] ++ said) (quiet i apart) ∙ append-nil (slice_index_or plain.events i [])))
      ]

-- nothing goes down
pub down_none : (first after : Hands) (bus : Bus) (plain : Plain) (moves : List Move) → Shows first plain → ShowsSame first after → WentDown first after bus bus 0 None plain moves
down_none first after bus plain moves shows same = record {
  within = omega arith;
  shows = subst (Shows after) (sym (raised_nil first.board plain)) (shows_same first after plain same shows);
  tells = tells_nothing bus;
}

pub came_nothing : (first after : Hands) (bus : Bus) (plain : Plain) (moves : List Move) → moves ≡ [] → Shows first plain → ShowsSame first after → CameDown first after bus bus 0 None plain moves
came_nothing first after bus plain moves none shows same = record {
  went = down_none first after bus plain moves shows same;
  all = λ is. sym (ap (λ (ms : List Move). length ms) none);
  next = λ i is. absurd (cc);
}

-- the bus refused the first
pub came_refused : (first after : Hands) (bus bus' : Bus) (plain : Plain) (r : ℕ) (moves rest : List Move) → moves ≡ switch 0 r ∷ rest → Shows after (with_abort plain (Some r)) → Tells [] true bus bus'
    → CameDown first after bus bus' 0 (Some r) plain moves
came_refused first after bus bus' plain r moves rest are shows told = record {
  went = record {
    within = omega arith;
    shows = subst (λ (p : Plain). Shows after (with_abort p (Some r))) (sym (raised_nil first.board plain)) shows;
    tells = told;
  };
  all = λ none. absurd (cc);
  next = λ i is. ap (λ (ms : List Move). slice_get ms 0) are ∙ ap (λ (k : ℕ). Some (switch 0 k)) (same_Some r i is);
}

-- the first went off, and then others as far as they do
module _ (first mid after : Hands) (same : mid.board ≡ first.board) (bus bus' bus'' : Bus) (plain : Plain) (r : ℕ) (moves : List Move) (tail : Board → List Move)
    (are : moves ≡ switch 0 r ∷ tail first.board) (told : Tells (updates_of first.board (switch 0 r ∷ [])) false bus bus') (made : ℕ) where
  abbrev next_plain : Plain
  next_plain = raised first.board plain (switch 0 r ∷ [])

  abbrev rest : List Move
  rest = tail first.board

  front : take (suc made) moves ≡ switch 0 r ∷ take made rest
  front = ap (take (suc made)) are

  pub went_on : (refused : Option ℕ) → WentDown mid after bus' bus'' made refused next_plain (tail mid.board) → WentDown first after bus bus'' (made + 1) refused plain moves
  went_on refused went = subst (λ (n : ℕ). WentDown first after bus bus'' n refused plain moves) one_more (record {
    within = let within = subst (λ (b : Board). made ≤ length (tail b)) same went.within in omega (arith, within, ap (λ (ms : List Move). length ms) are);
    shows = subst (λ (ms : List Move). Shows after (with_abort (raised first.board plain ms) refused)) (sym front)
        (subst (λ (p : Plain). Shows after (with_abort p refused)) (raised_append first.board plain (switch 0 r ∷ []) (take made rest))
        (subst (λ (b : Board). Shows after (with_abort (raised b next_plain (take made (tail b))) refused)) same went.shows));
    tells = subst (λ (ms : List Move). Tells (updates_of first.board ms) (is_some refused) bus bus'') (sym front)
        (tells_then (updates_of first.board (switch 0 r ∷ [])) (updates_of first.board (take made rest)) (is_some refused) bus bus' bus'' told
        (subst (λ (b : Board). Tells (updates_of b (take made (tail b))) (is_some refused) bus' bus'') same went.tells));
  })
    where
      one_more : suc made ≡ made + 1
      one_more = omega arith

  pub came_on : (refused : Option ℕ) → CameDown mid after bus' bus'' made refused next_plain (tail mid.board) → CameDown first after bus bus'' (made + 1) refused plain moves
  came_on refused came = record {
    went = went_on refused came.went;
    all = λ none. let all = came.all none ∙ ap (λ (b : Board). length (tail b)) same in omega (arith, all, ap (λ (ms : List Move). length ms) are);
    next = λ i is.
        let later : slice_get rest made ≡ Some (switch 0 i) = ap (λ (b : Board). slice_get (tail b) made) (sym same) ∙ came.next i is in
        let place : made + 1 ≡ suc made = omega arith in
        ap (slice_get moves) place ∙ ap (λ (ms : List Move). slice_get ms (suc made)) are ∙ later;
  }
