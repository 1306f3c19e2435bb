-- What the worker sees after a rail was switched is of the plain board after that move.
use Rattle.std.proofs.Common.{◌≡◌, ◌≢◌, ◌⊎◌, ℕ, zero, suc, ◌+◌, ◌-◌, ◌<◌, ◌≤◌, ◌&&◌, Bool, true, false, cond, List, [], ◌∷◌, ◌++◌, Option, Some, None, inl, inr, refl, sym, ap, ◌∙◌, subst, arith, length, eqb, slice_get}
use Rattle.std.specs.Prelude.{Contains, slice_index_or, flat_map, option_and_then}
use Rattle.std.specs.Option.{option_map}
use Rattle.std.proofs.lemmas.Bool.{cases_eq, cases_lt, eq-eqb, eqb-true, both_ways, false_from_ne_true}
use Rattle.std.proofs.lemmas.List.{append-nil, get_or_past}
use Rattle.std.proofs.lemmas.Option.{same_Some, slice_get-map, slice_get_within}
use Rattle.chip_regs.specs.declared.field.Field.{Field}
use Rattle.chip_regs.specs.Registers.{CanPut, field_of, with_field}
use Rattle.chip_regs.proofs.Fields.{field_of-with_field, field_of-with_field_apart}
use Rattle.board_graph.specs.Graph.{supply_at}
use Rattle.board.specs.declared.board.Board.{Board}
use Rattle.board.specs.declared.event.Event.{Event}
use Rattle.board.specs.declared.part.Part.{Part}
use Rattle.board.specs.declared.part.Part.TheVariants.{Selector, Enable as EnableBit, ModePart, SuspendEnable, SuspendSelector}
use Rattle.board.specs.declared.rail.Rail.{Rail}
use Rattle.board.specs.declared.rail_id.RailId.{RailId}
use Rattle.board.specs.Desc.{IsPlaced}
use Rattle.board.specs.Fields.{field_at}
use Rattle.board.specs.Rail.{is_on, part_field}
use Rattle.board.specs.Valid.{IsValid, IsSoundRail, supply_of}
use Rattle.rail_law.specs.Moves.{written}
use Rattle.rail_state.specs.Sight.{IsGuarded}
use Rattle.use_counts.specs.Book.{Book}
use Rattle.plain_board.specs.declared.plain.Plain.{Plain}
use Rattle.plain_board.specs.Counts.{is_supply, votes}
use Rattle.plain_board.specs.Events.{events_of_move, switch_events}
use Rattle.plain_board.specs.Plan.{switch}
use Rattle.plain_board.specs.Seen.{book}
use Rattle.plain_board.specs.Untied.{HoldFields}
use Rattle.plain_board.proofs.ChainEnds.{ends, chain_ends}
use Rattle.plain_board.proofs.MovedAlone.{all_at}
use Rattle.plain_board.proofs.SwitchedVotes.{votes_up, votes_down}
use Rattle.rail_ops.specs.Sight.{Hands, Shows}
use Rattle.rail_ops.specs.Inside.Raised.{raised, Switches, SwitchesOff, SwitchesOn}
use Rattle.rail_ops.proofs.Raised.{more_told_at, more_told_past}

-- no rail is its own supply
module _ (board : Board) (valid : IsValid board) (r : ℕ) where
  never_ends : (n : ℕ) → supply_at board.graph r ≡ Some r → ends board.graph n (Some r) ≡ false
  never_ends zero own = refl
  never_ends (suc n) own = ap (ends board.graph n) own ∙ never_ends n own

  pub supply_apart : (s : ℕ) → r < length board.rails → supply_at board.graph r ≡ Some s → r ≢ s
  supply_apart s inside supplied same =
      let own : supply_at board.graph r ≡ Some r = supplied ∙ ap (λ (n : ℕ). Some n) (sym same) in
      both_ways _ (never_ends (length board.rails) own) (chain_ends board valid.sound r inside)

-- the graph's supply of a rail is the rail's
pub supply_read : (board : Board) → IsValid board → (r : ℕ) (rail : Rail) → slice_get board.rails r ≡ Some rail → supply_at board.graph r ≡ supply_of rail
supply_read board valid r rail at =
    ap (λ (all : List (Option ℕ)). option_and_then (λ (supply : Option ℕ). supply) (slice_get all r)) valid.sound.graph.supplies
    ∙ ap (option_and_then (λ (supply : Option ℕ). supply)) (slice_get-map supply_of board.rails r ∙ ap (option_map supply_of) at)

-- a part is the on bit, or isn't
on_bit_or : (part : Part) → (part ≡ EnableBit) ⊎ (part ≡ EnableBit → ⊥)
on_bit_or Selector = inr (λ same. absurd (cc))
on_bit_or EnableBit = inl refl
on_bit_or ModePart = inr (λ same. absurd (cc))
on_bit_or SuspendEnable = inr (λ same. absurd (cc))
on_bit_or SuspendSelector = inr (λ same. absurd (cc))

-- a rail is the supply, or isn't
supply_it : (supply : Option RailId) (i : ℕ) → option_map (λ (s : RailId). s.0) supply ≡ Some i → is_supply i supply ≡ true
supply_it None i is = absurd (cc)
supply_it (Some s) i is = eq-eqb s.0 i (same_Some s.0 i is)

supply_not : (supply : Option RailId) (i : ℕ) → (option_map (λ (s : RailId). s.0) supply ≡ Some i → ⊥) → is_supply i supply ≡ false
supply_not None i apart = refl
supply_not (Some s) i apart = false_from_ne_true (eqb s.0 i) (λ is. apart (ap (λ (n : ℕ). Some n) (eqb-true s.0 i is)))

-- the votes for a rail with one more of a rail that it supplies, and with one less
one_up : (t : Bool) (v w : ℕ) → w ≡ v + cond (t && true) 1 0 → w ≡ cond t (v + 1) v
one_up true v w is = is
one_up false v w is = omega (arith, is)

one_down : (t : Bool) (v w : ℕ) → w + cond (t && true) 1 0 ≡ v → w ≡ cond t (v - 1) v
one_down true v w is = omega (arith, is)
one_down false v w is = omega (arith, is)

-- what a rail that was switched tells, and the others
tells_own : (bits r : ℕ) → flat_map (events_of_move r true) (switch bits r ∷ []) ≡ switch_events true bits EnableBit
tells_own bits r = ap (λ (t : Bool). cond t (switch_events true bits EnableBit) [] ++ []) (eq-eqb r r refl) ∙ append-nil (switch_events true bits EnableBit)

tells_none : (bits r i : ℕ) → r ≢ i → flat_map (events_of_move i true) (switch bits r ∷ []) ≡ []
tells_none bits r i apart = ap (λ (t : Bool). cond t (switch_events true bits EnableBit) [] ++ []) (false_from_ne_true (eqb r i) (λ is. apart (eqb-true r i is)))

module _ (before : Hands) (valid : IsValid before.board) (plain : Plain) (chips : length plain.regs ≡ before.board.chips) (hold : HoldFields before.board plain.regs) (rails : length plain.events ≡ length before.board.rails) where
  module _ (r : ℕ) (rail : Rail) (at : slice_get before.board.rails r ≡ Some rail) (bits : ℕ) (one_bit : bits ≤ 1) where
    abbrev now : Plain
    now = raised before.board plain (switch bits r ∷ [])

    regs_are : now.regs ≡ with_field plain.regs rail.desc.enable bits
    regs_are = ap (λ o. written (option_and_then (part_field EnableBit) o) plain.regs bits) at

    own_field : field_at before.board r EnableBit ≡ Some rail.desc.enable
    own_field = ap (option_and_then (part_field EnableBit)) at

    can : CanPut plain.regs rail.desc.enable bits
    can =
        let own : IsSoundRail before.board.chips rail = all_at (IsSoundRail before.board.chips) before.board.rails r rail valid.sound.rails at in
        let placed : IsPlaced before.board.chips rail.desc.enable = own.desc.placed EnableBit in
        record {
          image = hold.image;
          chip = omega (arith, placed.chip, chips);
          reg = hold.places r EnableBit rail.desc.enable own_field;
          field = placed.shape;
          room = omega (arith, own.desc.enable, one_bit);
        }

    pub on_now : field_of now.regs rail.desc.enable ≡ bits
    on_now = ap (λ regs. field_of regs rail.desc.enable) regs_are ∙ field_of-with_field plain.regs rail.desc.enable bits can

    pub field_kept : (j : ℕ) (part : Part) (field : Field) → field_at before.board j part ≡ Some field → (j ≡ r → part ≡ EnableBit → ⊥) → field_of now.regs field ≡ field_of plain.regs field
    field_kept j part field is other =
        ap (λ regs. field_of regs field) regs_are
        ∙ field_of-with_field_apart plain.regs rail.desc.enable bits field can (valid.sound.apart r j EnableBit part rail.desc.enable field apart own_field is)
      where
        apart : (r ≢ j) ⊎ (EnableBit ≢ part)
        apart = elim (cases_eq r j) [ inl same ↦ inr (λ e. other (sym same) (sym e)) | inr away ↦ inl away ]

    others_now : (k : ℕ) (other : Rail) → slice_get before.board.rails k ≡ Some other → (r ≡ k → ⊥) → is_on other now.regs ≡ is_on other plain.regs
    others_now k other other_at apart = ap (λ n. eqb n 1) (field_kept k EnableBit other.desc.enable (ap (option_and_then (part_field EnableBit)) other_at) (λ same e. apart (sym same)))

    events_now : (i : ℕ) → r < length before.board.rails → slice_index_or now.events i [] ≡ slice_index_or plain.events i [] ++ flat_map (events_of_move i true) (switch bits r ∷ [])
    events_now i inside = elim (cases_lt i (length plain.events)) [
      | inl within ↦ more_told_at (λ k. flat_map (events_of_move k true) (switch bits r ∷ [])) plain.events i within
      | inr past ↦
          more_told_past (λ k. flat_map (events_of_move k true) (switch bits r ∷ [])) plain.events i past
          ∙ ap (λ told. [] ++ told) (sym (tells_none bits r i (λ same. absurd (omega (arith, same, past, inside, rails)))))
          ∙ ap (λ told. told ++ flat_map (events_of_move i true) (switch bits r ∷ [])) (sym (get_or_past plain.events i [] past))
    ]

    book_now : (i v : ℕ) (told : List Event) → votes before.board now i ≡ v → slice_index_or now.events i [] ≡ told → book before.board now i ≡ record (book before.board plain i) { votes = v; events = told }
    book_now i v told counted tells =
        ap (λ n. record (book before.board plain i) { votes = n; events = slice_index_or now.events i [] }) counted
        ∙ ap (λ events. record (book before.board plain i) { votes = v; events = events }) tells

    module _ (change : ℕ → ℕ) (shifts : (i : ℕ) → votes before.board now i ≡ cond (is_supply i rail.supply) (change (votes before.board plain i)) (votes before.board plain i))
        (after : Hands) (shows : Shows before plain) (step : Switches bits (switch_events true bits EnableBit) change r before after) where
      inside : r < length before.board.rails
      inside = slice_get_within before.board.rails r rail at

      supplied : supply_at before.board.graph r ≡ supply_of rail
      supplied = supply_read before.board valid r rail at

      seen_field : (j : ℕ) (part : Part) (field : Field) → IsGuarded before.board before.rails j → field_at before.board j part ≡ Some field → field_of now.regs field ≡ after.bits j part
      seen_field j part field guarded is = elim (cases_eq j r) [
        | inr apart ↦ field_kept j part field is (λ same e. apart same) ∙ shows.fields j part field guarded is ∙ sym (step.others j part (λ same e. apart same))
        | inl same ↦ elim (on_bit_or part) [
          | inr other ↦ field_kept j part field is (λ s e. other e) ∙ shows.fields j part field guarded is ∙ sym (step.others j part (λ s e. other e))
          | inl own ↦
              let one : rail.desc.enable ≡ field = same_Some _ _ (sym own_field ∙ ap (λ (k : ℕ). field_at before.board k EnableBit) (sym same) ∙ ap (field_at before.board j) (sym own) ∙ is) in
              ap (field_of now.regs) (sym one) ∙ on_now ∙ sym step.own ∙ ap (λ (k : ℕ). after.bits k EnableBit) (sym same) ∙ ap (after.bits j) (sym own)
        ]
      ]

      seen_book : (i : ℕ) → Contains before.rails i → after.books i ≡ book before.board now i
      seen_book i held = elim (cases_eq r i) [
        | inl same ↦
            let was : before.books r ≡ book before.board plain r = ap before.books same ∙ shows.books i held ∙ ap (book before.board plain) (sym same) in
            let no_vote : votes before.board now r ≡ votes before.board plain r =
            shifts r ∙ ap (λ (t : Bool). cond t (change (votes before.board plain r)) (votes before.board plain r)) (supply_not rail.supply r (λ own. supply_apart before.board valid r r inside (supplied ∙ own) refl)) in
            ap after.books (sym same) ∙ step.told
            ∙ ap (λ (b : Book). record b { events = b.events ++ switch_events true bits EnableBit }) was
            ∙ sym (book_now r (votes before.board plain r) (slice_index_or plain.events r [] ++ switch_events true bits EnableBit) no_vote
            (events_now r inside ∙ ap (λ told. slice_index_or plain.events r [] ++ told) (tells_own bits r)))
            ∙ ap (book before.board now) same
        | inr apart ↦ by (supply_at before.board.graph r) refl apart
      ]
        where
          silent : r ≢ i → slice_index_or now.events i [] ≡ slice_index_or plain.events i []
          silent apart = events_now i inside ∙ ap (λ told. slice_index_or plain.events i [] ++ told) (tells_none bits r i apart) ∙ append-nil (slice_index_or plain.events i [])

          unvoted : r ≢ i → supply_at before.board.graph r ≢ Some i → after.books i ≡ book before.board now i
          unvoted apart not_it =
              step.rest i apart not_it ∙ shows.books i held
              ∙ sym (book_now i (votes before.board plain i) (slice_index_or plain.events i [])
              (shifts i ∙ ap (λ (t : Bool). cond t (change (votes before.board plain i)) (votes before.board plain i)) (supply_not rail.supply i (λ own. not_it (supplied ∙ own))))
              (silent apart))

          voted : r ≢ i → supply_at before.board.graph r ≡ Some i → after.books i ≡ book before.board now i
          voted apart it =
              step.supply i it
              ∙ ap (λ (b : Book). record b { votes = change b.votes }) (shows.books i held)
              ∙ sym (book_now i (change (votes before.board plain i)) (slice_index_or plain.events i [])
              (shifts i ∙ ap (λ (t : Bool). cond t (change (votes before.board plain i)) (votes before.board plain i)) (supply_it rail.supply i (sym supplied ∙ it)))
              (silent apart))

          by : (o : Option ℕ) → supply_at before.board.graph r ≡ o → r ≢ i → after.books i ≡ book before.board now i
          by None is apart = unvoted apart (λ it. absurd (cc (is, it)))
          by (Some s) is apart = elim (cases_eq s i) [
            | inl same ↦ voted apart (is ∙ ap (λ (n : ℕ). Some n) same)
            | inr away ↦ unvoted apart (λ it. away (same_Some s i (sym is ∙ it)))
          ]

      -- so the worker sees the plain board after the move
      pub switch_shows : Shows after now
      switch_shows = record {
        fields = λ j part field guarded is.
            seen_field j part field
            (subst (λ (b : Board). IsGuarded b before.rails j) step.board (subst (λ (rs : List ℕ). IsGuarded after.board rs j) step.rails guarded))
            (ap (λ (b : Board). field_at b j part) (sym step.board) ∙ is);
        books = λ i held.
            seen_book i (subst (λ (rs : List ℕ). Contains rs i) step.rails held) ∙ ap (λ (b : Board). book b now i) (sym step.board);
      }

  module _ (r : ℕ) (rail : Rail) (at : slice_get before.board.rails r ≡ Some rail) (after : Hands) (shows : Shows before plain) where
    -- after a rail that was off was switched on
    pub step_shows : is_on rail plain.regs ≡ false → SwitchesOn r before after → Shows after (raised before.board plain (switch 1 r ∷ []))
    step_shows off step =
        switch_shows r rail at 1 (omega arith) (λ n. n + 1)
        (λ i. one_up (is_supply i rail.supply) (votes before.board plain i) _
        (votes_up before.board plain (now r rail at 1 (omega arith)) r rail at (others_now r rail at 1 (omega arith)) off (ap (λ n. eqb n 1) (on_now r rail at 1 (omega arith))) i))
        after shows step

    -- and after one that was on was switched off
    pub step_off_shows : is_on rail plain.regs ≡ true → SwitchesOff r before after → Shows after (raised before.board plain (switch 0 r ∷ []))
    step_off_shows on step =
        switch_shows r rail at 0 (omega arith) (λ n. n - 1)
        (λ i. one_down (is_supply i rail.supply) (votes before.board plain i) _
        (votes_down before.board plain (now r rail at 0 (omega arith)) r rail at (others_now r rail at 0 (omega arith)) on (ap (λ n. eqb n 1) (on_now r rail at 0 (omega arith))) i))
        after shows step
