-- Where each rail stands after loading, whether it is on, and in which mode it is.
use Rattle.std.proofs.Common.{◌≡◌, ℕ, ◌<◌, Bool, true, false, cond, not, List, [], ◌∷◌, Option, Some, None, ◌⊎◌, inl, inr, refl, sym, ap, ◌∙◌, subst, arith, map, filter, length, slice_get, slice_index, All, Contains, eqb-true}
use Rattle.std.specs.Prelude.{◌==◌, IfSome, IsSome, is_some, unwrap_or, option_map, option_and_then, if◌then◌else◌}
use Rattle.std.specs.Option.{option_map_or}
use Rattle.std.proofs.lemmas.Bool.{cases_Bool, both_ways, and_parts, or_left, false_from_ne_true}
use Rattle.std.proofs.lemmas.List.{length-map}
use Rattle.std.proofs.lemmas.List.Elements.{All-nil, All-cons, All-contains}
use Rattle.std.proofs.lemmas.Option.{slice_get_within}
use Rattle.chip_regs.specs.declared.field.Field.{Field}
use Rattle.chip_regs.specs.Registers.{field_of}
use Rattle.load_modes.specs.declared.mode.Mode.{Mode}
use Rattle.load_modes.specs.declared.mode.Mode.TheVariants.{Fast, Normal, Idle, Standby}
use Rattle.board_graph.specs.Graph.{count_of}
use Rattle.board.specs.declared.board.Board.{Board}
use Rattle.board.specs.declared.part.Part.{Part}
use Rattle.board.specs.declared.part.Part.TheVariants.{Selector, Enable, ModePart}
use Rattle.board.specs.declared.rail.Rail.{Rail}
use Rattle.board.specs.Desc.{HoldsSelectors}
use Rattle.board.specs.Fields.{field_at}
use Rattle.board.specs.Rail.{uv, told_uv, is_on, mode, mode_numbered, counts_loads, is_within, allowed, part_field}
use Rattle.board.specs.Table.{uv_of, values_of}
use Rattle.board.specs.Valid.{is_span, IsSoundRail, IsSoundBoard}
use Rattle.rail_law.specs.Moves.{after_moves}
use Rattle.rail_law.proofs.Members.{mapped_at}
use Rattle.plain_board.specs.Plan.{is_other, mode_number, table_selector}
use Rattle.plain_board.specs.Untied.{HoldFields}
use Rattle.plain_board.proofs.MovedAlone.{all_at}
use Rattle.plain_board.proofs.Run.{filtered}
use Rattle.board_load.specs.Loading.{HasValueInside}
use Rattle.board_load.specs.Start.{values_inside, loadable, starts_on, start_mode}
use Rattle.board_load.specs.Writes.{loading_moves}
use Rattle.board_load.specs.Inside.Targets.{start_of}
use Rattle.board_load.proofs.AimedMoves.{AreChips, ends_near, ends_at, end_chips}
use Rattle.board_load.proofs.LoadedBoard.{kept_at}
use Rattle.board_load.proofs.LoadingAims.{aim, move_to, all_aimed, selector_in, mode_in, on_in}
use Rattle.board_load.proofs.StartValues.{start_is_loadable}
use Rattle.board_load.proofs.StartsOn.{asked_starts}
use Rattle.board_load.proofs.TableSelectors.{selector_has, selector_there, value_there, held_fits}

some_unwrapped : (o : Option ℕ) (d : ℕ) → IsSome o → o ≡ Some (unwrap_or o d)
some_unwrapped None d some = absurd (cc)
some_unwrapped (Some n) d some = refl

pub sole : (n v : ℕ) → Contains (n ∷ []) v → v ≡ n
sole n v has = All-contains (λ k. k ≡ n) (n ∷ []) v (All-cons (λ k. k ≡ n) n [] refl (All-nil (λ k. k ≡ n))) has

-- the values of those pairs whose values pass
filter_by : (ok : ℕ → Bool) (p : ℕ × ℕ) (ps : List (ℕ × ℕ)) (vs : List ℕ) (t : Bool) → map (λ q. q.1) ps ≡ vs → map (λ q. q.1) (cond t (p ∷ ps) ps) ≡ cond t (p.1 ∷ vs) vs
filter_by ok p ps vs true is = ap (λ ns. p.1 ∷ ns) is
filter_by ok p ps vs false is = is

pub filter_values : (ok : ℕ → Bool) (ps : List (ℕ × ℕ)) → map (λ q. q.1) (filter (λ q. ok q.1) ps) ≡ filter ok (map (λ q. q.1) ps)
filter_values ok [] = refl
filter_values ok (p ∷ ps) = filter_by ok p (filter (λ q. ok q.1) ps) (filter ok (map (λ q. q.1) ps)) (ok p.1) (filter_values ok ps)

mode_back : (mode : Mode) → mode_numbered (mode_number mode) ≡ mode
mode_back Fast = refl
mode_back Normal = refl
mode_back Idle = refl
mode_back Standby = refl

module _ (board : Board) (sound : IsSoundBoard board) (inside : All HasValueInside board.rails) (regs : List (List ℕ)) (chips : length regs ≡ board.chips) (hold : HoldFields board regs) where
  abbrev values : List ℕ
  values = map (start_of regs) board.rails

  abbrev after : List (List ℕ)
  after = after_moves board regs (loading_moves board regs values)

  are : AreChips board regs
  are = record { image = hold.image; chips = chips }

  pub are_after : AreChips board after
  are_after = end_chips board sound hold.places (aim board regs values) (loading_moves board regs values) regs (all_aimed board sound regs values) are

  module _ (r : ℕ) (rail : Rail) (there : slice_get board.rails r ≡ Some rail) where
    own : IsSoundRail board.chips rail
    own = all_at (IsSoundRail board.chips) board.rails r rail sound.rails there

    -- the rail's target
    pub target_at : slice_index values r ≡ start_of regs rail
    target_at = mapped_at (start_of regs) board.rails r rail there

    target_loadable : Contains (loadable rail regs) (slice_index values r)
    target_loadable = subst (Contains (loadable rail regs)) (sym target_at) (start_is_loadable rail regs (all_at HasValueInside board.rails r rail inside there))

    ordered : Contains board.order r
    ordered =
        let below : r < length board.rails = slice_get_within board.rails r rail there in
        let count : count_of board.graph ≡ length board.rails = ap length sound.graph.groups ∙ length-map board.rails _ in
        sound.order.all r (omega arith)

    field_is : (part : Part) (f : Field) → part_field part rail ≡ Some f → field_at board r part ≡ Some f
    field_is part f is = ap (option_and_then (part_field part)) there ∙ is

    near : (part : Part) (f : Field) → part_field part rail ≡ Some f → (field_of after f ≡ field_of regs f) ⊎ (field_of after f ≡ aim board regs values r part)
    near part f is = ends_near board sound hold.places (aim board regs values) r part f (field_is part f is) (loading_moves board regs values) regs (all_aimed board sound regs values) are

    reached : (part : Part) (f : Field) (bits : ℕ) → part_field part rail ≡ Some f → Contains (loading_moves board regs values) (move_to r part bits) → field_of after f ≡ aim board regs values r part
    reached part f bits is has =
        ends_at board sound hold.places (aim board regs values) r part f (field_is part f is) (loading_moves board regs values) regs (move_to r part bits) (all_aimed board sound regs values) are has refl refl

    other_by : (part : Part) (f : Field) (bits : ℕ) → part_field part rail ≡ Some f → (field_of regs f == bits) ≡ false → is_other regs bits (field_at board r part) ≡ true
    other_by part f bits is apart = ap (is_other regs bits) (field_is part f is) ∙ ap not apart

    -- its selector
    module _ (f : Field) (is : rail.desc.selector ≡ Some f) where
      stood : uv_of rail.desc.table (field_of regs f) ≡ Some (uv rail regs)
      stood =
          let holds : HoldsSelectors rail.desc.table f = subst (λ (o : Option Field). IfSome o (HoldsSelectors rail.desc.table)) is own.desc.selector in
          let told : uv rail regs ≡ unwrap_or (uv_of rail.desc.table (field_of regs f)) rail.kept_uv = ap (told_uv rail regs) is in
          some_unwrapped (uv_of rail.desc.table (field_of regs f)) rail.kept_uv ((holds (field_of regs f)).0 (held_fits regs f)) ∙ ap Some (sym told)

      target_listed : Contains (map (λ p. p.1) (values_of rail.desc.table)) (slice_index values r)
      target_listed = by rail.limits.bounds target_loadable where
        by : (o : Option (ℕ × ℕ)) → Contains (option_map_or (values_inside rail) o (uv rail regs ∷ [])) (slice_index values r) → Contains (map (λ p. p.1) (values_of rail.desc.table)) (slice_index values r)
        by None has = value_there rail.desc.table (field_of regs f) (slice_index values r) (stood ∙ ap Some (sym (sole (uv rail regs) (slice_index values r) has)))
        by (Some bounds) has = filtered (is_within (Some bounds)) (map (λ p. p.1) (values_of rail.desc.table)) (slice_index values r) has

      selected : (sel : ℕ) × (table_selector rail (slice_index values r) ≡ Some sel)
      selected = selector_there rail (slice_index values r) target_listed

      of_selected : field_of after f ≡ selected.0 → uv_of rail.desc.table (field_of after f) ≡ Some (slice_index values r)
      of_selected same = ap (uv_of rail.desc.table) same ∙ selector_has rail (slice_index values r) selected.0 selected.1

      of_aimed : field_of after f ≡ aim board regs values r Selector → uv_of rail.desc.table (field_of after f) ≡ Some (slice_index values r)
      of_aimed aimed =
          of_selected (aimed
          ∙ ap (λ (o : Option Rail). option_map_or (λ a. unwrap_or (table_selector a (slice_index values r)) 0) o 0) there
          ∙ ap (λ (o : Option ℕ). unwrap_or o 0) selected.1)

      of_same : field_of after f ≡ field_of regs f → uv_of rail.desc.table (field_of after f) ≡ Some (slice_index values r)
      of_same same = elim (cases_Bool (uv rail regs == slice_index values r)) [
        | inl stands ↦ ap (uv_of rail.desc.table) same ∙ stood ∙ ap Some (eqb-true (uv rail regs) (slice_index values r) stands)
        | inr apart ↦ elim (cases_Bool (field_of regs f == selected.0)) [
          | inl holds ↦ of_selected (same ∙ eqb-true (field_of regs f) selected.0 holds)
          | inr other ↦ of_aimed (reached Selector f selected.0 is
              (selector_in board sound regs values r rail selected.0 there ordered apart selected.1 (other_by Selector f selected.0 is other)))
        ]
      ]

      selects_target : uv_of rail.desc.table (field_of after f) ≡ Some (slice_index values r)
      selects_target = elim (near Selector f is) [ inl same ↦ of_same same | inr aimed ↦ of_aimed aimed ]

    -- it stands at its target, which it keeps where it can't change
    pub stands_at : uv (kept_at (slice_index values r) rail) after ≡ slice_index values r
    stands_at = by rail.desc.selector refl where
      by : (o : Option Field) → rail.desc.selector ≡ o → told_uv (kept_at (slice_index values r) rail) after o ≡ slice_index values r
      by None is = refl
      by (Some f) is = ap (λ (o : Option ℕ). unwrap_or o (slice_index values r)) (selects_target f is)

    -- and may stand there
    pub may_stand : Contains (allowed (kept_at (slice_index values r) rail)) (slice_index values r)
    may_stand = by rail.changeable refl where
      of_bounds : (o : Option (ℕ × ℕ)) → is_span o ≡ true → Contains (option_map_or (values_inside rail) o (uv rail regs ∷ [])) (slice_index values r)
          → Contains (map (λ pair. pair.1) (filter (λ pair. is_within o pair.1) (values_of rail.desc.table))) (slice_index values r)
      of_bounds None span has = absurd (cc)
      of_bounds (Some bounds) span has = subst (λ (ns : List ℕ). Contains {X = ℕ} ns (slice_index values r)) (sym (filter_values (is_within (Some bounds)) (values_of rail.desc.table))) has

      by : (t : Bool) → rail.changeable ≡ t → Contains (map (λ pair. pair.1) (cond t (filter (λ pair. is_within rail.limits.bounds pair.1) (values_of rail.desc.table)) ((0, slice_index values r) ∷ []))) (slice_index values r)
      by false is = (0, omega arith, refl)
      by true is = of_bounds rail.limits.bounds (sym own.changeable ∙ is) target_loadable

    -- it is on exactly where it starts on
    pub on_after : is_on rail after ≡ starts_on board regs r
    on_after = by (starts_on board regs r) refl (near Enable rail.desc.enable refl) where
      found_off : starts_on board regs r ≡ false → (field_of regs rail.desc.enable == 1) ≡ false
      found_off off = false_from_ne_true _ (λ on. both_ways _ off (asked_starts board regs r rail there (or_left _ _ (or_left _ _ on))))

      by : (t : Bool) → starts_on board regs r ≡ t → (field_of after rail.desc.enable ≡ field_of regs rail.desc.enable) ⊎ (field_of after rail.desc.enable ≡ (if starts_on board regs r then 1 else 0))
          → (field_of after rail.desc.enable == 1) ≡ t
      by true is (inr aimed) = ap (λ n. n == 1) (aimed ∙ ap (λ (t : Bool). if t then 1 else 0) is)
      by true is (inl same) = elim (cases_Bool (field_of regs rail.desc.enable == 1)) [
        | inl on ↦ ap (λ n. n == 1) same ∙ on
        | inr off ↦
            ap (λ n. n == 1) (reached Enable rail.desc.enable 1 refl (on_in board sound regs values r ordered is (other_by Enable rail.desc.enable 1 refl off))
            ∙ ap (λ (t : Bool). if t then 1 else 0) is)
      ]
      by false is (inr aimed) = ap (λ n. n == 1) (aimed ∙ ap (λ (t : Bool). if t then 1 else 0) is)
      by false is (inl same) = ap (λ n. n == 1) same ∙ found_off is

    -- where loads choose its mode, it is in the one that it starts in
    pub mode_after : (start : Mode) → counts_loads rail ≡ true → start_mode rail ≡ Some start → mode rail after ≡ start
    mode_after start counts starts = by rail.desc.modes refl (and_parts _ _ counts).1 where
      aim_is : aim board regs values r ModePart ≡ mode_number start
      aim_is =
          ap (λ (o : Option Rail). option_map_or (λ a. unwrap_or (option_map mode_number (start_mode a)) 0) o 0) there
          ∙ ap (λ (o : Option Mode). unwrap_or (option_map mode_number o) 0) starts

      of_number : (f : Field) → field_of after f ≡ mode_number start → mode_numbered (field_of after f) ≡ start
      of_number f is = ap mode_numbered is ∙ mode_back start

      of_field : (f : Field) → rail.desc.modes ≡ Some f → (field_of after f ≡ field_of regs f) ⊎ (field_of after f ≡ aim board regs values r ModePart) → mode_numbered (field_of after f) ≡ start
      of_field f is (inr aimed) = of_number f (aimed ∙ aim_is)
      of_field f is (inl same) = elim (cases_Bool (field_of regs f == mode_number start)) [
        | inl holds ↦ of_number f (same ∙ eqb-true (field_of regs f) (mode_number start) holds)
        | inr other ↦ of_number f (reached ModePart f (mode_number start) is (mode_in board sound regs values r rail start there ordered starts (other_by ModePart f (mode_number start) is other)) ∙ aim_is)
      ]

      by : (o : Option Field) → rail.desc.modes ≡ o → is_some o ≡ true → option_map_or (λ field. mode_numbered (field_of after field)) o Normal ≡ start
      by None is some = absurd (cc)
      by (Some f) is some = of_field f is (near ModePart f is)
