-- The board of a tree without faults is sound.
use Rattle.std.proofs.Common.{◌≡◌, ◌≢◌, ◌⊎◌, ℕ, ◌<◌, ◌≤◌, false, not, ◌&&◌, ◌==◌, nat_lt, List, Option, None, Some, refl, sym, ap, ◌∙◌, arith, map, length, slice_get, option_and_then, IfSome, All, AllPairs}
use Rattle.std.specs.List.{enumerate_from}
use Rattle.std.specs.Option.{option_map, option_map_or}
use Rattle.std.proofs.Math.Path.{fun_ext}
use Rattle.std.proofs.lemmas.Bool.{ltb-false, eqb-false}
use Rattle.std.proofs.lemmas.List.{length-map}
use Rattle.std.proofs.lemmas.List.Elements.{All-map}
use Rattle.std.proofs.lemmas.List.FromFn.{length-enumerate_from}
use Rattle.std.proofs.lemmas.Option.{slice_get_within}
use Rattle.std.proofs.lemmas.Simd.{map-map}
use Rattle.chip_regs.specs.declared.field.Field.{Field}
use Rattle.chip_regs.specs.Field.{SharesBit}
use Rattle.board_graph.specs.Loops.{is_above}
use Rattle.board_graph.specs.Order.{IsOrder}
use Rattle.board.specs.declared.board.Board.{Board}
use Rattle.board.specs.declared.part.Part.{Part}
use Rattle.board.specs.declared.rail.Rail.{Rail}
use Rattle.board.specs.declared.rail_id.RailId.{RailId}
use Rattle.board.specs.Desc.{described_field, HoldsSelectors, IsSoundDesc}
use Rattle.board.specs.Fields.{field_at}
use Rattle.board.specs.Rail.{part_field}
use Rattle.board.specs.Valid.{changes, is_linked as is_linked_on, supply_of as supply_number, IsSoundRail, IsGraphOf, IsPrinted, HasNames, IsSoundBoard}
use Rattle.dts_tree.specs.Tree.{Node}
use Rattle.dts_nodes.specs.Firsts.{when}
use Rattle.dts_nodes.specs.Forms.{is_wrong}
use Rattle.constraints.specs.declared.prop.Prop.TheVariants.{Supply}
use Rattle.constraints.specs.Faults.{form_fault, value_fault}
use Rattle.board_nodes.specs.declared.fault.NodesFault.TheVariants.{TooManyChips, UnknownChip, TooManyRails, NoRails, NameTooLong, TwoNames}
use Rattle.board_nodes.specs.Chips.{chip_count, unknown_chip}
use Rattle.board_nodes.specs.Faults.{names_in, long_name, two_names, nodes_fault}
use Rattle.board_nodes.specs.Rails.{Found, rails_in}
use Rattle.board_draft.specs.declared.fault.BoardFault.{BoardFault}
use Rattle.board_draft.specs.declared.fault.BoardFault.TheVariants.{BadCells, OneWay, CoupledSupplier}
use Rattle.board_draft.specs.Fault.{of_rail}
use Rattle.board_draft.specs.Faults.{is_fixed_rail, rail_fault, rail_faults, at_pair}
use Rattle.board_draft.specs.Links.{supply_form, supply_of, named_by, group_named, have_same, is_changeable, graph_of}
use Rattle.board_draft.specs.Sketch.{rail_at, sketch_with}
use Rattle.board_draft.proofs.SoundGraph.{supply_within}
use Rattle.board_draft.proofs.SoundGroups.{groups_are_apart}
use Rattle.board_draft.proofs.SoundLists.{none-option_map, none-option_or, none-when, none-first_of, all_at, all_from_map, pairs_from_map, from_numbered, to_numbered, map-numbered, slice_get-numbered, fold-min-le}
use Rattle.board_draft.proofs.SoundNames.{HasPrintedName, rails_are_printed, names_differ}
use Rattle.board_draft.proofs.SoundRail.{rail_is_sound}

-- the number of a supply, as a rail has it
abbrev as_supply : Option ℕ → Option RailId
as_supply number = option_map (λ s. record { 0 = s }) number

-- its number
abbrev number_of : Option RailId → Option ℕ
number_of supply = option_map (λ s. s.0) supply

number_back : (number : Option ℕ) → number_of (as_supply number) ≡ number
number_back None = refl
number_back (Some s) = refl

module _ (nodes : List Node) (rails : List Found) (order : List ℕ) where
  -- the board, with an order
  abbrev ordered : Board
  ordered = record (sketch_with nodes rails) { order = order }

  count : length ordered.rails ≡ length rails
  count = length-map (enumerate_from 0 rails) (λ rail. rail_at nodes rails rail.0 rail.1) ∙ length-enumerate_from 0 rails

  all_rails : (P : Rail → Type 0) → ((r : ℕ) (found : Found) → slice_get rails r ≡ Some found → P (rail_at nodes rails r found)) → All P ordered.rails
  all_rails P each =
      All-map P (λ rail. rail_at nodes rails rail.0 rail.1) (enumerate_from 0 rails) (to_numbered (λ r found. P (rail_at nodes rails r found)) rails each)

  -- what is read of a rail
  read_at : {A : Type 0} (read : Option Rail → A) (found : Option Found → A)
      → ((r : ℕ) (o : Option Found) → read (option_map (rail_at nodes rails r) o) ≡ found o) → (r : ℕ) → read (slice_get ordered.rails r) ≡ found (slice_get rails r)
  read_at read found same r = ap read (slice_get-numbered (rail_at nodes rails) rails r) ∙ same r (slice_get rails r)

  same_changes : (r : ℕ) (o : Option Found) → changes (option_map (rail_at nodes rails r) o) ≡ option_map_or (is_changeable nodes) o false
  same_changes r None = refl
  same_changes r (Some found) = refl

  same_link : (supply : Option ℕ)
      → changes (option_and_then (λ s. slice_get ordered.rails s) (number_of (as_supply supply)))
      ≡ option_map_or (λ s. option_map_or (is_changeable nodes) (slice_get rails s) false) supply false
  same_link None = refl
  same_link (Some s) = read_at changes (λ o. option_map_or (is_changeable nodes) o false) same_changes s

  supply_there : (r : ℕ) (found : Found) → IfSome (rail_at nodes rails r found).supply (λ s. s.0 < length ordered.rails)
  supply_there r found = there (supply_of nodes rails found) (supply_within nodes rails found)
    where
      there : (supply : Option ℕ) → IfSome supply (λ s. s < length rails) → IfSome (as_supply supply) (λ s. s.0 < length ordered.rails)
      there None within = tt
      there (Some s) within = rw count within

  graph_is : IsGraphOf ordered
  graph_is = record {
    supplies = sym (map-map supply_number (λ rail. rail_at nodes rails rail.0 rail.1) (enumerate_from 0 rails)
        ∙ map-numbered (λ found. number_of (as_supply (supply_of nodes rails found))) 0 rails
        ∙ ap (λ supply. map supply rails) (fun_ext (λ found. number_back (supply_of nodes rails found))));
    groups = sym (map-map (λ (rail : Rail). rail.group) (λ rail. rail_at nodes rails rail.0 rail.1) (enumerate_from 0 rails));
    links = sym (map-map (is_linked_on ordered) (λ rail. rail_at nodes rails rail.0 rail.1) (enumerate_from 0 rails)
        ∙ map-numbered (λ found. not (found.desc.dropout == 0) && changes (option_and_then (λ s. slice_get ordered.rails s) (number_of (as_supply (supply_of nodes rails found))))) 0 rails
        ∙ ap (λ linked. map linked rails) (fun_ext (λ found. ap (λ changed. not (found.desc.dropout == 0) && changed) (same_link (supply_of nodes rails found)))));
    rails = all_rails (λ rail. IfSome rail.supply (λ s. s.0 < length ordered.rails)) (λ r found _. supply_there r found);
  }

  same_field : (part : Part) (r : ℕ) → field_at ordered r part ≡ option_and_then (λ found. described_field part found.desc) (slice_get rails r)
  same_field part = read_at (option_and_then (part_field part)) (option_and_then (λ found. described_field part found.desc)) same
    where
      same : (r : ℕ) (o : Option Found) → option_and_then (part_field part) (option_map (rail_at nodes rails r) o) ≡ option_and_then (λ found. described_field part found.desc) o
      same r None = refl
      same r (Some found) = refl

  groups_within : All (λ rail. rail.group < length ordered.spread) ordered.rails
  groups_within = all_rails (λ rail. rail.group < length ordered.spread)
      (λ r found is. omega (arith, fold-min-le r (named_by nodes rails found), slice_get_within rails r found is, length-map {A = Found} {B = ℕ}))

  -- the names as the tree's rails have them
  same_names : map (λ (rail : Rail). rail.name.bytes) ordered.rails ≡ map (λ found. found.name) rails
  same_names = map-map (λ (rail : Rail). rail.name.bytes) (λ rail. rail_at nodes rails rail.0 rail.1) (enumerate_from 0 rails) ∙ map-numbered (λ found. found.name) 0 rails

  names_are : All HasPrintedName rails → AllPairs (λ a b. a ≢ b) (map (λ found. found.name) rails) → HasNames ordered
  names_are printed differ = record {
    differ = pairs_from_map (λ a b. a ≢ b) (λ (rail : Rail). rail.name.bytes) ordered.rails (rw same_names differ);
    printed = all_rails (λ rail. All IsPrinted rail.name.bytes) (λ r found is. all_at HasPrintedName rails r found printed is);
  }

  -- a rail of which no rail's fault is told has no fault of its values
  no_value_fault : rail_faults nodes rails ≡ None → (r : ℕ) (found : Found) → slice_get rails r ≡ Some found → value_fault nodes found.node r found.desc (is_fixed_rail found) ≡ None
  no_value_fault none r found is =
      let faults : List (Option BoardFault) = map (λ rail. rail_fault nodes rail.0 rail.1) (enumerate_from 0 rails) in
      let each : rail_fault nodes r found ≡ None = from_numbered (λ r found. rail_fault nodes r found ≡ None) rails r found
      (all_from_map (λ o. o ≡ None) (λ rail. rail_fault nodes rail.0 rail.1) (enumerate_from 0 rails) (none-first_of faults none)) is in
      let behind_forms = (none-option_or (option_map of_rail (form_fault nodes found.node r found.desc)) _ each).1 in
      let behind_supply = (none-option_or (when (is_wrong (supply_form nodes found)) (BadCells r Supply)) _ behind_forms).1 in
      none-option_map of_rail (value_fault nodes found.node r found.desc (is_fixed_rail found))
      (none-option_or (option_map of_rail (value_fault nodes found.node r found.desc (is_fixed_rail found))) None behind_supply).0

-- what nodes without a fault say of the rails
record HasNoFault (nodes : List Node) : Type 0 where
  some : 0 < length (rails_in nodes)
  few : length (rails_in nodes) ≤ 64
  differ : AllPairs (λ a b. a ≢ b) (names_in nodes)

no_fault : (nodes : List Node) → nodes_fault nodes ≡ None → HasNoFault nodes
no_fault nodes none =
    let rails : ℕ = length (rails_in nodes) in
    let chips = none-option_or (when (nat_lt 16 (chip_count nodes)) (TooManyChips (chip_count nodes))) _ none in
    let unknown = none-option_or (option_map (λ at. UnknownChip at) (unknown_chip nodes)) _ chips.1 in
    let many = none-option_or (when (nat_lt 64 rails) (TooManyRails rails)) _ unknown.1 in
    let no_rails = none-option_or (when (rails == 0) NoRails) _ many.1 in
    let long = none-option_or (option_map (λ r. NameTooLong r) (long_name (names_in nodes))) _ no_rails.1 in
    let two = none-option_or (option_map (λ pair. TwoNames pair.0 pair.1) (two_names (names_in nodes))) None long.1 in
    let some : rails ≢ 0 = eqb-false rails 0 (none-when (rails == 0) NoRails no_rails.0) in
    record {
      some = omega arith;
      few = ltb-false 64 rails (none-when (nat_lt 64 rails) (TooManyRails rails) many.0);
      differ = names_differ (names_in nodes) (none-option_map (λ pair. TwoNames pair.0 pair.1) (two_names (names_in nodes)) two.0);
    }

-- where no node, no rail and no coupling has a fault, the descriptions are sound, and the rails come up in the order of their graph
pub sketch_is_sound : (nodes : List Node) (order : List ℕ)
    → nodes_fault nodes ≡ None
    → rail_faults nodes (rails_in nodes) ≡ None
    → at_pair nodes (rails_in nodes) (λ a b. not (have_same (group_named nodes (rails_in nodes) a) (group_named nodes (rails_in nodes) b))) OneWay ≡ None
    → at_pair nodes (rails_in nodes) (λ a b. is_above (graph_of nodes (rails_in nodes)) b a) CoupledSupplier ≡ None
    → All (λ rail. IsSoundDesc (chip_count nodes) rail.desc) (rails_in nodes)
    → All (λ rail. IfSome rail.desc.suspend_selector (HoldsSelectors rail.desc.table)) (rails_in nodes)
    → All (λ rail. rail.desc.selector ≡ None → rail.chip_node ≡ None) (rails_in nodes)
    → ((r s : ℕ) (part other : Part) (f g : Field) → (r ≢ s) ⊎ (part ≢ other)
    → option_and_then (λ rail. described_field part rail.desc) (slice_get (rails_in nodes) r) ≡ Some f
    → option_and_then (λ rail. described_field other rail.desc) (slice_get (rails_in nodes) s) ≡ Some g → ¬ SharesBit f g)
    → IsOrder (graph_of nodes (rails_in nodes)) order
    → IsSoundBoard (record (sketch_with nodes (rails_in nodes)) { order = order })
sketch_is_sound nodes order none rails_fine one_way apart descs suspended fixed fields in_order =
    let rails : List Found = rails_in nodes in
    let fine : HasNoFault nodes = no_fault nodes none in
    let same_count : length (ordered nodes rails order).rails ≡ length rails = count nodes rails order in
    record {
      some = rw same_count fine.some;
      few = rw same_count (omega (arith, fine.few));
      rails = all_rails nodes rails order (IsSoundRail (chip_count nodes))
          (λ r found is. rail_is_sound nodes rails (chip_count nodes) r found
          (all_at (λ rail. IsSoundDesc (chip_count nodes) rail.desc) rails r found descs is)
          (all_at (λ rail. IfSome rail.desc.suspend_selector (HoldsSelectors rail.desc.table)) rails r found suspended is)
          (all_at (λ rail. rail.desc.selector ≡ None → rail.chip_node ≡ None) rails r found fixed is)
          (no_value_fault nodes rails order rails_fine r found is));
      graph = graph_is nodes rails order;
      spreads = groups_within nodes rails order;
      order = in_order;
      apart_from_supply = groups_are_apart nodes rails one_way apart fine.few;
      names = names_are nodes rails order (rails_are_printed nodes) fine.differ;
      apart = λ r s part other f g ne first second.
          fields r s part other f g ne (sym (same_field nodes rails order part r) ∙ first) (sym (same_field nodes rails order other s) ∙ second);
    }
