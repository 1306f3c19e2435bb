-- The rails that the nodes of a tree make are sound.
use Rattle.std.proofs.Common.{◌≡◌, ℕ, suc, ◌+◌, ◌<◌, ◌≤◌, List, [], ◌∷◌, ◌++◌, Option, Some, None, Result, Ok, Err, map, length, refl, sym, ap, subst, ◌∙◌, arith}
use Rattle.std.specs.Prelude.{IfSome, IsSomeAnd, OnOk, option_to_list}
use Rattle.std.specs.List.{All, AllByRecursion, cons_option, enumerate_from, filter_map, flat_map}
use Rattle.std.specs.Option.{option_map, option_and_then}
use Rattle.std.proofs.lemmas.List.{append-nil}
use Rattle.std.proofs.lemmas.List.Elements.{All-from_recursion}
use Rattle.std.proofs.lemmas.List.Folds.{flat_map-map}
use Rattle.chip_regs.specs.declared.field.Field.{Field}
use Rattle.chip_regs.specs.Clash.{NoneClash}
use Rattle.board.specs.declared.desc.Desc.{Desc}
use Rattle.board.specs.declared.part.Part.{Part}
use Rattle.board.specs.declared.part.Part.TheVariants.{Selector, Enable, ModePart, SuspendEnable, SuspendSelector}
use Rattle.board.specs.Desc.{described_field, IsPlaced, IsSoundDesc}
use Rattle.dts_tree.specs.Tree.{Node}
use Rattle.dts_nodes.specs.Use.{good_child_of}
use Rattle.pmic_tables.specs.declared.chip_desc.ChipDesc.{ChipDesc}
use Rattle.pmic_tables.specs.Sheet.{Sheet, Line}
use Rattle.pmic_tables.specs.Rules.{desc_of}
use Rattle.pmic_tables.specs.ChipDesc.{SeenRail, seen, rail_of, rails_of, IsDescribed}
use Rattle.pmic_tables.specs.Sound.{fields_of, IsSoundOn, AreSound, AreApart}
use Rattle.board_nodes.specs.Chips.{sheet_at, chip_nodes, fixed_nodes, fixed_chips, chip_count, regulators_of}
use Rattle.board_nodes.specs.declared.rail_node.RailNode.{RailNode}
use Rattle.board_nodes.specs.Rails.{Found, seen as seen_rail, chip_rail, rails_of_chip, rails_at, fixed_rail, fixed_desc, rails_in}
use Rattle.board_nodes.specs.Sound.{IsSoundRail, StandsIn, NoneShare}
use Rattle.board_nodes.specs.Inside.Outline.{IsThere}
use Rattle.board_nodes.specs.Inside.Sheets.{IsSoundSheet, AreSoundFrom}
use Rattle.board_nodes.proofs.ApartLemmas.{AreSeparate, IsApart, AreApartBy, AreWithin, apart-from_none, apart-append, within-wider, none-share}
use Rattle.board_nodes.proofs.ListFacts.{all-append, all-weaker, all-from_All, all-map, all-unmap}
use Rattle.board_nodes.proofs.RailLemmas.{chips-there, fixed-there}
use Rattle.board_nodes.proofs.WalkLemmas.{find-within}

-- ---- from the description of a chip

pub sheet-sound : (number : ℕ) (desc : ChipDesc) (o : Option Sheet) → IsSomeAnd o (λ sheet. IsDescribed number sheet desc) → AreSound number desc → AreApart desc → IfSome o (IsSoundSheet number)
sheet-sound number desc None is sound apart = tt
sheet-sound number desc (Some sheet) is sound apart =
    let P : SeenRail → Type 0 = λ rail. IsSoundOn number rail.desc in
    let fields : SeenRail → List Field = λ rail. fields_of rail.desc in
    let same : flat_map (λ rail. fields_of rail.desc) desc.rails ≡ flat_map fields (rails_of number sheet) = sym (flat_map-map fields seen desc.rails) ∙ ap (flat_map fields) is.rails in
    record {
      rails = subst (AllByRecursion P) is.rails (all-map P seen desc.rails (all-from_All (λ rail. P (seen rail)) desc.rails sound));
      apart = subst NoneClash same apart;
    }

-- ---- a board with more chips

placed-wider : (chips more : ℕ) → chips ≤ more → (o : Option Field) → IfSome o (IsPlaced chips) → IfSome o (IsPlaced more)
placed-wider chips more below None placed = tt
placed-wider chips more below (Some field) placed = record { shape = placed.shape; chip = omega (arith, placed.chip, below) }

sound-wider : (chips more : ℕ) → chips ≤ more → (desc : Desc) → IsSoundDesc chips desc → IsSoundDesc more desc
sound-wider chips more below desc sound = record {
  placed = λ part. placed-wider chips more below (described_field part desc) (sound.placed part);
  selector = sound.selector;
  enable = sound.enable;
  suspend_enable = sound.suspend_enable;
  modes = sound.modes;
}

-- ---- the rails of a chip

abbrev desc_in : Found → Desc
desc_in rail = rail.desc

-- what holds of a rail of a board of so many nodes and chips, whose fields are in chips from low on, below high
record IsFine (nodes chips low high : ℕ) (rail : Found) : Type 0 where
  pub sound : IsSoundRail chips rail
  pub stands : StandsIn nodes rail
  pub within : AreWithin desc_in low high rail

module _ (nodes : List Node) (chips number node : ℕ) (few : number < chips) (inside : node < length nodes) where
  own-within : (o : Option Field) → IfSome o (λ f. f.chip ≡ number) → IfSome o (λ f. (number ≤ f.chip) × (f.chip < number + 1))
  own-within None own = tt
  own-within (Some f) own = (omega (arith, own), omega (arith, own))

  module _ (sheet : Sheet) where
    fine-line : (k : ℕ) (line : Line) (n : ℕ) → n < length nodes → IsSoundOn number (desc_of number sheet.sleep k line) → IsFine (length nodes) chips number (number + 1) (chip_rail nodes number node sheet k line n)
    fine-line k line n within on = record {
      sound = record {
        desc = sound-wider (number + 1) chips (omega (arith, few)) (desc_of number sheet.sleep k line) on.sound;
        suspend_selector = on.suspend_selector;
        fixed = λ none. absurd (cc);
        one_value = λ none. absurd (cc);
      };
      stands = record { node = within; chip_node = inside };
      within = λ part. own-within (described_field part (desc_of number sheet.sleep k line)) (on.own part);
    }

    abbrev picked : ℕ × Line → Option Found
    picked line = option_map (chip_rail nodes number node sheet line.0 line.1) (option_and_then (λ regulators. good_child_of nodes regulators line.1.node) (regulators_of nodes node))

    place-within : (name : List ℕ) (o : Option ℕ) (n : ℕ) → option_and_then (λ regulators. good_child_of nodes regulators name) o ≡ Some n → n < length nodes
    place-within name None n is = absurd (let e : None ≡ Some n = is in cc)
    place-within name (Some regulators) n is = let within : n < 0 + length nodes = find-within _ 0 (length nodes) n is in omega (arith, within)

    abbrev seen_line : ℕ × Line → SeenRail
    seen_line line = rail_of number sheet.sleep line.0 line.1

    fine-lines : (lines : List (ℕ × Line)) → AllByRecursion (λ rail. IsSoundOn number rail.desc) (map seen_line lines) → AllByRecursion (IsFine (length nodes) chips number (number + 1)) (filter_map picked lines)
    fine-lines [] all = tt
    fine-lines (line ∷ lines) all = add (option_and_then (λ regulators. good_child_of nodes regulators line.1.node) (regulators_of nodes node)) refl (fine-lines lines all.1)
      where
        add : (o : Option ℕ) → option_and_then (λ regulators. good_child_of nodes regulators line.1.node) (regulators_of nodes node) ≡ o
            → AllByRecursion (IsFine (length nodes) chips number (number + 1)) (filter_map picked lines)
            → AllByRecursion (IsFine (length nodes) chips number (number + 1)) (cons_option (option_map (chip_rail nodes number node sheet line.0 line.1) o) (filter_map picked lines))
        add None is rest = rest
        add (Some n) is rest = (fine-line line.0 line.1 n (place-within line.1.node (regulators_of nodes node) n is) all.0, rest)

    abbrev line_desc : ℕ × Line → Desc
    line_desc line = desc_of number sheet.sleep line.0 line.1

    separate-lines : (d : Desc) (lines : List (ℕ × Line)) → AllByRecursion (λ line. AreSeparate d (line_desc line)) lines → AllByRecursion (λ rail. AreSeparate d (desc_in rail)) (filter_map picked lines)
    separate-lines d [] all = tt
    separate-lines d (line ∷ lines) all = add (option_and_then (λ regulators. good_child_of nodes regulators line.1.node) (regulators_of nodes node)) (separate-lines d lines all.1)
      where
        add : (o : Option ℕ) → AllByRecursion (λ rail. AreSeparate d (desc_in rail)) (filter_map picked lines)
            → AllByRecursion (λ rail. AreSeparate d (desc_in rail)) (cons_option (option_map (chip_rail nodes number node sheet line.0 line.1) o) (filter_map picked lines))
        add None rest = rest
        add (Some n) rest = (all.0, rest)

    apart-lines : (lines : List (ℕ × Line)) → AreApartBy line_desc lines → AreApartBy desc_in (filter_map picked lines)
    apart-lines [] apart = tt
    apart-lines (line ∷ lines) apart =
        add (option_and_then (λ regulators. good_child_of nodes regulators line.1.node) (regulators_of nodes node)) (separate-lines (line_desc line) lines apart.1.0) (apart-lines lines apart.1.1)
      where
        add : (o : Option ℕ) → AllByRecursion (λ rail. AreSeparate (line_desc line) (desc_in rail)) (filter_map picked lines) → AreApartBy desc_in (filter_map picked lines)
            → AreApartBy desc_in (cons_option (option_map (chip_rail nodes number node sheet line.0 line.1) o) (filter_map picked lines))
        add None separate rest = rest
        add (Some n) separate rest = (apart.0, (separate, rest))

    fine-sheet : IsSoundSheet number sheet → AllByRecursion (IsFine (length nodes) chips number (number + 1)) (rails_of_chip nodes number node sheet)
    fine-sheet sound = fine-lines (enumerate_from 0 sheet.lines) sound.rails

    apart-sheet : IsSoundSheet number sheet → AreApartBy desc_in (rails_of_chip nodes number node sheet)
    apart-sheet sound =
        let fields : SeenRail → List Field = λ rail. fields_of rail.desc in
        let lines : List (ℕ × Line) = enumerate_from 0 sheet.lines in
        apart-lines lines (apart-from_none line_desc lines (subst NoneClash (flat_map-map fields seen_line lines) sound.apart))

  fine-chip : (o : Option Sheet) → IfSome o (IsSoundSheet number)
      → AllByRecursion (IsFine (length nodes) chips number (number + 1)) (flat_map (rails_of_chip nodes number node) (option_to_list o)) × AreApartBy desc_in (flat_map (rails_of_chip nodes number node) (option_to_list o))
  fine-chip None sound = (tt, tt)
  fine-chip (Some sheet) sound =
      let rails : List Found = rails_of_chip nodes number node sheet in (
        subst (AllByRecursion (IsFine (length nodes) chips number (number + 1))) (sym (append-nil rails)) (fine-sheet sheet sound),
        subst (AreApartBy desc_in) (sym (append-nil rails)) (apart-sheet sheet sound),
      )

-- ---- the rails of all chips

fine-wider : (nodes chips low high least most : ℕ) → least ≤ low → high ≤ most → (rail : Found) → IsFine nodes chips low high rail → IsFine nodes chips least most rail
fine-wider nodes chips low high least most below above rail fine = record { sound = fine.sound; stands = fine.stands; within = within-wider desc_in low high least most below above rail fine.within }

abbrev rails_from : List Node → ℕ → List ℕ → List Found
rails_from nodes k cs = flat_map (λ chip. rails_at nodes chip.0 chip.1) (enumerate_from k cs)

-- the rails are fine, and no two of their fields share a bit
record AreFine (nodes chips low high : ℕ) (rails : List Found) : Type 0 where
  pub each : AllByRecursion (IsFine nodes chips low high) rails
  pub apart : AreApartBy desc_in rails

within-of : (nodes chips low high : ℕ) (rails : List Found) → AllByRecursion (IsFine nodes chips low high) rails → AllByRecursion (AreWithin desc_in low high) rails
within-of nodes chips low high rails = all-weaker (IsFine nodes chips low high) (AreWithin desc_in low high) (λ rail fine. fine.within) rails

fine-append : (nodes chips low mid high : ℕ) (xs ys : List Found) → low ≤ mid → mid ≤ high → AreFine nodes chips low mid xs → AreFine nodes chips mid high ys → AreFine nodes chips low high (xs ++ ys)
fine-append nodes chips low mid high xs ys first second of_xs of_ys = record {
  each = all-append (IsFine nodes chips low high) xs ys
      (all-weaker (IsFine nodes chips low mid) (IsFine nodes chips low high) (fine-wider nodes chips low mid low high (omega arith) second) xs of_xs.each)
      (all-weaker (IsFine nodes chips mid high) (IsFine nodes chips low high) (fine-wider nodes chips mid high low high first (omega arith)) ys of_ys.each);
  apart = apart-append desc_in low mid high xs ys of_xs.apart of_ys.apart (within-of nodes chips low mid xs of_xs.each) (within-of nodes chips mid high ys of_ys.each);
}

fine-chips : (nodes : List Node) (chips k : ℕ) (cs : List ℕ) → k + length cs ≤ chips → AllByRecursion (IsThere nodes) cs → AreSoundFrom nodes k cs → AreFine (length nodes) chips k (k + length cs) (rails_from nodes k cs)
fine-chips nodes chips k [] few there sound = record { each = tt; apart = tt }
fine-chips nodes chips k (node ∷ cs) few there sound =
    let here = fine-chip nodes chips k node (omega (arith, few)) there.0.inside (sheet_at nodes node) sound.0 in
    let rest = fine-chips nodes chips (k + 1) cs (omega (arith, few)) there.1 sound.1 in
    let end : k + 1 + length cs ≡ k + suc (length cs) = omega arith in
    let moved : AreFine (length nodes) chips (k + 1) (k + suc (length cs)) (rails_from nodes (k + 1) cs) = subst (λ (high : ℕ). AreFine (length nodes) chips (k + 1) high (rails_from nodes (k + 1) cs)) end rest in
    fine-append (length nodes) chips k (k + 1) (k + suc (length cs)) (rails_at nodes k node) (rails_from nodes (k + 1) cs) (omega arith) (omega arith) (record { each = here.0; apart = here.1 }) moved

-- ---- fixed rails

only-enable : (chip k value : ℕ) (part : Part) (f : Field) → described_field part (fixed_desc chip k value) ≡ Some f → (part ≡ Enable) × (f ≡ record { chip = chip; reg = k; mask = 1; shift = 0 })
only-enable chip k value Enable f is = (refl, cc)
only-enable chip k value Selector f is = absurd (let e : None ≡ Some f = is in cc)
only-enable chip k value ModePart f is = absurd (let e : None ≡ Some f = is in cc)
only-enable chip k value SuspendEnable f is = absurd (let e : None ≡ Some f = is in cc)
only-enable chip k value SuspendSelector f is = absurd (let e : None ≡ Some f = is in cc)

pub fixed-apart : (chip k value : ℕ) → IsApart (fixed_desc chip k value)
fixed-apart chip k value part other differ f g is_f is_g shared = differ ((only-enable chip k value part f is_f).0 ∙ sym (only-enable chip k value other g is_g).0)

pub fixed-separate : (chip k j value other_value : ℕ) → k < j → AreSeparate (fixed_desc chip k value) (fixed_desc chip j other_value)
fixed-separate chip k j value other_value below part other f g is_f is_g shared =
    let reg_f : f.reg ≡ k = ap (λ (x : Field). x.reg) (only-enable chip k value part f is_f).1 in
    let reg_g : g.reg ≡ j = ap (λ (x : Field). x.reg) (only-enable chip j other_value other g is_g).1 in
    omega (arith, reg_f, reg_g, below, shared.in_first.1, shared.in_second.1)

pub fixed-sound : (chip chips k value : ℕ) → chip < chips → IsSoundDesc chips (fixed_desc chip k value)
fixed-sound chip chips k value few = record { placed = placed; selector = tt; enable = refl; suspend_enable = tt; modes = tt }
  where
    placed : (part : Part) → IfSome (described_field part (fixed_desc chip k value)) (IsPlaced chips)
    placed Enable = record { shape = record { width = 1; some_bit = omega arith; within = omega arith; run = refl }; chip = few }
    placed Selector = tt
    placed ModePart = tt
    placed SuspendEnable = tt
    placed SuspendSelector = tt

fixed-within : (chip k value : ℕ) (part : Part) → IfSome (described_field part (fixed_desc chip k value)) (λ f. (chip ≤ f.chip) × (f.chip < chip + 1))
fixed-within chip k value Enable = (omega arith, omega arith)
fixed-within chip k value Selector = tt
fixed-within chip k value ModePart = tt
fixed-within chip k value SuspendEnable = tt
fixed-within chip k value SuspendSelector = tt

module _ (nodes : List Node) (chip chips : ℕ) (few : chip < chips) where
  abbrev fixed_from : ℕ → List ℕ → List Found
  fixed_from k ns = map (λ fixed. fixed_rail nodes chip fixed.0 fixed.1) (enumerate_from k ns)

  separate-fixed : (k value j : ℕ) (ns : List ℕ) → k < j → AllByRecursion (λ rail. AreSeparate (fixed_desc chip k value) (desc_in rail)) (fixed_from j ns)
  separate-fixed k value j [] below = tt
  separate-fixed k value j (n ∷ ns) below = (fixed-separate chip k j value _ below, separate-fixed k value (j + 1) ns (omega (arith, below)))

  fine-fixed : (k : ℕ) (ns : List ℕ) → AllByRecursion (IsThere nodes) ns → AreFine (length nodes) chips chip (chip + 1) (fixed_from k ns)
  fine-fixed k [] there = record { each = tt; apart = tt }
  fine-fixed k (n ∷ ns) there =
      let rest = fine-fixed (k + 1) ns there.1 in
      record {
        each = (
          record {
            sound = record { desc = fixed-sound chip chips k _ few; suspend_selector = tt; fixed = λ none. refl; one_value = λ none. refl };
            stands = record { node = there.0.inside; chip_node = tt };
            within = fixed-within chip k _;
          },
          rest.each,
        );
        apart = (fixed-apart chip k _, (separate-fixed k _ (k + 1) ns (omega arith), rest.apart));
      }

-- ---- the whole board

no-fixed : (nodes : List Node) (chip chips : ℕ) (ns : List ℕ) → chip + fixed_chips ns ≤ chips → AllByRecursion (IsThere nodes) ns → AreFine (length nodes) chips chip (chip + 1) (map (λ fixed. fixed_rail nodes chip fixed.0 fixed.1) (enumerate_from 0 ns))
no-fixed nodes chip chips [] few there = record { each = tt; apart = tt }
no-fixed nodes chip chips (n ∷ ns) few there = fine-fixed nodes chip chips (omega (arith, few)) 0 (n ∷ ns) there

fine : (nodes : List Node) → AreSoundFrom nodes 0 (chip_nodes nodes) → AreFine (length nodes) (chip_count nodes) 0 (length (chip_nodes nodes) + 1) (rails_in nodes)
fine nodes sound =
    let cs : List ℕ = chip_nodes nodes in
    let n : ℕ = length cs in
    let start : 0 + n ≡ n = omega arith in
    let of_chips : AreFine (length nodes) (chip_count nodes) 0 n (rails_from nodes 0 cs) = subst (λ (high : ℕ). AreFine (length nodes) (chip_count nodes) 0 high (rails_from nodes 0 cs)) start (fine-chips nodes (chip_count nodes) 0 cs (omega arith) (chips-there nodes) sound) in
    fine-append (length nodes) (chip_count nodes) 0 n (n + 1) (rails_from nodes 0 cs) (map (λ fixed. fixed_rail nodes n fixed.0 fixed.1) (enumerate_from 0 (fixed_nodes nodes))) (omega arith) (omega arith) of_chips
    (no-fixed nodes n (chip_count nodes) (fixed_nodes nodes) (omega arith) (fixed-there nodes))

pub rails-sound : (nodes : List Node) → AreSoundFrom nodes 0 (chip_nodes nodes) → AllByRecursion (IsSoundRail (chip_count nodes)) (rails_in nodes)
rails-sound nodes sound = all-weaker (IsFine (length nodes) (chip_count nodes) 0 (length (chip_nodes nodes) + 1)) (IsSoundRail (chip_count nodes)) (λ rail fine. fine.sound) (rails_in nodes) (fine nodes sound).each

pub rails-stand : (nodes : List Node) → AreSoundFrom nodes 0 (chip_nodes nodes) → AllByRecursion (StandsIn (length nodes)) (rails_in nodes)
rails-stand nodes sound = all-weaker (IsFine (length nodes) (chip_count nodes) 0 (length (chip_nodes nodes) + 1)) (StandsIn (length nodes)) (λ rail fine. fine.stands) (rails_in nodes) (fine nodes sound).each

pub rails-apart : (nodes : List Node) → AreSoundFrom nodes 0 (chip_nodes nodes) → NoneShare (map (λ rail. rail.desc) (rails_in nodes))
rails-apart nodes sound = none-share desc_in (rails_in nodes) (fine nodes sound).apart

-- ---- the rails with their names as texts

pub all-seen : (P : Found → Type 0) (rails : List RailNode) (found : List Found) → map seen_rail rails ≡ found → AllByRecursion P found → All (λ rail. P (seen_rail rail)) rails
all-seen P rails found is all = All-from_recursion (λ rail. P (seen_rail rail)) rails (all-unmap P seen_rail rails (subst (AllByRecursion P) (sym is) all))

descs-seen : (rails : List RailNode) → map (λ rail. rail.desc) (map seen_rail rails) ≡ map (λ rail. rail.desc) rails
descs-seen [] = refl
descs-seen (rail ∷ rails) = ap (λ ds. rail.desc ∷ ds) (descs-seen rails)

pub none-share-seen : (rails : List RailNode) (found : List Found) → map seen_rail rails ≡ found → NoneShare (map (λ rail. rail.desc) found) → NoneShare (map (λ rail. rail.desc) rails)
none-share-seen rails found is apart = subst NoneShare (sym (ap (map (λ rail. rail.desc)) is) ∙ descs-seen rails) apart

pub on_ok : {T E : Type 0} (r : Result T E) (P : Type 0) → P → OnOk r P
on_ok (Ok x) P p = p
on_ok (Err e) P p = tt
