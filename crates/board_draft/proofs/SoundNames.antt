-- The names of a tree's rails are printed, and no two are one.
use Rattle.std.proofs.Common.{◌≡◌, ◌≢◌, ℕ, ◌+◌, ◌-◌, ◌<◌, true, false, cond, ◌&&◌, leb, List, [], Option, None, Some, refl, sym, ◌∙◌, arith, map, length, get_or, bytes_eq, All, AllPairs, IfSome}
use Rattle.std.specs.List.{enumerate_from, range_with_len}
use Rattle.std.specs.Option.{option_map, option_to_list}
use Rattle.std.proofs.lemmas.Bool.{and_parts, leb-true, true≢false}
use Rattle.std.proofs.lemmas.List.{get_or_default}
use Rattle.std.proofs.lemmas.List.Elements.{All-append}
use Rattle.std.proofs.lemmas.Slice.Eq.{bytes_eq-Decides}
use Rattle.board.specs.Valid.{IsPrinted}
use Rattle.dts_tree.specs.Tree.{Node}
use Rattle.board_nodes.specs.Chips.{chip_nodes, fixed_nodes, sheet_at}
use Rattle.board_nodes.specs.Faults.{pairs_below, two_names}
use Rattle.board_nodes.specs.Rails.{Found, printed_byte, printed, chip_rail, rails_of_chip, rails_at, fixed_rail, rails_in}
use Rattle.board_draft.proofs.SoundLists.{none-find, all_from_map, all_from_flat_map, all-map, all-flat_map, all-filter_map, all_from_range}

printed_is : (byte : ℕ) → IsPrinted (printed_byte byte)
printed_is byte =
    (elim (leb 0x21 byte && leb byte 0x7e) as (λ b. (leb 0x21 byte && leb byte 0x7e) ≡ b → IsPrinted (cond b byte 0x5f)) [
      | true ↦ λ both. let parts = and_parts (leb 0x21 byte) (leb byte 0x7e) both in (leb-true 0x21 byte parts.0, leb-true byte 0x7e parts.1)
      | false ↦ λ _. (omega arith, omega arith)
    ]) refl

-- each byte of the rail's name is printed
abbrev pub HasPrintedName : Found → Type 0
HasPrintedName found = All IsPrinted found.name

all_printed : (bytes : List ℕ) → All IsPrinted (printed bytes)
all_printed bytes = all-map IsPrinted printed_byte bytes printed_is

-- what may be there has what each has
mapped_has : {X Y : Type 0} (P : Y → Type 0) (f : X → Y) (o : Option X) → ((x : X) → P (f x)) → IfSome (option_map f o) P
mapped_has P f None each = tt
mapped_has P f (Some x) each = each x

pub rails_are_printed : (nodes : List Node) → All HasPrintedName (rails_in nodes)
rails_are_printed nodes =
    All-append HasPrintedName _ _
    (all-flat_map HasPrintedName (λ chip. rails_at nodes chip.0 chip.1) (enumerate_from 0 (chip_nodes nodes))
    (λ chip. all-flat_map HasPrintedName (rails_of_chip nodes chip.0 chip.1) (option_to_list (sheet_at nodes chip.1))
    (λ sheet. all-filter_map HasPrintedName _ (enumerate_from 0 sheet.lines)
    (λ line. mapped_has HasPrintedName (chip_rail nodes chip.0 chip.1 sheet line.0 line.1) _ (λ node. all_printed _)))))
    (all-map HasPrintedName (λ fixed. fixed_rail nodes (length (chip_nodes nodes)) fixed.0 fixed.1) (enumerate_from 0 (fixed_nodes nodes)) (λ fixed. all_printed _))

-- what holds of all pairs holds of each two numbers
all_below : (P : ℕ × ℕ → Type 0) (count a b : ℕ) → All P (pairs_below count) → a < b → b < count → P (a, b)
all_below P count a b all before within =
    let others : ℕ → List ℕ = λ a. range_with_len (a + 1) (count - (a + 1)) in
    let of_first = all_from_range (λ a. All P (map (λ b. (a, b)) (others a))) 0 count a
    (all_from_flat_map P (λ a. map (λ b. (a, b)) (others a)) (range_with_len 0 count) all) (omega arith) (omega arith) in
    all_from_range (λ b. P (a, b)) (a + 1) (count - (a + 1)) b (all_from_map P (λ b. (a, b)) (others a) of_first) (omega arith) (omega arith)

pub names_differ : (names : List (List ℕ)) → two_names names ≡ None → AllPairs (λ a b. a ≢ b) names
names_differ names none i j d before within same =
    let differs : bytes_eq (get_or names i []) (get_or names j []) ≡ false =
    all_below (λ pair. bytes_eq (get_or names pair.0 []) (get_or names pair.1 []) ≡ false) (length names) i j
    (none-find (λ pair. bytes_eq (get_or names pair.0 []) (get_or names pair.1 [])) (pairs_below (length names)) none) before within in
    let first : get_or names i [] ≡ get_or names i d = get_or_default names i [] d (omega arith) in
    let second : get_or names j d ≡ get_or names j [] = get_or_default names j d [] within in
    true≢false (sym ((bytes_eq-Decides (get_or names i []) (get_or names j [])).1 (first ∙ same ∙ second)) ∙ differs)
