-- Boards and registers worked out by hand: on which no value binds another, and which hold the fields.
use Rattle.std.proofs.Common.{◌≡◌, ℕ, zero, suc, ◌<◌, true, false, List, [], ◌∷◌, Some, refl, sym, ap, ◌∙◌, arith, slice_get, replicate}
use Rattle.std.proofs.lemmas.Bool.{true≢false}
use Rattle.std.proofs.lemmas.Option.{same_Some}
use Rattle.arrayvec.specs.ArrayString.{ArrayString}
use Rattle.chip_regs.specs.declared.field.Field.{Field}
use Rattle.chip_regs.specs.Registers.{IsImage}
use Rattle.chip_regs.specs.Width.{chip_registers}
use Rattle.chip_regs.proofs.Image.{IsImage-replicate}
use Rattle.board_graph.specs.declared.graph.Graph.{Graph}
use Rattle.board_graph.specs.Graph.{AreCoupled}
use Rattle.board_graph.specs.Sets.{IsLinked}
use Rattle.board_graph.proofs.FailsBy.{FailsBy}
use Rattle.board.specs.declared.board.Board.{Board}
use Rattle.board.specs.declared.part.Part.{Part}
use Rattle.board.specs.declared.part.Part.TheVariants.{Selector, Enable, ModePart, SuspendEnable, SuspendSelector}
use Rattle.board.specs.declared.rail.Rail.{Rail}
use Rattle.board.specs.declared.state.State.TheVariants.{Mem}
use Rattle.board.specs.Fields.{field_at}
use Rattle.board.specs.Rail.{counts_loads}
use Rattle.board.proofs.Boards.{low_bits, first_buck, second_buck, coupled_board, io_rail, usb_rail, battery, supplied_board}
use Rattle.rail_law.proofs.Registers.{pair_at}
use Rattle.rows.specs.declared.call.Call.TheVariants.{Open, Close, Enable, Disable, Set, Load, Get, IsOn, ModeOf, ListSel, Supported, Listen, Events, Suspend, Resume, ReleaseBoot}
use Rattle.plain_board.specs.Untied.{IsUntied, IsBuiltCall, IsHandleCall, CountsNoLoads, HoldFields}
use Rattle.plain_board.proofs.PlayedBoards.{load_rail}
use Rattle.plain_board.proofs.TwoRails.{always_rail, two_board}

-- three rails that supply each other, each in a group of its own, and no dropout that binds
abbrev untied_board : Board
untied_board = record supplied_board {
  rails = io_rail ∷ record usb_rail { desc = record usb_rail.desc { dropout = 0 } } ∷ battery ∷ [];
  graph = record supplied_board.graph { link = false ∷ false ∷ false ∷ [] };
}

numbered : (i group : ℕ) → slice_get (0 ∷ 1 ∷ 2 ∷ []) i ≡ Some group → i ≡ group
numbered zero group is = same_Some 0 group is
numbered (suc zero) group is = same_Some 1 group is
numbered (suc (suc zero)) group is = same_Some 2 group is
numbered (suc (suc (suc i))) group is = absurd (cc)

own_groups : (graph : Graph) → graph.group ≡ 0 ∷ 1 ∷ 2 ∷ [] → (i j : ℕ) → ¬ AreCoupled graph i j
own_groups graph groups i j coupled =
    let first = numbered i coupled.block.group (ap (λ all. slice_get all i) (sym groups) ∙ coupled.block.first) in
    let second = numbered j coupled.block.group (ap (λ all. slice_get all j) (sym groups) ∙ coupled.block.second) in
    coupled.apart (first ∙ sym second)

not_linked : (i : ℕ) → ¬ IsLinked untied_board.graph i
not_linked zero is = cc
not_linked (suc zero) is = cc
not_linked (suc (suc zero)) is = cc
not_linked (suc (suc (suc i))) is = cc

untied : IsUntied untied_board
untied = record { uncoupled = own_groups untied_board.graph refl; unlinked = not_linked }

-- two bucks that are coupled, and neither linked
pair_unlinked : (i : ℕ) → ¬ IsLinked coupled_board.graph i
pair_unlinked zero is = cc
pair_unlinked (suc zero) is = cc
pair_unlinked (suc (suc i)) is = cc

tied_by_a_spread : FailsBy ((i j : ℕ) → ¬ AreCoupled coupled_board.graph i j) (IsUntied coupled_board)
tied_by_a_spread = record {
  needs = λ is. is.uncoupled;
  suffices = λ part. record { uncoupled = part; unlinked = pair_unlinked };
  fails = λ part. part 0 1 (record { apart = λ same. absurd (omega (arith, same)); block = record { group = 0; first = refl; second = refl } });
}

-- an ldo that is linked to its supply, and none coupled
tied_by_a_dropout : FailsBy ((i : ℕ) → ¬ IsLinked supplied_board.graph i) (IsUntied supplied_board)
tied_by_a_dropout = record {
  needs = λ is. is.unlinked;
  suffices = λ part. record { uncoupled = own_groups supplied_board.graph refl; unlinked = part };
  fails = λ part. part 1 refl;
}

-- calls of today, and one that isn't
open_is_built : (handle : ArrayString) → IsBuiltCall (Open handle (record { 0 = 3 }) false)
open_is_built handle = tt

set_is_built : (handle : ArrayString) → IsBuiltCall (Set handle 800000 900000)
set_is_built handle = tt

get_is_built : (handle : ArrayString) → IsBuiltCall (Get handle)
get_is_built handle = tt

close_is_not_built : (handle : ArrayString) → ¬ IsBuiltCall (Close handle)
close_is_not_built handle is = is

-- the calls on handles and the end of the holds, each alone, and those that are none of them
open_is_on_handles : (handle : ArrayString) → IsHandleCall (Open handle (record { 0 = 3 }) true)
open_is_on_handles handle = tt

close_is_on_handles : (handle : ArrayString) → IsHandleCall (Close handle)
close_is_on_handles handle = tt

enable_is_on_handles : (handle : ArrayString) → IsHandleCall (Enable handle)
enable_is_on_handles handle = tt

disable_is_on_handles : (handle : ArrayString) → IsHandleCall (Disable handle)
disable_is_on_handles handle = tt

set_is_on_handles : (handle : ArrayString) → IsHandleCall (Set handle 800000 900000)
set_is_on_handles handle = tt

get_is_on_handles : (handle : ArrayString) → IsHandleCall (Get handle)
get_is_on_handles handle = tt

is_on_is_on_handles : (handle : ArrayString) → IsHandleCall (IsOn handle)
is_on_is_on_handles handle = tt

release_ends_holds : IsHandleCall ReleaseBoot
release_ends_holds = tt

load_is_none : (handle : ArrayString) → ¬ IsHandleCall (Load handle 5)
load_is_none handle is = is

mode_is_none : (handle : ArrayString) → ¬ IsHandleCall (ModeOf handle)
mode_is_none handle is = is

list_is_none : (handle : ArrayString) → ¬ IsHandleCall (ListSel handle 5)
list_is_none handle is = is

supported_is_none : (handle : ArrayString) → ¬ IsHandleCall (Supported handle 5 6)
supported_is_none handle is = is

listen_is_none : (handle : ArrayString) → ¬ IsHandleCall (Listen handle)
listen_is_none handle is = is

events_is_none : (handle : ArrayString) → ¬ IsHandleCall (Events handle)
events_is_none handle is = is

suspend_is_none : ¬ IsHandleCall (Suspend Mem)
suspend_is_none is = is

resume_is_none : ¬ IsHandleCall Resume
resume_is_none is = is

-- two bucks whose loads nobody counts
coupled_counts_none : CountsNoLoads coupled_board
coupled_counts_none zero rail at = ap counts_loads (sym (same_Some first_buck rail at))
coupled_counts_none (suc zero) rail at = ap counts_loads (sym (same_Some second_buck rail at))
coupled_counts_none (suc (suc i)) rail at = absurd (cc)

-- two rails of which the first counts loads, and two of which the second does
first_counts : ¬ CountsNoLoads two_board
first_counts none = true≢false (none 0 load_rail refl)

second_counts : ¬ CountsNoLoads (record two_board { rails = always_rail ∷ load_rail ∷ [] })
second_counts none = true≢false (none 1 load_rail refl)

-- one buck, whose fields lie in five registers of a chip, and one whose selector lies behind the last
abbrev board_of : Rail → Board
board_of rail = record coupled_board { rails = rail ∷ [] }

abbrev far_buck : Rail
far_buck = record first_buck { desc = record first_buck.desc { selector = Some (low_bits chip_registers 0x7f) } }

abbrev blank : List (List ℕ)
blank = replicate 1 (replicate chip_registers 0)

at_register : (f g : Field) (reg : ℕ) → Some f ≡ Some g → f.reg ≡ reg → reg < chip_registers → g.reg < chip_registers
at_register f g reg same at below = let there : f.reg ≡ g.reg = ap (λ h. h.reg) (same_Some f g same) in omega (arith, there)

places : (r : ℕ) (part : Part) (field : Field) → field_at (board_of first_buck) r part ≡ Some field → field.reg < chip_registers
places zero Selector field is = at_register _ field 0x10 is refl (omega arith)
places zero Enable field is = at_register _ field 0x20 is refl (omega arith)
places zero ModePart field is = at_register _ field 0x30 is refl (omega arith)
places zero SuspendEnable field is = at_register _ field 0x21 is refl (omega arith)
places zero SuspendSelector field is = at_register _ field 0x40 is refl (omega arith)
places (suc r) part field is = absurd (cc)

holds_fields : HoldFields (board_of first_buck) blank
holds_fields = record { image = IsImage-replicate 1; places = places }

-- registers that aren't those of a whole chip
short_chip : FailsBy (IsImage (pair_at 32 32)) (HoldFields (board_of first_buck) (pair_at 32 32))
short_chip = record {
  needs = λ is. is.image;
  suffices = λ part. record { image = part; places = places };
  fails = λ part. absurd (omega (arith, (part 0 [] (omega arith)).0));
}

-- a selector behind the last register
no_place : FailsBy ((r : ℕ) (part : Part) (field : Field) → field_at (board_of far_buck) r part ≡ Some field → field.reg < chip_registers) (HoldFields (board_of far_buck) blank)
no_place = record {
  needs = λ is. is.places;
  suffices = λ part. record { image = IsImage-replicate 1; places = part };
  fails = λ part. absurd (omega (arith, part 0 Selector (low_bits chip_registers 0x7f) refl));
}
