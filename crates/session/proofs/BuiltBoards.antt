-- A board that is built ties no rail to another.
use Rattle.std.proofs.Common.{◌≡◌, ◌≢◌, ℕ, ◌+◌, ◌<◌, Bool, true, false, ◌||◌, eqb, refl, sym, ◌∙◌, arith}
use Rattle.std.specs.Prelude.{slice_get, Option, Some, None, find, List, [], ◌∷◌, All}
use Rattle.std.specs.List.{list_any, enumerate_from}
use Rattle.std.specs.Option.{option_or}
use Rattle.std.proofs.lemmas.Bool.{false≢true}
use Rattle.std.proofs.lemmas.Bool.Decides.{nat_tests}
use Rattle.std.proofs.lemmas.Option.{slice_get_within}
use Rattle.board_graph.specs.declared.graph.Graph.{Graph}
use Rattle.board_graph.specs.Graph.{AreCoupled, count_of}
use Rattle.board_graph.specs.Sets.{rails_of, is_block_of}
use Rattle.board.specs.declared.board.Board.{Board}
use Rattle.board.specs.Rail.{counts_loads}
use Rattle.board_checks.specs.Rails.{is_coupled, are_coupled}
use Rattle.plain_board.specs.Untied.{IsUntied}
use Rattle.board_draft.specs.declared.drafted.Drafted.{Drafted}
use Rattle.dts_nodes.specs.Firsts.{first_of, when}
use Rattle.session.specs.declared.fault.SessionFault.{SessionFault}
use Rattle.session.specs.declared.fault.SessionKind.TheVariants.{NotYet, BadReg}
use Rattle.session.specs.declared.setup.Setup.{Setup}
use Rattle.session.specs.Loading.{at_board, bad_register, names_no_chip, is_unbuilt}
use Rattle.session.specs.Inside.Loaded.{early_fault}
use Rattle.session.proofs.Tests.{neither, no_number_below, none_linked, none_found, mapped_none}

none_of_two : {A : Type 0} (first second : Option A) → option_or first second ≡ None → (first ≡ None) × (second ≡ None)
none_of_two None second none = (refl, none)
none_of_two (Some a) second none = cc

not_when : {A : Type 0} (holds : Bool) (this : A) → when holds this ≡ None → holds ≡ false
not_when true this none = cc
not_when false this none = refl

one_block : (graph : Graph) (i j group : ℕ) → slice_get graph.group i ≡ Some group → slice_get graph.group j ≡ Some group → is_block_of graph i j ≡ true
one_block graph i j group first second = rw (first, second) (grind (arith, nat_tests))

other_number : (i j : ℕ) → i ≢ j → eqb i j ≡ false
other_number i j apart = grind (arith, nat_tests)

none_coupled : (graph : Graph) → list_any (is_coupled graph) (rails_of graph) ≡ false → (i j : ℕ) → AreCoupled graph i j → ⊥
none_coupled graph none i j coupled =
    let within : i < count_of graph = slice_get_within graph.group i coupled.block.group coupled.block.first in
    let among : j < count_of graph = slice_get_within graph.group j coupled.block.group coupled.block.second in
    let alone : is_coupled graph i ≡ false = no_number_below (is_coupled graph) (count_of graph) i none within in
    let apart : are_coupled graph i j ≡ false = no_number_below (are_coupled graph i) (count_of graph) j alone among in
    let they : are_coupled graph i j ≡ true = rw (other_number i j coupled.apart) (one_block graph i j coupled.block.group coupled.block.first coupled.block.second) in
    false≢true (sym apart ∙ they)

pub built_is_untied : (board : Board) → is_unbuilt board ≡ false → IsUntied board
built_is_untied board built =
    let first = neither (list_any (is_coupled board.graph) (rails_of board.graph) || list_any (λ link. link) board.graph.link) (list_any counts_loads board.rails) built in
    let second = neither (list_any (is_coupled board.graph) (rails_of board.graph)) (list_any (λ link. link) board.graph.link) first.0 in
    record {
      uncoupled = none_coupled board.graph second.0;
      unlinked = λ i linked. false≢true (sym (none_linked board.graph.link i second.1) ∙ linked);
    }

-- where nothing is refused so far, each line's chip is there and the board is built
pub early_none : (before : ℕ) (setup : List Setup) (drafted : Drafted) → early_fault before setup drafted ≡ None
    → All (λ line. names_no_chip drafted.board.chips line ≡ false) setup × (is_unbuilt drafted.board ≡ false)
early_none before setup drafted none =
    let told : ℕ × Setup → SessionFault = λ line. record { line = before + line.0 + 1; kind = BadReg } in
    let lines = find (λ line. names_no_chip drafted.board.chips line.1) (enumerate_from 0 setup) in
    let first = none_of_two (bad_register drafted.board.chips before setup) (first_of (when (is_unbuilt drafted.board) (at_board NotYet) ∷ [])) none in
    let second = none_of_two (when (is_unbuilt drafted.board) (at_board NotYet)) None first.1 in (
      none_found (names_no_chip drafted.board.chips) 0 setup (mapped_none told lines first.0),
      not_when (is_unbuilt drafted.board) (at_board NotYet) second.0,
    )
