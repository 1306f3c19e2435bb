-- A disable keeps what holds of a plain board: the enable stays given up, wherever the bus stops the call.
use Rattle.std.proofs.Common.{◌≡◌, ℕ, ◌-◌, ◌≤◌, List, [], ◌++◌, Option, Some, None, refl, sym, ap, ◌∙◌, subst, arith, length, take, All}
use Rattle.std.proofs.lemmas.List.{append-nil}
use Rattle.arrayvec.specs.ArrayString.{ArrayString}
use Rattle.board.specs.declared.board.Board.{Board}
use Rattle.board.specs.Valid.{IsValid}
use Rattle.rail_law.specs.Moves.{Move, after_moves}
use Rattle.rows.specs.declared.call.Call.TheVariants.{Disable}
use Rattle.plain_board.specs.declared.plain.Plain.{Plain}
use Rattle.plain_board.specs.Handles.{rows_on, with_row, on_rail, for_open}
use Rattle.plain_board.specs.Counts.{load_sum}
use Rattle.plain_board.specs.Plan.{chain, changed, one_less, chain_off, changing, disable_moves, moves_of_call}
use Rattle.plain_board.specs.Answer.{with_changed, settled}
use Rattle.plain_board.specs.Inv.{Inv}
use Rattle.plain_board.specs.Law.{Throughout}
use Rattle.plain_board.specs.Moved.{after_first}
use Rattle.plain_board.specs.Refusals.{most_enables, refusal}
use Rattle.plain_board.specs.Untied.{IsUntied, HoldFields, CountsNoLoads}
use Rattle.plain_board.proofs.CallKeeps.{KeepsAll, after_first_moves, switching_lawful, switching_fields}
use Rattle.plain_board.proofs.ChangedRow.{KeepsName, IsOwn, rows_no_more}
use Rattle.plain_board.proofs.Grown.{HasGrown, after_first-grown}
use Rattle.plain_board.proofs.GrownLists.{lists_changed}
use Rattle.plain_board.proofs.KeptEnable.{no_mode_moves}
use Rattle.plain_board.proofs.KeptSwitched.{kept_on_same, inv_switched}
use Rattle.plain_board.proofs.SetMoves.{IsOpenOn, open_not_refused}
use Rattle.plain_board.proofs.SwitchedOff.{is_kept_on, KeptOn, IsGoingDown, chain_goes_down}
use Rattle.plain_board.proofs.Switches.{nothing_switched}

-- the plain board with an enable of a worker's handle given up
abbrev pub given_up : Plain → ℕ → ArrayString → Plain
given_up plain worker handle = record plain { handles = changed plain worker handle.bytes one_less }

-- a disable that isn't refused is of an open handle
pub disable_not_refused : (board : Board) (plain : Plain) (worker : ℕ) (handle : ArrayString) → refusal board plain worker (Disable handle) ≡ None → IsOpenOn board plain.handles worker handle.bytes
disable_not_refused board plain worker handle none = (open_not_refused _ board plain worker handle.bytes none).0

-- its moves are those of the rails of the chain that go off
pub disable_moves_are : (board : Board) → CountsNoLoads board → (plain : Plain) (worker : ℕ) (handle : ArrayString) (on : IsOpenOn board plain.handles worker handle.bytes)
    → moves_of_call board plain worker (Disable handle) ≡ chain_off board (given_up plain worker handle) (chain board on.entry.0.0)
disable_moves_are board no_loads plain worker handle on =
    let less : Plain = given_up plain worker handle in
    let off : List Move = chain_off board less (chain board on.entry.0.0) in
    ap (for_open [] (disable_moves board less) board) on.is_open
    ∙ ap (on_rail [] (disable_moves board less) on.entry) on.there
    ∙ ap (λ moves. off ++ changing board less.regs moves)
    (no_mode_moves board no_loads on.entry.0 on.entry.0.0 on.rail (load_sum on.rail (rows_on less.handles on.entry.0.0)) on.there)
    ∙ append-nil off

one_less_keeps : KeepsName one_less
one_less_keeps = record { worker = λ row. refl; handle = λ row. refl; request = λ row. refl; cursor = λ row. refl; exclusive = λ row. refl }

module _ (board : Board) (valid : IsValid board) (untied : IsUntied board) (no_loads : CountsNoLoads board) (plain : Plain) (hold : HoldFields board plain.regs) (inv : Inv board plain) (worker : ℕ) (handle : ArrayString) (on : IsOpenOn board plain.handles worker handle.bytes) where
  abbrev less : Plain
  less = given_up plain worker handle

  abbrev moves : List Move
  moves = moves_of_call board plain worker (Disable handle)

  abbrev IsDown : List (List ℕ) → Type 0
  IsDown regs = IsGoingDown board plain.regs less regs

  no_more : (i : ℕ) → is_kept_on less i ≤ is_kept_on plain i
  no_more i = omega (arith, rows_no_more worker handle.bytes one_less (λ row. row.enables) i plain.handles (λ k d within own here. omega arith))

  goes_down : Throughout IsDown board plain.regs moves
  goes_down =
      subst (Throughout IsDown board plain.regs) (sym (disable_moves_are board no_loads plain worker handle on))
      (chain_goes_down board valid.sound plain.regs inv.kept.regs hold less (chain board on.entry.0.0)
      (record {
        only = nothing_switched board valid.sound plain.regs inv.kept.regs hold;
        supplies = inv.law.supplies;
        needed = λ i rail at some. inv.used i rail at (omega (arith, some, no_more i));
      }))

  few : All (λ other. IsOwn worker handle.bytes one_less other → other.1.enables - 1 ≤ most_enables) plain.handles
  few k d within own = omega (arith, (inv.kept.opens k d within).enables)

  module _ (made : ℕ) where
    abbrev now : Plain
    now = after_first board plain made moves

    grown : HasGrown plain now (after_moves board plain.regs (take made moves)) plain.handles
    grown = after_first-grown board plain made moves

    state : IsDown now.regs
    state = subst IsDown (sym grown.regs_are) (after_first_moves IsDown board plain.regs moves made goes_down)

    abbrev new : Plain
    new = with_changed now worker handle one_less

    same : (i : ℕ) → is_kept_on new i ≡ is_kept_on less i
    same = kept_on_same new less (ap (λ handles. with_row handles worker handle.bytes one_less) grown.handles_are) grown.holds

    inv_after : Inv board new
    inv_after =
        inv_switched board valid.sound untied no_loads plain inv new state.only state.supplies
        (λ i rail at some. state.needed i rail at (omega (arith, some, same i)))
        (lists_changed board plain inv.kept now _ grown worker handle one_less one_less_keeps few)

  inv_settled : (stop : Option ℕ) → Inv board (settled board plain worker (Disable handle) moves stop).1
  inv_settled None = inv_after (length moves)
  inv_settled (Some made) = inv_after made

  fields_settled : (stop : Option ℕ) → HoldFields board (settled board plain worker (Disable handle) moves stop).1.regs
  fields_settled None = switching_fields board plain.regs hold (KeptOn less) _ (state (length moves))
  fields_settled (Some made) = switching_fields board plain.regs hold (KeptOn less) _ (state made)

  pub disable_keeps : KeepsAll board plain worker (Disable handle)
  disable_keeps = record {
    law = switching_lawful board untied plain.regs inv.law (KeptOn less) moves goes_down;
    inv = inv_settled;
    fields = fields_settled;
  }
