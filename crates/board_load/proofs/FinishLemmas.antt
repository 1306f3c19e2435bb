-- What loading gives, from what its parts give.
use Rattle.std.proofs.Common.{◌≡◌, ℕ, Bool, false, List, [], Some, sym, ap, ◌∙◌, subst, map, length, All}
use Rattle.std.specs.Prelude.{option_map}
use Rattle.std.proofs.lemmas.List.Elements.{All-weaker}
use Rattle.chip_regs.specs.Field.{IsField, FitsField}
use Rattle.board.specs.declared.board.Board.{Board}
use Rattle.board.specs.declared.event.Event.{Event}
use Rattle.board.specs.declared.write.Write.{Write}
use Rattle.board.specs.Desc.{IsPlaced}
use Rattle.board.specs.Valid.{IsValid}
use Rattle.plain_board.specs.declared.plain.Plain.{Plain}
use Rattle.plain_board.specs.Handles.{Entry}
use Rattle.plain_board.specs.Inv.{Inv}
use Rattle.plain_board.specs.Untied.{IsUntied, HoldFields}
use Rattle.board_load.specs.declared.puts.Put.{Put}
use Rattle.board_load.specs.Loading.{board_at, plain_at, loaded_at, load, HasValueInside}
use Rattle.board_load.specs.Start.{is_asked_on}
use Rattle.board_load.specs.Inside.Puts.{loading_puts, after_puts, write_of_put}
use Rattle.board_load.specs.Inside.Targets.{start_of}
use Rattle.board_load.proofs.LoadedBoard.{kept_is_valid}
use Rattle.board_load.proofs.LoadedInv.{loaded_inv}
use Rattle.board_load.proofs.PutLemmas.{good_puts, loading_writes, after_loading}
use Rattle.board_load.proofs.StartValues.{targets_are}

-- what the parts of a plain board are
pub record HasParts (plain : Plain) (regs : List (List ℕ)) (holds : List Bool) (events : List (List Event)) : Type 0 where
  pub regs_are : plain.regs ≡ regs
  pub handles_are : plain.handles ≡ []
  pub holds_are : plain.holds ≡ holds
  pub suspended_is : plain.suspended ≡ false
  pub events_are : plain.events ≡ events

same_plain : (plain : Plain) (regs : List (List ℕ)) (holds : List Bool) (events : List (List Event)) → HasParts plain regs holds events
    → plain ≡ record { regs = regs; handles = []; holds = holds; suspended = false; events = events }
same_plain plain regs holds events is =
    ap (λ (rs : List (List ℕ)). record plain { regs = rs }) is.regs_are
    ∙ ap (λ (hs : List Entry). record plain { regs = regs; handles = hs }) is.handles_are
    ∙ ap (λ (hs : List Bool). record plain { regs = regs; handles = []; holds = hs }) is.holds_are
    ∙ ap (λ (s : Bool). record plain { regs = regs; handles = []; holds = holds; suspended = s }) is.suspended_is
    ∙ ap (λ (es : List (List Event)). record { regs = regs; handles = []; holds = holds; suspended = false; events = es }) is.events_are

module _ (board : Board) (valid : IsValid board) (untied : IsUntied board) (inside : All HasValueInside board.rails) (regs : List (List ℕ)) (chips : length regs ≡ board.chips) (hold : HoldFields board regs) where
  abbrev values : List ℕ
  values = map (start_of regs) board.rails

  module _ (puts : List Put) (are : puts ≡ loading_puts board regs values) where
    good : All (λ put. IsPlaced board.chips put.field × FitsField put.field put.bits) puts
    good = subst (All (λ put. IsPlaced board.chips put.field × FitsField put.field put.bits)) (sym are) (good_puts board regs values valid.sound hold)

    pub puts_placed : All (λ put. IsPlaced (length regs) put.field) puts
    puts_placed =
        subst (λ (n : ℕ). All (λ put. IsPlaced n put.field) puts) (sym chips)
        (All-weaker (λ put. IsPlaced board.chips put.field × FitsField put.field put.bits) (λ put. IsPlaced board.chips put.field) (λ put both. both.0) puts good)

    pub puts_fit : All (λ put. FitsField put.field put.bits) puts
    puts_fit = All-weaker (λ put. IsPlaced board.chips put.field × FitsField put.field put.bits) (λ put. FitsField put.field put.bits) (λ put both. both.1) puts good

    pub puts_shaped : All (λ put. IsField put.field) puts
    puts_shaped = All-weaker (λ put. IsPlaced board.chips put.field × FitsField put.field put.bits) (λ put. IsField put.field) (λ put both. both.0.shape) puts good

    plain_is : (plain : Plain) → HasParts plain (after_puts regs puts) (map (is_asked_on regs) board.rails) (map (λ _. []) board.rails) → plain ≡ plain_at board regs values
    plain_is plain is =
        same_plain plain (after_puts regs puts) (map (is_asked_on regs) board.rails) (map (λ _. []) board.rails) is
        ∙ ap (λ (rs : List (List ℕ)). record { regs = rs; handles = []; holds = map (is_asked_on regs) board.rails; suspended = false; events = map (λ _. []) board.rails })
        (ap (after_puts regs) are ∙ sym (after_loading board regs values))

    pub loaded_is : (new : Board) (writes : List Write) (plain : Plain) → new ≡ board_at board values → writes ≡ map write_of_put puts
        → HasParts plain (after_puts regs puts) (map (is_asked_on regs) board.rails) (map (λ _. []) board.rails)
        → load board regs ≡ Some (record { board = new; writes = writes; plain = plain })
    loaded_is new writes plain kept told is =
        ap (option_map (loaded_at board regs)) (targets_are board regs untied inside)
        ∙ ap (λ (b : Board). Some (record { board = b; writes = (loaded_at board regs values).writes; plain = plain_at board regs values })) (sym kept)
        ∙ ap (λ (ws : List Write). Some (record { board = new; writes = ws; plain = plain_at board regs values })) (loading_writes board regs values ∙ ap (map write_of_put) (sym are) ∙ sym told)
        ∙ ap (λ (p : Plain). Some (record { board = new; writes = writes; plain = p })) (sym (plain_is plain is))

    pub inv_is : (new : Board) (plain : Plain) → new ≡ board_at board values → HasParts plain (after_puts regs puts) (map (is_asked_on regs) board.rails) (map (λ _. []) board.rails) → Inv new plain
    inv_is new plain kept is =
        subst (λ (p : Plain). Inv new p) (sym (plain_is plain is))
        (subst (λ (b : Board). Inv b (plain_at board regs values)) (sym kept) (loaded_inv board valid untied inside regs chips hold))

  pub valid_is : (new : Board) → new ≡ board_at board values → IsValid new
  valid_is new kept = subst IsValid (sym kept) (kept_is_valid board values valid)

  pub untied_is : (new : Board) → new ≡ board_at board values → IsUntied new
  untied_is new kept = subst IsUntied (sym kept) (record { uncoupled = untied.uncoupled; unlinked = untied.unlinked })
