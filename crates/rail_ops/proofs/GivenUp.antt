-- A disable of an open handle, from how the rails of its chain went down once the enable was given up.
use Rattle.std.proofs.Common.{◌≡◌, ℕ, zero, suc, ◌<◌, ◌==◌, Bool, true, false, cond, List, [], ◌∷◌, Option, Some, None, inl, inr, refl, sym, ap, ◌∙◌, subst, arith, map, length, slice_get, slice_set}
use Rattle.std.specs.Prelude.{Contains, position}
use Rattle.std.proofs.lemmas.Bool.{cases_eq}
use Rattle.std.proofs.lemmas.Option.{same_Some}
use Rattle.arrayvec.specs.ArrayString.{ArrayString}
use Rattle.reg_outside.specs.Bus.{Bus}
use Rattle.board.specs.declared.board.Board.{Board}
use Rattle.board.specs.declared.rail.Rail.{Rail}
use Rattle.board.specs.declared.rail_id.RailId.{RailId}
use Rattle.board.specs.declared.write.Write.{Write}
use Rattle.board.specs.Fields.{field_at}
use Rattle.board.specs.Valid.{IsValid}
use Rattle.rail_law.specs.Moves.{Move}
use Rattle.rail_state.specs.Sight.{IsGuarded}
use Rattle.rows.specs.declared.answer.Answer.{Answer}
use Rattle.rows.specs.declared.answer.Answer.TheVariants.{NoHandle, Suspended, Unbalanced}
use Rattle.rows.specs.declared.call.Call.{Call}
use Rattle.rows.specs.declared.call.Call.TheVariants.{Disable}
use Rattle.use_counts.specs.Book.{Book}
use Rattle.use_counts.specs.Uses.{is_row_of, rail_named}
use Rattle.use_counts.specs.declared.handle_row.HandleRow.{HandleRow}
use Rattle.plain_board.specs.declared.plain.Plain.{Plain}
use Rattle.plain_board.specs.Answer.{plan, with_changed}
use Rattle.plain_board.specs.Handles.{rows_on, with_row}
use Rattle.plain_board.specs.History.{is_fault}
use Rattle.plain_board.specs.Plan.{chain, chain_off, one_less, switch}
use Rattle.plain_board.specs.Refusals.{Reason, refusal}
use Rattle.plain_board.specs.Seen.{book}
use Rattle.plain_board.specs.Untied.{CountsNoLoads, HoldFields, IsUntied}
use Rattle.plain_board.proofs.HandleMoves.{disable_plan}
use Rattle.plain_board.proofs.KeptDisable.{given_up}
use Rattle.plain_board.proofs.SwitchMoves.{chain_switches, rails_of_moves}
use Rattle.rail_ops.specs.Exact.{IsExact, IsLeft}
use Rattle.rail_ops.specs.Sight.{Hands, Knows, MayBe, placed}
use Rattle.rail_ops.specs.Inside.Disabling.{disable_refusal}
use Rattle.rail_ops.specs.Inside.Falling.{Fell, IsSighted, WentDown, with_abort}
use Rattle.rail_ops.specs.Inside.Raised.{ChangesBook, raised}
use Rattle.rail_ops.proofs.FallExact.{down_exact, left_down}
use Rattle.rail_ops.proofs.Found.{Found, not_found}
use Rattle.rail_ops.proofs.OneMore.{it, seen_place}
use Rattle.rail_ops.proofs.OneRow.{at, count_kept, rail_kept, row_changed, rows_kept}
use Rattle.rail_ops.proofs.Reading.{first_reason, for_found, for_missing}

-- the first of the reasons against a disable
reason_by : (suspended none : Bool) → first_reason ((suspended, Suspended) ∷ (none, Unbalanced 0) ∷ []) ≡ cond suspended (Some Suspended) (cond none (Some (Unbalanced 0)) None)
reason_by true none = refl
reason_by false true = refl
reason_by false false = refl

-- a refusal of a disable is no fault
pub refusal_calm : (suspended : Bool) (enables : ℕ) (said : Answer) → disable_refusal suspended enables ≡ Some said → is_fault said ≡ false
refusal_calm true enables said is = subst (λ (a : Answer). is_fault a ≡ false) (same_Some Suspended said is) refl
refusal_calm false enables said is = by (enables == 0) is where
  by : (t : Bool) → cond t (Some (Unbalanced 0)) None ≡ Some said → is_fault said ≡ false
  by true none = subst (λ (a : Answer). is_fault a ≡ false) (same_Some (Unbalanced 0) said none) refl
  by false free = absurd (cc)

-- what isn't refused has an enable
pub some_enable : (suspended : Bool) (enables : ℕ) → disable_refusal suspended enables ≡ None → 0 < enables
some_enable true enables none = absurd (cc)
some_enable false zero none = absurd (cc)
some_enable false (suc enables) none = omega arith

module _ (first : Hands) (names : List (List ℕ × ℕ)) (worker : ℕ) (handle : ArrayString) (valid : IsValid first.board) (untied : IsUntied first.board) (no_loads : CountsNoLoads first.board)
    (plain : Plain) (may_be : MayBe (placed first names worker) plain) where
  abbrev call : Call
  call = Disable handle

  -- the reasons against it
  abbrev disable_reasons : RailId → Rail → HandleRow → List Reason
  disable_reasons id rail row = (plain.suspended, Suspended) ∷ (row.enables == 0, Unbalanced 0) ∷ []

  -- the name isn't open
  pub unnamed_refused : rail_named names handle.bytes ≡ None → refusal first.board plain worker call ≡ Some NoHandle
  unnamed_refused none =
      ap first_reason (for_missing first.board plain worker handle.bytes ((true, NoHandle) ∷ []) disable_reasons (not_found (placed first names worker) plain may_be handle.bytes none))

  module _ (r : ℕ) (named : rail_named names handle.bytes ≡ Some r) where
    abbrev pub mine : Found first.board plain worker handle.bytes r
    mine = it first names worker handle valid untied no_loads plain may_be r named

    there : slice_get first.board.rails mine.entry.0.0 ≡ Some mine.rail
    there = ap (slice_get first.board.rails) mine.on ∙ mine.there

    -- the refusal is that which is seen
    pub seen_refusal : Contains first.rails r → refusal first.board plain worker call ≡ disable_refusal (first.books r).suspended mine.entry.1.enables
    seen_refusal held =
        ap first_reason (for_found first.board plain worker handle.bytes mine.entry mine.rail mine.opened there ((true, NoHandle) ∷ []) disable_reasons)
        ∙ reason_by plain.suspended (mine.entry.1.enables == 0)
        ∙ ap (λ t. disable_refusal t mine.entry.1.enables) (sym (ap (λ (b : Book). b.suspended) (may_be.shows.books r held)))

    abbrev pub less : Plain
    less = given_up plain worker handle

    -- once the enable is given up
    module _ (held : Contains first.rails r) (place : ℕ) (is_place : position (is_row_of worker handle.bytes) (first.books r).rows ≡ Some place) (mid : Hands)
        (gives : ChangesBook r (record (first.books r) { rows = slice_set (first.books r).rows place (one_less mine.entry.1) }) first mid) where
      spot : at worker handle.bytes plain.handles mine.entry may_be.inv.kept.apart mine.opened ≡ place
      spot = same_Some _ _ (sym (seen_place first names worker handle valid untied no_loads plain may_be r named held) ∙ is_place)

      seen_book : (i : ℕ) → Contains first.rails i → mid.books i ≡ book first.board less i
      seen_book i has = elim (cases_eq r i) [
        | inl here ↦
            ap mid.books (sym here) ∙ gives.own
            ∙ ap (λ (b : Book). record b { rows = slice_set b.rows place (one_less mine.entry.1) }) (may_be.shows.books r held)
            ∙ ap (λ (rows : List HandleRow). record (book first.board plain r) { rows = rows })
            (ap (λ (k : ℕ). slice_set (rows_on plain.handles k) place (one_less mine.entry.1)) (sym mine.on)
            ∙ ap (λ (k : ℕ). slice_set (rows_on plain.handles mine.entry.0.0) k (one_less mine.entry.1)) (sym spot)
            ∙ sym (row_changed worker handle.bytes plain.handles mine.entry may_be.inv.kept.apart mine.opened one_less)
            ∙ ap (rows_on (with_row plain.handles worker handle.bytes one_less)) mine.on)
            ∙ ap (book first.board less) here
        | inr away ↦
            gives.others i away ∙ may_be.shows.books i has
            ∙ ap (λ (rows : List HandleRow). record (book first.board plain i) { rows = rows })
            (sym (rows_kept worker handle.bytes plain.handles mine.entry may_be.inv.kept.apart mine.opened one_less i (λ on. away (sym mine.on ∙ on))))
      ]

      -- the worker sees the plain board without it
      pub sighted_less : IsSighted mid less
      sighted_less = record {
        chips = may_be.inv.kept.regs ∙ ap (λ (b : Board). b.chips) (sym gives.board);
        hold = subst (λ (b : Board). HoldFields b plain.regs) (sym gives.board) may_be.hold;
        rails = may_be.inv.kept.events ∙ ap (λ (b : Board). length b.rails) (sym gives.board);
        shows = record {
          fields = λ j part field guarded is.
              may_be.shows.fields j part field
              (subst (λ (b : Board). IsGuarded b first.rails j) gives.board (subst (λ (rs : List ℕ). IsGuarded mid.board rs j) gives.rails guarded))
              (ap (λ (b : Board). field_at b j part) (sym gives.board) ∙ is)
              ∙ sym (gives.bits j part);
          books = λ i has. seen_book i (subst (λ (rs : List ℕ). Contains rs i) gives.rails has) ∙ ap (λ (b : Board). book b less i) (sym gives.board);
        };
      }

    -- the call isn't refused: what is idle of the chain goes down
    module _ (free : refusal first.board plain worker call ≡ None) where
      abbrev pub moves : List Move
      moves = chain_off first.board less (chain first.board r)

      pub plan_is : plan first.board plain worker call ≡ moves
      plan_is = disable_plan first.board plain worker handle mine.entry no_loads mine.opened free ∙ ap (λ (i : ℕ). chain_off first.board less (chain first.board i)) mine.on

      switches : moves ≡ map (switch 0) (rails_of_moves moves)
      switches = chain_switches first.board less (chain first.board r)

      commutes : (ms : List Move) (o : Option ℕ) → with_changed (with_abort (raised first.board plain ms) o) worker handle one_less ≡ with_abort (raised first.board less ms) o
      commutes ms None = refl
      commutes ms (Some i) = refl

      knows : (ms : List Move) (o : Option ℕ) → Knows names worker (with_changed (with_abort (raised first.board plain ms) o) worker handle one_less)
      knows ms o = subst (Knows names worker) (sym (commutes ms o)) (by o) where
        known : Knows names worker less
        known = record {
          rails = λ text. may_be.knows.rails text ∙ sym (rail_kept worker handle.bytes one_less (λ row. refl) (λ row. refl) worker text plain.handles);
          count = may_be.knows.count ∙ sym (count_kept worker handle.bytes one_less (λ row. refl) (λ row. refl) worker plain.handles);
        }

        by : (p : Option ℕ) → Knows names worker (with_abort (raised first.board less ms) p)
        by None = record { rails = known.rails; count = known.count }
        by (Some i) = record { rails = known.rails; count = known.count }

      module _ (mid after : Hands) (mid_board : mid.board ≡ first.board) (same : after.board ≡ first.board) (bus bus' : Bus) where
        -- the memory was out on the way
        pub left : (made : ℕ) → WentDown mid after bus bus' made None less (chain_off mid.board less (chain mid.board r)) → IsLeft call (placed first names worker) (placed after names worker) bus bus' plain
        left =
            left_down first names worker call valid untied no_loads plain may_be (λ now. with_changed now worker handle one_less) (λ b. chain_off b less (chain b r)) (rails_of_moves moves) tt tt free plan_is switches
            (λ now. refl) (λ now. refl) (λ now. refl) commutes knows mid after mid_board same bus bus'

        -- the call is exact, however far the rails went down
        pub fell_exact : (keep : Bool) (said : Answer) (writes : List Write) → Fell mid after bus bus' keep said writes less (chain_off mid.board less (chain mid.board r))
            → IsExact call (placed first names worker) (placed after names worker) bus bus' keep said writes plain
        fell_exact =
            down_exact first names worker call valid untied no_loads plain may_be (λ now. with_changed now worker handle one_less) (λ b. chain_off b less (chain b r)) (rails_of_moves moves) tt tt free plan_is switches
            (λ now. refl) (λ now. refl) (λ now. refl) commutes knows mid after mid_board same bus bus'
