-- An enable of an open handle, from how the rails of its chain came up.
use Rattle.std.proofs.Common.{◌≡◌, ℕ, zero, suc, ◌+◌, ◌<◌, ◌≤◌, ◌&&◌, ◌==◌, Bool, true, false, not, cond, List, [], ◌∷◌, Option, Some, None, inl, inr, refl, sym, ap, ◌∙◌, subst, arith, map, filter, take, length, reverse, slice_get, slice_set}
use Rattle.std.specs.Prelude.{Contains, IfSome, is_some, position, if◌then◌else◌, option_map, is_none, option_and_then, unwrap_or}
use Rattle.std.specs.List.{enumerate_from}
use Rattle.std.specs.Option.{option_map_or}
use Rattle.std.proofs.lemmas.Bool.{cases_eq, eq-eqb}
use Rattle.std.proofs.lemmas.List.{length-take-le, take_all, take-map}
use Rattle.std.proofs.lemmas.Option.{same_Some, slice_get-map, slice_get_within}
use Rattle.arrayvec.specs.ArrayString.{ArrayString}
use Rattle.reg_outside.specs.Bus.{Bus}
use Rattle.load_modes.specs.Modes.{mode_of_load}
use Rattle.board.specs.declared.board.Board.{Board}
use Rattle.board.specs.declared.part.Part.TheVariants.{Enable as EnableBit}
use Rattle.board.specs.declared.rail.Rail.{Rail}
use Rattle.board.specs.declared.rail_id.RailId.{RailId}
use Rattle.board.specs.declared.write.Write.{Write}
use Rattle.board.specs.Fields.{field_at}
use Rattle.rail_state.specs.Sight.{IsGuarded}
use Rattle.board.specs.Rail.{counts_loads, part_field, uv}
use Rattle.board.specs.Valid.{IsValid}
use Rattle.rail_law.specs.Moves.{Move, after_moves, update_of_field, writes_of}
use Rattle.rows.specs.declared.answer.Answer.{Answer}
use Rattle.rows.specs.declared.answer.Answer.TheVariants.{CountFull, Fault, NoHandle, NoMode, OkTime, Suspended}
use Rattle.rows.specs.declared.call.Call.{Call}
use Rattle.rows.specs.declared.call.Call.TheVariants.{Enable}
use Rattle.use_counts.specs.Book.{Book}
use Rattle.use_counts.specs.Uses.{is_row_of, rail_named}
use Rattle.use_counts.specs.declared.handle_row.HandleRow.{HandleRow}
use Rattle.plain_board.specs.declared.plain.Plain.{Plain}
use Rattle.plain_board.specs.Answer.{answer, answered, changed_rails, enable_delay, fault, no_write, plan, planned, settled, with_changed}
use Rattle.plain_board.specs.Counts.{load_sum}
use Rattle.plain_board.specs.Handles.{rows_on, with_row}
use Rattle.plain_board.specs.History.{is_fault, IsWithinPlan}
use Rattle.plain_board.specs.Inv.{Inv}
use Rattle.plain_board.specs.Moved.{after_first, uv_at}
use Rattle.plain_board.specs.Plan.{chain, changed, moves_of_call, one_more, switch}
use Rattle.plain_board.specs.Refusals.{Reason, most_enables, overloads, refusal}
use Rattle.plain_board.specs.Seen.{book}
use Rattle.plain_board.specs.Switched.{off_rails}
use Rattle.plain_board.specs.Untied.{CountsNoLoads, HoldFields, IsUntied}
use Rattle.plain_board.proofs.HandleCallLaws.{handle_calls_keep_fields_lem, handle_calls_keep_inv_lem}
use Rattle.plain_board.proofs.HandleMoves.{enable_plan}
use Rattle.plain_board.proofs.Switches.{AreSwitchedOnly, nothing_switched, uv_kept}
use Rattle.rail_ops.specs.Exact.{IsExact, IsLeft, cut_off}
use Rattle.rail_ops.specs.Sight.{Hands, Knows, MayBe, placed, Shows, ShowsSame}
use Rattle.rail_ops.specs.Taking.{Tells, updates_of}
use Rattle.rail_ops.specs.Inside.Enabling.{enable_refusal}
use Rattle.rail_ops.specs.Inside.Raised.{ChangesBook, raised}
use Rattle.rail_ops.specs.Inside.Rising.{CameUp, IsSeen, WentUp, rises}
use Rattle.rail_ops.proofs.CameUp.{came_same, only_after}
use Rattle.rail_ops.proofs.Exactly.{shows_same, tells_nothing}
use Rattle.rail_ops.proofs.Found.{Found, element, found, found_enables, not_found}
use Rattle.rail_ops.proofs.OneRow.{at, count_kept, rail_kept, row_changed, row_place, row_there, rows_kept}
use Rattle.rail_ops.proofs.Raised.{after_first-raised, raised_nil}
use Rattle.rail_ops.proofs.Reading.{first_reason, for_found, for_missing}

-- the first of the reasons against an enable, where loads choose no mode
reason_by : (suspended full counts overloaded : Bool) (sum : ℕ) → counts ≡ false
    → first_reason ((suspended, Suspended) ∷ (full, CountFull most_enables) ∷ (counts && overloaded, NoMode sum) ∷ []) ≡ cond suspended (Some Suspended) (cond full (Some (CountFull most_enables)) None)
reason_by true full counts overloaded sum none = refl
reason_by false true counts overloaded sum none = refl
reason_by false false true overloaded sum none = absurd (cc)
reason_by false false false overloaded sum none = refl

-- the rails whose value changed, where none did
pub none_changed : (before now : List (List ℕ)) (from : ℕ) (rails : List Rail) → ((k : ℕ) (rail : Rail) → slice_get rails k ≡ Some rail → uv rail now ≡ uv rail before)
    → filter (λ (rail : ℕ × Rail). not (uv rail.1 before == uv rail.1 now)) (enumerate_from from rails) ≡ []
none_changed before now from [] same = refl
none_changed before now from (rail ∷ rest) same =
    let here : (uv rail before == uv rail now) ≡ true = eq-eqb _ _ (sym (same 0 rail refl)) in
    rw here (none_changed before now (from + 1) rest (λ k other there. same (suc k) other there))

module _ (first : Hands) (names : List (List ℕ × ℕ)) (worker : ℕ) (handle : ArrayString) (valid : IsValid first.board) (untied : IsUntied first.board) (no_loads : CountsNoLoads first.board)
    (plain : Plain) (may_be : MayBe (placed first names worker) plain) where
  abbrev call : Call
  call = Enable handle

  -- the reasons against it
  abbrev enable_reasons : RailId → Rail → HandleRow → List Reason
  enable_reasons id rail row =
      (plain.suspended, Suspended)
      ∷ (row.enables == most_enables, CountFull most_enables)
      ∷ overloads rail (load_sum rail (rows_on (changed plain worker handle.bytes one_more) id.0)) ∷ []

  -- the name isn't open
  pub unnamed_refused : rail_named names handle.bytes ≡ None → refusal first.board plain worker call ≡ Some NoHandle
  unnamed_refused none =
      ap first_reason (for_missing first.board plain worker handle.bytes ((true, NoHandle) ∷ []) enable_reasons (not_found (placed first names worker) plain may_be handle.bytes none))

  module _ (r : ℕ) (named : rail_named names handle.bytes ≡ Some r) where
    abbrev pub it : Found first.board plain worker handle.bytes r
    it = found (placed first names worker) plain may_be handle.bytes r named

    there : slice_get first.board.rails it.entry.0.0 ≡ Some it.rail
    there = ap (slice_get first.board.rails) it.on ∙ it.there

    refusal_is : refusal first.board plain worker call ≡ enable_refusal plain.suspended it.entry.1.enables
    refusal_is =
        ap first_reason (for_found first.board plain worker handle.bytes it.entry it.rail it.opened there ((true, NoHandle) ∷ []) enable_reasons)
        ∙ reason_by plain.suspended (it.entry.1.enables == most_enables) (counts_loads it.rail)
        (is_none (mode_of_load it.rail.desc.greatest it.rail.limits.allowed (load_sum it.rail (rows_on (changed plain worker handle.bytes one_more) it.entry.0.0))))
        (load_sum it.rail (rows_on (changed plain worker handle.bytes one_more) it.entry.0.0)) (no_loads it.entry.0.0 it.rail there)

    -- the handle's row among those that are seen
    module _ (held : Contains first.rails r) where
      seen : first.books r ≡ book first.board plain r
      seen = may_be.shows.books r held

      rows_seen : (first.books r).rows ≡ rows_on plain.handles it.entry.0.0
      rows_seen = ap (λ (b : Book). b.rows) seen ∙ ap (rows_on plain.handles) (sym it.on)

      pub seen_place : position (is_row_of worker handle.bytes) (first.books r).rows ≡ Some (at worker handle.bytes plain.handles it.entry may_be.inv.kept.apart it.opened)
      seen_place = ap (position (is_row_of worker handle.bytes)) rows_seen ∙ row_place worker handle.bytes plain.handles it.entry may_be.inv.kept.apart it.opened

      module _ (place : ℕ) (is_place : position (is_row_of worker handle.bytes) (first.books r).rows ≡ Some place) where
        same_place : at worker handle.bytes plain.handles it.entry may_be.inv.kept.apart it.opened ≡ place
        same_place = same_Some _ _ (sym seen_place ∙ is_place)

        pub seen_row : slice_get (first.books r).rows place ≡ Some it.entry.1
        seen_row =
            ap (λ (k : ℕ). slice_get (first.books r).rows k) (sym same_place) ∙ ap (λ (rows : List HandleRow). slice_get rows (at worker handle.bytes plain.handles it.entry may_be.inv.kept.apart it.opened)) rows_seen
            ∙ row_there worker handle.bytes plain.handles it.entry may_be.inv.kept.apart it.opened

        -- the refusal is that which is seen
        pub seen_refusal : refusal first.board plain worker call ≡ enable_refusal (first.books r).suspended it.entry.1.enables
        seen_refusal = refusal_is ∙ ap (λ t. enable_refusal t it.entry.1.enables) (sym (ap (λ (b : Book). b.suspended) seen))

        pub row_enables : it.entry.1.enables ≤ most_enables
        row_enables = found_enables (placed first names worker) plain may_be handle.bytes r named

    -- the call isn't refused: the rails of the chain that are off come up
    module _ (free : refusal first.board plain worker call ≡ None) where
      abbrev pub moves : List Move
      moves = rises first.board plain.regs (chain first.board r)

      pub plan_is : plan first.board plain worker call ≡ moves
      plan_is = enable_plan first.board plain worker handle it.entry no_loads it.opened free ∙ ap (λ (i : ℕ). rises first.board plain.regs (chain first.board i)) it.on

      calls_are : moves_of_call first.board plain worker call ≡ moves
      calls_are = sym (ap (planned first.board plain worker call) free) ∙ plan_is

      stays : (rails : List ℕ) (i : ℕ) → uv_at first.board (after_moves first.board plain.regs (map (switch 1) rails)) i ≡ uv_at first.board plain.regs i
      stays rails i = by (slice_get first.board.rails i) refl where
        by : (o : Option Rail) → slice_get first.board.rails i ≡ o → option_map_or (λ (rail : Rail). uv rail (after_moves first.board plain.regs (map (switch 1) rails))) o 0 ≡ option_map_or (λ (rail : Rail). uv rail plain.regs) o 0
        by None none = refl
        by (Some rail) is =
            uv_kept first.board plain.regs (after_moves first.board plain.regs (map (switch 1) rails))
            (only_after first.board valid.sound plain.regs may_be.inv.kept.regs may_be.hold rails plain.regs
            (nothing_switched first.board valid.sound plain.regs may_be.inv.kept.regs may_be.hold)) i rail is

      abbrev off : List ℕ
      off = off_rails first.board plain.regs (reverse (chain first.board r))

      -- the plain board after the first so many
      so_far : (made : ℕ) → after_first first.board plain made moves ≡ raised first.board plain (take made moves)
      so_far made = after_first-raised first.board plain off made (stays off)

      -- and where no more was tried
      cut_is : (made : ℕ) → made ≤ length moves → cut_off first.board plain worker call made ≡ raised first.board plain (take made moves)
      cut_is made within =
          ap (λ (ms : List Move). after_first first.board plain made (take made ms)) plan_is
          ∙ ap (after_first first.board plain made) (take-map (switch 1) made off)
          ∙ after_first-raised first.board plain (take made off) made (stays (take made off))
          ∙ ap (λ (ms : List Move). raised first.board plain (take made ms)) (sym (take-map (switch 1) made off))
          ∙ ap (raised first.board plain) (take_all made (take made moves) (omega (arith, length-take-le made moves within)))

      answer_is : (stop : Option ℕ) → answer first.board plain worker call stop ≡ settled first.board plain worker call moves stop
      answer_is stop = ap (answered first.board plain worker call stop) free ∙ ap (λ ms. settled first.board plain worker call ms stop) calls_are

      abbrev risen : Plain
      risen = raised first.board plain moves

      done_is : answer first.board plain worker call None ≡ (OkTime (enable_delay first.board plain.regs risen.regs), with_changed risen worker handle one_more)
      done_is =
          answer_is None
          ∙ ap (λ (now : Plain). (OkTime (enable_delay first.board plain.regs now.regs), with_changed now worker handle one_more))
          (so_far (length moves) ∙ ap (raised first.board plain) (take_all (length moves) moves (omega arith)))

      -- the memory was out on the way
      pub left : (mid : Hands) (bus bus' : Bus) (made : ℕ) → WentUp first mid bus bus' made false plain moves → IsLeft call (placed first names worker) (placed mid names worker) bus bus' plain
      left mid bus bus' made went = record {
        made = made;
        within = subst (λ (ms : List Move). made ≤ length ms) (sym plan_is) went.within;
        shows = subst (Shows mid) (sym (cut_is made went.within)) went.shows;
        names = refl;
        tells = subst (λ (ms : List Move). Tells (updates_of first.board (take made ms)) false bus bus') (sym plan_is) went.tells;
      }

      -- the bus refused a rail: nothing is counted
      module _ (mid : Hands) (same : mid.board ≡ first.board) (bus bus' : Bus) (made delay i : ℕ) (refused : Rail) (at_i : slice_get first.board.rails i ≡ Some refused)
          (came : CameUp first mid bus bus' made delay (Some i) plain moves) where
        abbrev said : Answer
        said = Fault refused.desc.enable.chip refused.desc.enable.reg made []

        within : made < length moves
        within = slice_get_within moves made (switch 1 i) (came.next i refl)

        abbrev reached : Plain
        reached = raised first.board plain (take made moves)

        write_is : unwrap_or (slice_get (writes_of first.board moves) made) no_write ≡ update_of_field (Some refused.desc.enable) 1
        write_is =
            ap (λ o. unwrap_or o no_write) (slice_get-map _ moves made ∙ ap (option_map _) (came.next i refl))
            ∙ ap (λ o. update_of_field (option_and_then (part_field EnableBit) o) 1) at_i

        none_moved : changed_rails first.board plain.regs reached.regs ≡ []
        none_moved =
            ap (map _) (none_changed plain.regs reached.regs 0 first.board.rails (λ k rail is.
            uv_kept first.board plain.regs reached.regs
            (subst (λ (ms : List Move). AreSwitchedOnly first.board plain.regs (after_moves first.board plain.regs ms)) (sym (take-map (switch 1) made (off_rails first.board plain.regs (reverse (chain first.board r)))))
            (only_after first.board valid.sound plain.regs may_be.inv.kept.regs may_be.hold (take made (off_rails first.board plain.regs (reverse (chain first.board r)))) plain.regs
            (nothing_switched first.board valid.sound plain.regs may_be.inv.kept.regs may_be.hold))) k rail is))

        stopped_is : answer first.board plain worker call (Some made) ≡ (said, reached)
        stopped_is =
            answer_is (Some made)
            ∙ ap (λ (now : Plain). (fault first.board plain now (unwrap_or (slice_get (writes_of first.board moves) made) no_write) made, now)) (so_far made)
            ∙ ap (λ (write : Write). (Fault write.chip write.reg made (changed_rails first.board plain.regs reached.regs), reached)) write_is
            ∙ ap (λ (rails : _). (Fault refused.desc.enable.chip refused.desc.enable.reg made rails, reached)) none_moved

        in_plan : IsWithinPlan (Some made) (plan first.board plain worker call)
        in_plan = subst (λ (ms : List Move). made < length ms) (sym plan_is) within

        pub refused_exact : (keep : Bool) (writes : List Write) → writes ≡ (if keep then writes_of first.board (take made moves) else [])
            → IsExact call (placed first names worker) (placed mid names worker) bus bus' keep said writes plain
        refused_exact keep writes kept = record {
          answered = ap (λ (p : Answer × Plain). p.0) stopped_is;
          leaves = subst (MayBe (placed mid names worker)) (sym (ap (λ (p : Answer × Plain). p.1) stopped_is)) (record {
            inv = subst (λ (b : Board). Inv b reached) (sym same)
                (subst (Inv first.board) (ap (λ (p : Answer × Plain). p.1) stopped_is) (handle_calls_keep_inv_lem first.board plain worker call (Some made) valid untied no_loads may_be.hold may_be.inv tt tt in_plan));
            hold = subst (λ (b : Board). HoldFields b reached.regs) (sym same)
                (subst (λ (p : Plain). HoldFields first.board p.regs) (ap (λ (p : Answer × Plain). p.1) stopped_is) (handle_calls_keep_fields_lem first.board plain worker call (Some made) valid untied no_loads may_be.hold may_be.inv tt in_plan));
            shows = came.went.shows;
            knows = record { rails = may_be.knows.rails; count = may_be.knows.count };
          });
          took = record {
            within = in_plan;
            tells = subst (λ (ms : List Move). Tells (updates_of first.board (take made ms)) true bus bus') (sym plan_is) came.went.tells;
          };
          kept = kept ∙ ap (λ (ms : List Move). if keep then writes_of first.board (take made ms) else []) (sym plan_is);
        }

      -- all came up: the enable is counted
      module _ (held : Contains first.rails r) (place : ℕ) (is_place : position (is_row_of worker handle.bytes) (first.books r).rows ≡ Some place) (mid after : Hands) (bus bus' : Bus) (made delay : ℕ)
          (same : mid.board ≡ first.board) (rails_same : mid.rails ≡ first.rails) (came : CameUp first mid bus bus' made delay None plain moves)
          (counts : ChangesBook r (record (mid.books r) { rows = slice_set (mid.books r).rows place (one_more it.entry.1) }) mid after) where
        taken : take made moves ≡ moves
        taken = take_all made moves (let all = came.all refl in omega (arith, all))

        mid_shows : Shows mid risen
        mid_shows = subst (λ ms. Shows mid (raised first.board plain ms)) taken came.went.shows

        abbrev counted : Plain
        counted = with_changed risen worker handle one_more

        spot : at worker handle.bytes plain.handles it.entry may_be.inv.kept.apart it.opened ≡ place
        spot = same_Some _ _ (sym (seen_place held) ∙ is_place)

        seen_book : (i : ℕ) → Contains mid.rails i → after.books i ≡ book first.board counted i
        seen_book i has = elim (cases_eq r i) [
          | inl here ↦
              ap after.books (sym here) ∙ counts.own
              ∙ ap (λ (b : Book). record b { rows = slice_set b.rows place (one_more it.entry.1) }) (mid_shows.books r (subst (Contains mid.rails) (sym here) has) ∙ ap (λ (b : Board). book b risen r) same)
              ∙ ap (λ (rows : List HandleRow). record (book first.board risen r) { rows = rows })
              (ap (λ (k : ℕ). slice_set (rows_on plain.handles k) place (one_more it.entry.1)) (sym it.on)
              ∙ ap (λ (k : ℕ). slice_set (rows_on plain.handles it.entry.0.0) k (one_more it.entry.1)) (sym spot)
              ∙ sym (row_changed worker handle.bytes plain.handles it.entry may_be.inv.kept.apart it.opened one_more)
              ∙ ap (rows_on (with_row plain.handles worker handle.bytes one_more)) it.on)
              ∙ ap (book first.board counted) here
          | inr away ↦
              counts.others i away ∙ mid_shows.books i has ∙ ap (λ (b : Board). book b risen i) same
              ∙ ap (λ (rows : List HandleRow). record (book first.board risen i) { rows = rows })
              (sym (rows_kept worker handle.bytes plain.handles it.entry may_be.inv.kept.apart it.opened one_more i (λ on. away (sym it.on ∙ on))))
        ]

        seen_all : Shows after counted
        seen_all = record {
          fields = λ j part field guarded is.
              mid_shows.fields j part field
              (subst (λ (b : Board). IsGuarded b mid.rails j) counts.board (subst (λ (rs : List ℕ). IsGuarded after.board rs j) counts.rails guarded))
              (ap (λ (b : Board). field_at b j part) (sym counts.board) ∙ is)
              ∙ sym (counts.bits j part);
          books = λ i has. seen_book i (subst (λ (rs : List ℕ). Contains rs i) counts.rails has) ∙ ap (λ (b : Board). book b counted i) (sym (counts.board ∙ same));
        }

        knows_all : Knows names worker counted
        knows_all = record {
          rails = λ text. may_be.knows.rails text ∙ sym (rail_kept worker handle.bytes one_more (λ row. refl) (λ row. refl) worker text plain.handles);
          count = may_be.knows.count ∙ sym (count_kept worker handle.bytes one_more (λ row. refl) (λ row. refl) worker plain.handles);
        }

        pub done_exact : (keep : Bool) (writes : List Write) → writes ≡ (if keep then writes_of first.board (take made moves) else [])
            → IsExact call (placed first names worker) (placed after names worker) bus bus' keep (OkTime delay) writes plain
        done_exact keep writes kept = record {
          answered = ap (λ (p : Answer × Plain). p.0) done_is ∙ ap (λ (n : ℕ). OkTime n) (sym (came.takes ∙ ap (λ (ms : List Move). enable_delay first.board plain.regs (after_moves first.board plain.regs ms)) taken));
          leaves = subst (MayBe (placed after names worker)) (sym (ap (λ (p : Answer × Plain). p.1) done_is)) (record {
            inv = subst (λ (b : Board). Inv b counted) (sym (counts.board ∙ same))
                (subst (Inv first.board) (ap (λ (p : Answer × Plain). p.1) done_is) (handle_calls_keep_inv_lem first.board plain worker call None valid untied no_loads may_be.hold may_be.inv tt tt tt));
            hold = subst (λ (b : Board). HoldFields b counted.regs) (sym (counts.board ∙ same))
                (subst (λ (p : Plain). HoldFields first.board p.regs) (ap (λ (p : Answer × Plain). p.1) done_is) (handle_calls_keep_fields_lem first.board plain worker call None valid untied no_loads may_be.hold may_be.inv tt tt));
            shows = seen_all;
            knows = knows_all;
          });
          took = record {
            within = tt;
            tells = subst (λ (ms : List Move). Tells (updates_of first.board ms) false bus bus') (taken ∙ sym plan_is) came.went.tells;
          };
          kept = kept ∙ ap (λ (ms : List Move). if keep then writes_of first.board ms else []) (taken ∙ sym plan_is);
        }

-- a refusal of an enable is no fault
pub refusal_calm : (suspended : Bool) (enables : ℕ) (said : Answer) → enable_refusal suspended enables ≡ Some said → is_fault said ≡ false
refusal_calm true enables said is = subst (λ (a : Answer). is_fault a ≡ false) (same_Some Suspended said is) refl
refusal_calm false enables said is = by (enables == most_enables) is where
  by : (t : Bool) → cond t (Some (CountFull most_enables)) None ≡ Some said → is_fault said ≡ false
  by true full = subst (λ (a : Answer). is_fault a ≡ false) (same_Some (CountFull most_enables) said full) refl
  by false none = absurd (cc)

-- what is said of rails that came up from one sight holds from another that shows the same board
module _ (first mid after : Hands) (same : mid.board ≡ first.board) (bus bus' : Bus) (made : ℕ) (plain : Plain) (rails : List ℕ) where
  pub went_from : (stopped : Bool) → WentUp mid after bus bus' made stopped plain (rises mid.board plain.regs rails) → WentUp first after bus bus' made stopped plain (rises first.board plain.regs rails)
  went_from stopped went = record {
    within = subst (λ (b : Board). made ≤ length (rises b plain.regs rails)) same went.within;
    shows = subst (λ (b : Board). Shows after (raised b plain (take made (rises b plain.regs rails)))) same went.shows;
    tells = subst (λ (b : Board). Tells (updates_of b (take made (rises b plain.regs rails))) stopped bus bus') same went.tells;
  }

  pub came_from : (delay : ℕ) (refused : Option ℕ) → CameUp mid after bus bus' made delay refused plain (rises mid.board plain.regs rails) → CameUp first after bus bus' made delay refused plain (rises first.board plain.regs rails)
  came_from delay refused came = record {
    went = went_from (is_some refused) came.went;
    all = λ none. came.all none ∙ ap (λ (b : Board). length (rises b plain.regs rails)) same;
    next = λ i is. ap (λ (b : Board). slice_get (rises b plain.regs rails) made) (sym same) ∙ came.next i is;
    takes = came.takes ∙ ap (λ (b : Board). enable_delay b plain.regs (after_moves b plain.regs (take made (rises b plain.regs rails)))) same;
  }

-- nothing was done yet
pub went_none : (first mid : Hands) (bus : Bus) (plain : Plain) (moves : List Move) → ShowsSame first mid → Shows first plain → WentUp first mid bus bus 0 false plain moves
went_none first mid bus plain moves same shows = record {
  within = omega arith;
  shows = subst (Shows mid) (sym (raised_nil first.board plain)) (shows_same first mid plain same shows);
  tells = tells_nothing bus;
}

-- a sound plain board is seen from where the same is shown
pub seen_from : (first mid : Hands) (names : List (List ℕ × ℕ)) (worker : ℕ) (plain : Plain) → ShowsSame first mid → MayBe (placed first names worker) plain → IsSeen mid plain
seen_from first mid names worker plain same may_be = record {
  inv = subst (λ (b : Board). Inv b plain) (sym same.board) may_be.inv;
  hold = subst (λ (b : Board). HoldFields b plain.regs) (sym same.board) may_be.hold;
  shows = shows_same first mid plain same may_be.shows;
}

-- the rows of a rail are the same while rails come up
pub rows_same : (first after : Hands) (plain : Plain) (moves : List Move) (r : ℕ) → Shows first plain → Shows after (raised first.board plain moves) → Contains first.rails r → Contains after.rails r → (after.books r).rows ≡ (first.books r).rows
rows_same first after plain moves r before now has still = ap (λ (b : Book). b.rows) (now.books r still) ∙ sym (ap (λ (b : Book). b.rows) (before.books r has))

-- what is kept of the writes: those of the moves that were made
pub writes_taken : (board : Board) (keep : Bool) (moves : List Move) (made : ℕ) → take made (if keep then writes_of board moves else []) ≡ (if keep then writes_of board (take made moves) else [])
writes_taken board true moves made = take-map _ made moves
writes_taken board false ms zero = refl
writes_taken board false ms (suc made) = refl

module _ (first : Hands) (names : List (List ℕ × ℕ)) (worker : ℕ) (handle : ArrayString) (valid : IsValid first.board) (untied : IsUntied first.board) (no_loads : CountsNoLoads first.board)
    (plain : Plain) (may_be : MayBe (placed first names worker) plain) (r : ℕ) (named : rail_named names handle.bytes ≡ Some r) (free : refusal first.board plain worker (Enable handle) ≡ None)
    (held : Contains first.rails r) (place : ℕ) (is_place : position (is_row_of worker handle.bytes) (first.books r).rows ≡ Some place)
    (after last : Hands) (same : after.board ≡ first.board) (rails_same : after.rails ≡ first.rails) (bus bus' : Bus) (made delay : ℕ) (said : Answer) (keep : Bool) (writes : List Write)
    (kept : writes ≡ (if keep then writes_of first.board (take made (rises first.board plain.regs (chain first.board r))) else [])) where
  -- the call is exact, whether the bus refused a rail or all came up and the enable was counted
  pub settled_exact : (o : Option RailId) → CameUp first after bus bus' made delay (option_map (λ (id : RailId). id.0) o) plain (rises first.board plain.regs (chain first.board r))
      → (o ≡ None → (row : HandleRow) → slice_get (after.books r).rows place ≡ Some row → ChangesBook r (record (after.books r) { rows = slice_set (after.books r).rows place (one_more row) }) after last)
      → (o ≡ None → said ≡ OkTime delay)
      → ((id : RailId) → o ≡ Some id → ShowsSame after last)
      → ((id : RailId) (rail : Rail) → o ≡ Some id → slice_get first.board.rails id.0 ≡ Some rail → said ≡ Fault rail.desc.enable.chip rail.desc.enable.reg made [])
      → IfSome o (λ id. id.0 < length first.board.rails)
      → IsExact (Enable handle) (placed first names worker) (placed last names worker) bus bus' keep said writes plain
  settled_exact None came counts answers stays faults there =
      let rows = rows_same first after plain _ r may_be.shows came.went.shows held (subst (λ (rs : List ℕ). Contains rs r) (sym rails_same) held) in
      let row = seen_row first names worker handle valid untied no_loads plain may_be r named held place is_place in
      subst (λ (a : Answer). IsExact (Enable handle) (placed first names worker) (placed last names worker) bus bus' keep a writes plain) (sym (answers refl))
      (done_exact first names worker handle valid untied no_loads plain may_be r named free held place is_place after last bus bus' made delay same rails_same came
      (counts refl (it first names worker handle valid untied no_loads plain may_be r named).entry.1 (ap (λ (rs : List HandleRow). slice_get rs place) rows ∙ row)) keep writes kept)
  settled_exact (Some id) came counts answers stays faults there =
      let rail = element first.board.rails id.0 there in
      subst (λ (a : Answer). IsExact (Enable handle) (placed first names worker) (placed last names worker) bus bus' keep a writes plain) (sym (faults id rail.0 refl rail.1))
      (let stay = stays id refl in
      refused_exact first names worker handle valid untied no_loads plain may_be r named free last (stay.board ∙ same) bus bus' made delay id.0 rail.0 rail.1
      (came_same first after last bus bus' made delay (Some id.0) plain (rises first.board plain.regs (chain first.board r)) stay came) keep writes kept)
