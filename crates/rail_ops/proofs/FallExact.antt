-- A call whose rails go down, once the plain board without what it ends is seen: it is exact, or left on the way.
use Rattle.std.proofs.Common.{◌≡◌, ℕ, ◌<◌, ◌≤◌, Bool, true, false, List, [], Option, Some, None, refl, sym, ap, ◌∙◌, subst, arith, map, take, length, slice_get}
use Rattle.std.specs.Prelude.{is_some, option_map, option_and_then, unwrap_or, if◌then◌else◌}
use Rattle.std.proofs.lemmas.List.{length-take-le, take-map, take_all}
use Rattle.std.proofs.lemmas.Option.{slice_get-map, slice_get_past, slice_get_within}
use Rattle.reg_outside.specs.Bus.{Bus}
use Rattle.board.specs.declared.board.Board.{Board}
use Rattle.board.specs.declared.part.Part.TheVariants.{Enable as EnableBit}
use Rattle.board.specs.declared.rail.Rail.{Rail}
use Rattle.board.specs.declared.write.Write.{Write}
use Rattle.board.specs.Rail.{part_field}
use Rattle.board.specs.Valid.{IsValid}
use Rattle.rail_law.specs.Moves.{Move, update_of_field, writes_of}
use Rattle.rows.specs.declared.answer.Answer.{Answer}
use Rattle.rows.specs.declared.answer.Answer.TheVariants.{Fault, Ok}
use Rattle.rows.specs.declared.call.Call.{Call}
use Rattle.rows.specs.Row.{NamesRail}
use Rattle.plain_board.specs.declared.plain.Plain.{Plain}
use Rattle.plain_board.specs.Answer.{answer, answered, changed_rails, done, fault, no_write, plan, planned, says, settled, stopped}
use Rattle.plain_board.specs.History.{IsWithinPlan}
use Rattle.plain_board.specs.Inv.{Inv}
use Rattle.plain_board.specs.Moved.{after_first}
use Rattle.plain_board.specs.Plan.{moves_of_call, switch}
use Rattle.plain_board.specs.Refusals.{refusal}
use Rattle.plain_board.specs.Untied.{CountsNoLoads, HoldFields, IsHandleCall, IsUntied}
use Rattle.plain_board.proofs.HandleCallLaws.{handle_calls_keep_fields_lem, handle_calls_keep_inv_lem}
use Rattle.rail_ops.specs.Exact.{IsExact, IsLeft}
use Rattle.rail_ops.specs.Sight.{Hands, Knows, MayBe, Shows, placed}
use Rattle.rail_ops.specs.Taking.{Tells, updates_of}
use Rattle.rail_ops.specs.Inside.Falling.{Fell, WentDown, with_abort}
use Rattle.rail_ops.specs.Inside.Raised.{raised}
use Rattle.rail_ops.proofs.Lowered.{after_first-down, after_first-refused, stands_down}
use Rattle.rail_ops.proofs.OneMore.{none_changed}

module _ (first : Hands) (names : List (List ℕ × ℕ)) (worker : ℕ) (call : Call) (valid : IsValid first.board) (untied : IsUntied first.board) (no_loads : CountsNoLoads first.board)
    (plain : Plain) (may_be : MayBe (placed first names worker) plain) (ends : Plain → Plain) (moves_at : Board → List Move) (rails : List ℕ)
    (names_rail : NamesRail first.board call) (handled : IsHandleCall call) (free : refusal first.board plain worker call ≡ None) (plan_is : plan first.board plain worker call ≡ moves_at first.board)
    (switches : moves_at first.board ≡ map (switch 0) rails)
    (stopped_ends : (now : Plain) → stopped first.board now worker call ≡ ends now) (done_ends : (now : Plain) → done first.board now worker call ≡ ends now)
    (says_ok : (now : Plain) → says first.board plain now worker call ≡ Ok)
    (commutes : (ms : List Move) (o : Option ℕ) → ends (with_abort (raised first.board plain ms) o) ≡ with_abort (raised first.board (ends plain) ms) o)
    (knows : (ms : List Move) (o : Option ℕ) → Knows names worker (ends (with_abort (raised first.board plain ms) o))) where
  abbrev moves : List Move
  moves = moves_at first.board

  calls_are : moves_of_call first.board plain worker call ≡ moves
  calls_are = sym (ap (planned first.board plain worker call) free) ∙ plan_is

  answer_is : (stop : Option ℕ) → answer first.board plain worker call stop ≡ settled first.board plain worker call moves stop
  answer_is stop = ap (answered first.board plain worker call stop) free ∙ ap (λ ms. settled first.board plain worker call ms stop) calls_are

  first_switches : (made : ℕ) → take made moves ≡ map (switch 0) (take made rails)
  first_switches made = ap (take made) switches ∙ take-map (switch 0) made rails

  module _ (mid after : Hands) (mid_board : mid.board ≡ first.board) (same : after.board ≡ first.board) (bus bus' : Bus) where
    -- the memory was out on the way
    pub left_down : (made : ℕ) → WentDown mid after bus bus' made None (ends plain) (moves_at mid.board) → IsLeft call (placed first names worker) (placed after names worker) bus bus' plain
    left_down made down = record {
      made = made;
      within = subst (λ (ms : List Move). made ≤ length ms) (sym plan_is) went.within;
      shows = subst (λ (ms : List Move). Shows after (stopped first.board (after_first first.board plain made (take made ms)) worker call)) (sym plan_is)
          (subst (Shows after) (sym (stopped_ends (after_first first.board plain made (take made moves)) ∙ ap ends so_far ∙ commutes (take made moves) None)) went.shows);
      names = refl;
      tells = subst (λ (ms : List Move). Tells (updates_of first.board (take made ms)) false bus bus') (sym plan_is) went.tells;
    }
      where
        went : WentDown (record mid { board = first.board }) after bus bus' made None (ends plain) moves
        went = subst (λ (b : Board). WentDown (record mid { board = b }) after bus bus' made None (ends plain) (moves_at b)) mid_board down

        long : length (take made moves) ≡ made
        long = length-take-le made moves went.within

        so_far : after_first first.board plain made (take made moves) ≡ raised first.board plain (take made moves)
        so_far =
            after_first-down first.board valid.sound plain may_be.inv.kept.regs may_be.hold made (take made moves) (take made rails) (first_switches made) (slice_get_past (take made moves) made (omega (arith, long)))
            ∙ ap (raised first.board plain) (take_all made (take made moves) (omega (arith, long)))

    module _ (keep : Bool) (said : Answer) (writes : List Write) (down : Fell (record mid { board = first.board }) after bus bus' keep said writes (ends plain) moves) where
      abbrev made : ℕ
      made = down.made

      leaves_by : (stop : Option ℕ) (now : Plain) → answer first.board plain worker call stop ≡ (said, ends now) → IsWithinPlan stop (plan first.board plain worker call)
          → Knows names worker (ends now) → Shows after (ends now) → MayBe (placed after names worker) (answer first.board plain worker call stop).1
      leaves_by stop now is within known shows = subst (MayBe (placed after names worker)) (sym (ap (λ (p : Answer × Plain). p.1) is)) (record {
        inv = subst (λ (b : Board). Inv b (ends now)) (sym same)
            (subst (Inv first.board) (ap (λ (p : Answer × Plain). p.1) is) (handle_calls_keep_inv_lem first.board plain worker call stop valid untied no_loads may_be.hold may_be.inv names_rail handled within));
        hold = subst (λ (b : Board). HoldFields b (ends now).regs) (sym same)
            (subst (λ (p : Plain). HoldFields first.board p.regs) (ap (λ (p : Answer × Plain). p.1) is) (handle_calls_keep_fields_lem first.board plain worker call stop valid untied no_loads may_be.hold may_be.inv handled within));
        shows = shows;
        knows = known;
      })

      -- all went down
      module _ (none : down.refused ≡ None) where
        taken : take made moves ≡ moves
        taken = take_all made moves (let all = down.came.all none in omega (arith, all))

        abbrev at_last : Plain
        at_last = raised first.board plain moves

        done_is : answer first.board plain worker call None ≡ (said, ends at_last)
        done_is =
            answer_is None
            ∙ ap (λ (now : Plain). (says first.board plain now worker call, done first.board now worker call))
            (after_first-down first.board valid.sound plain may_be.inv.kept.regs may_be.hold (length moves) moves rails switches (slice_get_past moves (length moves) (omega arith))
            ∙ ap (raised first.board plain) (take_all (length moves) moves (omega arith)))
            ∙ ap (λ (a : Answer). (a, done first.board at_last worker call)) (says_ok at_last ∙ sym (down.done none))
            ∙ ap (λ (p : Plain). (said, p)) (done_ends at_last)

        done_shows : Shows after (ends at_last)
        done_shows =
            subst (Shows after) (sym (commutes moves None))
            (subst (λ (ms : List Move). Shows after (raised first.board (ends plain) ms)) taken
            (subst (λ (o : Option ℕ). Shows after (with_abort (raised first.board (ends plain) (take made moves)) o)) none down.came.went.shows))

        pub done_exact : IsExact call (placed first names worker) (placed after names worker) bus bus' keep said writes plain
        done_exact = subst (λ (a : Answer). (answer first.board plain worker call None ≡ (a, ends at_last))
            → MayBe (placed after names worker) (answer first.board plain worker call None).1 → IsExact call (placed first names worker) (placed after names worker) bus bus' keep a writes plain) (sym (down.done none))
            (λ is leaves. record {
              answered = ap (λ (p : Answer × Plain). p.0) is;
              leaves = leaves;
              took = record {
                within = tt;
                tells = subst (λ (ms : List Move). Tells (updates_of first.board ms) false bus bus') (taken ∙ sym plan_is)
                    (subst (λ (o : Option ℕ). Tells (updates_of first.board (take made moves)) (is_some o) bus bus') none down.came.went.tells);
              };
              kept = down.kept ∙ ap (λ (ms : List Move). if keep then writes_of first.board ms else []) (taken ∙ sym plan_is);
            })
            done_is (leaves_by None at_last done_is tt (knows moves None) done_shows)

      -- the bus refused a rail
      module _ (i : ℕ) (some : down.refused ≡ Some i) where
        abbrev rail : Rail
        rail = (down.fault i some).0

        at_i : slice_get first.board.rails i ≡ Some rail
        at_i = (down.fault i some).1

        says_so : said ≡ Fault rail.desc.enable.chip rail.desc.enable.reg made []
        says_so = (down.fault i some).2

        next : slice_get moves made ≡ Some (switch 0 i)
        next = down.came.next i some

        abbrev reached : Plain
        reached = with_abort (raised first.board plain (take made moves)) (Some i)

        write_is : unwrap_or (slice_get (writes_of first.board moves) made) no_write ≡ update_of_field (Some rail.desc.enable) 0
        write_is =
            ap (λ o. unwrap_or o no_write) (slice_get-map _ moves made ∙ ap (option_map _) next)
            ∙ ap (λ o. update_of_field (option_and_then (part_field EnableBit) o) 0) at_i

        none_moved : changed_rails first.board plain.regs reached.regs ≡ []
        none_moved =
            ap (map _) (none_changed plain.regs reached.regs 0 first.board.rails
            (stands_down first.board valid.sound plain may_be.inv.kept.regs may_be.hold (take made moves) (take made rails) (first_switches made)))

        stopped_is : answer first.board plain worker call (Some made) ≡ (said, ends reached)
        stopped_is =
            answer_is (Some made)
            ∙ ap (λ (now : Plain). (fault first.board plain now (unwrap_or (slice_get (writes_of first.board moves) made) no_write) made, stopped first.board now worker call))
            (after_first-refused first.board valid.sound plain may_be.inv.kept.regs may_be.hold made moves rails switches i next)
            ∙ ap (λ (write : Write). (Fault write.chip write.reg made (changed_rails first.board plain.regs reached.regs), stopped first.board reached worker call)) write_is
            ∙ ap (λ (moved : _). (Fault rail.desc.enable.chip rail.desc.enable.reg made moved, stopped first.board reached worker call)) none_moved
            ∙ ap (λ (a : Answer). (a, stopped first.board reached worker call)) (sym says_so)
            ∙ ap (λ (p : Plain). (said, p)) (stopped_ends reached)

        in_plan : IsWithinPlan (Some made) (plan first.board plain worker call)
        in_plan = subst (λ (ms : List Move). made < length ms) (sym plan_is) (slice_get_within moves made (switch 0 i) next)

        refused_shows : Shows after (ends reached)
        refused_shows =
            subst (Shows after) (sym (commutes (take made moves) (Some i)))
            (subst (λ (o : Option ℕ). Shows after (with_abort (raised first.board (ends plain) (take made moves)) o)) some down.came.went.shows)

        pub refused_exact : IsExact call (placed first names worker) (placed after names worker) bus bus' keep said writes plain
        refused_exact = subst (λ (a : Answer). (answer first.board plain worker call (Some made) ≡ (a, ends reached))
            → MayBe (placed after names worker) (answer first.board plain worker call (Some made)).1 → IsExact call (placed first names worker) (placed after names worker) bus bus' keep a writes plain) (sym says_so)
            (λ is leaves. record {
              answered = ap (λ (p : Answer × Plain). p.0) is;
              leaves = leaves;
              took = record {
                within = in_plan;
                tells = subst (λ (ms : List Move). Tells (updates_of first.board (take made ms)) true bus bus') (sym plan_is)
                    (subst (λ (o : Option ℕ). Tells (updates_of first.board (take made moves)) (is_some o) bus bus') some down.came.went.tells);
              };
              kept = down.kept ∙ ap (λ (ms : List Move). if keep then writes_of first.board (take made ms) else []) (sym plan_is);
            })
            stopped_is (leaves_by (Some made) reached stopped_is in_plan (knows (take made moves) (Some i)) refused_shows)

      by : (o : Option ℕ) → down.refused ≡ o → IsExact call (placed first names worker) (placed after names worker) bus bus' keep said writes plain
      by None none = done_exact none
      by (Some i) some = refused_exact i some

    -- the call is exact, however far the rails went down
    pub down_exact : (keep : Bool) (said : Answer) (writes : List Write) → Fell mid after bus bus' keep said writes (ends plain) (moves_at mid.board)
        → IsExact call (placed first names worker) (placed after names worker) bus bus' keep said writes plain
    down_exact keep said writes fell =
        let down : Fell (record mid { board = first.board }) after bus bus' keep said writes (ends plain) moves =
        subst (λ (b : Board). Fell (record mid { board = b }) after bus bus' keep said writes (ends plain) (moves_at b)) mid_board fell in
        by keep said writes down down.refused refl
