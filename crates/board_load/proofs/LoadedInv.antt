-- What holds of the plain board after loading.
use Rattle.std.proofs.Common.{◌≡◌, ℕ, suc, ◌+◌, ◌<◌, Bool, true, false, cond, ◌&&◌, List, [], ◌∷◌, Option, Some, None, inl, inr, refl, sym, ap, ◌∙◌, subst, arith, map, length, slice_get, slice_index, All, Contains, eqb-true}
use Rattle.std.specs.Prelude.{count_by, IfSome, IsSome, is_some, unwrap_or, option_map, option_and_then, if◌then◌else◌}
use Rattle.std.proofs.lemmas.Bool.{cases_Bool, or_left, or_right, and_parts}
use Rattle.std.proofs.lemmas.List.{length-map}
use Rattle.std.proofs.lemmas.List.Elements.{All-nil}
use Rattle.std.proofs.lemmas.List.Sums.{sum_by-cons}
use Rattle.std.proofs.lemmas.Option.{slice_get-map}
use Rattle.load_modes.specs.declared.mode.Mode.{Mode}
use Rattle.load_modes.specs.Modes.{suffices, mode_of_load, IsLowest}
use Rattle.load_modes.proofs.Lowest.{mode_of_load-IsLowest}
use Rattle.board_graph.specs.Graph.{Supplies}
use Rattle.board_graph.proofs.Growth.{taken_from}
use Rattle.board.specs.declared.board.Board.{Board}
use Rattle.board.specs.declared.rail.Rail.{Rail}
use Rattle.board.specs.declared.rail_id.RailId.{RailId}
use Rattle.board.specs.Rail.{uv, is_on, mode, counts_loads, allowed, IsAllowed}
use Rattle.board.specs.Valid.{supply_of, IsValid}
use Rattle.board.proofs.BoardGraph.{sound_graph}
use Rattle.rail_law.specs.Law.{Law}
use Rattle.rail_law.specs.Moves.{after_moves}
use Rattle.plain_board.specs.declared.plain.Plain.{Plain}
use Rattle.plain_board.specs.Counts.{is_held, is_supply, votes, use_count}
use Rattle.plain_board.specs.Inv.{Inv, IsWellKept, IsSoundEntry}
use Rattle.plain_board.specs.Untied.{IsUntied, HoldFields}
use Rattle.plain_board.proofs.MovedAlone.{all_at}
use Rattle.board_load.specs.Loading.{board_at, plain_at, HasValueInside}
use Rattle.board_load.specs.Start.{is_asked_on, starts_on, start_mode}
use Rattle.board_load.specs.Writes.{loading_moves}
use Rattle.board_load.specs.Inside.Targets.{start_of}
use Rattle.board_load.proofs.LoadedBoard.{WasKept, was_kept, as_many}
use Rattle.board_load.proofs.LoadedRails.{are_after, stands_at, may_stand, on_after, mode_after}
use Rattle.board_load.proofs.StartsOn.{asked_starts, supply_starts}

-- where some are counted, there is one that counts
pub record CountsAt {X : Type 0} (test : X → Bool) (xs : List X) : Type 0 where
  pub place : ℕ
  pub one : X
  pub there : slice_get xs place ≡ Some one
  pub passes : test one ≡ true

abbrev weight : Bool → ℕ
weight t = cond t 1 0

counted_by : {X : Type 0} (test : X → Bool) (x : X) (xs : List X) (n : ℕ) (t : Bool) → test x ≡ t → (0 < n → CountsAt test xs) → 0 < cond t 1 0 + n → CountsAt test (x ∷ xs)
counted_by test x xs n true is later some = record { place = 0; one = x; there = refl; passes = is }
counted_by test x xs n false is later some =
    let rest = later (omega (arith, some)) in
    record { place = suc rest.place; one = rest.one; there = rest.there; passes = rest.passes }

counted : {X : Type 0} (test : X → Bool) (xs : List X) → 0 < count_by test xs → CountsAt test xs
counted test [] some = absurd (omega arith)
counted test (x ∷ xs) some = counted_by test x xs (count_by test xs) (test x) refl (counted test xs) (subst (λ n. 0 < n) (sum_by-cons (λ y. cond (test y) 1 0) x xs) some)

supplied : (i : ℕ) (supply : Option RailId) → is_supply i supply ≡ true → option_map (λ s. s.0) supply ≡ Some i
supplied i None is = absurd (cc)
supplied i (Some s) is = ap Some (eqb-true s.0 i is)

module _ (board : Board) (valid : IsValid board) (untied : IsUntied board) (inside : All HasValueInside board.rails) (regs : List (List ℕ)) (chips : length regs ≡ board.chips) (hold : HoldFields board regs) where
  abbrev values : List ℕ
  values = map (start_of regs) board.rails

  abbrev loaded : Board
  loaded = board_at board values

  abbrev plain : Plain
  plain = plain_at board regs values

  abbrev after : List (List ℕ)
  after = after_moves board regs (loading_moves board regs values)

  -- a rail of the loaded board
  module _ (i : ℕ) (rail : Rail) (there : slice_get loaded.rails i ≡ Some rail) where
    was : WasKept board values i rail
    was = was_kept board values i rail there

    stands : uv rail after ≡ slice_index values i
    stands = subst (λ a. uv a after ≡ slice_index values i) (sym was.is) (stands_at board valid.sound inside regs chips hold i was.old was.there)

    allows : IsAllowed rail (uv rail after)
    allows =
        let may = subst (λ a. Contains (allowed a) (slice_index values i)) (sym was.is) (may_stand board valid.sound inside regs chips hold i was.old was.there) in
        subst (IsAllowed rail) (sym stands) (taken_from (allowed rail) (slice_index values i) may)

    on : is_on rail after ≡ starts_on board regs i
    on = ap (λ (a : Rail). is_on a after) was.is ∙ on_after board valid.sound inside regs chips hold i was.old was.there

    held : is_held plain i ≡ is_asked_on regs was.old
    held =
        ap (λ (o : Option Bool). unwrap_or o false) (slice_get-map (is_asked_on regs) board.rails i)
        ∙ ap (λ (o : Option Rail). unwrap_or (option_map (is_asked_on regs) o) false) was.there

    carries : counts_loads rail ≡ true → suffices rail.desc.greatest rail.limits.allowed (rail.limits.system_load + 0) (mode rail after) ≡ true
    carries counts =
        subst (λ (a : Rail). suffices a.desc.greatest a.limits.allowed (a.limits.system_load + 0) (mode a after) ≡ true) (sym was.is)
        (by (mode_of_load was.old.desc.greatest was.old.limits.allowed was.old.limits.system_load) refl
        (all_at (λ a. counts_loads a ≡ true → IsSome (mode_of_load a.desc.greatest a.limits.allowed a.limits.system_load)) board.rails i was.old valid.loads was.there counts_old)
        (mode_of_load-IsLowest was.old.desc.greatest was.old.limits.allowed was.old.limits.system_load)) where
          counts_old : counts_loads was.old ≡ true
          counts_old = ap counts_loads (sym was.is) ∙ counts

          by : (o : Option Mode) → mode_of_load was.old.desc.greatest was.old.limits.allowed was.old.limits.system_load ≡ o → is_some o ≡ true
              → IfSome o (IsLowest was.old.desc.greatest was.old.limits.allowed was.old.limits.system_load)
              → suffices was.old.desc.greatest was.old.limits.allowed (was.old.limits.system_load + 0) (mode was.old after) ≡ true
          by None is some lowest = absurd (cc)
          by (Some start) is some lowest =
              let starts : start_mode was.old ≡ Some start =
              ap (λ (t : Bool). cond t (mode_of_load was.old.desc.greatest was.old.limits.allowed was.old.limits.system_load) was.old.limits.initial) counts_old ∙ is in
              let sum : was.old.limits.system_load + 0 ≡ was.old.limits.system_load = omega arith in
              ap (λ n. suffices was.old.desc.greatest was.old.limits.allowed n (mode was.old after)) sum
              ∙ ap (suffices was.old.desc.greatest was.old.limits.allowed was.old.limits.system_load) (mode_after board valid.sound inside regs chips hold i was.old was.there start counts_old starts)
              ∙ lowest.enough

    always_held : rail.limits.always_on ≡ true → is_held plain i ≡ true
    always_held always =
        let always_old : was.old.limits.always_on ≡ true = ap (λ (a : Rail). a.limits.always_on) (sym was.is) ∙ always in
        held ∙ or_left _ _ (or_right _ _ always_old)

    -- its supply is the one that the graph tells
    supply_is : (upper : ℕ) → is_supply upper rail.supply ≡ true → Supplies board.graph upper i
    supply_is upper is =
        let told : supply_of was.old ≡ Some upper = ap supply_of (sym was.is) ∙ supplied upper rail.supply is in
        ap (λ (supplies : List (Option ℕ)). option_and_then (λ supply. supply) (slice_get supplies i)) valid.sound.graph.supplies
        ∙ ap (option_and_then (λ supply. supply)) (slice_get-map supply_of board.rails i)
        ∙ ap (λ (o : Option Rail). option_and_then (λ supply. supply) (option_map supply_of o)) was.there
        ∙ told

  -- the law holds
  lawful : Law loaded after
  lawful = record {
    values = λ i rail there. allows i rail there;
    spreads = λ i j group spread a b coupled. absurd (untied.uncoupled i j coupled);
    supplies = λ upper lower a b supplies a_at b_at lower_on.
        on upper a a_at ∙ supply_starts board regs upper lower (sound_graph board valid.sound) supplies (sym (on lower b b_at) ∙ lower_on);
    dropouts = λ upper lower a b supplies linked. absurd (untied.unlinked lower linked);
  }

  -- a rail that is used starts on
  voted : (i : ℕ) → 0 < votes loaded plain i → starts_on board regs i ≡ true
  voted i some =
      let one = counted (λ (rail : Rail). is_supply i rail.supply && is_on rail after) loaded.rails some in
      let parts = and_parts _ _ one.passes in
      supply_starts board regs i one.place (sound_graph board valid.sound) (supply_is one.place one.one one.there i parts.0)
      (sym (on one.place one.one one.there) ∙ parts.1)

  used_on : (i : ℕ) (rail : Rail) → slice_get loaded.rails i ≡ Some rail → 0 < use_count loaded plain i → is_on rail after ≡ true
  used_on i rail there used = on i rail there ∙ elim (cases_Bool (is_held plain i)) [
    | inl holds ↦ asked_starts board regs i (was i rail there).old (was i rail there).there (sym (held i rail there) ∙ holds)
    | inr free ↦ let none : ◌≡◌ {A = ℕ} (if is_held plain i then 1 else 0) 0 = ap (λ (t : Bool). weight t) free in voted i (omega (arith, used, none))
  ]

  well_kept : IsWellKept loaded plain
  well_kept = record {
    regs = (are_after board valid.sound inside regs chips hold).chips;
    holds = length-map board.rails (is_asked_on regs) ∙ sym (as_many board values);
    events = length-map board.rails (λ _. []) ∙ sym (as_many board values);
    opens = All-nil (IsSoundEntry loaded plain);
    apart = λ i j d before within. absurd (omega (arith, before, within));
    few = λ worker. omega arith;
    alone = λ i j d before within. absurd (omega (arith, before, within));
    always = λ i rail there always. always_held i rail there always;
  }

  pub loaded_inv : Inv (board_at board (map (start_of regs) board.rails)) (plain_at board regs (map (start_of regs) board.rails))
  loaded_inv = record {
    law = lawful;
    used = used_on;
    requests = λ i rail there. All-nil _;
    loads = λ i rail there counts. carries i rail there counts;
    kept = well_kept;
  }
