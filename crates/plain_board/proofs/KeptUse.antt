-- What a call keeps that changes no enables, loads, on bits, modes or holds.
use Rattle.std.proofs.Common.{◌≡◌, ℕ, ◌+◌, ◌≤◌, Bool, true, false, cond, ◌&&◌, List, [], ◌∷◌, Some, refl, sym, ap, ◌∙◌, arith, length, get_or, sum_by, slice_get, All, AllPairs}
use Rattle.std.specs.Prelude.{if◌then◌else◌, unwrap_or}
use Rattle.std.proofs.lemmas.List.Elements.{All-head, All-tail}
use Rattle.std.proofs.lemmas.List.Sums.{sum_by-cons}
use Rattle.std.proofs.lemmas.Option.{slice_get-get_or}
use Rattle.load_modes.specs.Modes.{suffices}
use Rattle.board.specs.declared.board.Board.{Board}
use Rattle.board.specs.declared.rail.Rail.{Rail}
use Rattle.board.specs.Rail.{uv, is_on, mode}
use Rattle.rail_law.specs.Law.{Law}
use Rattle.use_counts.specs.Counts.{drawn}
use Rattle.plain_board.specs.declared.plain.Plain.{Plain}
use Rattle.plain_board.specs.Handles.{count_own, rows_on}
use Rattle.plain_board.specs.Counts.{enables, load_sum, is_held, is_supply, votes, use_count}
use Rattle.plain_board.specs.Inv.{Inv, IsSoundEntry, StandApart, ShareFairly}
use Rattle.plain_board.specs.Refusals.{most_handles}
use Rattle.plain_board.specs.Requests.{meets, requests_on}

-- two functions that agree at each element of a list have one sum over it
pub sum_by_same : {X : Type 0} (f g : X → ℕ) (xs : List X) → All (λ x. f x ≡ g x) xs → sum_by f xs ≡ sum_by g xs
sum_by_same f g [] all = refl
sum_by_same f g (x ∷ xs) all =
    sum_by-cons f x xs
    ∙ ap (λ n. n + sum_by f xs) (All-head (λ y. f y ≡ g y) x xs all)
    ∙ ap (λ n. g x + n) (sum_by_same f g xs (All-tail (λ y. f y ≡ g y) x xs all))
    ∙ sym (sum_by-cons g x xs)

-- the lists of the handles are as they must be
pub record HasSoundHandles (board : Board) (plain : Plain) : Type 0 where
  pub opens : All (IsSoundEntry board plain) plain.handles
  pub apart : AllPairs StandApart plain.handles
  pub few : (worker : ℕ) → count_own plain.handles worker ≤ most_handles
  pub alone : AllPairs ShareFairly plain.handles

-- what one plain board has as another has it: on bits, modes, chips, enables, what is drawn, holds and the number of rails with events
pub record HasSameUse (board : Board) (plain new : Plain) : Type 0 where
  pub on : (k : ℕ) (rail : Rail) → slice_get board.rails k ≡ Some rail → is_on rail new.regs ≡ is_on rail plain.regs
  pub modes : (k : ℕ) (rail : Rail) → slice_get board.rails k ≡ Some rail → mode rail new.regs ≡ mode rail plain.regs
  pub chips : length new.regs ≡ length plain.regs
  pub enabled : (i : ℕ) → enables new i ≡ enables plain i
  pub draws : (i : ℕ) → sum_by drawn (rows_on new.handles i) ≡ sum_by drawn (rows_on plain.handles i)
  pub holds : new.holds ≡ plain.holds
  pub events : length new.events ≡ length plain.events

module _ (board : Board) (plain new : Plain) (same : HasSameUse board plain new) where
  votes_kept : (i : ℕ) → votes board new i ≡ votes board plain i
  votes_kept i =
      sum_by_same (λ rail. cond (is_supply i rail.supply && is_on rail new.regs) 1 0) (λ rail. cond (is_supply i rail.supply && is_on rail plain.regs) 1 0) board.rails
      (λ k d within. ap (λ t. cond (is_supply i ((get_or board.rails k d).supply) && t) 1 0) (same.on k (get_or board.rails k d) (slice_get-get_or board.rails k d within)))

  held_kept : (i : ℕ) → is_held new i ≡ is_held plain i
  held_kept i = ap (λ (holds : List Bool). unwrap_or (slice_get holds i) false) same.holds

  use_kept : (i : ℕ) → use_count board new i ≡ use_count board plain i
  use_kept i =
      ap (λ n. n + (if is_held new i then 1 else 0) + votes board new i) (same.enabled i)
      ∙ ap (λ t. enables plain i + (if t then 1 else 0) + votes board new i) (held_kept i)
      ∙ ap (λ n. enables plain i + (if is_held plain i then 1 else 0) + n) (votes_kept i)

  -- so what holds of the one holds of the other, where the law holds, requests are met and the handles are sound
  pub inv_by_use : Inv board plain → Law board new.regs
      → ((i : ℕ) (rail : Rail) → slice_get board.rails i ≡ Some rail → All (λ request. meets (uv rail new.regs) request ≡ true) (requests_on new.handles i))
      → HasSoundHandles board new → Inv board new
  inv_by_use inv law requests handles = record {
    law = law;
    used = λ i rail at used. same.on i rail at ∙ inv.used i rail at (omega (arith, used, use_kept i));
    requests = requests;
    loads = λ i rail at counts.
        ap (suffices rail.desc.greatest rail.limits.allowed (load_sum rail (rows_on new.handles i))) (same.modes i rail at)
        ∙ ap (λ n. suffices rail.desc.greatest rail.limits.allowed (rail.limits.system_load + n) (mode rail plain.regs)) (same.draws i)
        ∙ inv.loads i rail at counts;
    kept = record {
      regs = same.chips ∙ inv.kept.regs;
      holds = ap length same.holds ∙ inv.kept.holds;
      events = same.events ∙ inv.kept.events;
      opens = handles.opens;
      apart = handles.apart;
      few = handles.few;
      alone = handles.alone;
      always = λ i rail at always. held_kept i ∙ inv.kept.always i rail at always;
    };
  }
