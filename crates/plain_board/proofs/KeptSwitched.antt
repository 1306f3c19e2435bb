-- What is kept where on bits alone were changed, on a board on which loads choose no mode and no value binds another.
use Rattle.std.proofs.Common.{◌≡◌, ℕ, suc, ◌+◌, ◌<◌, ◌&&◌, Bool, true, false, cond, List, [], ◌∷◌, Some, inl, inr, refl, sym, ap, ◌∙◌, subst, arith, length, slice_get, All}
use Rattle.std.specs.Prelude.{if◌then◌else◌, count_by, unwrap_or}
use Rattle.std.proofs.lemmas.Bool.{and_parts, cases_lt, both_ways, cases_Bool}
use Rattle.std.proofs.lemmas.List.Sums.{sum_by-cons}
use Rattle.board.specs.declared.board.Board.{Board}
use Rattle.board.specs.declared.rail.Rail.{Rail}
use Rattle.board.specs.Rail.{uv, is_on}
use Rattle.board.specs.Valid.{IsSoundBoard}
use Rattle.rail_law.specs.Law.{HaveSuppliesOn}
use Rattle.use_counts.specs.Counts.{enables_of}
use Rattle.plain_board.specs.declared.plain.Plain.{Plain}
use Rattle.plain_board.specs.Handles.{rows_on}
use Rattle.plain_board.specs.Counts.{enables, is_held, is_supply, votes, use_count}
use Rattle.plain_board.specs.Inv.{Inv}
use Rattle.plain_board.specs.Requests.{meets, requests_on}
use Rattle.plain_board.specs.Untied.{IsUntied, CountsNoLoads}
use Rattle.plain_board.proofs.KeptUse.{HasSoundHandles}
use Rattle.plain_board.proofs.Requests.{AsksOn, to_requests, from_requests}
use Rattle.plain_board.proofs.SwitchedOff.{is_kept_on, KeptOn, rail_supplies}
use Rattle.plain_board.proofs.Switches.{AreSwitchedOnly, uv_kept, law_switched}

-- where some are counted there is one that passes
some_counted : (p : Rail → Bool) (rails : List Rail) → 0 < count_by p rails → (k : ℕ) × (rail : Rail) × (slice_get rails k ≡ Some rail) × (p rail ≡ true)
some_counted p [] some = absurd (omega arith)
some_counted p (rail ∷ rest) some = elim (cases_Bool (p rail)) [
  | inl passes ↦ (0, rail, refl, passes)
  | inr fails ↦
      let none : cond {A = ℕ} (p rail) 1 0 ≡ 0 = rw fails refl in
      let further = some_counted p rest (omega (arith, some, none, sum_by-cons (λ r. cond (p r) 1 0) rail rest)) in
      (suc further.0, further.1, further.2, further.3)
]

-- plain boards with the same handles and holds keep the same rails on
pub kept_on_same : (first second : Plain) → first.handles ≡ second.handles → first.holds ≡ second.holds → (i : ℕ) → is_kept_on first i ≡ is_kept_on second i
kept_on_same first second handles holds i =
    ap (λ entries. enables_of (rows_on entries i) + (if is_held first i then 1 else 0)) handles
    ∙ ap (λ (held : List Bool). enables second i + (if unwrap_or (slice_get held i) false then 1 else 0)) holds

-- what is met at a value
abbrev pub MetAt : ℕ → ℕ × ℕ → Type 0
MetAt v request = meets v request ≡ true

-- what one plain board has of another, but for registers and counts: requests, and lists that are well kept
pub record KeepsLists (board : Board) (plain new : Plain) : Type 0 where
  pub asks : (v i : ℕ) → All (AsksOn (MetAt v) i) plain.handles → All (AsksOn (MetAt v) i) new.handles
  pub handles : HasSoundHandles board new
  pub holds : length new.holds ≡ length plain.holds
  pub events : length new.events ≡ length plain.events
  pub always : (i : ℕ) (rail : Rail) → slice_get board.rails i ≡ Some rail → rail.limits.always_on ≡ true → is_held new i ≡ true

module _ (board : Board) (sound : IsSoundBoard board) (untied : IsUntied board) (no_loads : CountsNoLoads board) (plain : Plain) (inv : Inv board plain) where
  -- where each rail that is on has its supply on, and what is kept on is on, all that is used is on
  used_on : (new : Plain) → HaveSuppliesOn board new.regs → ((i : ℕ) (rail : Rail) → slice_get board.rails i ≡ Some rail → KeptOn new i → is_on rail new.regs ≡ true)
      → (i : ℕ) (rail : Rail) → slice_get board.rails i ≡ Some rail → 0 < use_count board new i → is_on rail new.regs ≡ true
  used_on new supplies kept i rail at used = elim (cases_lt 0 (is_kept_on new i)) [
    | inl some ↦ kept i rail at some
    | inr none ↦
        let voted : 0 < votes board new i = omega (arith, used, none) in
        let there = some_counted (λ a. is_supply i a.supply && is_on a new.regs) board.rails voted in
        let both = and_parts _ _ there.3 in
        supplies i there.0 rail there.1 (rail_supplies board sound i there.0 there.1 there.2 both.0) at there.2 both.1
  ]

  -- so what holds of the one plain board holds of the other
  pub inv_switched : (new : Plain) → AreSwitchedOnly board plain.regs new.regs → HaveSuppliesOn board new.regs
      → ((i : ℕ) (rail : Rail) → slice_get board.rails i ≡ Some rail → KeptOn new i → is_on rail new.regs ≡ true) → KeepsLists board plain new → Inv board new
  inv_switched new only supplies kept lists = record {
    law = law_switched board plain.regs new.regs only untied inv.law supplies;
    used = used_on new supplies kept;
    requests = λ i rail at.
        subst (λ v. All (MetAt v) (requests_on new.handles i)) (sym (uv_kept board plain.regs new.regs only i rail at))
        (to_requests (MetAt (uv rail plain.regs)) i new.handles (lists.asks (uv rail plain.regs) i
        (from_requests (MetAt (uv rail plain.regs)) i plain.handles (inv.requests i rail at))));
    loads = λ i rail at counts. absurd (both_ways _ (no_loads i rail at) counts);
    kept = record {
      regs = only.chips ∙ inv.kept.regs;
      holds = lists.holds ∙ inv.kept.holds;
      events = lists.events ∙ inv.kept.events;
      opens = lists.handles.opens;
      apart = lists.handles.apart;
      few = lists.handles.few;
      alone = lists.handles.alone;
      always = lists.always;
    };
  }
