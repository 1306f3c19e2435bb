use Rattle.std.proofs.Common.{ℕ, ◌≡◌, ◌≢◌, ◌<◌, rules, tests, arith, length, MatchOption, length-take-le}
use Rattle.std.specs.List.{AllWithin, HoldsAt}
use Rattle.std.proofs.lemmas.Iterator.{YieldsList-from_slice, IsFirst-from_position}
use Rattle.std.proofs.lemmas.List.Elements.{All-from_all_within}
use Rattle.std.proofs.lemmas.Option.{MatchOption-at_some, MatchOption-at_none}
use Rattle.rows.proofs.Separators.{cut_at, before_cut}
use Rattle.rows.proofs.split.split_first.Goals as goal
use Rattle.rows.proofs.split.split_first.Goals.{After-position}

-- the place is that of the first separator
abbrev IsFirst : (c : After-position) (i : ℕ) → Type 0
IsFirst c i = (i < length c.args.text.now) × HoldsAt (λ byte. byte ≡ c.args.separator) c.args.text.now i × AllWithin (λ byte. byte ≢ c.args.separator) c.args.text.now 0 i

abbrev HasNone : (c : After-position) → Type 0
HasNone c = AllWithin (λ byte. byte ≢ c.args.separator) c.args.text.now 0 (length c.args.text.now)

found : (c : After-position) → MatchOption c.position.result (HasNone c) (IsFirst c)
found c =
    IsFirst-from_position _ _ _ (λ byte. byte ≡ c.args.separator) (λ byte. byte ≢ c.args.separator) c.position.ensures.ran
    (YieldsList-from_slice c.args.text.now cc) (λ x q k. search (rules, tests)) (λ x q k. search (rules, tests))

pub returns-in_err-at : goal.returns-in_err-at
returns-in_err-at c =
    let d = (goal.at.returns-in_err-at c).After-position in
    rw c.from_residual.ensures record {
      parts = tt;
      first = tt;
      none = All-from_all_within (λ byte. byte ≢ c.args.separator) c.args.text.now (MatchOption-at_none (HasNone d) (IsFirst d) c.in_err-at.was (found d));
    }

pub slice_bounds-result-end : goal.slice_bounds-result-end
slice_bounds-result-end c =
    let d = (goal.at.slice_bounds-result-end c).After-position in
    let here = MatchOption-at_some (HasNone d) (IsFirst d) c.in_ok-at.at c.in_ok-at.was (found d) in
    omega (arith, here.0, length-take-le {A = ℕ})

pub slice_bounds-result-count : goal.slice_bounds-result-count
slice_bounds-result-count c =
    let d = (goal.at.slice_bounds-result-count c).After-position in
    let here = MatchOption-at_some (HasNone d) (IsFirst d) c.in_ok-at.at c.in_ok-at.was (found d) in
    omega (arith, here.0)

pub returns : goal.returns
returns c =
    let d = (goal.at.returns c).After-position in
    let here = MatchOption-at_some (HasNone d) (IsFirst d) c.in_ok-at.at c.in_ok-at.was (found d) in
    record {
      parts = cut_at c.args.separator c.args.text.now c.in_ok-at.at here.0 here.1;
      first = before_cut c.args.separator c.args.text.now c.in_ok-at.at here.2;
      none = tt;
    }
