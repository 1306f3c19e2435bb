-- An open keeps what holds of a plain board: the new handle stands last on its rail, and asks and draws nothing.
use Rattle.std.proofs.Common.{◌≡◌, ◌≢◌, ℕ, ◌+◌, ◌≤◌, ◌<◌, Bool, true, false, cond, List, [], ◌∷◌, ◌++◌, ◌⊎◌, Some, None, inl, inr, refl, sym, ap, ◌∙◌, subst, arith, map, length, get_or, filter, find, sum_by, slice_get, All, AllPairs}
use Rattle.std.specs.Prelude.{◌==◌, nat_le, nat_lt, is_some}
use Rattle.std.specs.List.{list_any}
use Rattle.std.proofs.lemmas.Bool.{both_ways, and_cases, or_parts, eqb-true, eq-eqb, leb-true, leb-false, ltb-true, ltb-false, lt-ltb, le-ltb, lt-leb, true≢false}
use Rattle.std.proofs.lemmas.Slice.Eq.{bytes_eq-Decides}
use Rattle.std.proofs.lemmas.List.{nil_from_length}
use Rattle.std.proofs.lemmas.List.Elements.{All-nil, All-cons, All-head, All-tail, All-filter, filter_passes}
use Rattle.std.proofs.lemmas.List.Kept.{AllPairs-cons}
use Rattle.std.proofs.lemmas.List.Sums.{sum_by-cons, sum_by-append}
use Rattle.arrayvec.specs.ArrayString.{ArrayString}
use Rattle.board.specs.declared.board.Board.{Board}
use Rattle.board.specs.declared.rail_id.RailId.{RailId}
use Rattle.board.specs.Rail.{uv}
use Rattle.rows.specs.declared.answer.Answer.TheVariants.{HandleOpen, HandlesFull}
use Rattle.rows.specs.declared.call.Call.TheVariants.{Open}
use Rattle.use_counts.specs.declared.handle_row.HandleRow.{HandleRow}
use Rattle.use_counts.specs.Counts.{drawn}
use Rattle.plain_board.specs.declared.plain.Plain.{Plain}
use Rattle.plain_board.specs.Handles.{Entry, is_own, open_of, count_own, rows_on, with_open}
use Rattle.plain_board.specs.Answer.{new_row}
use Rattle.plain_board.specs.Inv.{Inv, IsSoundEntry, StandApart, ShareFairly}
use Rattle.plain_board.specs.Refusals.{most_handles, excludes, refusal}
use Rattle.plain_board.specs.Requests.{meets, requests_on}
use Rattle.plain_board.proofs.KeptUse.{HasSameUse, HasSoundHandles, inv_by_use}
use Rattle.plain_board.proofs.OwnHandle.{pairs_first, pairs_rest}
use Rattle.plain_board.proofs.Requests.{adds, sum_by-rows, AsksOn, to_requests, from_requests}
use Rattle.plain_board.proofs.SetMoves.{first_fails}
use Rattle.board.specs.declared.rail.Rail.{Rail}

-- one more element between two lists
all_between : {A : Type 0} (P : A → Type 0) (xs ys : List A) (n : A) → All P (xs ++ ys) → P n → All P (xs ++ n ∷ ys)
all_between P [] ys n all is = All-cons P n ys is all
all_between P (x ∷ xs) ys n all is = All-cons P x (xs ++ n ∷ ys) (All-head P x (xs ++ ys) all) (all_between P xs ys n (All-tail P x (xs ++ ys) all) is)

pairs_between : {A : Type 0} (R : A → A → Type 0) (xs ys : List A) (n : A) → AllPairs R (xs ++ ys) → All (λ a. R a n) xs → All (R n) ys → AllPairs R (xs ++ n ∷ ys)
pairs_between R [] ys n all before after = AllPairs-cons R n ys after all
pairs_between R (x ∷ xs) ys n all before after =
    AllPairs-cons R x (xs ++ n ∷ ys)
    (all_between (R x) xs ys n (pairs_first R x (xs ++ ys) all) (All-head (λ a. R a n) x xs before))
    (pairs_between R xs ys n (pairs_rest R x (xs ++ ys) all) (All-tail (λ a. R a n) x xs before) after)

sum_between : {A : Type 0} (f : A → ℕ) (xs ys : List A) (n : A) → sum_by f (xs ++ n ∷ ys) ≡ sum_by f (xs ++ ys) + f n
sum_between f xs ys n = omega (arith, sum_by-append f xs (n ∷ ys), sum_by-cons f n ys, sum_by-append f xs ys)

-- the handles up to a rail, and those beyond it
abbrev upto : ℕ → List Entry → List Entry
upto r handles = filter (λ (entry : Entry). nat_le entry.0.0 r) handles

abbrev beyond : ℕ → List Entry → List Entry
beyond r handles = filter (λ (entry : Entry). nat_lt r entry.0.0) handles

none_upto : (r : ℕ) (handles : List Entry) → All (λ (entry : Entry). r < entry.0.0) handles → upto r handles ≡ []
none_upto r [] all = refl
none_upto r (x ∷ rest) all =
    let far : nat_le x.0.0 r ≡ false = lt-leb x.0.0 r (All-head (λ (entry : Entry). r < entry.0.0) x rest all) in
    rw far (none_upto r rest (All-tail (λ (entry : Entry). r < entry.0.0) x rest all))

-- handles in the order of their rails are those up to a rail, and then those beyond it
in_two_step : (r : ℕ) (x : Entry) (rest : List Entry) (t : Bool) → nat_le x.0.0 r ≡ t → AllPairs StandApart (x ∷ rest) → upto r rest ++ beyond r rest ≡ rest
    → cond t (x ∷ upto r rest) (upto r rest) ++ cond (nat_lt r x.0.0) (x ∷ beyond r rest) (beyond r rest) ≡ x ∷ rest
in_two_step r x rest true is apart two =
    let near : nat_lt r x.0.0 ≡ false = le-ltb r x.0.0 (leb-true x.0.0 r is) in
    rw near (ap (λ entries. x ∷ entries) two)
in_two_step r x rest false is apart two =
    let far : r < x.0.0 = leb-false x.0.0 r is in
    let over : nat_lt r x.0.0 ≡ true = lt-ltb r x.0.0 far in
    let none : upto r rest ≡ [] =
    none_upto r rest (λ k d within. let pair = pairs_first StandApart x rest apart k d within in omega (arith, far, pair.rails)) in
    let all_beyond : beyond r rest ≡ rest = ap (λ entries. entries ++ beyond r rest) (sym none) ∙ two in
    rw (over, none) (ap (λ entries. x ∷ entries) all_beyond)

in_two : (r : ℕ) (handles : List Entry) → AllPairs StandApart handles → upto r handles ++ beyond r handles ≡ handles
in_two r [] apart = refl
in_two r (x ∷ rest) apart = in_two_step r x rest (nat_le x.0.0 r) refl apart (in_two r rest (pairs_rest StandApart x rest apart))

-- what holds of each row of a rail holds of each handle on it
rows_step : (P : HandleRow → Type 0) (i : ℕ) (x : Entry) (others : List Entry) (t : Bool) → (x.0.0 == i) ≡ t → All P (map (λ (e : Entry). e.1) (cond t (x ∷ others) others))
    → (x.0.0 ≡ i → P x.1) × All P (map (λ (e : Entry). e.1) others)
rows_step P i x others true is all = (λ here. All-head P x.1 (map (λ (e : Entry). e.1) others) all, All-tail P x.1 (map (λ (e : Entry). e.1) others) all)
rows_step P i x others false is all = (λ here. absurd (both_ways _ is (eq-eqb x.0.0 i here)), all)

from_rows : (P : HandleRow → Type 0) (i : ℕ) (handles : List Entry) → All P (rows_on handles i) → All (λ (entry : Entry). entry.0.0 ≡ i → P entry.1) handles
from_rows P i [] all = All-nil (λ (entry : Entry). entry.0.0 ≡ i → P entry.1)
from_rows P i (x ∷ rest) all =
    let both = rows_step P i x (filter (λ (e : Entry). e.0.0 == i) rest) (x.0.0 == i) refl all in
    All-cons (λ (entry : Entry). entry.0.0 ≡ i → P entry.1) x rest both.0 (from_rows P i rest both.1)

-- what no row is
none_is : (p : HandleRow → Bool) (rows : List HandleRow) → list_any p rows ≡ false → All (λ row. p row ≡ false) rows
none_is p [] none = All-nil (λ row. p row ≡ false)
none_is p (row ∷ rows) none = let both = or_parts _ _ none in All-cons (λ r. p r ≡ false) row rows both.0 (none_is p rows both.1)

none_open_step : (p : Entry → Bool) (x : Entry) (rest : List Entry) (t : Bool) → p x ≡ t → (is_some (find p rest) ≡ false → All (λ entry. p entry ≡ false) rest)
    → is_some (cond t (Some x) (find p rest)) ≡ false → All (λ entry. p entry ≡ false) (x ∷ rest)
none_open_step p x rest true is further none = absurd (true≢false none)
none_open_step p x rest false is further none = All-cons (λ entry. p entry ≡ false) x rest is (further none)

none_open : (p : Entry → Bool) (handles : List Entry) → is_some (find p handles) ≡ false → All (λ entry. p entry ≡ false) handles
none_open p [] none = All-nil (λ entry. p entry ≡ false)
none_open p (x ∷ rest) none = none_open_step p x rest (p x) refl (none_open p rest) none

adds_nothing : (of_row : HandleRow → ℕ) (i : ℕ) (entry : Entry) (t : Bool) → of_row entry.1 ≡ 0 → cond t (of_row entry.1) 0 ≡ 0
adds_nothing of_row i entry true is = is
adds_nothing of_row i entry false is = refl

no_length : {A : Type 0} (xs : List A) → nat_lt 0 (length xs) ≡ false → xs ≡ []
no_length xs none = nil_from_length xs (omega (arith, ltb-false 0 (length xs) none))

module _ (board : Board) (plain : Plain) (inv : Inv board plain) (worker : ℕ) (handle : ArrayString) (rail : RailId) (exclusive : Bool) (there : rail.0 < length board.rails) (free : refusal board plain worker (Open handle rail exclusive) ≡ None) where
  abbrev entry : Entry
  entry = (rail, new_row worker handle exclusive)

  abbrev opened : List Entry
  opened = with_open plain.handles entry

  abbrev lower : List Entry
  lower = upto rail.0 plain.handles

  abbrev upper : List Entry
  upper = beyond rail.0 plain.handles

  abbrev new : Plain
  new = record plain { handles = opened }

  two : lower ++ upper ≡ plain.handles
  two = in_two rail.0 plain.handles inv.kept.apart

  not_open : is_some (open_of plain.handles worker handle.bytes) ≡ false
  not_open = (first_fails _ HandleOpen ((nat_le most_handles (count_own plain.handles worker), HandlesFull most_handles) ∷ excludes exclusive (rows_on plain.handles rail.0) ∷ []) free).0

  not_full : nat_le most_handles (count_own plain.handles worker) ≡ false
  not_full =
      let more = first_fails (is_some (open_of plain.handles worker handle.bytes)) HandleOpen ((nat_le most_handles (count_own plain.handles worker), HandlesFull most_handles) ∷ excludes exclusive (rows_on plain.handles rail.0) ∷ []) free in
      (first_fails _ (HandlesFull most_handles) (excludes exclusive (rows_on plain.handles rail.0) ∷ []) more.1).0

  not_excluded : (excludes exclusive (rows_on plain.handles rail.0)).0 ≡ false
  not_excluded =
      let more = first_fails (is_some (open_of plain.handles worker handle.bytes)) HandleOpen ((nat_le most_handles (count_own plain.handles worker), HandlesFull most_handles) ∷ excludes exclusive (rows_on plain.handles rail.0) ∷ []) free in
      let last = first_fails (nat_le most_handles (count_own plain.handles worker)) (HandlesFull most_handles) (excludes exclusive (rows_on plain.handles rail.0) ∷ []) more.1 in
      (first_fails _ ((excludes exclusive (rows_on plain.handles rail.0)).1) [] last.1).0

  -- what holds of all handles, and of the new one
  all_opened : (P : Entry → Type 0) → All P plain.handles → P entry → All P opened
  all_opened P all is = all_between P lower upper entry (subst (All P) (sym two) all) is

  sum_opened : (f : Entry → ℕ) → sum_by f opened ≡ sum_by f plain.handles + f entry
  sum_opened f = sum_between f lower upper entry ∙ ap (λ entries. sum_by f entries + f entry) two

  pairs_opened : (R : Entry → Entry → Type 0) → AllPairs R plain.handles → All (λ a. R a entry) lower → All (R entry) upper → AllPairs R opened
  pairs_opened R all before after = pairs_between R lower upper entry (subst (AllPairs R) (sym two) all) before after

  sums_kept : (of_row : HandleRow → ℕ) → of_row (new_row worker handle exclusive) ≡ 0 → (i : ℕ) → sum_by of_row (rows_on opened i) ≡ sum_by of_row (rows_on plain.handles i)
  sums_kept of_row nothing i =
      let more = sum_opened (adds of_row i) in
      let none : adds of_row i entry ≡ 0 = adds_nothing of_row i entry (rail.0 == i) nothing in
      omega (arith, sum_by-rows of_row i opened, more, none, sum_by-rows of_row i plain.handles)

  same_use : HasSameUse board plain new
  same_use = record {
    on = λ k a at. refl;
    modes = λ k a at. refl;
    chips = refl;
    enabled = sums_kept (λ row. row.enables) refl;
    draws = sums_kept drawn refl;
    holds = refl;
    events = refl;
  }

  requests_met : (i : ℕ) (a : Rail) → slice_get board.rails i ≡ Some a → All (λ request. meets (uv a plain.regs) request ≡ true) (requests_on opened i)
  requests_met i a at =
      let Met : ℕ × ℕ → Type 0 = λ request. meets (uv a plain.regs) request ≡ true in
      to_requests Met i opened (all_opened (AsksOn Met i) (from_requests Met i plain.handles (inv.requests i a at)) (λ here. tt))

  none_own : All (λ other. is_own worker handle.bytes other ≡ false) plain.handles
  none_own = none_open (is_own worker handle.bytes) plain.handles not_open

  other_name : (other : Entry) → is_own worker handle.bytes other ≡ false → (other.1.worker ≢ worker) ⊎ (other.1.handle.bytes ≢ handle.bytes)
  other_name other is = elim (and_cases _ _ is) [
    | inl workers ↦ inl (λ same. both_ways _ workers (eq-eqb other.1.worker worker same))
    | inr names ↦ inr (λ same. both_ways _ names ((bytes_eq-Decides other.1.handle.bytes handle.bytes).1 same))
  ]

  apart_before : All (λ other. StandApart other entry) lower
  apart_before k d within = record {
    rails = leb-true _ _ (filter_passes (λ (e : Entry). nat_le e.0.0 rail.0) plain.handles k d within);
    names = other_name (get_or lower k d) (All-filter (λ (e : Entry). nat_le e.0.0 rail.0) (λ other. is_own worker handle.bytes other ≡ false) plain.handles none_own k d within);
  }

  is_beyond : All (λ other. rail.0 < other.0.0) upper
  is_beyond k d within = ltb-true _ _ (filter_passes (λ (e : Entry). nat_lt rail.0 e.0.0) plain.handles k d within)

  swap_names : (other : Entry) → (other.1.worker ≢ worker) ⊎ (other.1.handle.bytes ≢ handle.bytes) → (worker ≢ other.1.worker) ⊎ (handle.bytes ≢ other.1.handle.bytes)
  swap_names other (inl workers) = inl (λ same. workers (sym same))
  swap_names other (inr names) = inr (λ same. names (sym same))

  apart_after : All (StandApart entry) upper
  apart_after k d within =
      let far = is_beyond k d within in
      record {
        rails = omega arith;
        names = swap_names (get_or upper k d)
            (other_name (get_or upper k d) (All-filter (λ (e : Entry). nat_lt rail.0 e.0.0) (λ other. is_own worker handle.bytes other ≡ false) plain.handles none_own k d within));
      }

  -- no handle on the rail is exclusive, and the new one isn't where there is another
  none_exclusive : All (λ (other : Entry). other.0.0 ≡ rail.0 → other.1.exclusive ≡ false) plain.handles
  none_exclusive =
      from_rows (λ row. row.exclusive ≡ false) rail.0 plain.handles (none_is (λ row. row.exclusive) (rows_on plain.handles rail.0) ((or_parts _ _ not_excluded).0))

  shares : All (λ (other : Entry). other.0.0 ≡ rail.0 → exclusive ≡ false) plain.handles
  shares = elim (and_cases _ _ ((or_parts _ _ not_excluded).1)) [
    | inl shared ↦ λ k d within here. shared
    | inr nobody ↦
        let none : rows_on plain.handles rail.0 ≡ [] = no_length (rows_on plain.handles rail.0) nobody in
        let all : All (λ (row : HandleRow). ⊥) (rows_on plain.handles rail.0) = subst (All (λ (row : HandleRow). ⊥)) (sym none) (All-nil (λ (row : HandleRow). ⊥)) in
        λ k d within here. absurd (from_rows (λ row. ⊥) rail.0 plain.handles all k d within here)
  ]

  fair_before : All (λ other. ShareFairly other entry) lower
  fair_before k d within here = (
    All-filter (λ (e : Entry). nat_le e.0.0 rail.0) (λ (other : Entry). other.0.0 ≡ rail.0 → other.1.exclusive ≡ false) plain.handles none_exclusive k d within here,
    All-filter (λ (e : Entry). nat_le e.0.0 rail.0) (λ (other : Entry). other.0.0 ≡ rail.0 → exclusive ≡ false) plain.handles shares k d within here,
  )

  fair_after : All (ShareFairly entry) upper
  fair_after k d within here = let far = is_beyond k d within in absurd (omega (arith, here))

  few_by : (w : ℕ) (t : Bool) → (worker == w) ≡ t → count_own plain.handles w + cond t 1 0 ≤ most_handles
  few_by w true is =
      let same = eqb-true worker w is in
      let fewer : count_own plain.handles worker < most_handles = leb-false most_handles (count_own plain.handles worker) not_full in
      let fewer_own : count_own plain.handles w < most_handles = subst (λ n. count_own plain.handles n < most_handles) same fewer in
      omega arith
  few_by w false is = omega (arith, inv.kept.few w)

  few_opened : (w : ℕ) → count_own opened w ≤ most_handles
  few_opened w = omega (arith, sum_opened (λ (other : Entry). cond (other.1.worker == w) 1 0), few_by w (worker == w) refl)

  sound_handles : HasSoundHandles board new
  sound_handles = record {
    opens = all_opened (IsSoundEntry board new)
        (λ k d within. let is = inv.kept.opens k d within in record { rail = is.rail; enables = is.enables; cursor = is.cursor })
        (record { rail = there; enables = omega arith; cursor = tt });
    apart = pairs_opened StandApart inv.kept.apart apart_before apart_after;
    few = few_opened;
    alone = pairs_opened ShareFairly inv.kept.alone fair_before fair_after;
  }

  -- after an open that isn't refused all that held holds
  pub inv_open : Inv board new
  inv_open = inv_by_use board plain new same_use inv inv.law requests_met sound_handles
