-- The open handles of a board of one rail stand on it.
use Rattle.std.proofs.Common.{◌≡◌, ℕ, ◌<◌, Bool, true, false, cond, List, [], ◌∷◌, ◌++◌, Some, refl, sym, ap, subst, ◌∙◌, arith, map, filter, length, leb, ltb, eqb}
use Rattle.std.specs.Prelude.{All, find}
use Rattle.std.proofs.lemmas.Bool.Decides.{nat_tests}
use Rattle.std.proofs.lemmas.List.Elements.{All-head, All-tail, All-weaker}
use Rattle.std.proofs.lemmas.Option.{same_Some}
use Rattle.board.specs.declared.board.Board.{Board}
use Rattle.board.specs.declared.rail.Rail.{Rail}
use Rattle.board.specs.declared.rail_id.RailId.{RailId}
use Rattle.board.specs.Lone.{IsLone}
use Rattle.use_counts.specs.declared.handle_row.HandleRow.{HandleRow}
use Rattle.plain_board.specs.declared.plain.Plain.{Plain}
use Rattle.plain_board.specs.Handles.{Entry, open_of, is_own, rows_on, with_open}
use Rattle.plain_board.specs.Inv.{Inv, IsSoundEntry}
use Rattle.regulator_main.proofs.LoneBoard.{lone_board, first, lone-board}

-- an element that is found has what all have
found_has : {X : Type 0} (P : X → Type 0) (p : X → Bool) (xs : List X) (x : X) → All P xs → find p xs ≡ Some x → P x
found_has P p [] x all is = absurd cc
found_has P p (y ∷ ys) x all is =
    elim (p y) as (λ t. cond t (Some y) (find p ys) ≡ Some x → P x) [
      | true ↦ λ is. subst P (same_Some y x is) (All-head P y ys all)
      | false ↦ λ is. found_has P p ys x (All-tail P y ys all) is
    ] is

abbrev pub IsHere : Entry → Type 0
IsHere entry = entry.0.0 < 1

module _ (board : Board) (lone : IsLone board) where
  -- it is the board of this rail
  pub board-is : (rail : Rail) → board.rails ≡ rail ∷ [] → board ≡ lone_board rail board.chips
  board-is rail there =
      let same : lone.rail ≡ rail = let both : lone.rail ∷ [] ≡ rail ∷ [] = sym lone.rails ∙ there in cc in
      lone-board board lone ∙ ap (λ r. lone_board r board.chips) same

  module _ (plain : Plain) (inv : Inv board plain) where
    -- each handle stands on the one rail
    pub all_here : All IsHere plain.handles
    all_here = All-weaker (IsSoundEntry board plain) IsHere (λ entry sound. subst (λ (n : ℕ). entry.0.0 < n) (ap length lone.rails) sound.rail) plain.handles inv.kept.opens

    -- so does the one that is found
    pub entry-first : (worker : ℕ) (name : List ℕ) (entry : Entry) → open_of plain.handles worker name ≡ Some entry → open_of plain.handles worker name ≡ Some (first, entry.1)
    entry-first worker name entry is =
        let zero_is : entry.0.0 ≡ 0 = let here = found_has IsHere (is_own worker name) plain.handles entry all_here is in omega (arith, here) in
        is ∙ ap (λ (n : ℕ). let id : RailId = record { 0 = n } in Some (id, entry.1)) zero_is

    -- one list of events
    one_of : {X : Type 0} (xs : List X) → length xs ≡ 1 → (x : X) × (xs ≡ x ∷ [])
    one_of [] is = absurd (omega (arith, is))
    one_of (x ∷ []) is = (x, refl)
    one_of (x ∷ y ∷ xs) is = absurd (omega (arith, is))

    pub events-one : length plain.events ≡ 1
    events-one = inv.kept.events ∙ ap length lone.rails

    pub events-here : (told : _) × (plain.events ≡ told ∷ [])
    events-here = one_of plain.events events-one

-- where all handles stand on the one rail, its rows are all
pub rows-all : (handles : List Entry) → All IsHere handles → rows_on handles 0 ≡ map (λ (e : Entry). e.1) handles
rows-all [] here = refl
rows-all (entry ∷ rest) here =
    let zero_is : eqb entry.0.0 0 ≡ true = let one = All-head IsHere entry rest here in grind (arith, nat_tests) in
    rw zero_is (ap (λ rows. entry.1 ∷ rows) (rows-all rest (All-tail IsHere entry rest here)))

all_before : (handles : List Entry) → All IsHere handles → filter (λ (e : Entry). leb e.0.0 0) handles ≡ handles
all_before [] here = refl
all_before (entry ∷ rest) here =
    let first_is : leb entry.0.0 0 ≡ true = let one = All-head IsHere entry rest here in grind (arith, nat_tests) in
    rw first_is (ap (λ es. entry ∷ es) (all_before rest (All-tail IsHere entry rest here)))

none_behind : (handles : List Entry) → All IsHere handles → filter (λ (e : Entry). ltb 0 e.0.0) handles ≡ []
none_behind [] here = refl
none_behind (entry ∷ rest) here =
    let first_is : ltb 0 entry.0.0 ≡ false = let one = All-head IsHere entry rest here in grind (arith, nat_tests) in
    rw first_is (none_behind rest (All-tail IsHere entry rest here))

-- a new handle stands last
pub with_open-last : (handles : List Entry) (row : HandleRow) → All IsHere handles → with_open handles (first, row) ≡ handles ++ (first, row) ∷ []
with_open-last handles row here =
    ap (λ es. es ++ (first, row) ∷ filter (λ (e : Entry). ltb 0 e.0.0) handles) (all_before handles here)
    ∙ ap (λ es. handles ++ (first, row) ∷ es) (none_behind handles here)
