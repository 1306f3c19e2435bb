-- There is but one plain board that all rails show with what is in no field.
use Rattle.std.proofs.Common.{◌≡◌, ◌≢◌, ℕ, zero, suc, ◌+◌, ◌<◌, ◌≤◌, Bool, true, false, cond, eqb, ltb, List, [], ◌∷◌, ◌++◌, refl, sym, ap, ◌∙◌, arith, length, get_or, map, filter, flat_map, eq-eqb, All, AllPairs}
use Rattle.std.specs.Prelude.{slice_index_or}
use Rattle.std.specs.List.{enumerate_from}
use Rattle.std.proofs.lemmas.Bool.{eqb-true, ltb-true, lt-ltb, le-ltb, false≢true}
use Rattle.std.proofs.lemmas.List.Elements.{All-head, All-tail, All-filter, filter_passes}
use Rattle.std.proofs.lemmas.List.Kept.{AllPairs-filter}
use Rattle.use_counts.specs.Book.{Book}
use Rattle.use_counts.specs.declared.handle_row.HandleRow.{HandleRow}
use Rattle.plain_board.specs.Handles.{Entry, rows_on}
use Rattle.rail_ops.specs.Inside.Alone.{entries_of, no_book}

-- handles by rising rails
abbrev Rises : List Entry → Type 0
Rises es = AllPairs (λ (one two : Entry). one.0.0 ≤ two.0.0) es

-- the handle of a rail again, from its row
abbrev tagged : ℕ → HandleRow → Entry
tagged i row = (record { 0 = i }, row)

-- the handles of a rail, and those of the rails above it
abbrev of_rail : ℕ → List Entry → List Entry
of_rail i es = filter (λ (e : Entry). eqb e.0.0 i) es

abbrev above_rail : ℕ → List Entry → List Entry
above_rail i es = filter (λ (e : Entry). ltb i e.0.0) es

rises_tail : (e : Entry) (es : List Entry) → Rises (e ∷ es) → Rises es
rises_tail e es rises i j d less within = rises (suc i) (suc j) d (omega (arith, less)) (omega (arith, within))

rises_head : (e : Entry) (es : List Entry) → Rises (e ∷ es) → All (λ (other : Entry). e.0.0 ≤ other.0.0) es
rises_head e es rises i d within = rises zero (suc i) d (omega arith) (omega (arith, within))

-- handles of rails above a rail: none is of it, and all are above
none_of_rail : (i : ℕ) (es : List Entry) → All (λ (e : Entry). i < e.0.0) es → of_rail i es ≡ []
none_of_rail i [] all = refl
none_of_rail i (e ∷ es) all = at (eqb e.0.0 i) refl (none_of_rail i es (All-tail (λ (e : Entry). i < e.0.0) e es all)) where
  at : (t : Bool) → eqb e.0.0 i ≡ t → of_rail i es ≡ [] → cond t (e ∷ of_rail i es) (of_rail i es) ≡ []
  at true is rest = absurd (omega (arith, eqb-true e.0.0 i is, All-head (λ (e : Entry). i < e.0.0) e es all))
  at false is rest = rest

all_above : (i : ℕ) (es : List Entry) → All (λ (e : Entry). i < e.0.0) es → above_rail i es ≡ es
all_above i [] all = refl
all_above i (e ∷ es) all =
    ap (λ (t : Bool). cond t (e ∷ above_rail i es) (above_rail i es)) (lt-ltb i e.0.0 (All-head (λ (e : Entry). i < e.0.0) e es all))
    ∙ ap (λ rest. e ∷ rest) (all_above i es (All-tail (λ (e : Entry). i < e.0.0) e es all))

-- the handles of the lowest rail stand first
split : (i : ℕ) (es : List Entry) → Rises es → All (λ (e : Entry). i ≤ e.0.0) es → es ≡ of_rail i es ++ above_rail i es
split i [] rises all = refl
split i (e ∷ es) rises all =
    at (eqb e.0.0 i) refl (split i es (rises_tail e es rises) (All-tail (λ (e : Entry). i ≤ e.0.0) e es all)) where
      at : (t : Bool) → eqb e.0.0 i ≡ t → es ≡ of_rail i es ++ above_rail i es
          → e ∷ es ≡ cond t (e ∷ of_rail i es) (of_rail i es) ++ cond (ltb i e.0.0) (e ∷ above_rail i es) (above_rail i es)
      at true is rest =
          ap (λ tail. e ∷ tail) rest
          ∙ ap (λ (t : Bool). (e ∷ of_rail i es) ++ cond t (e ∷ above_rail i es) (above_rail i es)) (sym (le-ltb i e.0.0 (omega (arith, eqb-true e.0.0 i is))))
      at false is rest =
          let differs : e.0.0 ≢ i = λ same. false≢true (sym is ∙ eq-eqb e.0.0 i same) in
          let above : i < e.0.0 = omega (arith, differs, All-head (λ (e : Entry). i ≤ e.0.0) e es all) in
          let others : All (λ (other : Entry). i < other.0.0) es = λ k d within. omega (arith, above, rises_head e es rises k d within) in
          sym (ap (λ low. low ++ cond (ltb i e.0.0) (e ∷ above_rail i es) (above_rail i es)) (none_of_rail i es others)
          ∙ ap (λ (t : Bool). cond t (e ∷ above_rail i es) (above_rail i es)) (lt-ltb i e.0.0 above)
          ∙ ap (λ rest. e ∷ rest) (all_above i es others))

-- the handles of a rail are its rows with the rail
retagged : (i : ℕ) (es : List Entry) → All (λ (e : Entry). eqb e.0.0 i ≡ true) es → map (tagged i) (map (λ (e : Entry). e.1) es) ≡ es
retagged i [] all = refl
retagged i (e ∷ es) all =
    ap (λ rest. tagged i e.1 ∷ rest) (retagged i es (All-tail (λ (e : Entry). eqb e.0.0 i ≡ true) e es all))
    ∙ ap (λ n. tagged n e.1 ∷ es) (sym (eqb-true e.0.0 i (All-head (λ (e : Entry). eqb e.0.0 i ≡ true) e es all)))

-- the handles above a rail have the rows of each rail above it
rows_above : (i j : ℕ) (es : List Entry) → i < j → rows_on (above_rail i es) j ≡ rows_on es j
rows_above i j [] less = refl
rows_above i j (e ∷ es) less = at (ltb i e.0.0) (eqb e.0.0 j) refl refl (rows_above i j es less) where
  at : (t u : Bool) → ltb i e.0.0 ≡ t → eqb e.0.0 j ≡ u → rows_on (above_rail i es) j ≡ rows_on es j
      → rows_on (cond t (e ∷ above_rail i es) (above_rail i es)) j ≡ map (λ (x : Entry). x.1) (cond u (e ∷ of_rail j es) (of_rail j es))
  at true true low here rest = ap (λ (u : Bool). map (λ (x : Entry). x.1) (cond u (e ∷ of_rail j (above_rail i es)) (of_rail j (above_rail i es)))) here ∙ ap (λ rows. e.1 ∷ rows) rest
  at true false low here rest = ap (λ (u : Bool). map (λ (x : Entry). x.1) (cond u (e ∷ of_rail j (above_rail i es)) (of_rail j (above_rail i es)))) here ∙ rest
  at false true low here rest = absurd (false≢true (sym low ∙ lt-ltb i e.0.0 (omega (arith, less, eqb-true e.0.0 j here))))
  at false false low here rest = rest

-- handles by rising rails are the rows of the books, rail by rail
pub handles_are : (books : List Book) (i : ℕ) (es : List Entry) → Rises es → All (λ (e : Entry). i ≤ e.0.0) es → All (λ (e : Entry). e.0.0 < i + length books) es
    → ((k : ℕ) → k < length books → (slice_index_or books k no_book).rows ≡ rows_on es (i + k)) → flat_map entries_of (enumerate_from i books) ≡ es
handles_are [] i [] rises low high rows = refl
handles_are [] i (e ∷ es) rises low high rows =
    absurd (omega (arith, All-head (λ (e : Entry). i ≤ e.0.0) e es low, All-head (λ (e : Entry). e.0.0 < i + 0) e es high))
handles_are (book ∷ books) i es rises low high rows =
    let first : map (tagged i) book.rows ≡ of_rail i es =
    ap (map (tagged i)) (rows zero (omega arith) ∙ ap (rows_on es) (omega arith)) ∙ retagged i (of_rail i es) (filter_passes (λ (e : Entry). eqb e.0.0 i) es) in
    let rest : flat_map entries_of (enumerate_from (i + 1) books) ≡ above_rail i es =
    handles_are books (i + 1) (above_rail i es)
    (AllPairs-filter (λ (one two : Entry). one.0.0 ≤ two.0.0) (λ (e : Entry). ltb i e.0.0) es rises)
    (λ k d within. omega (arith, ltb-true i (get_or (above_rail i es) k d).0.0 (filter_passes (λ (e : Entry). ltb i e.0.0) es k d within)))
    (λ k d within. omega (arith, All-filter (λ (e : Entry). ltb i e.0.0) (λ (e : Entry). e.0.0 < i + length (book ∷ books)) es high k d within))
    (λ k within.
    rows (suc k) (omega (arith, within))
    ∙ ap (rows_on es) (omega arith)
    ∙ sym (rows_above i (i + 1 + k) es (omega arith))) in
    ap (λ low. low ++ flat_map entries_of (enumerate_from (i + 1) books)) first
    ∙ ap (λ high. of_rail i es ++ high) rest
    ∙ sym (split i es rises low)
