-- An open of a handle, by what is seen of its rail and known of the worker's names.
use Rattle.std.proofs.Common.{◌≡◌, ℕ, ◌+◌, ◌<◌, ◌≤◌, ◌==◌, Bool, true, false, cond, List, [], ◌∷◌, ◌++◌, Option, Some, None, inl, inr, refl, sym, ap, ◌∙◌, subst, arith, map, filter, find, get_or, length, take, All}
use Rattle.std.specs.Prelude.{Contains, bytes_eq, is_some, nat_le, option_map, if◌then◌else◌}
use Rattle.std.specs.Option.{option_or}
use Rattle.std.proofs.lemmas.Bool.{cases_eq, eq-eqb, eqb-true, and_parts, false_from_ne_true}
use Rattle.std.proofs.lemmas.List.{length-map, take_all}
use Rattle.std.proofs.lemmas.List.Elements.{All-cons, All-head, All-nil, All-tail}
use Rattle.std.proofs.lemmas.List.Sums.{sum_by-cons}
use Rattle.std.proofs.lemmas.Slice.Eq.{bytes_eq-Decides}
use Rattle.arrayvec.specs.ArrayString.{ArrayString}
use Rattle.board.specs.declared.board.Board.{Board}
use Rattle.board.specs.declared.rail_id.RailId.{RailId}
use Rattle.board.specs.Fields.{field_at}
use Rattle.rail_state.specs.Sight.{IsGuarded}
use Rattle.rows.specs.declared.answer.Answer.{Answer}
use Rattle.rows.specs.declared.answer.Answer.TheVariants.{HandleOpen, HandlesFull, Ok, Taken}
use Rattle.rows.specs.declared.call.Call.{Call}
use Rattle.rows.specs.declared.call.Call.TheVariants.{Open}
use Rattle.use_counts.specs.Book.{Book}
use Rattle.use_counts.specs.Uses.{is_row_of, rail_named}
use Rattle.use_counts.specs.declared.handle_row.HandleRow.{HandleRow}
use Rattle.plain_board.specs.declared.plain.Plain.{Plain}
use Rattle.plain_board.specs.Answer.{answer, answered, new_row}
use Rattle.plain_board.specs.Handles.{Entry, count_own, is_own, open_of, own, rows_on, with_open}
use Rattle.plain_board.specs.History.{is_fault}
use Rattle.plain_board.specs.Inv.{Inv}
use Rattle.plain_board.specs.Refusals.{excludes, most_handles, refusal}
use Rattle.plain_board.specs.Seen.{book, needs}
use Rattle.plain_board.specs.Untied.{HoldFields}
use Rattle.plain_board.proofs.KeptOpen.{inv_open}
use Rattle.rail_ops.specs.Sight.{Hands, IsReady, Knows, MayBe, placed, Shows}
use Rattle.rail_ops.specs.Inside.Opening.{IsAnswered, own_refusal, rail_refusal}
use Rattle.rail_ops.specs.Inside.Raised.{ChangesBook}
use Rattle.rail_ops.proofs.AloneFew.{few_first}
use Rattle.rail_ops.proofs.CameUp.{some_mapped}
use Rattle.rail_ops.proofs.Found.{not_found}
use Rattle.rail_ops.proofs.NewHandle.{opened_count, opened_other, opened_own, rows_new, rows_others}
use Rattle.rail_ops.proofs.OneRow.{rows_none}
use Rattle.rail_ops.proofs.Reading.{first_reason}

-- the first of three reasons that holds
first_of_three : (named full alone : Bool) (said : Answer)
    → first_reason ((named, HandleOpen) ∷ (full, HandlesFull most_handles) ∷ (alone, said) ∷ [])
    ≡ option_or (cond named (Some HandleOpen) (cond full (Some (HandlesFull most_handles)) None)) (cond alone (Some said) None)
first_of_three true full alone said = refl
first_of_three false true alone said = refl
first_of_three false false true said = refl
first_of_three false false false said = refl

-- none is found, so none passes
none_found : (p : Entry → Bool) (entries : List Entry) → find p entries ≡ None → All (λ entry. p entry ≡ false) entries
none_found p [] is = All-nil (λ entry. p entry ≡ false)
none_found p (x ∷ rest) is = by (p x) refl is (none_found p rest) where
  by : (t : Bool) → p x ≡ t → cond t (Some x) (find p rest) ≡ None → (find p rest ≡ None → All (λ entry. p entry ≡ false) rest) → All (λ entry. p entry ≡ false) (x ∷ rest)
  by true passes is further = absurd (cc)
  by false fails is further = All-cons (λ entry. p entry ≡ false) x rest fails (further is)

-- rows of two handles are of one worker and name whichever comes first
same_owner : (one other : HandleRow) → is_row_of one.worker one.handle.bytes other ≡ true → is_row_of other.worker other.handle.bytes one ≡ true
same_owner one other is =
    let both = and_parts _ _ is in
    let workers : (one.worker == other.worker) ≡ true = eq-eqb _ _ (sym (eqb-true other.worker one.worker both.0)) in
    let names : bytes_eq one.handle.bytes other.handle.bytes ≡ true = (bytes_eq-Decides one.handle.bytes other.handle.bytes).1 (sym ((bytes_eq-Decides other.handle.bytes one.handle.bytes).0 both.1)) in
    rw (workers, names) refl

no_owner : (one other : HandleRow) → is_row_of one.worker one.handle.bytes other ≡ false → is_row_of other.worker other.handle.bytes one ≡ false
no_owner one other none = false_from_ne_true _ (λ is. absurd (cc (none, same_owner other one is)))

-- the refusals of the worker's own names
unnamed_by : (o : Option ℕ) (rest : Option Answer) → cond (is_some o) (Some HandleOpen) rest ≡ None → o ≡ None
unnamed_by None rest is = refl
unnamed_by (Some r) rest is = absurd (cc)

not_full_by : (named full : Bool) → cond named (Some HandleOpen) (cond full (Some (HandlesFull most_handles)) None) ≡ None → full ≡ false
not_full_by true full is = absurd (cc)
not_full_by false true is = absurd (cc)
not_full_by false false is = refl

-- they are no faults
pub own_calm : (named full : Bool) (said : Answer) → cond named (Some HandleOpen) (cond full (Some (HandlesFull most_handles)) None) ≡ Some said → is_fault said ≡ false
own_calm true full said is = subst (λ o. option_map is_fault o ≡ Some false → is_fault said ≡ false) (sym is) (λ same. cc same) refl
own_calm false true said is = subst (λ o. option_map is_fault o ≡ Some false → is_fault said ≡ false) (sym is) (λ same. cc same) refl
own_calm false false said is = absurd (cc)

pub rail_calm : (exclusive : Bool) (rows : List HandleRow) (said : Answer) → rail_refusal exclusive rows ≡ Some said → is_fault said ≡ false
rail_calm exclusive rows said is = by (excludes exclusive rows).0 is where
  by : (t : Bool) → cond t (Some (Taken (length rows))) None ≡ Some said → is_fault said ≡ false
  by true one = subst (λ o. option_map is_fault o ≡ Some false → is_fault said ≡ false) (sym one) (λ same. cc same) refl
  by false none = absurd (cc)

-- how many handles a rail has, where its workers' numbers have 16 bits
own_on : (i w : ℕ) (handles : List Entry) → count_own (filter (λ (e : Entry). e.0.0 == i) handles) w ≤ count_own handles w
own_on i w [] = omega arith
own_on i w (x ∷ rest) = by (x.0.0 == i) (own_on i w rest) where
  by : (t : Bool) → count_own (filter (λ (e : Entry). e.0.0 == i) rest) w ≤ count_own rest w
      → count_own (cond t (x ∷ filter (λ (e : Entry). e.0.0 == i) rest) (filter (λ (e : Entry). e.0.0 == i) rest)) w ≤ count_own (x ∷ rest) w
  by true less = omega (arith, less, sum_by-cons (λ (e : Entry). cond (e.1.worker == w) 1 0) x (filter (λ (e : Entry). e.0.0 == i) rest), sum_by-cons (λ (e : Entry). cond (e.1.worker == w) 1 0) x rest)
  by false less = omega (arith, less, sum_by-cons (λ (e : Entry). cond (e.1.worker == w) 1 0) x rest)

of_rows : (entries : List Entry) → All (λ row. row.worker < 65536) (map (λ (e : Entry). e.1) entries) → All (λ (e : Entry). e.1.worker < 65536) entries
of_rows [] all = All-nil (λ (e : Entry). e.1.worker < 65536)
of_rows (x ∷ rest) all =
    All-cons (λ (e : Entry). e.1.worker < 65536) x rest (All-head (λ row. row.worker < 65536) x.1 (map (λ (e : Entry). e.1) rest) all)
    (of_rows rest (All-tail (λ row. row.worker < 65536) x.1 (map (λ (e : Entry). e.1) rest) all))

few_rows : (handles : List Entry) (i : ℕ) → ((w : ℕ) → count_own handles w ≤ most_handles) → All (λ row. row.worker < 65536) (rows_on handles i) → length (rows_on handles i) < 4294967295
few_rows handles i few numbers =
    let chosen = filter (λ (e : Entry). e.0.0 == i) handles in
    let whole : take (length chosen) chosen ≡ chosen = take_all (length chosen) chosen (omega arith) in
    let count = few_first chosen (length chosen) (λ w. omega (arith, few w, own_on i w handles)) (omega arith) (subst (All (λ (e : Entry). e.1.worker < 65536)) (sym whole) (of_rows chosen numbers)) in
    let same : length (rows_on handles i) ≡ length chosen = length-map chosen (λ (e : Entry). e.1) in
    omega (arith, count, same)

module _ (first : Hands) (names : List (List ℕ × ℕ)) (worker : ℕ) (handle : ArrayString) (rail : RailId) (exclusive : Bool) where
  abbrev call : Call
  call = Open handle rail exclusive

  abbrev row : HandleRow
  row = new_row worker handle exclusive

  abbrev entry : Entry
  entry = (rail, row)

  module _ (plain : Plain) (may_be : MayBe (placed first names worker) plain) where
    is_open : is_some (open_of plain.handles worker handle.bytes) ≡ is_some (rail_named names handle.bytes)
    is_open = sym (some_mapped (λ (e : Entry). e.0.0) (open_of plain.handles worker handle.bytes)) ∙ ap (λ (o : Option ℕ). is_some o) (sym (may_be.knows.rails handle.bytes))

    refusal_is : refusal first.board plain worker call ≡ option_or (own_refusal names handle.bytes) (rail_refusal exclusive (rows_on plain.handles rail.0))
    refusal_is =
        first_of_three (is_some (open_of plain.handles worker handle.bytes)) (nat_le most_handles (count_own plain.handles worker)) (excludes exclusive (rows_on plain.handles rail.0)).0 (excludes exclusive (rows_on plain.handles rail.0)).1
        ∙ ap (λ t. option_or (cond t (Some HandleOpen) (cond (nat_le most_handles (count_own plain.handles worker)) (Some (HandlesFull most_handles)) None)) (rail_refusal exclusive (rows_on plain.handles rail.0))) is_open
        ∙ ap (λ n. option_or (cond (is_some (rail_named names handle.bytes)) (Some HandleOpen) (cond (nat_le most_handles n) (Some (HandlesFull most_handles)) None)) (rail_refusal exclusive (rows_on plain.handles rail.0))) (sym may_be.knows.count)

    refused : (said : Answer) → refusal first.board plain worker call ≡ Some said → IsAnswered call (placed first names worker) (placed first names worker) said plain
    refused said is =
        let both : answer first.board plain worker call None ≡ (said, plain) = ap (answered first.board plain worker call None) is in
        record { answered = ap (λ (p : Answer × Plain). p.0) both; leaves = subst (MayBe (placed first names worker)) (sym (ap (λ (p : Answer × Plain). p.1) both)) may_be }

    -- the worker has the name open, or too many names
    pub own_refused : (said : Answer) → own_refusal names handle.bytes ≡ Some said → IsAnswered call (placed first names worker) (placed first names worker) said plain
    own_refused said is = refused said (refusal_is ∙ ap (λ o. option_or o (rail_refusal exclusive (rows_on plain.handles rail.0))) is)

    module _ (own_free : own_refusal names handle.bytes ≡ None) where
      pub unnamed : rail_named names handle.bytes ≡ None
      unnamed = unnamed_by (rail_named names handle.bytes) _ own_free

      missing : open_of plain.handles worker handle.bytes ≡ None
      missing = not_found (placed first names worker) plain may_be handle.bytes unnamed

      needs_is : needs first.board plain worker call ≡ rail.0 ∷ []
      needs_is =
          let none : is_some (own plain worker handle.bytes) ≡ false = ap (λ (o : Option ℕ). is_some o) (sym (may_be.knows.rails handle.bytes) ∙ unnamed) in
          let room : nat_le most_handles (count_own plain.handles worker) ≡ false = ap (nat_le most_handles) (sym may_be.knows.count) ∙ not_full_by (is_some (rail_named names handle.bytes)) (nat_le most_handles (length names)) own_free in
          rw (none, room) refl

      rows_seen : Contains first.rails rail.0 → (first.books rail.0).rows ≡ rows_on plain.handles rail.0
      rows_seen held = ap (λ (b : Book). b.rows) (may_be.shows.books rail.0 held)

      module _ (held : Contains first.rails rail.0) where
        pub few : All (λ row. row.worker < 65536) (first.books rail.0).rows → length (first.books rail.0).rows < 4294967295
        few numbers =
            let there = rows_seen held in
            subst (λ (rows : List HandleRow). length rows < 4294967295) (sym there) (few_rows plain.handles rail.0 may_be.inv.kept.few (subst (All (λ row. row.worker < 65536)) there numbers))

        -- no handle of the rail is the worker's of this name
        pub none_same : All (λ other. is_row_of other.worker other.handle.bytes row ≡ false) (first.books rail.0).rows
        none_same =
            let none = rows_none worker handle.bytes plain.handles rail.0 (none_found (is_own worker handle.bytes) plain.handles missing) in
            let here : All (λ other. is_row_of worker handle.bytes other ≡ false) (first.books rail.0).rows = subst (All (λ other. is_row_of worker handle.bytes other ≡ false)) (sym (rows_seen held)) none in
            λ k d within. no_owner row (get_or (first.books rail.0).rows k d) (here k d within)

        both_refusals : refusal first.board plain worker call ≡ rail_refusal exclusive (first.books rail.0).rows
        both_refusals =
            refusal_is ∙ ap (λ o. option_or o (rail_refusal exclusive (rows_on plain.handles rail.0))) own_free ∙ ap (rail_refusal exclusive) (sym (rows_seen held))

        -- the rail is taken
        pub rail_refused : (said : Answer) → rail_refusal exclusive (first.books rail.0).rows ≡ Some said → IsAnswered call (placed first names worker) (placed first names worker) said plain
        rail_refused said is = refused said (both_refusals ∙ is)

        module _ (rail_free : rail_refusal exclusive (first.books rail.0).rows ≡ None) (there : rail.0 < length first.board.rails) (after : Hands) (names' : List (List ℕ × ℕ))
            (adds : ChangesBook rail.0 (record (first.books rail.0) { rows = (first.books rail.0).rows ++ row ∷ [] }) first after)
            (named : (text : List ℕ) → rail_named names' text ≡ (if bytes_eq handle.bytes text then Some rail.0 else rail_named names text)) (more : length names' ≡ length names + 1) where
          free : refusal first.board plain worker call ≡ None
          free = both_refusals ∙ rail_free

          abbrev opened : Plain
          opened = record plain { handles = with_open plain.handles entry }

          done_is : answer first.board plain worker call None ≡ (Ok, opened)
          done_is = ap (answered first.board plain worker call None) free

          seen_book : (i : ℕ) → Contains first.rails i → after.books i ≡ book first.board opened i
          seen_book i has = elim (cases_eq rail.0 i) [
            | inl here ↦
                ap after.books (sym here) ∙ adds.own
                ∙ ap (λ (b : Book). record b { rows = b.rows ++ row ∷ [] }) (may_be.shows.books rail.0 held)
                ∙ ap (λ (rows : List HandleRow). record (book first.board plain rail.0) { rows = rows }) (sym (rows_new plain.handles may_be.inv.kept.apart entry))
                ∙ ap (book first.board opened) here
            | inr away ↦
                adds.others i away ∙ may_be.shows.books i has
                ∙ ap (λ (rows : List HandleRow). record (book first.board plain i) { rows = rows }) (sym (rows_others plain.handles may_be.inv.kept.apart entry i away))
          ]

          seen_all : Shows after opened
          seen_all = record {
            fields = λ j part field guarded is.
                may_be.shows.fields j part field
                (subst (λ (b : Board). IsGuarded b first.rails j) adds.board (subst (λ (rs : List ℕ). IsGuarded after.board rs j) adds.rails guarded))
                (ap (λ (b : Board). field_at b j part) (sym adds.board) ∙ is)
                ∙ sym (adds.bits j part);
            books = λ i has. seen_book i (subst (λ (rs : List ℕ). Contains rs i) adds.rails has) ∙ ap (λ (b : Board). book b opened i) (sym adds.board);
          }

          itself : (worker == worker) ≡ true
          itself = eq-eqb worker worker refl

          named_by : (text : List ℕ) (t : Bool) → bytes_eq handle.bytes text ≡ t → cond t (Some rail.0) (rail_named names text) ≡ own opened worker text
          named_by text true same =
              let is : handle.bytes ≡ text = (bytes_eq-Decides handle.bytes text).0 same in
              let mine : is_own worker text entry ≡ true = rw (itself, same) refl in
              sym (ap (option_map (λ (e : Entry). e.0.0)) (opened_own plain.handles may_be.inv.kept.apart entry worker text (ap (open_of plain.handles worker) (sym is) ∙ missing) mine))
          named_by text false other =
              let not_mine : is_own worker text entry ≡ false = rw (itself, other) refl in
              may_be.knows.rails text ∙ sym (ap (option_map (λ (e : Entry). e.0.0)) (opened_other plain.handles may_be.inv.kept.apart entry worker text not_mine))

          knows_all : Knows names' worker opened
          knows_all = record {
            rails = λ text. named text ∙ named_by text (bytes_eq handle.bytes text) refl;
            count =
                let one : cond {A = ℕ} (worker == worker) 1 0 ≡ 1 = rw itself refl in
                omega (arith, more, may_be.knows.count, opened_count plain.handles may_be.inv.kept.apart entry worker, one);
          }

          -- the handle is open
          pub entered : IsAnswered call (placed first names worker) (placed after names' worker) Ok plain
          entered = record {
            answered = ap (λ (p : Answer × Plain). p.0) done_is;
            leaves = subst (MayBe (placed after names' worker)) (sym (ap (λ (p : Answer × Plain). p.1) done_is)) (record {
              inv = subst (λ (b : Board). Inv b opened) (sym adds.board) (inv_open first.board plain may_be.inv worker handle rail exclusive there free);
              hold = subst (λ (b : Board). HoldFields b opened.regs) (sym adds.board) may_be.hold;
              shows = seen_all;
              knows = knows_all;
            });
          }

  -- a worker that is ready for it and isn't refused for its names holds the rail
  pub rail_held : (ready : IsReady (placed first names worker) call) → own_refusal names handle.bytes ≡ None → Contains first.rails rail.0
  rail_held ready own_free = ready.held rail.0 (subst (λ (rs : List ℕ). Contains rs rail.0) (sym (needs_is ready.plain ready.may_be own_free)) (0, omega arith, refl))
