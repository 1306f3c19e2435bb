-- A close of an open handle, by what is seen of its rail and known of the worker's names.
use Rattle.std.proofs.Common.{◌≡◌, ℕ, ◌+◌, ◌==◌, Bool, true, false, cond, List, [], ◌∷◌, Option, Some, None, inl, inr, refl, sym, ap, ◌∙◌, subst, arith, length, remove, slice_get}
use Rattle.std.specs.Prelude.{Contains, bytes_eq, is_some, nat_lt, option_map, position, if◌then◌else◌}
use Rattle.std.proofs.lemmas.Bool.{cases_eq, eq-eqb}
use Rattle.std.proofs.lemmas.Option.{same_Some}
use Rattle.std.proofs.lemmas.Slice.Eq.{bytes_eq-Decides}
use Rattle.arrayvec.specs.ArrayString.{ArrayString}
use Rattle.board.specs.declared.board.Board.{Board}
use Rattle.board.specs.declared.rail.Rail.{Rail}
use Rattle.board.specs.declared.rail_id.RailId.{RailId}
use Rattle.board.specs.Fields.{field_at}
use Rattle.board.specs.Valid.{IsValid}
use Rattle.rail_state.specs.Sight.{IsGuarded}
use Rattle.rows.specs.declared.answer.Answer.{Answer}
use Rattle.rows.specs.declared.answer.Answer.TheVariants.{NoHandle, Ok, StillEnabled}
use Rattle.rows.specs.declared.call.Call.{Call}
use Rattle.rows.specs.declared.call.Call.TheVariants.{Close}
use Rattle.use_counts.specs.Book.{Book}
use Rattle.use_counts.specs.Uses.{is_row_of, rail_named}
use Rattle.use_counts.specs.declared.handle_row.HandleRow.{HandleRow}
use Rattle.plain_board.specs.declared.plain.Plain.{Plain}
use Rattle.plain_board.specs.Answer.{answer, answered}
use Rattle.plain_board.specs.Handles.{Entry, is_own, open_of, own, rows_on, without_open}
use Rattle.plain_board.specs.Inv.{Inv}
use Rattle.plain_board.specs.Refusals.{Reason, refusal}
use Rattle.plain_board.specs.Seen.{book}
use Rattle.plain_board.specs.Untied.{CountsNoLoads, HoldFields, IsUntied}
use Rattle.plain_board.proofs.KeptClose.{inv_close}
use Rattle.rail_ops.specs.Sight.{Hands, Knows, MayBe, placed, Shows}
use Rattle.rail_ops.specs.Inside.Opening.{IsAnswered}
use Rattle.rail_ops.specs.Inside.Raised.{ChangesBook}
use Rattle.rail_ops.proofs.Found.{Found, found, not_found}
use Rattle.rail_ops.proofs.NewHandle.{closed_count, closed_other, closed_own, rows_without, rows_without_others}
use Rattle.rail_ops.proofs.OneMore.{seen_place}
use Rattle.rail_ops.proofs.OneRow.{at, own_parts, split}
use Rattle.rail_ops.proofs.Reading.{first_reason, for_found, for_missing}

reason_by : (enabled : Bool) (said : Answer) → first_reason ((enabled, said) ∷ []) ≡ cond enabled (Some said) None
reason_by true said = refl
reason_by false said = refl

module _ (first : Hands) (names : List (List ℕ × ℕ)) (worker : ℕ) (handle : ArrayString) (valid : IsValid first.board) (untied : IsUntied first.board) (no_loads : CountsNoLoads first.board)
    (plain : Plain) (may_be : MayBe (placed first names worker) plain) where
  abbrev call : Call
  call = Close handle

  abbrev close_reasons : RailId → Rail → HandleRow → List Reason
  close_reasons id rail row = (nat_lt 0 row.enables, StillEnabled row.enables) ∷ []

  refused : (said : Answer) → refusal first.board plain worker call ≡ Some said → IsAnswered call (placed first names worker) (placed first names worker) said plain
  refused said is =
      let both : answer first.board plain worker call None ≡ (said, plain) = ap (answered first.board plain worker call None) is in
      record { answered = ap (λ (p : Answer × Plain). p.0) both; leaves = subst (MayBe (placed first names worker)) (sym (ap (λ (p : Answer × Plain). p.1) both)) may_be }

  -- the name isn't open
  pub unnamed_close : rail_named names handle.bytes ≡ None → IsAnswered call (placed first names worker) (placed first names worker) NoHandle plain
  unnamed_close none =
      refused NoHandle (ap first_reason (for_missing first.board plain worker handle.bytes ((true, NoHandle) ∷ []) close_reasons (not_found (placed first names worker) plain may_be handle.bytes none)))

  module _ (r : ℕ) (named : rail_named names handle.bytes ≡ Some r) where
    abbrev pub it : Found first.board plain worker handle.bytes r
    it = found (placed first names worker) plain may_be handle.bytes r named

    there : slice_get first.board.rails it.entry.0.0 ≡ Some it.rail
    there = ap (slice_get first.board.rails) it.on ∙ it.there

    refusal_is : refusal first.board plain worker call ≡ cond (nat_lt 0 it.entry.1.enables) (Some (StillEnabled it.entry.1.enables)) None
    refusal_is =
        ap first_reason (for_found first.board plain worker handle.bytes it.entry it.rail it.opened there ((true, NoHandle) ∷ []) close_reasons)
        ∙ reason_by (nat_lt 0 it.entry.1.enables) (StillEnabled it.entry.1.enables)

    -- it has enables
    pub enabled_close : nat_lt 0 it.entry.1.enables ≡ true → IsAnswered call (placed first names worker) (placed first names worker) (StillEnabled it.entry.1.enables) plain
    enabled_close some = refused (StillEnabled it.entry.1.enables) (refusal_is ∙ ap (λ t. cond t (Some (StillEnabled it.entry.1.enables)) None) some)

    module _ (none : nat_lt 0 it.entry.1.enables ≡ false) (held : Contains first.rails r) (place : ℕ) (is_place : position (is_row_of worker handle.bytes) (first.books r).rows ≡ Some place) (after : Hands) (names' : List (List ℕ × ℕ))
        (drops : ChangesBook r (record (first.books r) { rows = remove (first.books r).rows place }) first after)
        (left : (text : List ℕ) → rail_named names' text ≡ (if bytes_eq handle.bytes text then None else rail_named names text))
        (fewer : length names' + (if is_some (rail_named names handle.bytes) then 1 else 0) ≡ length names) where
      free : refusal first.board plain worker call ≡ None
      free = refusal_is ∙ ap (λ t. cond t (Some (StillEnabled it.entry.1.enables)) None) none

      abbrev closed : Plain
      closed = record plain { handles = without_open plain.handles worker handle.bytes }

      done_is : answer first.board plain worker call None ≡ (Ok, closed)
      done_is = ap (answered first.board plain worker call None) free

      spot : at worker handle.bytes plain.handles it.entry may_be.inv.kept.apart it.opened ≡ place
      spot = same_Some _ _ (sym (seen_place first names worker handle valid untied no_loads plain may_be r named held) ∙ is_place)

      seen_book : (i : ℕ) → Contains first.rails i → after.books i ≡ book first.board closed i
      seen_book i has = elim (cases_eq r i) [
        | inl here ↦
            ap after.books (sym here) ∙ drops.own
            ∙ ap (λ (b : Book). record b { rows = remove b.rows place }) (may_be.shows.books r held)
            ∙ ap (λ (rows : List HandleRow). record (book first.board plain r) { rows = rows })
            (ap (λ (k : ℕ). remove (rows_on plain.handles k) place) (sym it.on)
            ∙ ap (λ (k : ℕ). remove (rows_on plain.handles it.entry.0.0) k) (sym spot)
            ∙ sym (rows_without worker handle.bytes plain.handles it.entry may_be.inv.kept.apart it.opened)
            ∙ ap (rows_on (without_open plain.handles worker handle.bytes)) it.on)
            ∙ ap (book first.board closed) here
        | inr away ↦
            drops.others i away ∙ may_be.shows.books i has
            ∙ ap (λ (rows : List HandleRow). record (book first.board plain i) { rows = rows })
            (sym (rows_without_others worker handle.bytes plain.handles it.entry may_be.inv.kept.apart it.opened i (λ on. away (sym it.on ∙ on))))
      ]

      seen_all : Shows after closed
      seen_all = record {
        fields = λ j part field guarded is.
            may_be.shows.fields j part field
            (subst (λ (b : Board). IsGuarded b first.rails j) drops.board (subst (λ (rs : List ℕ). IsGuarded after.board rs j) drops.rails guarded))
            (ap (λ (b : Board). field_at b j part) (sym drops.board) ∙ is)
            ∙ sym (drops.bits j part);
        books = λ i has. seen_book i (subst (λ (rs : List ℕ). Contains rs i) drops.rails has) ∙ ap (λ (b : Board). book b closed i) (sym drops.board);
      }

      mine : (it.entry.1.worker ≡ worker) × (it.entry.1.handle.bytes ≡ handle.bytes)
      mine = own_parts worker handle.bytes it.entry (split worker handle.bytes plain.handles it.entry may_be.inv.kept.apart it.opened).own

      left_by : (text : List ℕ) (t : Bool) → bytes_eq handle.bytes text ≡ t → cond t None (rail_named names text) ≡ own closed worker text
      left_by text true same =
          let is : handle.bytes ≡ text = (bytes_eq-Decides handle.bytes text).0 same in
          sym (ap (option_map (λ (e : Entry). e.0.0)) (ap (open_of closed.handles worker) (sym is) ∙ closed_own worker handle.bytes plain.handles it.entry may_be.inv.kept.apart it.opened))
      left_by text false other =
          let itself : (it.entry.1.worker == worker) ≡ true = eq-eqb it.entry.1.worker worker mine.0 in
          let apart : bytes_eq it.entry.1.handle.bytes text ≡ false = ap (λ (name : List ℕ). bytes_eq name text) mine.1 ∙ other in
          let not_it : is_own worker text it.entry ≡ false = rw (itself, apart) refl in
          may_be.knows.rails text ∙ sym (ap (option_map (λ (e : Entry). e.0.0)) (closed_other worker handle.bytes plain.handles it.entry may_be.inv.kept.apart it.opened worker text not_it))

      knows_all : Knows names' worker closed
      knows_all = record {
        rails = λ text. left text ∙ left_by text (bytes_eq handle.bytes text) refl;
        count =
            let one : ◌≡◌ {A = ℕ} (if is_some (rail_named names handle.bytes) then 1 else 0) 1 = ap (λ (o : Option ℕ). if is_some o then 1 else 0) named in
            let own_one : cond {A = ℕ} (it.entry.1.worker == worker) 1 0 ≡ 1 = ap (λ t. cond {A = ℕ} t 1 0) (eq-eqb it.entry.1.worker worker mine.0) in
            omega (arith, fewer, one, own_one, may_be.knows.count, closed_count worker handle.bytes plain.handles it.entry may_be.inv.kept.apart it.opened worker);
      }

      -- the handle is open no more
      pub left_all : IsAnswered call (placed first names worker) (placed after names' worker) Ok plain
      left_all = record {
        answered = ap (λ (p : Answer × Plain). p.0) done_is;
        leaves = subst (MayBe (placed after names' worker)) (sym (ap (λ (p : Answer × Plain). p.1) done_is)) (record {
          inv = subst (λ (b : Board). Inv b closed) (sym drops.board) (inv_close first.board valid.sound untied no_loads plain may_be.hold may_be.inv worker handle);
          hold = subst (λ (b : Board). HoldFields b closed.regs) (sym drops.board) may_be.hold;
          shows = seen_all;
          knows = knows_all;
        });
      }
