-- Calls that only look: what they are answered of an open handle, and of a name that isn't open.
use Rattle.std.proofs.Common.{◌≡◌, ℕ, ◌<◌, Bool, true, List, [], ◌∷◌, Option, Some, None, refl, sym, ap, subst, ◌∙◌, length, slice_get, eqb}
use Rattle.std.specs.Prelude.{find, option_map}
use Rattle.std.specs.Option.{option_and_then, option_map_or}
use Rattle.arrayvec.specs.ArrayString.{ArrayString}
use Rattle.chip_regs.specs.declared.field.Field.{Field}
use Rattle.chip_regs.specs.Registers.{field_of}
use Rattle.board.specs.declared.board.Board.{Board}
use Rattle.board.specs.declared.part.Part.{Part}
use Rattle.board.specs.declared.part.Part.TheVariants.{Selector, Enable as EnableBit}
use Rattle.board.specs.declared.rail.Rail.{Rail}
use Rattle.board.specs.declared.rail_id.RailId.{RailId}
use Rattle.board.specs.Fields.{field_at}
use Rattle.board.specs.Rail.{uv, is_on, told_uv, part_field}
use Rattle.rows.specs.declared.answer.Answer.{Answer}
use Rattle.rows.specs.declared.answer.Answer.TheVariants.{OkUv, OkOn, NoHandle}
use Rattle.rows.specs.declared.call.Call.{Call}
use Rattle.rows.specs.declared.call.Call.TheVariants.{Get, IsOn}
use Rattle.use_counts.specs.declared.handle_row.HandleRow.{HandleRow}
use Rattle.use_counts.specs.Uses.{rail_named}
use Rattle.rail_state.specs.Sight.{IsGuarded}
use Rattle.plain_board.specs.declared.plain.Plain.{Plain}
use Rattle.plain_board.specs.Handles.{Entry, open_of, for_open, on_rail}
use Rattle.plain_board.specs.Refusals.{Reason}
use Rattle.plain_board.specs.Answer.{answer, answered}
use Rattle.rail_ops.specs.Sight.{Place, MayBe}
use Rattle.rail_ops.proofs.Found.{element, found, not_found}
use Rattle.rail_ops.specs.Inside.Seen.{uv_told, told_at}

module _ (board : Board) (plain : Plain) (worker : ℕ) (name : List ℕ) where
  module _ (entry : Entry) (rail : Rail) (opened : open_of plain.handles worker name ≡ Some entry) (at : slice_get board.rails entry.0.0 ≡ Some rail) where
    -- what is said of an open handle and its rail
    pub for_found : {A : Type 0} (none : A) (said : RailId → Rail → HandleRow → A) → for_open none said board (open_of plain.handles worker name) ≡ said entry.0 rail entry.1
    for_found none said = ap (for_open none said board) opened ∙ ap (on_rail none said entry) at

  -- what is said where there is none
  pub for_missing : {A : Type 0} (none : A) (said : RailId → Rail → HandleRow → A) → open_of plain.handles worker name ≡ None → for_open none said board (open_of plain.handles worker name) ≡ none
  for_missing none said missing = ap (for_open none said board) missing

-- the first of these reasons that holds
abbrev pub first_reason : List Reason → Option Answer
first_reason reasons = option_map (λ (reason : Reason). reason.1) (find (λ (reason : Reason). reason.0) reasons)

module _ (board : Board) (plain : Plain) (worker : ℕ) (handle : ArrayString) where
  module _ (missing : open_of plain.handles worker handle.bytes ≡ None) where
    pub get_missing : answer board plain worker (Get handle) None ≡ (NoHandle, plain)
    get_missing = ap (answered board plain worker (Get handle) None) (ap first_reason (for_missing board plain worker handle.bytes ((true, NoHandle) ∷ []) (λ id rail row. []) missing))

    pub is_on_missing : answer board plain worker (IsOn handle) None ≡ (NoHandle, plain)
    is_on_missing = ap (answered board plain worker (IsOn handle) None) (ap first_reason (for_missing board plain worker handle.bytes ((true, NoHandle) ∷ []) (λ id rail row. []) missing))

  module _ (entry : Entry) (rail : Rail) (opened : open_of plain.handles worker handle.bytes ≡ Some entry) (at : slice_get board.rails entry.0.0 ≡ Some rail) where
    free : first_reason (for_open ((true, NoHandle) ∷ []) (λ id rail row. []) board (open_of plain.handles worker handle.bytes)) ≡ None
    free = ap first_reason (for_found board plain worker handle.bytes entry rail opened at ((true, NoHandle) ∷ []) (λ id rail row. []))

    pub get_found : answer board plain worker (Get handle) None ≡ (OkUv (uv rail plain.regs), plain)
    get_found =
        ap (answered board plain worker (Get handle) None) free
        ∙ ap (λ (said : Answer). (said, plain)) (for_found board plain worker handle.bytes entry rail opened at NoHandle (λ id rail row. OkUv (uv rail plain.regs)))

    pub is_on_found : answer board plain worker (IsOn handle) None ≡ (OkOn (is_on rail plain.regs), plain)
    is_on_found =
        ap (answered board plain worker (IsOn handle) None) free
        ∙ ap (λ (said : Answer). (said, plain)) (for_found board plain worker handle.bytes entry rail opened at NoHandle (λ id rail row. OkOn (is_on rail plain.regs)))

-- the field of a part of a rail that there is
field_there : (board : Board) (r : ℕ) (rail : Rail) (part : Part) → slice_get board.rails r ≡ Some rail → field_at board r part ≡ part_field part rail
field_there board r rail part at = ap (λ o. option_and_then (part_field part) o) at

-- each rail has an enable field
pub enable_there : (board : Board) (r : ℕ) → r < length board.rails → (field : Field) × (field_at board r EnableBit ≡ Some field)
enable_there board r inside = let there = element board.rails r inside in (there.0.desc.enable, field_there board r there.0 EnableBit there.1)

module _ (place : Place) (plain : Plain) (may_be : MayBe place plain) (r : ℕ) (rail : Rail) (at : slice_get place.hands.board.rails r ≡ Some rail) (guarded : IsGuarded place.hands.board place.hands.rails r) where
  seen : (part : Part) (field : Field) → part_field part rail ≡ Some field → field_of plain.regs field ≡ place.hands.bits r part
  seen part field is = may_be.shows.fields r part field guarded (field_there place.hands.board r rail part at ∙ is)

  told : (o : Option Field) → rail.desc.selector ≡ o → told_uv rail plain.regs o ≡ uv_told rail (place.hands.bits r Selector) o
  told None is = refl
  told (Some field) is = ap (λ n. uv_told rail n (Some field)) (seen Selector field is)

  -- the number that is seen in the selector field tells where the rail stands
  pub uv_seen : told_at place.hands.board r (place.hands.bits r Selector) ≡ uv rail plain.regs
  uv_seen = ap (λ o. option_map_or (λ (a : Rail). uv_told a (place.hands.bits r Selector) a.desc.selector) o 0) at ∙ sym (told rail.desc.selector refl)

  -- the number that is seen in the enable field tells whether it is on
  pub on_seen : eqb (place.hands.bits r EnableBit) 1 ≡ is_on rail plain.regs
  on_seen = ap (λ n. eqb n 1) (sym (seen EnableBit rail.desc.enable refl))

-- the answer to a `get` and to an `ison`, by what is seen under the name
module _ (place : Place) (plain : Plain) (may_be : MayBe place plain) (board : Board) (same : place.hands.board ≡ board) (handle : ArrayString) where
  abbrev here : Board → Answer → Call → Type 0
  here b said call = answer b plain place.worker call None ≡ (said, plain)

  pub get_unnamed : rail_named place.names handle.bytes ≡ None → here board NoHandle (Get handle)
  get_unnamed none = get_missing board plain place.worker handle (not_found place plain may_be handle.bytes none)

  pub is_on_unnamed : rail_named place.names handle.bytes ≡ None → here board NoHandle (IsOn handle)
  is_on_unnamed none = is_on_missing board plain place.worker handle (not_found place plain may_be handle.bytes none)

  module _ (r : ℕ) (named : rail_named place.names handle.bytes ≡ Some r) (guarded : IsGuarded place.hands.board place.hands.rails r) where
    entry_at : slice_get place.hands.board.rails (found place plain may_be handle.bytes r named).entry.0.0 ≡ Some (found place plain may_be handle.bytes r named).rail
    entry_at = let it = found place plain may_be handle.bytes r named in subst (λ (i : ℕ). slice_get place.hands.board.rails i ≡ Some it.rail) (sym it.on) it.there

    pub get_named : here board (OkUv (told_at board r (place.hands.bits r Selector))) (Get handle)
    get_named =
        let it = found place plain may_be handle.bytes r named in
        subst (λ (b : Board). here b (OkUv (told_at b r (place.hands.bits r Selector))) (Get handle)) same
        (get_found place.hands.board plain place.worker handle it.entry it.rail it.opened entry_at
        ∙ ap (λ (u : ℕ). (OkUv u, plain)) (sym (uv_seen place plain may_be r it.rail it.there guarded)))

    pub is_on_named : here board (OkOn (eqb (place.hands.bits r EnableBit) 1)) (IsOn handle)
    is_on_named =
        let it = found place plain may_be handle.bytes r named in
        subst (λ (b : Board). here b (OkOn (eqb (place.hands.bits r EnableBit) 1)) (IsOn handle)) same
        (is_on_found place.hands.board plain place.worker handle it.entry it.rail it.opened entry_at
        ∙ ap (λ (on : Bool). (OkOn on, plain)) (sym (on_seen place plain may_be r it.rail it.there guarded)))
