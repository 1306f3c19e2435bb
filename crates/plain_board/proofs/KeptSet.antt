-- A set keeps what holds of a plain board, whether it is done or stopped on its way.
use Rattle.std.proofs.Common.{◌≡◌, ℕ, ◌≤◌, true, false, List, Option, Some, None, inl, inr, refl, sym, ap, ◌∙◌, subst, arith, get_or, sum_by, slice_get, All, AllPairs}
use Rattle.std.specs.Prelude.{IfSome}
use Rattle.std.proofs.lemmas.Bool.{cases_eq, and_parts, and_from, leb-true, le-leb}
use Rattle.std.proofs.lemmas.List.Elements.{All-weaker}
use Rattle.std.proofs.lemmas.Option.{same_Some}
use Rattle.arrayvec.specs.ArrayString.{ArrayString}
use Rattle.board.specs.declared.board.Board.{Board}
use Rattle.board.specs.declared.rail.Rail.{Rail}
use Rattle.board.specs.Rail.{uv}
use Rattle.board.specs.Valid.{IsSoundBoard}
use Rattle.use_counts.specs.declared.handle_row.HandleRow.{HandleRow}
use Rattle.use_counts.specs.Counts.{drawn}
use Rattle.plain_board.specs.declared.plain.Plain.{Plain}
use Rattle.plain_board.specs.Handles.{Entry, is_own, rows_on, with_row, count_own}
use Rattle.plain_board.specs.Answer.{with_changed, with_request}
use Rattle.plain_board.specs.Inv.{Inv, IsSoundEntry, StandApart, ShareFairly}
use Rattle.plain_board.specs.Requests.{meets, requests_on}
use Rattle.plain_board.specs.Untied.{IsUntied}
use Rattle.plain_board.proofs.ChangedRequest.{sum_by-asks_anew, count_own-asks_anew, apart-asks_anew, alone-asks_anew, opens-asks_anew, asks-asks_anew, asks_without}
use Rattle.plain_board.proofs.Grown.{HasGrown}
use Rattle.plain_board.proofs.KeptUse.{HasSameUse, HasSoundHandles, inv_by_use}
use Rattle.plain_board.proofs.MovedAlone.{IsMovedAlone, other_stands, is_on_kept, mode_kept, still_lawful}
use Rattle.plain_board.proofs.OwnHandle.{own_stands_on}
use Rattle.plain_board.proofs.RailMoves.{StandsBetween}
use Rattle.plain_board.proofs.Requests.{AsksOn, to_requests, from_requests}
use Rattle.plain_board.proofs.SetMoves.{IsSetTo}
use Rattle.plain_board.proofs.ValuesTo.{IsBetween}
use Rattle.plain_board.specs.Refusals.{most_handles}

-- what is met at two values is met between them
meets_between : (request : ℕ × ℕ) (u goal v : ℕ) → IsBetween u goal v → meets u request ≡ true → meets goal request ≡ true → meets v request ≡ true
meets_between request u goal v between first last =
    let one = and_parts _ _ first in
    let other = and_parts _ _ last in
    let low = leb-true request.0 u one.0 in
    let high = leb-true u request.1 one.1 in
    let low_too = leb-true request.0 goal other.0 in
    let high_too = leb-true goal request.1 other.1 in
    elim between [
      | inl up ↦ and_from _ _ (le-leb request.0 v (omega (arith, up.0))) (le-leb v request.1 (omega (arith, up.1)))
      | inr down ↦ and_from _ _ (le-leb request.0 v (omega (arith, down.0))) (le-leb v request.1 (omega (arith, down.1)))
    ]

met_between : (request : Option (ℕ × ℕ)) (u goal v : ℕ) → IsBetween u goal v → IfSome request (λ asked. meets u asked ≡ true) → IfSome request (λ asked. meets goal asked ≡ true)
    → IfSome request (λ asked. meets v asked ≡ true)
met_between None u goal v between first last = tt
met_between (Some asked) u goal v between first last = meets_between asked u goal v between first last

-- a cursor isn't beyond more events
pub cursor_within : (cursor : Option ℕ) (m n : ℕ) → m ≤ n → IfSome cursor (λ c. c ≤ m) → IfSome cursor (λ c. c ≤ n)
cursor_within None m n more is = tt
cursor_within (Some c) m n more is = omega (arith, is)

module _ (board : Board) (sound : IsSoundBoard board) (untied : IsUntied board) (plain : Plain) (inv : Inv board plain) (worker : ℕ) (handle : ArrayString) (lo hi : ℕ) (set : IsSetTo board plain worker handle lo hi) where
  abbrev r : ℕ
  r = set.on.entry.0.0

  abbrev rail : Rail
  rail = set.on.rail

  module _ (now : Plain) (regs : List (List ℕ)) (grown : HasGrown plain now regs plain.handles) (stands : StandsBetween board r rail plain.regs set.goal regs) (q : Option (ℕ × ℕ)) (met : IfSome q (λ request. meets stands.at request ≡ true)) where
    abbrev name : List ℕ
    name = handle.bytes

    abbrev new : Plain
    new = with_changed now worker handle (with_request q)

    abbrev anew : List Entry
    anew = with_row plain.handles worker name (with_request q)

    moved : IsMovedAlone board r rail plain.regs stands.at now.regs
    moved = subst (IsMovedAlone board r rail plain.regs stands.at) (sym grown.regs_are) stands.moved

    handles_are : new.handles ≡ anew
    handles_are = ap (λ handles. with_row handles worker name (with_request q)) grown.handles_are

    sums_kept : (of_row : HandleRow → ℕ) → ((row : HandleRow) → of_row (with_request q row) ≡ of_row row) → (i : ℕ) → sum_by of_row (rows_on new.handles i) ≡ sum_by of_row (rows_on plain.handles i)
    sums_kept of_row keeps i = ap (λ handles. sum_by of_row (rows_on handles i)) handles_are ∙ sum_by-asks_anew worker name q of_row keeps i plain.handles

    same_use : HasSameUse board plain new
    same_use = record {
      on = is_on_kept board sound r rail set.on.there plain.regs now.regs stands.at moved;
      modes = mode_kept board sound r rail set.on.there plain.regs now.regs stands.at moved;
      chips = moved.chips;
      enabled = sums_kept (λ row. row.enables) (λ row. refl);
      draws = sums_kept drawn (λ row. refl);
      holds = grown.holds;
      events = grown.rails;
    }

    sound_entry : (entry : Entry) → IsSoundEntry board plain entry → IsSoundEntry board new entry
    sound_entry entry is = record {
      rail = is.rail;
      enables = is.enables;
      cursor = cursor_within entry.1.cursor _ _ (grown.events entry.0.0) is.cursor;
    }

    sound_own : (entry : Entry) → IsSoundEntry board plain entry → IsSoundEntry board new (entry.0, with_request q entry.1)
    sound_own entry is = record {
      rail = is.rail;
      enables = is.enables;
      cursor = cursor_within entry.1.cursor _ _ (grown.events entry.0.0) is.cursor;
    }

    sound_handles : HasSoundHandles board new
    sound_handles = record {
      opens = subst (All (IsSoundEntry board new)) (sym handles_are)
          (opens-asks_anew worker name q (IsSoundEntry board plain) (IsSoundEntry board new) plain.handles sound_entry sound_own inv.kept.opens);
      apart = subst (AllPairs StandApart) (sym handles_are) (apart-asks_anew worker name q plain.handles inv.kept.apart);
      few = λ w. subst (λ handles. count_own handles w ≤ most_handles) (sym handles_are)
          (omega (arith, count_own-asks_anew worker name q plain.handles w, inv.kept.few w));
      alone = subst (AllPairs ShareFairly) (sym handles_are) (alone-asks_anew worker name q plain.handles inv.kept.alone);
    }

    -- what is met at a value on a rail
    abbrev MetAt : ℕ → ℕ × ℕ → Type 0
    MetAt v request = meets v request ≡ true

    -- what the other handles ask of the rail is met where it stands
    others_met : All (λ entry. is_own worker name entry ≡ false → AsksOn (MetAt stands.at) r entry) plain.handles
    others_met =
        let first = from_requests (MetAt (uv rail plain.regs)) r plain.handles (inv.requests r rail set.on.there) in
        let last = asks_without (MetAt set.goal) r worker name plain.handles (from_requests (MetAt set.goal) r _ set.others) in
        λ k d within other here.
        met_between ((get_or plain.handles k d).1.request) (uv rail plain.regs) set.goal stands.at stands.between (first k d within here) (last k d within other here)

    asks_on_own : All (AsksOn (MetAt stands.at) r) anew
    asks_on_own =
        asks-asks_anew worker name q (MetAt stands.at) r r plain.handles (own_stands_on worker name plain.handles set.on.entry inv.kept.apart set.on.is_open) (λ same. met) others_met

    asks_on_other : (i : ℕ) (a : Rail) → slice_get board.rails i ≡ Some a → (r ≡ i → ⊥) → All (AsksOn (MetAt (uv a plain.regs)) i) anew
    asks_on_other i a at apart =
        asks-asks_anew worker name q (MetAt (uv a plain.regs)) i r plain.handles (own_stands_on worker name plain.handles set.on.entry inv.kept.apart set.on.is_open)
        (λ same. absurd (apart (sym same)))
        (All-weaker (AsksOn (MetAt (uv a plain.regs)) i) (λ entry. is_own worker name entry ≡ false → AsksOn (MetAt (uv a plain.regs)) i entry) (λ entry asks other. asks) plain.handles
        (from_requests (MetAt (uv a plain.regs)) i plain.handles (inv.requests i a at)))

    abbrev AllMet : ℕ → ℕ → List Entry → Type 0
    AllMet v i handles = All (MetAt v) (requests_on handles i)

    requests_met : (i : ℕ) (a : Rail) → slice_get board.rails i ≡ Some a → AllMet (uv a now.regs) i new.handles
    requests_met i a at = elim (cases_eq r i) [
      | inl same ↦
          let one : rail ≡ a = same_Some _ _ (sym set.on.there ∙ ap (slice_get board.rails) same ∙ at) in
          let here : uv a now.regs ≡ stands.at = ap (λ b. uv b now.regs) (sym one) ∙ moved.value in
          let own : AllMet stands.at i anew = subst (λ k. AllMet stands.at k anew) same (to_requests (MetAt stands.at) r anew asks_on_own) in
          subst (AllMet (uv a now.regs) i) (sym handles_are) (subst (λ v. AllMet v i anew) (sym here) own)
      | inr apart ↦
          let here : uv a now.regs ≡ uv a plain.regs = other_stands board sound r rail set.on.there plain.regs now.regs stands.at moved i a at apart in
          let other : AllMet (uv a plain.regs) i anew = to_requests (MetAt (uv a plain.regs)) i anew (asks_on_other i a at apart) in
          subst (AllMet (uv a now.regs) i) (sym handles_are) (subst (λ v. AllMet v i anew) (sym here) other)
    ]

    -- where the rail stands between, and the handle asks what is met there, all that held holds
    pub inv_set : Inv board new
    inv_set =
        inv_by_use board plain new same_use inv
        (still_lawful board sound r rail set.on.there plain.regs now.regs stands.at moved untied stands.among inv.law)
        requests_met sound_handles
