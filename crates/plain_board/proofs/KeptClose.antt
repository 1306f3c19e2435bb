-- A close keeps what holds of a plain board: one handle less enables, asks and hears.
use Rattle.std.proofs.Common.{ℕ, ◌≤◌, Bool, true, false, not, cond, List, [], ◌∷◌, refl, arith, filter, sum_by}
use Rattle.std.specs.Prelude.{◌==◌}
use Rattle.std.proofs.lemmas.List.Elements.{All-filter}
use Rattle.std.proofs.lemmas.List.Kept.{AllPairs-filter}
use Rattle.std.proofs.lemmas.List.Sums.{sum_by-cons}
use Rattle.arrayvec.specs.ArrayString.{ArrayString}
use Rattle.board.specs.declared.board.Board.{Board}
use Rattle.board.specs.Valid.{IsSoundBoard}
use Rattle.use_counts.specs.declared.handle_row.HandleRow.{HandleRow}
use Rattle.plain_board.specs.declared.plain.Plain.{Plain}
use Rattle.plain_board.specs.Handles.{Entry, is_own, rows_on, without_open}
use Rattle.plain_board.specs.Inv.{Inv, IsSoundEntry, StandApart, ShareFairly}
use Rattle.plain_board.specs.Untied.{IsUntied, HoldFields, CountsNoLoads}
use Rattle.plain_board.proofs.KeptSwitched.{MetAt, KeepsLists, inv_switched}
use Rattle.plain_board.proofs.Requests.{adds, sum_by-rows, AsksOn}
use Rattle.plain_board.proofs.Switches.{nothing_switched}

-- some elements add up to no more than all
sum_by-filter_le : (g : Entry → ℕ) (p : Entry → Bool) (entries : List Entry) → sum_by g (filter p entries) ≤ sum_by g entries
sum_by-filter_le g p [] = omega arith
sum_by-filter_le g p (entry ∷ rest) = by (p entry) (sum_by-filter_le g p rest) where
  by : (t : Bool) → sum_by g (filter p rest) ≤ sum_by g rest → sum_by g (cond t (entry ∷ filter p rest) (filter p rest)) ≤ sum_by g (entry ∷ rest)
  by true less = omega (arith, sum_by-cons g entry (filter p rest), sum_by-cons g entry rest)
  by false less = omega (arith, sum_by-cons g entry rest)

module _ (board : Board) (sound : IsSoundBoard board) (untied : IsUntied board) (no_loads : CountsNoLoads board) (plain : Plain) (hold : HoldFields board plain.regs) (inv : Inv board plain) (worker : ℕ) (handle : ArrayString) where
  abbrev is_other : Entry → Bool
  is_other entry = not (is_own worker handle.bytes entry)

  abbrev new : Plain
  new = record plain { handles = without_open plain.handles worker handle.bytes }

  lists : KeepsLists board plain new
  lists = record {
    asks = λ v i all. All-filter is_other (AsksOn (MetAt v) i) plain.handles all;
    handles = record {
      opens = All-filter is_other (IsSoundEntry board new) plain.handles
          (λ k d within. let is = inv.kept.opens k d within in record { rail = is.rail; enables = is.enables; cursor = is.cursor });
      apart = AllPairs-filter StandApart is_other plain.handles inv.kept.apart;
      few = λ w. omega (arith, sum_by-filter_le (λ (entry : Entry). cond (entry.1.worker == w) 1 0) is_other plain.handles, inv.kept.few w);
      alone = AllPairs-filter ShareFairly is_other plain.handles inv.kept.alone;
    };
    holds = refl;
    events = refl;
    always = inv.kept.always;
  }

  fewer_enables : (i : ℕ) → sum_by (λ (row : HandleRow). row.enables) (rows_on new.handles i) ≤ sum_by (λ (row : HandleRow). row.enables) (rows_on plain.handles i)
  fewer_enables i =
      omega (arith, sum_by-rows (λ row. row.enables) i new.handles, sum_by-rows (λ row. row.enables) i plain.handles, sum_by-filter_le (adds (λ row. row.enables) i) is_other plain.handles)

  pub inv_close : Inv board new
  inv_close =
      inv_switched board sound untied no_loads plain inv new (nothing_switched board sound plain.regs inv.kept.regs hold) inv.law.supplies
      (λ i rail at some. inv.used i rail at (omega (arith, some, fewer_enables i))) lists
