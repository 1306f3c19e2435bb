-- What all rails show, once they are made of a plain board.
use Rattle.std.proofs.Common.{◌≡◌, ℕ, zero, suc, ◌<◌, Bool, false, List, [], ◌∷◌, refl, sym, ap, subst, ◌∙◌, length, slice_get}
use Rattle.std.specs.Prelude.{slice_index_or, slice_index, unwrap_or}
use Rattle.std.specs.Option.{option_map_or}
use Rattle.chip_regs.specs.Registers.{field_of}
use Rattle.board_graph.specs.Sets.{rails_of}
use Rattle.board.specs.declared.board.Board.{Board}
use Rattle.board.specs.Valid.{IsValid}
use Rattle.use_counts.specs.Book.{Book}
use Rattle.use_counts.specs.declared.handle_row.HandleRow.{HandleRow}
use Rattle.plain_board.specs.declared.plain.Plain.{Plain}
use Rattle.plain_board.specs.Handles.{rows_on}
use Rattle.plain_board.specs.Inv.{Inv}
use Rattle.rail_ops.specs.Sight.{Shows, Hands}
use Rattle.rail_ops.specs.Inside.Alone.{AreBooks, AreVotes, blank, no_book, number_at, with_rows}
use Rattle.rail_ops.specs.Inside.AloneLaws.{rail_within}

-- an entry of a list of holds, read in two ways
pub hold_at : (holds : List Bool) (i : ℕ) → slice_index_or holds i false ≡ unwrap_or (slice_get holds i) false
hold_at [] i = refl
hold_at (hold ∷ holds) zero = refl
hold_at (hold ∷ holds) (suc i) = hold_at holds i

-- what all rails of the board show, with these registers and books
abbrev pub hands_of : Board → List (List ℕ) → List Book → Hands
hands_of board regs books = record { board = board; rails = rails_of board.graph; bits = λ i part. number_at board regs i part; books = λ i. slice_index_or books i no_book }

pub shown : (board : Board) (plain : Plain) → IsValid board → Inv board plain → (votes : List ℕ) (blanks books : List Book)
    → AreVotes (length board.rails) board.rails plain.regs votes → AreBooks (length plain.events) (blank plain.holds votes plain.events plain.suspended) blanks
    → AreBooks (length blanks) (with_rows blanks plain.handles) books → Shows (hands_of board plain.regs books) plain
shown board plain valid inv votes blanks books counted are made = record {
  fields = λ j part field guarded is. sym (ap (λ o. option_map_or (λ f. field_of plain.regs f) o 0) is);
  books = λ i held.
      let within = rail_within board valid i held in
      let among : i < length plain.events = subst (λ (n : ℕ). i < n) (sym inv.kept.events) within in
      let held_as : List HandleRow → Bool → ℕ → Book = λ rows hold vote. record { rows = rows; held = hold; votes = vote; events = slice_index_or plain.events i []; suspended = plain.suspended } in
      made.each i (subst (λ (n : ℕ). i < n) (sym are.as_many) among)
      ∙ ap (λ (b : Book). record b { rows = rows_on plain.handles i }) (are.each i among)
      ∙ ap (λ hold. held_as (rows_on plain.handles i) hold (slice_index votes i)) (hold_at plain.holds i)
      ∙ ap (λ vote. held_as (rows_on plain.handles i) (unwrap_or (slice_get plain.holds i) false) vote) (counted.each i within);
}
