-- The plain board that all rails show, part by part.
use Rattle.std.proofs.Common.{◌≡◌, ℕ, ◌<◌, Bool, false, List, [], Some, sym, ap, subst, ◌∙◌, arith, length, map}
use Rattle.std.specs.Prelude.{slice_index_or}
use Rattle.std.specs.Option.{option_map_or}
use Rattle.std.proofs.lemmas.List.{length-map, ext_get_or, get_or-map}
use Rattle.std.proofs.lemmas.Option.{slice_get_within}
use Rattle.chip_regs.specs.declared.field.Field.{Field}
use Rattle.chip_regs.specs.Registers.{field_of}
use Rattle.board_graph.specs.Sets.{rails_of}
use Rattle.board.specs.declared.board.Board.{Board}
use Rattle.board.specs.declared.event.Event.{Event}
use Rattle.board.specs.declared.part.Part.{Part}
use Rattle.board.specs.Fields.{field_at}
use Rattle.use_counts.specs.Book.{Book}
use Rattle.plain_board.specs.declared.plain.Plain.{Plain}
use Rattle.plain_board.specs.Handles.{Entry, rows_on}
use Rattle.plain_board.specs.Inv.{Inv}
use Rattle.plain_board.specs.Seen.{book}
use Rattle.plain_board.specs.Untied.{HoldFields}
use Rattle.rail_state.specs.Sight.{IsGuarded}
use Rattle.rail_ops.specs.Sight.{Shows}
use Rattle.rail_ops.specs.Foreign.{foreign}
use Rattle.rail_ops.specs.Inside.Alone.{Fits, handles_in, no_book}
use Rattle.rail_ops.proofs.AloneFields.{rail_among, rail_of_field}
use Rattle.rail_ops.proofs.AlonePlain.{handles_are}
use Rattle.rail_ops.proofs.AloneShown.{hands_of, hold_at}
use Rattle.rail_ops.proofs.ForeignLaws.{foreign_same}
use Rattle.rail_ops.proofs.Ready.{guards_itself}

-- a plain board, part by part
abbrev plain_of : List (List ℕ) → List Entry → List Bool → Bool → List (List Event) → Plain
plain_of regs handles holds suspended events = record { regs = regs; handles = handles; holds = holds; suspended = suspended; events = events }

module _ (board : Board) (regs : List (List ℕ)) (books : List Book) (fits : Fits board regs books) (plain : Plain) (inv : Inv board plain)
    (hold : HoldFields board plain.regs) (shows : Shows (hands_of board regs books) plain) (same : foreign board plain.regs ≡ foreign board regs) where
  guarded : (r : ℕ) → r < length board.rails → IsGuarded board (rails_of board.graph) r
  guarded r within = (r, rail_among board fits.valid r within, guards_itself board fits.valid r within)

  read : (r : ℕ) (part : Part) (field : Field) → field_at board r part ≡ Some field → field_of regs field ≡ field_of plain.regs field
  read r part field is =
      let found = rail_of_field board fits.valid r part field is in
      let within = slice_get_within board.rails r found.0 found.1 in
      sym (shows.fields r part field (guarded r within) is ∙ ap (λ o. option_map_or (λ f. field_of regs f) o 0) is)

  regs_same : regs ≡ plain.regs
  regs_same = foreign_same board fits.valid regs plain.regs fits.hold hold fits.chips inv.kept.regs (sym same) read

  book_same : (i : ℕ) → i < length books → slice_index_or books i no_book ≡ book board plain i
  book_same i within = shows.books i (rail_among board fits.valid i (subst (λ (n : ℕ). i < n) fits.as_many within))

  holds_same : map (λ (b : Book). b.held) books ≡ plain.holds
  holds_same =
      ext_get_or false (map (λ (b : Book). b.held) books) plain.holds (length-map books (λ (b : Book). b.held) ∙ fits.as_many ∙ sym inv.kept.holds) (λ i inside.
      let within : i < length books = subst (λ (n : ℕ). i < n) (length-map books (λ (b : Book). b.held)) inside in
      get_or-map (λ (b : Book). b.held) books i no_book false within ∙ ap (λ (b : Book). b.held) (book_same i within) ∙ sym (hold_at plain.holds i))

  events_same : map (λ (b : Book). b.events) books ≡ plain.events
  events_same =
      ext_get_or [] (map (λ (b : Book). b.events) books) plain.events (length-map books (λ (b : Book). b.events) ∙ fits.as_many ∙ sym inv.kept.events) (λ i inside.
      let within : i < length books = subst (λ (n : ℕ). i < n) (length-map books (λ (b : Book). b.events)) inside in
      get_or-map (λ (b : Book). b.events) books i no_book [] within ∙ ap (λ (b : Book). b.events) (book_same i within))

  handles_same : handles_in books ≡ plain.handles
  handles_same =
      handles_are books 0 plain.handles
      (λ i j d less within. (inv.kept.apart i j d less within).rails)
      (λ k d within. omega arith)
      (λ k d within. omega (arith, (inv.kept.opens k d within).rail, fits.as_many))
      (λ k within. ap (λ (b : Book). b.rows) (book_same k within) ∙ ap (rows_on plain.handles) (omega arith))

  suspended_same : (slice_index_or books 0 no_book).suspended ≡ plain.suspended
  suspended_same = ap (λ (b : Book). b.suspended) (book_same 0 (omega (arith, fits.as_many, fits.valid.sound.some)))

  pub plain_is : (handles : List Entry) (holds : List Bool) (suspended : Bool) (events : List (List Event))
      → handles ≡ handles_in books → holds ≡ map (λ (b : Book). b.held) books → suspended ≡ (slice_index_or books 0 no_book).suspended → events ≡ map (λ (b : Book). b.events) books
      → plain_of regs handles holds suspended events ≡ plain
  plain_is handles holds suspended events its_handles its_holds its_flag its_events =
      ap (λ r. plain_of r handles holds suspended events) regs_same
      ∙ ap (λ h. plain_of plain.regs h holds suspended events) (its_handles ∙ handles_same)
      ∙ ap (λ h. plain_of plain.regs plain.handles h suspended events) (its_holds ∙ holds_same)
      ∙ ap (λ flag. plain_of plain.regs plain.handles plain.holds flag events) (its_flag ∙ suspended_same)
      ∙ ap (λ e. plain_of plain.regs plain.handles plain.holds plain.suspended e) (its_events ∙ events_same)
