-- What is shown of a plain board, worked out by hand: a battery, and two bucks that it supplies; the battery and the first buck are held.
use Rattle.std.specs.Prelude.{◌≡◌, ℕ, ◌<◌, ◌⊎◌, false, [], ◌∷◌, None, Contains, get_or}
use Rattle.std.specs.Option.{option_map_or}
use Rattle.std.proofs.Common.{zero, suc, refl, sym, ap, subst, arith, inl, inr}
use Rattle.chip_regs.specs.Registers.{byte_of, field_of}
use Rattle.board_graph.proofs.FailsBy.{FailsBy}
use Rattle.board.specs.declared.event.Event.TheVariants.{Enable as TellsEnable}
use Rattle.board.specs.declared.part.Part.{Part}
use Rattle.board.specs.declared.part.Part.TheVariants.{Selector, Enable as EnableBit}
use Rattle.board.specs.Fields.{field_at}
use Rattle.use_counts.specs.Book.{Book}
use Rattle.rail_state.specs.Sight.{Look}
use Rattle.plain_board.specs.declared.plain.Plain.{Plain}
use Rattle.plain_board.specs.Handles.{Entry}
use Rattle.plain_board.specs.Seen.{book}
use Rattle.plain_board.proofs.Played.{a, chip_with, rail}
use Rattle.plain_board.proofs.PlayedBoards.{fork_board, fork_plain}
use Rattle.rail_ops.specs.Sight.{Hands, Knows, Shows, ShowsSame}

-- what the two rails show of a plain board
abbrev pub seen_of : Plain → Hands
seen_of plain = record {
  board = fork_board;
  rails = 0 ∷ 1 ∷ [];
  bits = λ j part. option_map_or (λ field. field_of plain.regs field) (field_at fork_board j part) 0;
  books = λ i. book fork_board plain i;
}

abbrev FieldsSeen : Hands → Plain → Type 0
FieldsSeen hands plain = Look hands.board hands.rails hands.bits plain.regs

abbrev BooksSeen : Hands → Plain → Type 0
BooksSeen hands plain = (i : ℕ) → Contains hands.rails i → hands.books i ≡ book hands.board plain i

pub own_fields : (plain : Plain) → FieldsSeen (seen_of plain) plain
own_fields plain j part field guarded is = sym (ap (λ o. option_map_or (λ f. field_of plain.regs f) o 0) is)

-- a plain board is shown by what is seen of it
pub shows_itself : (plain : Plain) → Shows (seen_of plain) plain
shows_itself plain = record { fields = own_fields plain; books = λ i held. refl }

in_two : (n m i : ℕ) → Contains (n ∷ m ∷ []) i → (n ≡ i) ⊎ (m ≡ i)
in_two n m i has = by has.0 has.1 has.2 where
  by : (k : ℕ) → k < 2 → get_or (n ∷ m ∷ []) k i ≡ i → (n ≡ i) ⊎ (m ≡ i)
  by zero within is = inl is
  by (suc zero) within is = inr is
  by (suc (suc k)) within is = absurd (omega arith)

-- what the second buck told isn't seen, and what the first told is
abbrev second_told : Plain
second_told = record fork_plain { events = [] ∷ [] ∷ (TellsEnable ∷ []) ∷ [] }

abbrev first_told : Plain
first_told = record fork_plain { events = [] ∷ (TellsEnable ∷ []) ∷ [] ∷ [] }

shows_no_more : Shows (seen_of fork_plain) second_told
shows_no_more = record {
  fields = own_fields fork_plain;
  books = λ i held. elim (in_two 0 1 i held) [
    | inl same ↦ subst (λ (k : ℕ). book fork_board fork_plain k ≡ book fork_board second_told k) same refl
    | inr same ↦ subst (λ (k : ℕ). book fork_board fork_plain k ≡ book fork_board second_told k) same refl
  ];
}

book_unlike : FailsBy (BooksSeen (seen_of fork_plain) first_told) (Shows (seen_of fork_plain) first_told)
book_unlike = record {
  needs = λ shows. shows.books;
  suffices = λ books. record { fields = own_fields fork_plain; books = books };
  fails = λ books. let same = ap (λ (b : Book). b.events) (books 1 (1, omega arith, refl)) in absurd (cc same);
}

-- where the first buck stands is seen
abbrev moved : Plain
moved = record fork_plain { regs = chip_with ((0x10, 0x21) ∷ (0x11, 0x20) ∷ (0x30, 0x15) ∷ []) ∷ chip_with [] ∷ [] }

field_unlike : FailsBy (FieldsSeen (seen_of fork_plain) moved) (Shows (seen_of fork_plain) moved)
unfolding field_of byte_of
field_unlike = record {
  needs = λ shows. shows.fields;
  suffices = λ fields. record {
    fields = fields;
    books = λ i held. elim (in_two 0 1 i held) [
      | inl same ↦ subst (λ (k : ℕ). book fork_board fork_plain k ≡ book fork_board moved k) same refl
      | inr same ↦ subst (λ (k : ℕ). book fork_board fork_plain k ≡ book fork_board moved k) same refl
    ];
  };
  fails = λ fields. let same : 33 ≡ 32 = fields 1 Selector _ (1, (1, omega arith, refl), (1, omega arith, refl)) refl in omega (arith, same);
}

-- the same is shown where each part is the same
abbrev hands : Hands
hands = seen_of fork_plain

same_shown : ShowsSame hands hands
same_shown = record { board = refl; rails = refl; bits = λ i part. refl; books = λ i. refl }

other_rails : FailsBy ((record hands { rails = 0 ∷ [] }).rails ≡ hands.rails) (ShowsSame hands (record hands { rails = 0 ∷ [] }))
other_rails = record { needs = λ same. same.rails; suffices = λ is. record { board = refl; rails = is; bits = λ i part. refl; books = λ i. refl }; fails = λ is. absurd (cc is) }

other_bits : FailsBy ((i : ℕ) (part : Part) → 7 ≡ hands.bits i part) (ShowsSame hands (record hands { bits = λ i part. 7 }))
unfolding field_of byte_of
other_bits = record { needs = λ same. same.bits; suffices = λ is. record { board = refl; rails = refl; bits = is; books = λ i. refl }; fails = λ is. let at = is 1 EnableBit in absurd (cc at) }

other_books : FailsBy ((i : ℕ) → book fork_board first_told i ≡ hands.books i) (ShowsSame hands (record hands { books = λ i. book fork_board first_told i }))
other_books = record { needs = λ same. same.books; suffices = λ is. record { board = refl; rails = refl; bits = λ i part. refl; books = is }; fails = λ is. let at = ap (λ (b : Book). b.events) (is 1) in absurd (cc at) }

-- names: nobody has a handle, the second worker has one, or the first has
abbrev handle_of : ℕ → Entry
handle_of worker = (rail 1, record { worker = worker; handle = a; enables = 0; request = None; load = 0; cursor = None; exclusive = false })

abbrev opened_by : ℕ → Plain
opened_by worker = record fork_plain { handles = handle_of worker ∷ [] }

knows_none : Knows [] 1 fork_plain
knows_none = record { rails = λ name. refl; count = refl }

knows_no_other : Knows [] 1 (opened_by 2)
knows_no_other = record { rails = λ name. refl; count = refl }

name_unknown : Knows ((a.bytes, 1) ∷ []) 1 fork_plain → ⊥
name_unknown knows = let at = knows.rails a.bytes in absurd (cc at)

name_of_other : Knows ((a.bytes, 1) ∷ []) 1 (opened_by 2) → ⊥
name_of_other knows = let at = knows.rails a.bytes in absurd (cc at)

name_elsewhere : Knows ((a.bytes, 0) ∷ []) 1 (opened_by 1) → ⊥
name_elsewhere knows = let at = knows.rails a.bytes in absurd (cc at)

name_missing : Knows [] 1 (opened_by 1) → ⊥
name_missing knows = absurd (cc knows.count)
