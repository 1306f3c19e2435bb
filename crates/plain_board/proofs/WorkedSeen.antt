-- What calls need and see, worked out by hand: the battery supplies the buck, and the buck the ldo.
use Rattle.std.specs.Prelude.{◌≡◌, ℕ, ◌<◌, ◌⊎◌, true, false, List, [], ◌∷◌, map, length, replicate, get_or, None, Contains}
use Rattle.std.proofs.Common.{zero, suc, refl, sym, ap, subst, arith, inl, inr}
use Rattle.std.proofs.Math.Logic.{⊎_elim}
use Rattle.std.proofs.lemmas.Option.{same_Some}
use Rattle.chip_regs.specs.Registers.{byte_of, field_of}
use Rattle.board_graph.specs.Sets.{guard_of}
use Rattle.board_graph.proofs.FailsBy.{FailsBy}
use Rattle.board.specs.declared.event.Event.TheVariants.{Enable as EnableEvent}
use Rattle.board.specs.declared.part.Part.{Part}
use Rattle.board.specs.declared.part.Part.TheVariants.{Selector, Enable as EnableBit, ModePart, SuspendEnable, SuspendSelector}
use Rattle.board.specs.declared.state.State.TheVariants.{Mem}
use Rattle.board.proofs.Boards.{supplied_board}
use Rattle.rows.specs.declared.call.Call.{Call}
use Rattle.rows.specs.declared.call.Call.TheVariants.{Open, Close, Enable, Disable, Set, Load, Get, IsOn, ModeOf, ListSel, Supported, Listen, Events, Suspend, Resume, ReleaseBoot}
use Rattle.plain_board.specs.declared.plain.Plain.{Plain}
use Rattle.plain_board.specs.Handles.{Entry}
use Rattle.plain_board.specs.Seen.{book, bits_at, LookSame, needs}
use Rattle.plain_board.proofs.Played.{rail, a, b, chip_with}
use Rattle.plain_board.proofs.PlayedBoards.{chain_plain, booted_plain, trio_board, trio_plain}

abbrev handle_on : ℕ → Entry
handle_on on = (rail on, record { worker = 1; handle = a; enables = 0; request = None; load = 0; cursor = None; exclusive = false })

abbrev opened : ℕ → Plain
opened on = record chain_plain { handles = handle_on on ∷ [] }

abbrev needed : ℕ → ℕ → Call → List ℕ
needed on worker call = needs supplied_board (opened on) worker call

-- of the ldo: itself alone, all that it rests on, and all rails
alone_needed : map (needed 1 1) (Close a ∷ Get a ∷ IsOn a ∷ ModeOf a ∷ ListSel a 0 ∷ Supported a 0 0 ∷ Listen a ∷ Events a ∷ []) ≡ replicate 8 (1 ∷ [])
alone_needed = refl

chain_needed : map (needed 1 1) (Enable a ∷ Disable a ∷ Set a 0 0 ∷ Load a 0 ∷ Suspend Mem ∷ Resume ∷ ReleaseBoot ∷ []) ≡ replicate 7 (0 ∷ 1 ∷ 2 ∷ [])
chain_needed = refl

-- of the buck not the ldo below it; and of a coupled buck the other, but not the third
buck_needed : map (needed 0 1) (Enable a ∷ Disable a ∷ Set a 0 0 ∷ Load a 0 ∷ Suspend Mem ∷ []) ≡ (0 ∷ 2 ∷ []) ∷ (0 ∷ 2 ∷ []) ∷ (0 ∷ 2 ∷ []) ∷ (0 ∷ 2 ∷ []) ∷ (0 ∷ 1 ∷ 2 ∷ []) ∷ []
buck_needed = refl

coupled_needed : needs trio_board (record trio_plain { handles = handle_on 1 ∷ [] }) 1 (Set a 0 0) ≡ 0 ∷ 1 ∷ []
coupled_needed = refl

-- nothing where there is no such handle of this worker
none_needed : map (needed 1 2) (Close a ∷ Enable a ∷ Disable a ∷ Set a 0 0 ∷ Load a 0 ∷ Get a ∷ IsOn a ∷ ModeOf a ∷ ListSel a 0 ∷ Supported a 0 0 ∷ Listen a ∷ Events a ∷ []) ≡ replicate 12 []
none_needed = refl

-- an open needs its rail, unless the name is open or the worker has no room
open_needed : needed 1 1 (Open b (rail 2) true) ∷ needed 1 2 (Open a (rail 0) false) ∷ needed 1 1 (Open a (rail 2) false) ∷ [] ≡ (2 ∷ []) ∷ (0 ∷ []) ∷ [] ∷ []
open_needed = refl

abbrev with_many : ℕ → Plain
with_many count = record chain_plain { handles = replicate count (handle_on 1) }

no_room_needed : needs supplied_board (with_many 63) 1 (Open b (rail 2) false) ∷ needs supplied_board (with_many 64) 1 (Open b (rail 2) false) ∷ needs supplied_board (with_many 64) 2 (Open b (rail 2) false) ∷ []
    ≡ (2 ∷ []) ∷ [] ∷ (2 ∷ []) ∷ []
no_room_needed = refl

-- what is in a list of one, and of two
in_one : (n i : ℕ) → Contains (n ∷ []) i → n ≡ i
in_one n i has = at has.0 has.1 has.2 where
  at : (k : ℕ) → k < 1 → get_or (n ∷ []) k i ≡ i → n ≡ i
  at zero within is = is
  at (suc k) within is = absurd (omega arith)

in_two : (n m i : ℕ) → Contains (n ∷ m ∷ []) i → (n ≡ i) ⊎ (m ≡ i)
in_two n m i has = at has.0 has.1 has.2 where
  at : (k : ℕ) → k < 2 → get_or (n ∷ m ∷ []) k i ≡ i → (n ≡ i) ⊎ (m ≡ i)
  at zero within is = inl is
  at (suc zero) within is = inr is
  at (suc (suc k)) within is = absurd (omega arith)

-- the ldo guards itself alone, and the buck itself and the ldo
guarded_by_ldo : (j : ℕ) → Contains (guard_of supplied_board.graph j) 1 → 1 ≡ j
guarded_by_ldo zero has = ⊎_elim (λ is. absurd (omega (arith, is))) (λ is. absurd (omega (arith, is))) (in_two 0 2 1 has)
guarded_by_ldo (suc zero) has = refl
guarded_by_ldo (suc (suc zero)) has = absurd (omega (arith, in_one 2 1 has))
guarded_by_ldo (suc (suc (suc j))) has = absurd (omega (arith, has.1))

-- under the lock of some rails, what is seen of their books, and of the fields that they guard
abbrev Books : List ℕ → Plain → Plain → Type 0
Books rails plain other = (i : ℕ) → Contains rails i → book supplied_board plain i ≡ book supplied_board other i

abbrev Fields : List ℕ → Plain → Plain → Type 0
Fields rails plain other =
    (i j : ℕ) (part : Part) → Contains rails i → Contains (guard_of supplied_board.graph j) i → bits_at supplied_board plain.regs j part ≡ bits_at supplied_board other.regs j part

-- of one rail
books_of : (n : ℕ) (plain other : Plain) → book supplied_board plain n ≡ book supplied_board other n → Books (n ∷ []) plain other
books_of n plain other same i has = subst (λ k. book supplied_board plain k ≡ book supplied_board other k) (in_one n i has) same

ldo_fields : (plain other : Plain) → ((part : Part) → bits_at supplied_board plain.regs 1 part ≡ bits_at supplied_board other.regs 1 part) → Fields (1 ∷ []) plain other
ldo_fields plain other same i j part has guards =
    subst (λ k. bits_at supplied_board plain.regs k part ≡ bits_at supplied_board other.regs k part)
    (guarded_by_ldo j (subst (Contains (guard_of supplied_board.graph j)) (sym (in_one 1 i has)) guards)) (same part)

-- under no lock nothing is seen
sees_nothing : LookSame supplied_board [] chain_plain booted_plain
sees_nothing = record { books = λ i has. absurd (omega (arith, has.1)); fields = λ i j part has. absurd (omega (arith, has.1)) }

-- under the ldo's lock it isn't seen that the buck moves and goes off, nor who has opened it, holds it, and hears it
abbrev elsewhere : Plain
elsewhere = record {
  regs = chip_with ((0x12, 19) ∷ (0x20, 8) ∷ (0x30, 0x15) ∷ []) ∷ chip_with [] ∷ [];
  handles = handle_on 0 ∷ [];
  holds = true ∷ true ∷ true ∷ [];
  suspended = false;
  events = (EnableEvent ∷ []) ∷ [] ∷ [] ∷ [];
}

same_of_ldo : (part : Part) → bits_at supplied_board booted_plain.regs 1 part ≡ bits_at supplied_board elsewhere.regs 1 part
unfolding field_of byte_of
same_of_ldo Selector = refl
same_of_ldo EnableBit = refl
same_of_ldo ModePart = refl
same_of_ldo SuspendEnable = refl
same_of_ldo SuspendSelector = refl

looks_same : LookSame supplied_board (1 ∷ []) booted_plain elsewhere
unfolding field_of byte_of
looks_same = record { books = books_of 1 booted_plain elsewhere refl; fields = ldo_fields booted_plain elsewhere same_of_ldo }

-- a handle of the ldo is seen, and so are its hold, its events, and that the board is suspended
abbrev handle_seen : Plain
handle_seen = opened 1

no_book : FailsBy (Books (1 ∷ []) chain_plain handle_seen) (LookSame supplied_board (1 ∷ []) chain_plain handle_seen)
no_book = record {
  needs = λ look. look.books;
  suffices = λ books. record { books = books; fields = λ i j part has guards. refl };
  fails = λ books. omega (arith, ap (λ b. length b.rows) (books 1 (0, omega arith, refl)));
}

hold_seen : ¬ (book supplied_board chain_plain 1 ≡ book supplied_board (record chain_plain { holds = false ∷ true ∷ false ∷ [] }) 1)
hold_seen same = let e : false ≡ true = ap (λ b. b.held) same in cc

events_seen : ¬ (book supplied_board chain_plain 1 ≡ book supplied_board (record chain_plain { events = [] ∷ (EnableEvent ∷ []) ∷ [] ∷ [] }) 1)
events_seen same = omega (arith, ap (λ b. length b.events) same)

flag_seen : ¬ (book supplied_board chain_plain 1 ≡ book supplied_board (record chain_plain { suspended = true }) 1)
flag_seen same = let e : false ≡ true = ap (λ b. b.suspended) same in cc

-- the buck's book tells whether the ldo is on
vote_seen : ¬ (book supplied_board chain_plain 0 ≡ book supplied_board booted_plain 0)
unfolding field_of byte_of
vote_seen same = let votes : 0 ≡ 1 = ap (λ b. b.votes) same in omega (arith, votes)

-- under the buck's lock it is seen that the ldo moves, though its book stays
abbrev ldo_moved : Plain
ldo_moved = record chain_plain { regs = chip_with ((0x12, 10) ∷ (0x13, 1) ∷ (0x30, 0x15) ∷ []) ∷ chip_with [] ∷ [] }

same_book : book supplied_board chain_plain 0 ≡ book supplied_board ldo_moved 0
unfolding field_of byte_of
same_book = refl

not_same : ¬ (bits_at supplied_board chain_plain.regs 1 Selector ≡ bits_at supplied_board ldo_moved.regs 1 Selector)
unfolding field_of byte_of
not_same same = omega (arith, same_Some 0 1 same)

no_field : FailsBy (Fields (0 ∷ []) chain_plain ldo_moved) (LookSame supplied_board (0 ∷ []) chain_plain ldo_moved)
no_field = record {
  needs = λ look. look.fields;
  suffices = λ fields. record { books = books_of 0 chain_plain ldo_moved same_book; fields = fields };
  fails = λ fields. not_same (fields 0 1 Selector (0, omega arith, refl) (0, omega arith, refl));
}
