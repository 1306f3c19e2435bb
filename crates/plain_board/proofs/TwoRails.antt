-- A board of two rails, the second always on, with three handles: what is alike in the plain boards
-- of it that are sound, and in those that aren't in one point.
use Rattle.std.specs.Prelude.{◌≡◌, ℕ, ◌≤◌, ◌==◌, slice_index_or, Bool, true, false, List, [], ◌∷◌, Option, Some, None, length, slice_get, slice_index, All, AllPairs, codes}
use Rattle.std.proofs.Common.{zero, suc, refl, sym, ap, ◌∙◌, subst, arith, inl, inr}
use Rattle.std.proofs.lemmas.Option.{same_Some}
use Rattle.std.proofs.lemmas.List.Elements.{All-from_recursion}
use Rattle.std.proofs.lemmas.List.Kept.{AllPairs-cons}
use Rattle.std.proofs.lemmas.List.Sums.{count_by-le-length}
use Rattle.board_graph.specs.Graph.{Supplies, AreCoupled}
use Rattle.board.specs.declared.board.Board.{Board}
use Rattle.board.specs.declared.event.Event.TheVariants.{Enable as EnableEvent}
use Rattle.board.specs.declared.rail.Rail.{Rail}
use Rattle.board.specs.Rail.{uv, IsAllowed}
use Rattle.board.proofs.Boards.{buck, core_table, rail_of, within}
use Rattle.rail_law.specs.Law.{Law}
use Rattle.plain_board.specs.declared.plain.Plain.{Plain}
use Rattle.plain_board.specs.Handles.{Entry, count_own}
use Rattle.plain_board.specs.Counts.{is_held}
use Rattle.plain_board.specs.Inv.{StandApart, ShareFairly, IsSoundEntry, IsWellKept}
use Rattle.plain_board.proofs.Played.{rail, a, b, chip_with}
use Rattle.plain_board.proofs.PlayedBoards.{load_rail}

abbrev pub always_rail : Rail
always_rail = record (rail_of (codes "buck2") (buck 1 core_table 0x7f) 800000 1000000 None 1) { limits = record (within 800000 1000000) { always_on = true } }

abbrev pub two_board : Board
two_board = record {
  rails = load_rail ∷ always_rail ∷ [];
  spread = 0 ∷ 0 ∷ [];
  chips = 1;
  graph = record { supply = None ∷ None ∷ []; group = 0 ∷ 1 ∷ []; link = false ∷ false ∷ [] };
  order = 0 ∷ 1 ∷ [];
}

-- a handle of each of two workers on the first rail, both of the name a, and one on the second that is alone there
abbrev pub first_of : ℕ → Option (ℕ × ℕ) → ℕ → Option ℕ → Entry
first_of enables request load cursor = (rail 0, record { worker = 1; handle = a; enables = enables; request = request; load = load; cursor = cursor; exclusive = false })

abbrev pub second : Entry
second = (rail 0, record { worker = 2; handle = a; enables = 0; request = None; load = 0; cursor = None; exclusive = false })

abbrev pub third : Entry
third = (rail 1, record { worker = 1; handle = b; enables = 65535; request = Some (800000, 800000); load = 0; cursor = Some 0; exclusive = true })

-- the first rail at this selector and in this mode, the second at 800000 µV and normal
abbrev pub two_regs : ℕ → ℕ → ℕ → List (List ℕ)
two_regs selector on modes = chip_with ((0x10, selector) ∷ (0x11, 0x20) ∷ (0x20, on) ∷ (0x30, modes) ∷ []) ∷ []

abbrev pub with_first : Entry → List (List ℕ) → Plain
with_first first regs = record { regs = regs; handles = first ∷ second ∷ third ∷ []; holds = false ∷ true ∷ []; suspended = false; events = (EnableEvent ∷ []) ∷ [] ∷ [] }

-- the first rail off, at 800000 µV, idle; its handle asks for that and more, would draw 60000 µA, and has heard all
abbrev pub sound_plain : Plain
sound_plain = with_first (first_of 0 (Some (800000, 850000)) 60000 (Some 1)) (two_regs 0x20 2 0x16)

-- what holds of both rails
pub for_two : (P : ℕ → Rail → Type 0) → P 0 load_rail → P 1 always_rail → (i : ℕ) (rail : Rail) → slice_get two_board.rails i ≡ Some rail → P i rail
for_two P first second zero rail is = subst (P 0) (same_Some load_rail rail is) first
for_two P first second (suc zero) rail is = subst (P 1) (same_Some always_rail rail is) second
for_two P first second (suc (suc i)) rail is = absurd (cc)

-- what holds of each two of three
pub of_three : {A : Type 0} (R : A → A → Type 0) (x y z : A) → R x y → R x z → R y z → AllPairs R (x ∷ y ∷ z ∷ [])
of_three R x y z first second third =
    AllPairs-cons R x (y ∷ z ∷ []) (All-from_recursion (R x) (y ∷ z ∷ []) (first, (second, tt)))
    (AllPairs-cons R y (z ∷ []) (All-from_recursion (R y) (z ∷ []) (third, tt)) (λ i j d less within. absurd (omega arith)))

pub names_differ : ¬ (a.bytes ≡ b.bytes)
names_differ same = absurd (omega (arith, ap (λ bytes. slice_index bytes 0) same))

pub three_apart : (enables load : ℕ) (request : Option (ℕ × ℕ)) (cursor : Option ℕ) → AllPairs StandApart (first_of enables request load cursor ∷ second ∷ third ∷ [])
three_apart enables load request cursor =
    of_three StandApart (first_of enables request load cursor) second third
    (record { rails = omega arith; names = inl (λ same. omega (arith, same)) })
    (record { rails = omega arith; names = inr names_differ })
    (record { rails = omega arith; names = inl (λ same. omega (arith, same)) })

pub three_fair : (enables load : ℕ) (request : Option (ℕ × ℕ)) (cursor : Option ℕ) → AllPairs ShareFairly (first_of enables request load cursor ∷ second ∷ third ∷ [])
three_fair enables load request cursor =
    of_three ShareFairly (first_of enables request load cursor) second third
    (λ same. (refl, refl)) (λ same. absurd (omega (arith, same))) (λ same. absurd (omega (arith, same)))

-- so few handles are never too many of a worker's
pub few_of : (handles : List Entry) → length handles ≤ 64 → (worker : ℕ) → count_own handles worker ≤ 64
few_of handles few worker = omega (arith, few, count_by-le-length (λ (entry : Entry). entry.1.worker == worker) handles)

-- the second rail is the one that is always on
pub held_always : (plain : Plain) → is_held plain 1 ≡ true → (i : ℕ) (rail : Rail) → slice_get two_board.rails i ≡ Some rail → rail.limits.always_on ≡ true → is_held plain i ≡ true
held_always plain held = for_two (λ i rail. rail.limits.always_on ≡ true → is_held plain i ≡ true) (λ always. absurd (cc)) (λ always. held)

-- the three handles are sound, whatever the first one asks and draws
pub three_sound : (plain : Plain) (enables load : ℕ) (request : Option (ℕ × ℕ)) → enables ≤ 65535 → 1 ≤ length (slice_index_or plain.events 0 [])
    → All (IsSoundEntry two_board plain) (first_of enables request load (Some 1) ∷ second ∷ third ∷ [])
three_sound plain enables load request few heard =
    All-from_recursion (IsSoundEntry two_board plain) (first_of enables request load (Some 1) ∷ second ∷ third ∷ []) (
      record { rail = omega arith; enables = few; cursor = heard },
      (record { rail = omega arith; enables = omega arith; cursor = tt }, (record { rail = omega arith; enables = omega arith; cursor = omega arith }, tt)),
    )

-- so a plain board with them is well kept, where its lists are
pub kept_with : (first : Entry) (regs : List (List ℕ)) → length regs ≡ 1 → All (IsSoundEntry two_board (with_first first regs)) (first ∷ second ∷ third ∷ [])
    → AllPairs StandApart (first ∷ second ∷ third ∷ []) → AllPairs ShareFairly (first ∷ second ∷ third ∷ []) → IsWellKept two_board (with_first first regs)
kept_with first regs chips opens apart alone = record {
  regs = chips;
  holds = refl;
  events = refl;
  opens = opens;
  apart = apart;
  few = few_of (first ∷ second ∷ third ∷ []) (omega arith);
  alone = alone;
  always = held_always (with_first first regs) refl;
}

-- the law on a board whose rails are bound to none: each stands at a value that it may stand at
pub none_coupled : (supply : List (Option ℕ)) (link : List Bool) (i j : ℕ) → ¬ AreCoupled (record { supply = supply; group = 0 ∷ 1 ∷ []; link = link }) i j
none_coupled supply link i j coupled = coupled.apart (group_is i coupled.block.group coupled.block.first ∙ sym (group_is j coupled.block.group coupled.block.second)) where
  group_is : (k group : ℕ) → slice_get (0 ∷ 1 ∷ []) k ≡ Some group → k ≡ group
  group_is zero group is = same_Some 0 group is
  group_is (suc zero) group is = same_Some 1 group is
  group_is (suc (suc k)) group is = absurd (cc)

none_supplied : (upper lower : ℕ) → ¬ Supplies two_board.graph upper lower
none_supplied upper zero is = cc
none_supplied upper (suc zero) is = cc
none_supplied upper (suc (suc lower)) is = cc

pub lawful_by : (regs : List (List ℕ)) → IsAllowed load_rail (uv load_rail regs) → IsAllowed always_rail (uv always_rail regs) → Law two_board regs
lawful_by regs first second = record {
  values = for_two (λ i rail. IsAllowed rail (uv rail regs)) first second;
  spreads = λ i j group spread a b coupled. absurd (none_coupled (None ∷ None ∷ []) (false ∷ false ∷ []) i j coupled);
  supplies = λ upper lower a b supplies. absurd (none_supplied upper lower supplies);
  dropouts = λ upper lower a b supplies. absurd (none_supplied upper lower supplies);
}
