-- Plain boards whose lists are well kept, and which break one clause of that alone.
use Rattle.std.specs.Prelude.{◌≡◌, ◌≢◌, ℕ, ◌<◌, ◌≤◌, ◌⊎◌, true, false, List, [], ◌∷◌, Some, None, length, slice_get, slice_index_or, All, AllPairs, codes}
use Rattle.std.proofs.Common.{refl, sym, arith, inl, inr}
use Rattle.std.proofs.Math.Logic.{⊎_elim}
use Rattle.std.proofs.lemmas.List.Elements.{All-from_recursion}
use Rattle.std.proofs.lemmas.List.Kept.{AllPairs-cons}
use Rattle.board_graph.proofs.FailsBy.{FailsBy}
use Rattle.board.specs.declared.event.Event.TheVariants.{Enable as EnableEvent}
use Rattle.board.specs.declared.rail.Rail.{Rail}
use Rattle.plain_board.specs.declared.plain.Plain.{Plain}
use Rattle.plain_board.specs.Handles.{Entry}
use Rattle.plain_board.specs.Counts.{is_held}
use Rattle.plain_board.specs.Inv.{StandApart, ShareFairly, IsSoundEntry, IsWellKept}
use Rattle.plain_board.proofs.Played.{rail, named}
use Rattle.plain_board.proofs.TwoRails.{always_rail, two_board, first_of, second, two_regs, with_first, sound_plain, names_differ, few_of, held_always, three_sound, three_apart, three_fair, kept_with}

-- two handles of one rail may stand side by side
abbrev of_name : ℕ → ℕ → List ℕ → Entry
of_name on worker name = (rail on, record { worker = worker; handle = named name; enables = 0; request = None; load = 0; cursor = None; exclusive = false })

side_by_side : StandApart (of_name 1 1 (codes "a")) (of_name 1 1 (codes "b"))
side_by_side = record { rails = omega arith; names = inr names_differ }

-- the first stands on a later rail
turned_round : FailsBy (1 ≤ 0) (StandApart (of_name 1 1 (codes "a")) (of_name 0 2 (codes "a")))
turned_round = record {
  needs = λ apart. apart.rails;
  suffices = λ below. record { rails = below; names = inl (λ same. omega (arith, same)) };
  fails = λ below. omega (arith, below);
}

-- one worker has one name twice, on two rails
abbrev NamesDiffer : Type 0
NamesDiffer = (◌≢◌ {A = ℕ} 1 1) ⊎ (codes "a" ≢ codes "a")

named_twice : FailsBy NamesDiffer (StandApart (of_name 0 1 (codes "a")) (of_name 1 1 (codes "a")))
named_twice = record {
  needs = λ apart. apart.names;
  suffices = λ differ. record { rails = omega arith; names = differ };
  fails = λ differ. ⊎_elim (λ worker. worker refl) (λ name. name refl) differ;
}

-- of two on one rail neither the first nor the second is to be alone
abbrev alone : Entry → Entry
alone entry = (entry.0, record entry.1 { exclusive = true })

apart_alone : ShareFairly (alone (of_name 0 1 (codes "a"))) (alone (of_name 1 1 (codes "b")))
apart_alone same = absurd (omega (arith, same))

first_alone : ¬ ShareFairly (alone (of_name 0 1 (codes "a"))) (of_name 0 1 (codes "b"))
first_alone fair = let e : true ≡ false = (fair refl).0 in cc

second_alone : ¬ ShareFairly (of_name 0 1 (codes "a")) (alone (of_name 0 1 (codes "b")))
second_alone fair = let e : true ≡ false = (fair refl).1 in cc

-- a handle on a rail that isn't there, one with too many enables, and one that has heard more than was told
nowhere : FailsBy (2 < 2) (IsSoundEntry two_board sound_plain (of_name 2 1 (codes "c")))
nowhere = record {
  needs = λ sound. sound.rail;
  suffices = λ inside. record { rail = inside; enables = omega arith; cursor = tt };
  fails = λ inside. omega (arith, inside);
}

too_often : FailsBy (65536 ≤ 65535) (IsSoundEntry two_board sound_plain (first_of 65536 None 0 None))
too_often = record {
  needs = λ sound. sound.enables;
  suffices = λ few. record { rail = omega arith; enables = few; cursor = tt };
  fails = λ few. omega (arith, few);
}

heard_too_much : FailsBy (2 ≤ 1) (IsSoundEntry two_board sound_plain (first_of 0 None 0 (Some 2)))
heard_too_much = record {
  needs = λ sound. sound.cursor;
  suffices = λ heard. record { rail = omega arith; enables = omega arith; cursor = heard };
  fails = λ heard. omega (arith, heard);
}

-- the three handles are well kept
abbrev three : List Entry
three = sound_plain.handles

all_sound : (plain : Plain) → 1 ≤ length (slice_index_or plain.events 0 []) → All (IsSoundEntry two_board plain) three
all_sound plain heard = three_sound plain 0 60000 (Some (800000, 850000)) (omega arith) heard

all_apart : AllPairs StandApart three
all_apart = three_apart 0 60000 (Some (800000, 850000)) (Some 1)

all_fair : AllPairs ShareFairly three
all_fair = three_fair 0 60000 (Some (800000, 850000)) (Some 1)

well_kept : IsWellKept two_board sound_plain
well_kept = kept_with (first_of 0 (Some (800000, 850000)) 60000 (Some 1)) (two_regs 0x20 2 0x16) refl (all_sound sound_plain (omega arith)) all_apart all_fair

-- the registers of a chip more, and a hold and a rail's events more than there are rails
abbrev more_chips : Plain
more_chips = record sound_plain { regs = [] ∷ [] ∷ [] }

no_chips : FailsBy (◌≡◌ {A = ℕ} 2 1) (IsWellKept two_board more_chips)
no_chips = record {
  needs = λ kept. kept.regs;
  suffices = λ same. record { regs = same; holds = refl; events = refl; opens = all_sound more_chips (omega arith); apart = all_apart; few = few_of three (omega arith); alone = all_fair; always = held_always more_chips refl };
  fails = λ same. omega (arith, same);
}

abbrev more_holds : Plain
more_holds = record sound_plain { holds = false ∷ true ∷ false ∷ [] }

no_holds : FailsBy (◌≡◌ {A = ℕ} 3 2) (IsWellKept two_board more_holds)
no_holds = record {
  needs = λ kept. kept.holds;
  suffices = λ same. record { regs = refl; holds = same; events = refl; opens = all_sound more_holds (omega arith); apart = all_apart; few = few_of three (omega arith); alone = all_fair; always = held_always more_holds refl };
  fails = λ same. omega (arith, same);
}

abbrev more_events : Plain
more_events = record sound_plain { events = (EnableEvent ∷ []) ∷ [] ∷ [] ∷ [] }

no_events : FailsBy (◌≡◌ {A = ℕ} 3 2) (IsWellKept two_board more_events)
no_events = record {
  needs = λ kept. kept.events;
  suffices = λ same. record { regs = refl; holds = refl; events = same; opens = all_sound more_events (omega arith); apart = all_apart; few = few_of three (omega arith); alone = all_fair; always = held_always more_events refl };
  fails = λ same. omega (arith, same);
}

-- the first handle has heard one event more than there is
abbrev past_the_end : Plain
past_the_end = with_first (first_of 0 None 0 (Some 2)) (two_regs 0x20 2 0x16)

no_opens : FailsBy (All (IsSoundEntry two_board past_the_end) past_the_end.handles) (IsWellKept two_board past_the_end)
no_opens = record {
  needs = λ kept. kept.opens;
  suffices = λ opens. kept_with (first_of 0 None 0 (Some 2)) (two_regs 0x20 2 0x16) refl opens (three_apart 0 0 None (Some 2)) (three_fair 0 0 None (Some 2));
  fails = λ opens. let heard : 2 ≤ 1 = (opens 0 (first_of 0 None 0 (Some 2)) (omega arith)).cursor in omega (arith, heard);
}

-- two handles that stand in the wrong order
abbrev with_two : Entry → Entry → Plain
with_two first second = record sound_plain { handles = first ∷ second ∷ [] }

of_two : {A : Type 0} (R : A → A → Type 0) (x y : A) → R x y → AllPairs R (x ∷ y ∷ [])
of_two R x y are = AllPairs-cons R x (y ∷ []) (All-from_recursion (R x) (y ∷ []) (are, tt)) (λ i j d less within. absurd (omega arith))

two_sound : (on other : ℕ) (plain : Plain) → on < 2 → other < 2 → All (IsSoundEntry two_board plain) (of_name on 1 (codes "b") ∷ of_name other 1 (codes "a") ∷ [])
two_sound on other plain on_is other_is =
    All-from_recursion (IsSoundEntry two_board plain) (of_name on 1 (codes "b") ∷ of_name other 1 (codes "a") ∷ [])
    (record { rail = on_is; enables = omega arith; cursor = tt }, (record { rail = other_is; enables = omega arith; cursor = tt }, tt))

abbrev later_first : Plain
later_first = with_two (of_name 1 1 (codes "b")) (of_name 0 1 (codes "a"))

no_order : FailsBy (AllPairs StandApart later_first.handles) (IsWellKept two_board later_first)
no_order = record {
  needs = λ kept. kept.apart;
  suffices = λ apart. record {
    regs = refl;
    holds = refl;
    events = refl;
    opens = two_sound 1 0 later_first (omega arith) (omega arith);
    apart = apart;
    few = few_of later_first.handles (omega arith);
    alone = of_two ShareFairly (of_name 1 1 (codes "b")) (of_name 0 1 (codes "a")) (λ same. absurd (omega (arith, same)));
    always = held_always later_first refl;
  };
  fails = λ apart. let below : 1 ≤ 0 = (apart 0 1 second (omega arith) (omega arith)).rails in omega (arith, below);
}

-- an exclusive handle beside another
abbrev both_there : Plain
both_there = with_two (alone (of_name 0 1 (codes "b"))) (of_name 0 1 (codes "a"))

no_peace : FailsBy (AllPairs ShareFairly both_there.handles) (IsWellKept two_board both_there)
no_peace = record {
  needs = λ kept. kept.alone;
  suffices = λ fair. record {
    regs = refl;
    holds = refl;
    events = refl;
    opens = All-from_recursion (IsSoundEntry two_board both_there) both_there.handles
        (record { rail = omega arith; enables = omega arith; cursor = tt }, (record { rail = omega arith; enables = omega arith; cursor = tt }, tt));
    apart = of_two StandApart (alone (of_name 0 1 (codes "b"))) (of_name 0 1 (codes "a")) (record { rails = omega arith; names = inr (λ same. names_differ (sym same)) });
    few = few_of both_there.handles (omega arith);
    alone = fair;
    always = held_always both_there refl;
  };
  fails = λ fair. let e : true ≡ false = (fair 0 1 second (omega arith) (omega arith) refl).0 in cc;
}

-- the rail that is always on isn't held
abbrev not_held : Plain
not_held = record sound_plain { holds = false ∷ false ∷ [] }

no_hold : FailsBy ((i : ℕ) (rail : Rail) → slice_get two_board.rails i ≡ Some rail → rail.limits.always_on ≡ true → is_held not_held i ≡ true) (IsWellKept two_board not_held)
no_hold = record {
  needs = λ kept. kept.always;
  suffices = λ always. record { regs = refl; holds = refl; events = refl; opens = all_sound not_held (omega arith); apart = all_apart; few = few_of three (omega arith); alone = all_fair; always = always };
  fails = λ always. let e : false ≡ true = always 1 always_rail refl refl in cc;
}
