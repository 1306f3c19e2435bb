-- Plain boards of which all holds that has to, and which break one clause of that alone.
use Rattle.std.specs.Prelude.{◌≡◌, ℕ, ◌<◌, ◌≤◌, true, false, List, [], ◌∷◌, Option, Some, None, length, slice_get, All}
use Rattle.std.proofs.Common.{refl, arith}
use Rattle.std.proofs.lemmas.List.Elements.{All-from_recursion}
use Rattle.linear_range.specs.Values.{values}
use Rattle.load_modes.specs.Modes.{suffices}
use Rattle.chip_regs.specs.Registers.{byte_of, field_of}
use Rattle.board_graph.proofs.FailsBy.{FailsBy}
use Rattle.board.specs.declared.rail.Rail.{Rail}
use Rattle.board.specs.Rail.{uv, is_on, mode, counts_loads, IsAllowed}
use Rattle.rail_law.specs.Law.{Law}
use Rattle.plain_board.specs.declared.plain.Plain.{Plain}
use Rattle.plain_board.specs.Handles.{rows_on}
use Rattle.plain_board.specs.Counts.{load_sum, use_count}
use Rattle.plain_board.specs.Requests.{meets, requests_on}
use Rattle.plain_board.specs.Inv.{IsWellKept, Inv}
use Rattle.plain_board.proofs.PlayedBoards.{load_rail}
use Rattle.plain_board.proofs.TwoRails.{lawful_by, always_rail, two_board, first_of, two_regs, with_first, sound_plain, for_two, three_sound, three_apart, three_fair, kept_with}

-- what is asked of each rail's use, of its requests, and of its mode
abbrev Uses : Plain → ℕ → Rail → Type 0
Uses plain i rail = 0 < use_count two_board plain i → is_on rail plain.regs ≡ true

abbrev Meets : Plain → ℕ → Rail → Type 0
Meets plain i rail = All (λ request. meets (uv rail plain.regs) request ≡ true) (requests_on plain.handles i)

abbrev Carries : Plain → ℕ → Rail → Type 0
Carries plain i rail =
    counts_loads rail ≡ true → suffices rail.desc.greatest rail.limits.allowed (load_sum rail (rows_on plain.handles i)) (mode rail plain.regs) ≡ true

abbrev Each : (ℕ → Rail → Type 0) → Type 0
Each P = (i : ℕ) (rail : Rail) → slice_get two_board.rails i ≡ Some rail → P i rail

all_met : (plain : Plain) (i : ℕ) (rail : Rail) (request : ℕ × ℕ) → requests_on plain.handles i ≡ request ∷ [] → meets (uv rail plain.regs) request ≡ true → Meets plain i rail
all_met plain i rail request are met = rw are (All-from_recursion (λ r. meets (uv rail plain.regs) r ≡ true) (request ∷ []) (met, tt))

none_asked : (plain : Plain) (i : ℕ) (rail : Rail) → requests_on plain.handles i ≡ [] → Meets plain i rail
none_asked plain i rail are = rw are (All-from_recursion (λ r. meets (uv rail plain.regs) r ≡ true) [] tt)

kept_by : (enables load : ℕ) (request : Option (ℕ × ℕ)) (regs : List (List ℕ)) → enables ≤ 65535 → length regs ≡ 1 → IsWellKept two_board (with_first (first_of enables request load (Some 1)) regs)
kept_by enables load request regs few chips =
    kept_with (first_of enables request load (Some 1)) regs chips
    (three_sound (with_first (first_of enables request load (Some 1)) regs) enables load request few (omega arith))
    (three_apart enables load request (Some 1)) (three_fair enables load request (Some 1))

-- all holds: the first rail is off, since its handle has no enable, and that one's load doesn't count
sound_kept : IsWellKept two_board sound_plain
sound_kept = kept_by 0 60000 (Some (800000, 850000)) (two_regs 0x20 2 0x16) (omega arith) refl

sound_law : Law two_board sound_plain.regs
unfolding values field_of byte_of
sound_law = lawful_by sound_plain.regs refl refl

sound_used : Each (Uses sound_plain)
unfolding field_of byte_of
sound_used = for_two (Uses sound_plain) (λ used. let none : 0 < 0 = used in absurd (omega (arith, none))) (λ used. refl)

sound_met : Each (Meets sound_plain)
unfolding values field_of byte_of
sound_met = for_two (Meets sound_plain) (all_met sound_plain 0 load_rail (800000, 850000) refl refl) (all_met sound_plain 1 always_rail (800000, 800000) refl refl)

sound_carries : Each (Carries sound_plain)
unfolding field_of byte_of suffices
sound_carries = for_two (Carries sound_plain) (λ counts. refl) (λ counts. absurd (cc))

sound : Inv two_board sound_plain
sound = record { law = sound_law; used = sound_used; requests = sound_met; loads = sound_carries; kept = sound_kept }

-- the first rail stands at 793750 µV, below its bounds
abbrev too_low : Plain
too_low = with_first (first_of 0 None 0 (Some 1)) (two_regs 31 2 0x16)

too_low_used : Each (Uses too_low)
unfolding field_of byte_of
too_low_used = for_two (Uses too_low) (λ used. let none : 0 < 0 = used in absurd (omega (arith, none))) (λ used. refl)

too_low_met : Each (Meets too_low)
unfolding values field_of byte_of
too_low_met = for_two (Meets too_low) (none_asked too_low 0 load_rail refl) (all_met too_low 1 always_rail (800000, 800000) refl refl)

too_low_carries : Each (Carries too_low)
unfolding field_of byte_of suffices
too_low_carries = for_two (Carries too_low) (λ counts. refl) (λ counts. absurd (cc))

not_allowed : ¬ IsAllowed load_rail (uv load_rail too_low.regs)
unfolding values field_of byte_of
not_allowed is = cc

no_law : FailsBy (Law two_board too_low.regs) (Inv two_board too_low)
no_law = record {
  needs = λ inv. inv.law;
  suffices = λ law. record { law = law; used = too_low_used; requests = too_low_met; loads = too_low_carries; kept = kept_by 0 0 None (two_regs 31 2 0x16) (omega arith) refl };
  fails = λ law. not_allowed (law.values 0 load_rail refl);
}

-- the first rail is off though its handle has an enable
abbrev off_in_use : Plain
off_in_use = with_first (first_of 1 None 0 (Some 1)) (two_regs 0x20 2 0x16)

off_in_use_law : Law two_board off_in_use.regs
unfolding values field_of byte_of
off_in_use_law = lawful_by off_in_use.regs refl refl

off_in_use_met : Each (Meets off_in_use)
unfolding values field_of byte_of
off_in_use_met = for_two (Meets off_in_use) (none_asked off_in_use 0 load_rail refl) (all_met off_in_use 1 always_rail (800000, 800000) refl refl)

off_in_use_carries : Each (Carries off_in_use)
unfolding field_of byte_of suffices
off_in_use_carries = for_two (Carries off_in_use) (λ counts. refl) (λ counts. absurd (cc))

first_off : ¬ (is_on load_rail off_in_use.regs ≡ true)
unfolding field_of byte_of
first_off is = cc

first_used : 0 < use_count two_board off_in_use 0
unfolding field_of byte_of
first_used = let one : 0 < 1 = omega arith in one

no_use : FailsBy (Each (Uses off_in_use)) (Inv two_board off_in_use)
no_use = record {
  needs = λ inv. inv.used;
  suffices = λ used. record { law = off_in_use_law; used = used; requests = off_in_use_met; loads = off_in_use_carries; kept = kept_by 1 0 None (two_regs 0x20 2 0x16) (omega arith) refl };
  fails = λ used. first_off (used 0 load_rail refl first_used);
}

-- the first rail's handle asks for more than 800000 µV
abbrev unmet : Plain
unmet = with_first (first_of 0 (Some (800001, 850000)) 0 (Some 1)) (two_regs 0x20 2 0x16)

unmet_law : Law two_board unmet.regs
unfolding values field_of byte_of
unmet_law = lawful_by unmet.regs refl refl

unmet_used : Each (Uses unmet)
unfolding field_of byte_of
unmet_used = for_two (Uses unmet) (λ used. let none : 0 < 0 = used in absurd (omega (arith, none))) (λ used. refl)

unmet_carries : Each (Carries unmet)
unfolding field_of byte_of suffices
unmet_carries = for_two (Carries unmet) (λ counts. refl) (λ counts. absurd (cc))

below_request : ¬ (meets (uv load_rail unmet.regs) (800001, 850000) ≡ true)
unfolding values field_of byte_of
below_request is = cc

no_request : FailsBy (Each (Meets unmet)) (Inv two_board unmet)
no_request = record {
  needs = λ inv. inv.requests;
  suffices = λ met. record { law = unmet_law; used = unmet_used; requests = met; loads = unmet_carries; kept = kept_by 0 0 (Some (800001, 850000)) (two_regs 0x20 2 0x16) (omega arith) refl };
  fails = λ met. below_request (met 0 load_rail refl 0 (0, 0) (omega arith));
}

-- the first rail is on and idle, and its handle draws more than idle carries; or it is in standby, which isn't allowed
abbrev loaded : ℕ → ℕ → Plain
loaded load modes = with_first (first_of 1 None load (Some 1)) (two_regs 0x20 3 modes)

loaded_law : (load : ℕ) → Law two_board (loaded load 0x16).regs
unfolding values field_of byte_of
loaded_law load = lawful_by (loaded load 0x16).regs refl refl

loaded_used : (load : ℕ) → Each (Uses (loaded load 0x16))
unfolding field_of byte_of
loaded_used load = for_two (Uses (loaded load 0x16)) (λ used. refl) (λ used. refl)

loaded_met : (load : ℕ) → Each (Meets (loaded load 0x16))
unfolding values field_of byte_of
loaded_met load = for_two (Meets (loaded load 0x16)) (none_asked (loaded load 0x16) 0 load_rail refl) (all_met (loaded load 0x16) 1 always_rail (800000, 800000) refl refl)

as_much_as_it_carries : Inv two_board (loaded 49000 0x16)
unfolding field_of byte_of suffices
as_much_as_it_carries = record {
  law = loaded_law 49000;
  used = loaded_used 49000;
  requests = loaded_met 49000;
  loads = for_two (Carries (loaded 49000 0x16)) (λ counts. refl) (λ counts. absurd (cc));
  kept = kept_by 1 49000 None (two_regs 0x20 3 0x16) (omega arith) refl;
}

overloaded : ¬ Carries (loaded 49001 0x16) 0 load_rail
unfolding field_of byte_of suffices
overloaded carries = let e : false ≡ true = carries refl in cc

no_load : FailsBy (Each (Carries (loaded 49001 0x16))) (Inv two_board (loaded 49001 0x16))
no_load = record {
  needs = λ inv. inv.loads;
  suffices = λ carries. record { law = loaded_law 49001; used = loaded_used 49001; requests = loaded_met 49001; loads = carries; kept = kept_by 1 49001 None (two_regs 0x20 3 0x16) (omega arith) refl };
  fails = λ carries. overloaded (carries 0 load_rail refl);
}

no_mode : ¬ Inv two_board (loaded 0 0x17)
unfolding field_of byte_of suffices
no_mode inv = let e : false ≡ true = inv.loads 0 load_rail refl refl in cc

-- its lists aren't well kept: there is a hold more than there are rails
abbrev one_hold_more : Plain
one_hold_more = record sound_plain { holds = false ∷ true ∷ false ∷ [] }

not_kept : FailsBy (IsWellKept two_board one_hold_more) (Inv two_board one_hold_more)
unfolding values field_of byte_of suffices
not_kept = record {
  needs = λ inv. inv.kept;
  suffices = λ kept. record {
    law = sound_law;
    used = for_two (Uses one_hold_more) (λ used. let none : 0 < 0 = used in absurd (omega (arith, none))) (λ used. refl);
    requests = sound_met;
    loads = sound_carries;
    kept = kept;
  };
  fails = λ kept. let same : 3 ≡ 2 = kept.holds in omega (arith, same);
}
