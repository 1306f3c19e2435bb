-- What a wire is told write by write.
use Rattle.std.proofs.Common.{◌≡◌, ℕ, ◌+◌, false, List, [], ◌∷◌, ◌++◌, Option, Some, None, inl, inr, refl, sym, ap, ◌∙◌, subst, arith, map, take, length}
use Rattle.std.specs.Prelude.{IfSome, slice_get}
use Rattle.std.proofs.lemmas.Bool.{cases_lt, false_from_ne_true}
use Rattle.std.proofs.lemmas.List.{map-append, length_push}
use Rattle.reg_outside.specs.Count.{raised, Rose, count_end}
use Rattle.reg_outside.specs.Plan.{Plan, refuses, RefusesNext, RefusesNoneOfNext, HasSmallNumbers, IsPlanned, ArePlannedSmall, next_plan}
use Rattle.reg_outside.specs.Told.{with_more}
use Rattle.reg_outside.proofs.CountFacts.{raised-raised}
use Rattle.reg_outside.proofs.ToldFacts.{with_more-nil, with_more-with_more}
use Rattle.board.specs.declared.write.Write.{Write}
use Rattle.reg_outside.specs.Bus.{Bus, tried_more}
use Rattle.plain_board.specs.Update.{update_of}
use Rattle.board_load.specs.BringUp.{TookAll, StoppedAt}

-- a plan of which so many more updates were tried
abbrev tried : ℕ → Plan → Plan
tried count plan = record plan { tried = raised plan.tried count }

tried_none : (plan : Option Plan) → plan ≡ tried_more 0 plan
tried_none None = refl
tried_none (Some plan) = let same : plan.tried ≡ raised plan.tried 0 = omega arith in ap (λ n. Some (record plan { tried = n })) same

-- one more was tried
tried_one : (plan : Option Plan) (count : ℕ) → next_plan (tried_more count plan) ≡ tried_more (count + 1) plan
tried_one None count = refl
tried_one (Some plan) count = ap (λ n. Some (record plan { tried = n })) (raised-raised plan.tried count 1)

-- one more that wasn't planned to be refused; a planned number lies far below the end of the count
unplanned_one : (plan : Plan) (count : ℕ) → HasSmallNumbers plan → RefusesNoneOfNext plan count → ¬ RefusesNext (tried count plan) → RefusesNoneOfNext plan (count + 1)
unplanned_one plan count small none other number above within =
    elim (cases_lt (plan.tried + count) number) [
      | inl last ↦ elim (cases_lt number count_end) [
        | inl below ↦ let same : raised plan.tried count + 1 ≡ number = omega arith in subst (λ n. refuses plan n ≡ false) same (false_from_ne_true _ other)
        | inr past ↦ false_from_ne_true _ (λ planned. let most = small number planned in absurd (omega (arith, most)))
      ]
      | inr earlier ↦ none number above earlier
    ]

unplanned_more : (plan : Option Plan) (count : ℕ) → ArePlannedSmall (tried_more count plan) → IfSome plan (λ p. RefusesNoneOfNext p count) → ¬ IsPlanned (tried_more count plan)
    → IfSome plan (λ p. RefusesNoneOfNext p (count + 1))
unplanned_more None count small none other = tt
unplanned_more (Some plan) count small none other = unplanned_one plan count small none other

unplanned_none : (plan : Option Plan) → IfSome plan (λ p. RefusesNoneOfNext p 0)
unplanned_none None = tt
unplanned_none (Some plan) = λ number above within. absurd (omega (arith, above, within))

-- nothing was tried yet
pub took_none : (bus : Bus) → TookAll bus bus []
took_none bus = record {
  took = record { taken = sym (with_more-nil bus.taken); unplanned = unplanned_none bus.plan };
  plan = tried_none bus.plan;
  calm = refl;
}

-- one write more
pub took_more : (before middle after : Bus) (writes : List Write) (write : Write) → TookAll before middle writes
    → after.taken ≡ with_more middle.taken (update_of write ∷ []) → after.plan ≡ next_plan middle.plan → after.faults ≡ middle.faults
    → ArePlannedSmall middle.plan → ¬ IsPlanned middle.plan → TookAll before after (writes ++ write ∷ [])
took_more before middle after writes write so_far taken plan calm small other =
    let count : length (writes ++ write ∷ []) ≡ length writes + 1 = length_push writes write in
    record {
      took = record {
        taken = taken ∙ ap (λ told. with_more told (update_of write ∷ [])) so_far.took.taken
            ∙ with_more-with_more before.taken (map update_of writes) (update_of write ∷ [])
            ∙ ap (with_more before.taken) (sym (map-append update_of writes (write ∷ [])));
        unplanned = subst (λ n. IfSome before.plan (λ p. RefusesNoneOfNext p n)) (sym count)
            (unplanned_more before.plan (length writes) (subst ArePlannedSmall so_far.plan small) so_far.took.unplanned (subst (λ told. ¬ IsPlanned told) so_far.plan other));
      };
      plan = plan ∙ ap next_plan so_far.plan ∙ tried_one before.plan (length writes) ∙ ap (λ n. tried_more n before.plan) (sym count);
      calm = calm ∙ so_far.calm;
    }

-- the next one was refused
pub stopped_at : (before middle after : Bus) (writes : List Write) (made : ℕ) (write : Write) → TookAll before middle (take made writes) → length (take made writes) ≡ made
    → slice_get writes made ≡ Some write → after.taken ≡ middle.taken → after.plan ≡ next_plan middle.plan → Rose middle.faults after.faults
    → StoppedAt before after writes write.chip write.reg
stopped_at before middle after writes made write so_far count next taken plan rose = record {
  made = made;
  write = write;
  next = next;
  place = (refl, refl);
  took = record { taken = taken ∙ so_far.took.taken; unplanned = so_far.took.unplanned };
  plan = plan ∙ ap next_plan so_far.plan ∙ tried_one before.plan (length (take made writes)) ∙ ap (λ n. tried_more (n + 1) before.plan) count;
  rose = subst (λ n. Rose n after.faults) so_far.calm rose;
}
