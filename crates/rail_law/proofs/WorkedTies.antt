-- Ties worked out by hand.
use Rattle.std.proofs.Common.{◌≡◌, true, false, [], ◌∷◌, refl}
use Rattle.rail_law.specs.Ties.{is_kept, keep_all}

-- the first may be 40 above the second, and no more
kept_at_fall : is_kept (100 ∷ 60 ∷ []) (record { low = 0; rise = 0; high = 1; fall = 40 }) ≡ true
kept_at_fall = refl

broken_past_fall : is_kept (101 ∷ 60 ∷ []) (record { low = 0; rise = 0; high = 1; fall = 40 }) ≡ false
broken_past_fall = refl

-- the second stands as far as it likes below the first where no other tie holds it
kept_far_below : is_kept (0 ∷ 600 ∷ []) (record { low = 0; rise = 0; high = 1; fall = 40 }) ≡ true
kept_far_below = refl

-- the second has to be 25 above the first
kept_at_rise : is_kept (100 ∷ 125 ∷ []) (record { low = 0; rise = 25; high = 1; fall = 0 }) ≡ true
kept_at_rise = refl

broken_below_rise : is_kept (100 ∷ 124 ∷ []) (record { low = 0; rise = 25; high = 1; fall = 0 }) ≡ false
broken_below_rise = refl

-- what isn't in the list counts as 0
kept_by_none : is_kept (7 ∷ []) (record { low = 1; rise = 7; high = 0; fall = 0 }) ≡ true
kept_by_none = refl

-- each tie counts, and where there are none nothing breaks
first_broken : keep_all (101 ∷ 60 ∷ []) (record { low = 0; rise = 0; high = 1; fall = 40 } ∷ record { low = 1; rise = 0; high = 0; fall = 40 } ∷ []) ≡ false
first_broken = refl

second_broken : keep_all (60 ∷ 101 ∷ []) (record { low = 0; rise = 0; high = 1; fall = 40 } ∷ record { low = 1; rise = 0; high = 0; fall = 40 } ∷ []) ≡ false
second_broken = refl

both_kept : keep_all (60 ∷ 100 ∷ []) (record { low = 0; rise = 0; high = 1; fall = 40 } ∷ record { low = 1; rise = 0; high = 0; fall = 40 } ∷ []) ≡ true
both_kept = refl

without_ties : keep_all (60 ∷ 100 ∷ []) [] ≡ true
without_ties = refl
