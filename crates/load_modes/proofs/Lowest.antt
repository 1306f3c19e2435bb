-- the first mode that suffices, in the order of power, takes the least power
use Rattle.std.proofs.Common.{ℕ, ◌≡◌, ◌≤◌, Bool, true, false, List, Some, None, cond, refl, lit≤, arith}
use Rattle.std.specs.Prelude.{IfSome, IsNone, ◌↔◌}
use Rattle.load_modes.specs.declared.mode.Mode.{Mode}
use Rattle.load_modes.specs.declared.mode.Mode.TheVariants.{Fast, Normal, Idle, Standby}
use Rattle.load_modes.specs.declared.modes.Modes.{Modes}
use Rattle.load_modes.specs.Modes.{suffices, mode_of_load, power_of, IsLowest}

above_standby :
    (loads : List ℕ) (allowed : Modes) (sum : ℕ) → suffices loads allowed sum Standby ≡ false
    → (other : Mode) → suffices loads allowed sum other ≡ true → 1 ≤ power_of other
above_standby loads allowed sum s Standby h = cc
above_standby loads allowed sum s Idle h = lit≤ tt
above_standby loads allowed sum s Normal h = lit≤ tt
above_standby loads allowed sum s Fast h = lit≤ tt

above_idle :
    (loads : List ℕ) (allowed : Modes) (sum : ℕ) → suffices loads allowed sum Standby ≡ false → suffices loads allowed sum Idle ≡ false
    → (other : Mode) → suffices loads allowed sum other ≡ true → 2 ≤ power_of other
above_idle loads allowed sum s i Standby h = cc
above_idle loads allowed sum s i Idle h = cc
above_idle loads allowed sum s i Normal h = lit≤ tt
above_idle loads allowed sum s i Fast h = lit≤ tt

above_normal :
    (loads : List ℕ) (allowed : Modes) (sum : ℕ) → suffices loads allowed sum Standby ≡ false → suffices loads allowed sum Idle ≡ false
    → suffices loads allowed sum Normal ≡ false → (other : Mode) → suffices loads allowed sum other ≡ true → 3 ≤ power_of other
above_normal loads allowed sum s i n Standby h = cc
above_normal loads allowed sum s i n Idle h = cc
above_normal loads allowed sum s i n Normal h = cc
above_normal loads allowed sum s i n Fast h = lit≤ tt

by_test :
    (loads : List ℕ) (allowed : Modes) (sum : ℕ) (standby idle normal fast : Bool)
    → suffices loads allowed sum Standby ≡ standby → suffices loads allowed sum Idle ≡ idle
    → suffices loads allowed sum Normal ≡ normal → suffices loads allowed sum Fast ≡ fast
    → IfSome (cond standby (Some Standby) (cond idle (Some Idle) (cond normal (Some Normal) (cond fast (Some Fast) None)))) (IsLowest loads allowed sum)
by_test loads allowed sum true idle normal fast s i n f = record { enough = s; least = λ other h. omega arith }
by_test loads allowed sum false true normal fast s i n f = record { enough = i; least = above_standby loads allowed sum s }
by_test loads allowed sum false false true fast s i n f = record { enough = n; least = above_idle loads allowed sum s i }
by_test loads allowed sum false false false true s i n f = record { enough = f; least = above_normal loads allowed sum s i n }
by_test loads allowed sum false false false false s i n f = tt

pub mode_of_load-IsLowest : (loads : List ℕ) (allowed : Modes) (sum : ℕ) → IfSome (mode_of_load loads allowed sum) (IsLowest loads allowed sum)
unfolding mode_of_load
mode_of_load-IsLowest loads allowed sum =
    by_test loads allowed sum (suffices loads allowed sum Standby) (suffices loads allowed sum Idle) (suffices loads allowed sum Normal)
    (suffices loads allowed sum Fast) refl refl refl refl

none_suffices :
    (loads : List ℕ) (allowed : Modes) (sum : ℕ) → suffices loads allowed sum Standby ≡ false → suffices loads allowed sum Idle ≡ false
    → suffices loads allowed sum Normal ≡ false → suffices loads allowed sum Fast ≡ false → (mode : Mode) → suffices loads allowed sum mode ≡ false
none_suffices loads allowed sum s i n f Standby = s
none_suffices loads allowed sum s i n f Idle = i
none_suffices loads allowed sum s i n f Normal = n
none_suffices loads allowed sum s i n f Fast = f

none_by_test :
    (loads : List ℕ) (allowed : Modes) (sum : ℕ) (standby idle normal fast : Bool)
    → suffices loads allowed sum Standby ≡ standby → suffices loads allowed sum Idle ≡ idle
    → suffices loads allowed sum Normal ≡ normal → suffices loads allowed sum Fast ≡ fast
    → IsNone (cond standby (Some Standby) (cond idle (Some Idle) (cond normal (Some Normal) (cond fast (Some Fast) None))))
    ↔ ((mode : Mode) → suffices loads allowed sum mode ≡ false)
none_by_test loads allowed sum true idle normal fast s i n f = (λ h. absurd (cc), λ all. let no = all Standby in cc)
none_by_test loads allowed sum false true normal fast s i n f = (λ h. absurd (cc), λ all. let no = all Idle in cc)
none_by_test loads allowed sum false false true fast s i n f = (λ h. absurd (cc), λ all. let no = all Normal in cc)
none_by_test loads allowed sum false false false true s i n f = (λ h. absurd (cc), λ all. let no = all Fast in cc)
none_by_test loads allowed sum false false false false s i n f = (λ h. none_suffices loads allowed sum s i n f, λ all. refl)

pub IsNone-mode_of_load :
    (loads : List ℕ) (allowed : Modes) (sum : ℕ) → IsNone (mode_of_load loads allowed sum) ↔ ((mode : Mode) → suffices loads allowed sum mode ≡ false)
unfolding mode_of_load
IsNone-mode_of_load loads allowed sum =
    none_by_test loads allowed sum (suffices loads allowed sum Standby) (suffices loads allowed sum Idle) (suffices loads allowed sum Normal)
    (suffices loads allowed sum Fast) refl refl refl refl
