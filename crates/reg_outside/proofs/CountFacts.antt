use Rattle.std.specs.Prelude.{◌≡◌, ℕ, ◌+◌, ◌≤◌}
use Rattle.std.proofs.Common.{arith}
use Rattle.reg_outside.specs.Count.{raised, RoseBy, Rose, Stayed}

-- what has risen has not stayed
pub Rose-not_Stayed : (old new : ℕ) → Rose old new → Stayed old new → ⊥
Rose-not_Stayed old new rose stayed = omega arith

-- no fault is needed to rise by none
pub RoseBy-zero : (count : ℕ) → RoseBy count count 0
RoseBy-zero count = grind arith

-- faults add up
pub RoseBy-trans : (a b c m n : ℕ) → RoseBy a b m → RoseBy b c n → RoseBy a c (m + n)
RoseBy-trans a b c m n first then = omega arith

-- more faults are also fewer
pub RoseBy-fewer : (old new m n : ℕ) → m ≤ n → RoseBy old new n → RoseBy old new m
RoseBy-fewer old new m n fewer rose = omega arith

-- a fault stays counted while a count only rises
pub Rose-later : (a b c : ℕ) → Rose a b → b ≤ c → Rose a c
Rose-later a b c rose later = omega arith

-- a fault that comes later was no fault before
pub Rose-earlier : (a b c : ℕ) → a ≤ b → Rose b c → Rose a c
Rose-earlier a b c earlier rose = omega arith

-- a count never falls by rising
pub le-raised : (count n : ℕ) → count ≤ raised count n
le-raised count n = omega arith

-- rising twice is rising by the sum
pub raised-raised : (count m n : ℕ) → raised (raised count m) n ≡ raised count (m + n)
raised-raised count m n = omega arith
