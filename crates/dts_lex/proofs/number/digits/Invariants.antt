use Rattle.std.proofs.Common.{◌≡◌, ◌≤◌, ◌<◌, ◌-◌, ◌^◌, ℕ, true, min, length, take, get_or}
use Rattle.std.specs.Char.{is_digit}
use Rattle.std.specs.Str.Parse.{digits_value}
use Rattle.dts_lex.proofs.number.digits.Given as goal

abbrev pub invariant-loop-count : goal.invariant-loop-count
invariant-loop-count l = record {
  inside : l.count ≤ length l.bytes;
  digits : (k : ℕ) → k < l.count → is_digit (get_or l.bytes k 0) l.base ≡ true;
  value : l.value ≡ min (digits_value l.base (take l.count l.bytes)) (2 ^ 32);
}

abbrev pub decreases-loop-count : goal.decreases-loop-count
decreases-loop-count l = length l.bytes - l.count
