-- A pick, as the pair of its selector and its value.
use Rattle.std.specs.Prelude.{ℕ, nat_lt, ◌==◌, ◌&&◌, ◌||◌, if◌then◌else◌, Option, None, Some}
use Rattle.linear_range.specs.declared.pick.Pick.{Pick}

-- the pair (selector, µV) of a pick
abbrev pub pair_of : Pick → ℕ × ℕ
pair_of p = (p.sel, p.uv)

-- the pair with fewer µV, at the same µV the one with the lesser selector
abbrev pub lesser_of : Option (ℕ × ℕ) → Option (ℕ × ℕ) → Option (ℕ × ℕ)
lesser_of None q = q
lesser_of (Some p) None = Some p
lesser_of (Some p) (Some q) =
    Some (if nat_lt q.1 p.1 || (q.1 == p.1 && nat_lt q.0 p.0) then q else p)

-- the pair with more µV, at the same µV the one with the lesser selector
abbrev pub greater_of : Option (ℕ × ℕ) → Option (ℕ × ℕ) → Option (ℕ × ℕ)
greater_of None q = q
greater_of (Some p) None = Some p
greater_of (Some p) (Some q) =
    Some (if nat_lt p.1 q.1 || (q.1 == p.1 && nat_lt q.0 p.0) then q else p)
