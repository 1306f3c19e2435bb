use Rattle.std.specs.Prelude.{ℕ, ◌+◌, ◌≤◌, ◌<◌, min, max}

-- where a count of faults stands still: the greatest `u64`
abbrev pub count_end : ℕ
count_end = 18446744073709551615

-- a count after n more faults
abbrev pub raised : ℕ → ℕ → ℕ
raised count n = max count (min (count + n) count_end)

-- at least n faults came; a count at its end counts as risen by any number
abbrev pub RoseBy : ℕ → ℕ → ℕ → Type 0
RoseBy old new n = raised old n ≤ new

-- at least one fault came
abbrev pub Rose : ℕ → ℕ → Type 0
Rose old new = RoseBy old new 1

-- no fault came
abbrev pub Stayed : ℕ → ℕ → Type 0
Stayed old new = new < raised old 1
