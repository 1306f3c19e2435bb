use Rattle.std.specs.Prelude.{ℕ, List, [], slice_index, slice_index_or}

-- by number: the faults counted, the updates that came back, and the room of the wire that is
-- handed out next
pub record LabState : Type 0 where
  pub faults : List ℕ
  pub lists : List (List (ℕ × ℕ × ℕ × ℕ))
  pub rooms : List ℕ

-- the faults counted under a number
abbrev pub faults_under : LabState → ℕ → ℕ
faults_under lab number = slice_index lab.faults number

-- the updates that came back under a number
abbrev pub list_under : LabState → ℕ → List (ℕ × ℕ × ℕ × ℕ)
list_under lab number = slice_index_or lab.lists number []

-- the room of the wire that a number gets next
abbrev pub room_under : LabState → ℕ → ℕ
room_under lab number = slice_index lab.rooms number
