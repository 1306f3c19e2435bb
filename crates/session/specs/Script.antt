-- The call lines that are built so far.
use Rattle.std.specs.Prelude.{ℕ, ◌≡◌, ◌^◌, ◌<◌, false, List, [], ◌∷◌, codes, All}
use Rattle.rows.specs.declared.call.Call.{Call}
use Rattle.rows.specs.declared.call.Call.TheVariants.{Open, Set, Get}
use Rattle.rows.specs.Names.{IsHandleName}
use Rattle.rows.specs.CallText.{call_text}

-- a call on the handle of this name
abbrev pub Uses : List ℕ → Call → Type 0
Uses name (Set handle lo hi) = (handle.bytes ≡ name) × (lo < 2 ^ 32) × (hi < 2 ^ 32)
Uses name (Get handle) = handle.bytes ≡ name
Uses name _ = ⊥

-- a script: one handle is opened on the one rail, and then used
abbrev pub IsScript : List Call → Type 0
IsScript [] = Unit {0}
IsScript (Open handle rail exclusive ∷ calls) =
    IsHandleName handle.bytes × (rail.0 ≡ 0) × (exclusive ≡ false) × All (Uses handle.bytes) calls
IsScript (_ ∷ calls) = ⊥

-- the line of a call on the one rail, `core`
abbrev pub call_line : Call → List ℕ
call_line call = call_text (λ _. codes "core") call
