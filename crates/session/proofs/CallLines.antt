-- What a call line tells of its call.
use Rattle.std.proofs.Common.{ℕ, ◌≡◌, List, [], ◌∷◌, ◌++◌, map, codes, All, Bool, false, Some, sym, ap, ◌∙◌, subst}
use Rattle.std.specs.Prelude.{slice_get}
use Rattle.std.proofs.lemmas.List.{append_cancel_left, append_cancel_right}
use Rattle.std.proofs.lemmas.List.Elements.{All-head, All-tail}
use Rattle.arrayvec.specs.ArrayString.{ArrayString}
use Rattle.board.specs.declared.rail_id.RailId.{RailId}
use Rattle.rows.specs.declared.call.Call.{Call}
use Rattle.rows.specs.declared.call.Call.TheVariants.{Open}
use Rattle.rows.specs.Names.{IsHandleName}
use Rattle.session.specs.Script.{call_line, IsScript, Uses}

-- what stands after `set ` and the name
pub after_name : (line name a b z : List ℕ) → line ≡ codes "set " ++ a → a ≡ name ++ b → line ≡ codes "set " ++ (name ++ z) → b ≡ z
after_name line name a b z read named same =
    let rest : a ≡ name ++ z = cc in
    append_cancel_left name b z (sym named ∙ rest)

-- the name in an `open` line
pub open_name : (line name : List ℕ) (call : Call) → line ≡ codes "open " ++ (name ++ codes " core") → IsScript (call ∷ []) → line ≡ call_line call → IsHandleName name
open_name line name (Open handle rail exclusive) read script same =
    let spelled : line ≡ codes "open " ++ (handle.bytes ++ codes " core") = rw script.2 at same in
    let ends : handle.bytes ++ codes " core" ≡ name ++ codes " core" = cc in
    subst IsHandleName (append_cancel_right handle.bytes name (codes " core") ends) script.0
open_name line name call read script same = absurd script

-- two lines that open handles are equal only if the names are
open_same : (h h' : ArrayString) (rail rail' : RailId) (exclusive exclusive' : Bool) → exclusive ≡ false → exclusive' ≡ false → call_line (Open h rail exclusive) ≡ call_line (Open h' rail' exclusive') → h.bytes ≡ h'.bytes
open_same h h' rail rail' exclusive exclusive' shared shared' same =
    let spelled : codes "open " ++ (h.bytes ++ codes " core") ≡ call_line (Open h' rail' exclusive') = rw shared at same in
    let both : codes "open " ++ (h.bytes ++ codes " core") ≡ codes "open " ++ (h'.bytes ++ codes " core") = rw shared' at spelled in
    append_cancel_right h.bytes h'.bytes (codes " core") cc

-- a line among those of calls on a handle is the line of such a call
used : (name line : List ℕ) (calls before : List Call) (more : List (List ℕ)) → All (Uses name) calls → map call_line calls ≡ map call_line before ++ line ∷ more → (call : Call) × Uses name call × (line ≡ call_line call)
used name line [] [] more uses same = absurd cc
used name line [] (b ∷ before) more uses same = absurd cc
used name line (call ∷ calls) [] more uses same = (call, All-head (Uses name) call calls uses, cc)
used name line (call ∷ calls) (b ∷ before) more uses same =
    used name line calls before more (All-tail (Uses name) call calls uses) cc

-- what goes on with a script is a call on its handle
pub next_use : (line : List ℕ) (handle : ArrayString) (rail : RailId) (exclusive : Bool) (script calls : List Call) (more : List (List ℕ)) → slice_get script 0 ≡ Some (Open handle rail exclusive) → IsScript script → IsScript calls → map call_line calls ≡ map call_line script ++ line ∷ more → (call : Call) × Uses handle.bytes call × (line ≡ call_line call)
next_use line handle rail exclusive [] calls more first script_is calls_is same = absurd cc
next_use line handle rail exclusive (Open h r e ∷ script) [] more first script_is calls_is same = absurd cc
next_use line handle rail exclusive (Open h r e ∷ script) (Open h' r' e' ∷ calls) more first script_is calls_is same =
    let heads : call_line (Open h' r' e') ≡ call_line (Open h r e) = cc in
    let tails : map call_line calls ≡ map call_line script ++ line ∷ more = cc in
    let opened : h ≡ handle = cc in
    let name : h'.bytes ≡ handle.bytes = open_same h' h r' r e' e calls_is.2 script_is.2 heads ∙ ap (λ (x : ArrayString). x.bytes) opened in
    let uses : All (Uses handle.bytes) calls = subst (λ n. All (Uses n) calls) name calls_is.3 in
    used handle.bytes line calls script more uses tails
next_use line handle rail exclusive (Open h r e ∷ script) (call ∷ calls) more first script_is calls_is same = absurd calls_is
next_use line handle rail exclusive (call ∷ script) calls more first script_is calls_is same = absurd script_is
