-- The registers that a session finds.
use Rattle.std.proofs.Common.{◌≡◌, ℕ, suc, ◌+◌, ◌<◌, false, leb, List, [], ◌∷◌, ◌++◌, length, get_or, take, refl, ap, ◌∙◌, arith}
use Rattle.std.specs.Prelude.{replicate}
use Rattle.std.specs.List.{filter_map}
use Rattle.std.proofs.Math.Seq.{take-suc}
use Rattle.std.proofs.lemmas.Bool.Decides.{nat_tests}
use Rattle.std.proofs.lemmas.List.Elements.{filter_map-append}
use Rattle.std.proofs.lemmas.List.{length-set, length-replicate}
use Rattle.chip_regs.specs.Registers.{with_byte}
use Rattle.chip_regs.specs.Width.{chip_registers}
use Rattle.board_draft.specs.declared.drafted.Drafted.{Drafted}
use Rattle.board_load.specs.Registers.{with_bytes, reset_regs}
use Rattle.session.specs.declared.setup.Setup.{Setup}
use Rattle.session.specs.Loading.{register_in, refusal_in, refusals_in}

length-with_byte : (regs : List (List ℕ)) (chip reg byte : ℕ) → length (with_byte regs chip reg byte) ≡ length regs
unfolding with_byte
length-with_byte regs chip reg byte = length-set regs chip _

pub length-with_bytes : (regs : List (List ℕ)) (news : List (ℕ × ℕ × ℕ)) → length (with_bytes regs news) ≡ length regs
length-with_bytes regs [] = refl
length-with_bytes regs (new ∷ news) = length-with_bytes (with_byte regs new.0 new.1 new.2) news ∙ length-with_byte regs new.0 new.1 new.2

pub length-reset : (drafted : Drafted) → length (reset_regs drafted) ≡ drafted.board.chips
length-reset drafted =
    length-with_bytes (replicate drafted.board.chips (replicate chip_registers 0)) drafted.resets ∙ length-replicate drafted.board.chips (replicate chip_registers 0)

-- more contents, behind those before
pub with_bytes-append : (regs : List (List ℕ)) (news more : List (ℕ × ℕ × ℕ)) → with_bytes regs (news ++ more) ≡ with_bytes (with_bytes regs news) more
with_bytes-append regs [] more = refl
with_bytes-append regs (new ∷ news) more = with_bytes-append (with_byte regs new.0 new.1 new.2) news more

-- one line more of a setup
pub found_more : (regs : List (List ℕ)) (setup : List Setup) (k : ℕ) (d : Setup) → k < length setup
    → with_bytes regs (filter_map register_in (take (k + 1) setup)) ≡ with_bytes (with_bytes regs (filter_map register_in (take k setup))) (filter_map register_in (get_or setup k d ∷ []))
found_more regs setup k d within =
    let next : k + 1 ≡ suc k = omega arith in
    ap (λ n. with_bytes regs (filter_map register_in (take n setup))) next
    ∙ ap (λ lines. with_bytes regs (filter_map register_in lines)) (take-suc setup k d within)
    ∙ ap (with_bytes regs) (filter_map-append register_in (take k setup) (get_or setup k d ∷ []))
    ∙ with_bytes-append regs (filter_map register_in (take k setup)) (filter_map register_in (get_or setup k d ∷ []))

-- one line more of refusals
pub refused_more : (setup : List Setup) (k : ℕ) (d : Setup) → k < length setup → refusals_in (take (k + 1) setup) ≡ refusals_in (take k setup) ++ refusals_in (get_or setup k d ∷ [])
refused_more setup k d within =
    let next : k + 1 ≡ suc k = omega arith in
    ap (λ n. refusals_in (take n setup)) next ∙ ap refusals_in (take-suc setup k d within) ∙ filter_map-append refusal_in (take k setup) (get_or setup k d ∷ [])

-- a chip that isn't beyond the last is one
pub chip_below : (chips chip : ℕ) → leb chips chip ≡ false → chip < chips
chip_below chips chip is = grind (arith, nat_tests)
