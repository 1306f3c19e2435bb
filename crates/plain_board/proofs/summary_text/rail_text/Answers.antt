use Rattle.std.proofs.Common.{◌≡◌, ℕ, List, [], ◌∷◌, refl, ◌∙◌, ap, append_assoc}
use Rattle.std.specs.Prelude.{codes, decimal, string_bytes}
use Rattle.std.proofs.lemmas.Option.{get_or_from_slice_get, slice_get_within}
use Rattle.std.proofs.lemmas.Result.{IfOk-weaker}
use Rattle.rows.specs.Words.{ended, spaced, mode_text, on_text}
use Rattle.plain_board.proofs.summary_text.rail_text.Goals as goal

pub is_on-requires : goal.is_on-requires
is_on-requires c =
    let at = get_or_from_slice_get c.args.board.now.rails c.args.id.0 c.args.rail.now c.args.rail.now c.requires.place in
    let sound = rw at at (c.requires.valid.sound.rails c.args.id.0 c.args.rail.now (slice_get_within _ _ _ c.requires.place)) in
    rw c.requires.inv.kept.regs sound.desc.placed

pub uv-uv-requires : goal.uv-uv-requires
uv-uv-requires c =
    let at = get_or_from_slice_get c.args.board.now.rails c.args.id.0 c.args.rail.now c.args.rail.now c.requires.place in
    let sound = rw at at (c.requires.valid.sound.rails c.args.id.0 c.args.rail.now (slice_get_within _ _ _ c.requires.place)) in
    rw c.requires.inv.kept.regs sound.desc.placed

pub mode-requires : goal.mode-requires
mode-requires c =
    let at = get_or_from_slice_get c.args.board.now.rails c.args.id.0 c.args.rail.now c.args.rail.now c.requires.place in
    let sound = rw at at (c.requires.valid.sound.rails c.args.id.0 c.args.rail.now (slice_get_within _ _ _ c.requires.place)) in
    rw c.requires.inv.kept.regs sound.desc.placed

pub use_count-used-requires : goal.use_count-used-requires
use_count-used-requires c = record { valid = c.requires.valid; inv = c.requires.inv; few = c.requires.few }

pub enables-enabled-requires : goal.enables-enabled-requires
enables-enabled-requires c = c.requires.few

-- the line of a rail by its words
abbrev line : List ℕ → List ℕ → ℕ → List ℕ → ℕ → ℕ → List ℕ
line name state uv mode used enabled =
    ended (spaced (codes "rail" ∷ name ∷ state ∷ decimal uv ∷ mode ∷ codes "use" ∷ decimal used ∷ codes "enables" ∷ decimal enabled ∷ []))

same_line : (name state state' : List ℕ) (uv uv' : ℕ) (mode mode' : List ℕ) (used used' enabled enabled' : ℕ)
    → state ≡ state' → uv ≡ uv' → mode ≡ mode' → used ≡ used' → enabled ≡ enabled' → line name state uv mode used enabled ≡ line name state' uv' mode' used' enabled'
same_line name state state' uv uv' mode mode' used used' enabled enabled' s u m n e = rw (s, u, m, n, e) refl

pub returns : goal.returns
returns c =
    IfOk-weaker c.format.result _ _
    (λ text is.
    let put : string_bytes text ≡ line c.args.rail.now.name.bytes c.on_text-state.result.now c.uv-uv.result c.mode_text-mode.result.now c.use_count-used.result c.enables-enabled.result =
    is ∙ simp append_assoc in
    put ∙ same_line c.args.rail.now.name.bytes _ _ _ _ _ _ _ _ _ _
    (c.on_text-state.ensures ∙ ap on_text c.is_on.ensures) c.uv-uv.ensures
    (c.mode_text-mode.ensures ∙ ap mode_text c.mode.ensures) c.use_count-used.ensures c.enables-enabled.ensures.value)
    c.format.ensures.ok
