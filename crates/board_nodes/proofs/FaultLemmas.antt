-- The reasons against a board, part by part.
use Rattle.std.proofs.Common.{◌≡◌, ℕ, ◌+◌, ◌++◌, List, [], ◌∷◌, Option, Some, None, map, length, refl, sym, ap, ◌∙◌, arith}
use Rattle.std.specs.List.{enumerate_from, flat_map}
use Rattle.std.specs.Option.{option_or}
use Rattle.std.proofs.lemmas.List.{length-append, length-map}
use Rattle.std.proofs.lemmas.List.FromFn.{length-enumerate_from}
use Rattle.dts_tree.specs.Tree.{Node}
use Rattle.dts_nodes.specs.Firsts.{first_of}
use Rattle.board_nodes.specs.declared.draft.Draft.{Draft}
use Rattle.board_nodes.specs.declared.plan.Plan.{Plan}
use Rattle.board_nodes.specs.Chips.{chip_nodes, fixed_nodes}
use Rattle.board_nodes.specs.Rails.{Found, rails_at, rails_in, fixed_rail}
use Rattle.board_nodes.specs.Inside.Drafts.{found_in}
use Rattle.board_nodes.specs.Inside.Survey.{HasChips}

first_of-append : {A : Type 0} (os ps : List (Option A)) → first_of (os ++ ps) ≡ option_or (first_of os) (first_of ps)
first_of-append [] ps = refl
first_of-append (None ∷ os) ps = first_of-append os ps
first_of-append (Some a ∷ os) ps = refl

-- behind those that aren't told
pub first_of-behind : {A : Type 0} (os ps : List (Option A)) → first_of os ≡ None → first_of (os ++ ps) ≡ first_of ps
first_of-behind os ps none = first_of-append os ps ∙ ap (λ o. option_or o (first_of ps)) none

-- how many rails there are, before the fixed ones have their descriptions
pub length-rails_in : (nodes : List Node) (drafts : List Draft) → map found_in drafts ≡ flat_map (λ chip. rails_at nodes chip.0 chip.1) (enumerate_from 0 (chip_nodes nodes))
    → length (rails_in nodes) ≡ length drafts + length (fixed_nodes nodes)
length-rails_in nodes drafts is =
    let chips : List Found = flat_map (λ chip. rails_at nodes chip.0 chip.1) (enumerate_from 0 (chip_nodes nodes)) in
    let fixed : List (ℕ × ℕ) = enumerate_from 0 (fixed_nodes nodes) in
    let f : ℕ × ℕ → Found = λ (at : ℕ × ℕ). fixed_rail nodes (length (chip_nodes nodes)) at.0 at.1 in
    let both : length (chips ++ map f fixed) ≡ length chips + length (map f fixed) = length-append chips (map f fixed) in
    let of_chips : length chips ≡ length drafts = ap length (sym is) ∙ length-map drafts found_in in
    let of_fixed : length (map f fixed) ≡ length (fixed_nodes nodes) = length-map fixed f ∙ length-enumerate_from 0 (fixed_nodes nodes) in
    both ∙ omega (arith, of_chips, of_fixed)

-- the same, by what was found
pub count-is : (nodes : List Node) (chips : List ℕ) (count : ℕ) (plan : Plan) (fixed : List ℕ) → chips ≡ chip_nodes nodes → HasChips nodes chips count plan → fixed ≡ fixed_nodes nodes
    → length plan.drafts + length fixed ≡ length (rails_in nodes)
count-is nodes chips count plan fixed is has fixed_is =
    let whole = length-rails_in nodes plan.drafts (has.rails ∙ ap (λ (cs : List ℕ). flat_map (λ chip. rails_at nodes chip.0 chip.1) (enumerate_from 0 cs)) is) in
    let same : length fixed ≡ length (fixed_nodes nodes) = ap length fixed_is in
    omega (arith, whole, same)
