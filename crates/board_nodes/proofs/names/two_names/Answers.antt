use Rattle.std.proofs.Common.{◌+◌, ◌≤◌, ◌<◌, ◌∙◌, ap, sym, ℕ, List, Option, length, map, arith}
use Rattle.std.proofs.lemmas.List.{length-map}
use Rattle.std.specs.Option.{option_map, option_or}
use Rattle.board_nodes.specs.Inside.Drafts.{name_of}
use Rattle.board_nodes.proofs.NameLemmas.{two_from, two_from-all, two_from-step, two_from-end}
use Rattle.board_nodes.proofs.names.two_names.Goals as goal

pub loop-a-init : goal.loop-a-init
loop-a-init c = two_from-all (map name_of c.args.drafts.now)

pub loop-a-preserved : goal.loop-a-preserved
loop-a-preserved c =
    let names : List (List ℕ) = map name_of c.args.drafts.now in
    let a : ℕ = c.loop-a.a in
    let inside : a < length names = omega (arith, length-map c.args.drafts.now name_of) in
    c.loop-a.invariant
    ∙ two_from-step names a inside
    ∙ ap (λ (o : Option ℕ). option_or (option_map (λ b. (a, b)) o) (two_from names (a + 1))) (sym c.same_behind.ensures.same ∙ c.in_default.is)

pub returns-in-Some : goal.returns-in-Some
returns-in-Some c =
    let names : List (List ℕ) = map name_of c.args.drafts.now in
    let a : ℕ = c.loop-a.a in
    let inside : a < length names = omega (arith, length-map c.args.drafts.now name_of) in
    sym (c.loop-a.invariant
    ∙ two_from-step names a inside
    ∙ ap (λ (o : Option ℕ). option_or (option_map (λ b. (a, b)) o) (two_from names (a + 1))) (sym c.same_behind.ensures.same ∙ c.in-Some.is))

pub returns : goal.returns
returns c =
    let names : List (List ℕ) = map name_of c.args.drafts.now in
    let past : length names ≤ c.loop-a.a = omega (arith, length-map c.args.drafts.now name_of) in
    sym (c.loop-a.invariant ∙ two_from-end names c.loop-a.a past)
