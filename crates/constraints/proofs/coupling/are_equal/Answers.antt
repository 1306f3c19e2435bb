use Rattle.std.proofs.Common.{◌∙◌, true, nat_eq, ap, rules, tests}
use Rattle.std.specs.List.{list_all}
use Rattle.std.specs.Option.{option_map_or}
use Rattle.std.proofs.lemmas.Iterator.{YieldsList-from_slice}
use Rattle.std.proofs.lemmas.Iterator.Search.{all_from_yields_List}
use Rattle.constraints.proofs.coupling.are_equal.Goals as goal

pub returns-in-Some : goal.returns-in-Some
returns-in-Some c =
    let numbers = c.args.numbers.now in
    all_from_yields_List (nat_eq c.in-Some.first.now) _ _ c.all.result c.all.ensures.ran (YieldsList-from_slice numbers cc) (λ x b q k. search (rules, tests))
    ∙ ap (λ first. option_map_or (λ n. list_all (nat_eq n) numbers) first true) c.in-Some.ensures.value
