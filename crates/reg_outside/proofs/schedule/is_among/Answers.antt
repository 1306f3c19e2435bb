use Rattle.std.proofs.Common.{◌≡◌, ℕ, ◌<◌, ◌≤◌, length, get_or, rules, arith, sym, ap, ◌∙◌}
use Rattle.std.specs.FinSet.{contains, from_list}
use Rattle.std.specs.Ordering.{nat_cmp}
use Rattle.reg_outside.proofs.Plans.{is_ok-searched, contains-above}
use Rattle.reg_outside.proofs.schedule.is_among.Goals as goal

pub returns-in-Ok : goal.returns-in-Ok
returns-in-Ok c =
    let same : c.in-Ok.number ≡ c.args.number = search rules in
    c.is_ok.ensures.value
    ∙ is_ok-searched c.args.numbers.now c.in-Ok.number c.binary_search.result c.binary_search.ensures.position c.requires
    ∙ ap (contains (from_list {R = nat_cmp} c.args.numbers.now)) same

pub returns-in-Err : goal.returns-in-Err
returns-in-Err c =
    let small : (k : ℕ) → k < length c.args.numbers.now → get_or c.args.numbers.now k 0 < 4294967296 = search rules in
    let large : 4294967296 ≤ c.args.number = search rules in
    sym (contains-above c.args.numbers.now c.args.number (λ k within. let less = small k within in omega arith))
