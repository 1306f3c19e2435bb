use Rattle.std.proofs.Common.{◌∙◌, ◌-◌, ap, sym, length}
use Rattle.std.specs.Option.{unwrap_or}
use Rattle.std.proofs.lemmas.Option.{unwrap_or-slice_get}
use Rattle.name_map.proofs.ShelfLemmas.{last-read}
use Rattle.name_map.proofs.shelf.last_end.Goals as goal

pub returns-in-Some : goal.returns-in-Some
returns-in-Some c =
    ap (λ o. unwrap_or o 0) c.in-Some.ensures.value
    ∙ unwrap_or-slice_get c.args.ends.now (length c.args.ends.now - 1) 0
    ∙ sym (last-read 0 c.args.ends.now)

pub returns-in-None : goal.returns-in-None
returns-in-None c =
    ap (λ o. unwrap_or o 0) c.in-None.ensures.value
    ∙ unwrap_or-slice_get c.args.ends.now (length c.args.ends.now - 1) 0
    ∙ sym (last-read 0 c.args.ends.now)
