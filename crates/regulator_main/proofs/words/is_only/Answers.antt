use Rattle.std.proofs.Common.{◌∷◌, [], ◌∙◌, ap, sym}
use Rattle.std.specs.String.{string_bytes}
use Rattle.regulator_main.proofs.Sole.{sole_word, is_word}
use Rattle.regulator_main.proofs.words.is_only.Goals as goal

pub returns-in-len1 : goal.returns-in-len1
returns-in-len1 c =
    is_word _ c.as_str.result.now c.args.word.now c.eq.result c.eq.ensures
    (sole_word string_bytes c.args.words.now c.only-item.result c.in-len1.len_at_least c.in-len1.len_below c.only-item.is ∙ ap (λ t. t ∷ []) (sym c.as_str.ensures.value))
