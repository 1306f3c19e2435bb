use Rattle.std.proofs.Common.{◌∙◌, Some, ap, sym, map, ◌++◌, [], ◌∷◌}
use Rattle.std.proofs.lemmas.List.{map-append}
use Rattle.dts_tree.specs.Inside.Strings.{with_last_byte}
use Rattle.dts_tree.proofs.StringLemmas.{with_last_byte-append}
use Rattle.dts_tree.proofs.tree.value.put_byte.Goals as goal

pub returns : goal.returns
returns c =
    let rest = c.pop.new.self.items in
    let b = c.args.byte in
    ap (λ ss. Some (map (λ s. s.items) ss)) c.in_ok-push-2.ensures.items
    ∙ ap Some (map-append (λ s. s.items) rest (c.push.new.self ∷ []))
    ∙ ap (λ bytes. Some (map (λ s. s.items) rest ++ bytes ∷ [])) c.in_ok-push.ensures.items
    ∙ sym (with_last_byte-append (map (λ s. s.items) rest) c.in-Some.last.items b)
    ∙ ap (λ ss. with_last_byte ss b) (sym (map-append (λ s. s.items) rest (c.in-Some.last ∷ [])) ∙ ap (map (λ s. s.items)) (sym c.in-Some.ensures.items))
