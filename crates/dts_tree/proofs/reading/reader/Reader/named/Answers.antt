use Rattle.std.proofs.Common.{◌≡◌, ◌∙◌, ◌∷◌, [], List, Ok, true, ap, map, sym, arith}
use Rattle.std.proofs.lemmas.List.{map-append}
use Rattle.dts_lex.specs.Class.{is_label}
use Rattle.dts_tree.specs.Setting.{Label}
use Rattle.dts_tree.specs.Inside.Reader.{label_in, name_in, view_of, waiting_size}
use Rattle.dts_tree.specs.Inside.View.{View}
use Rattle.dts_tree.specs.Inside.View as view
use Rattle.dts_tree.proofs.ReaderLemmas.{waiting-push}
use Rattle.dts_tree.proofs.reading.reader.Reader.named.Goals as goal

pub returns-in_ok-push-in-Colon-clause-ok : goal.returns-in_ok-push-in-Colon-clause-ok
returns-in_ok-push-in-Colon-clause-ok c =
    let r = c.args.self.now in
    let text = c.args.text.now in
    let v : View = view_of text r in
    let ready = c.requires.ready in
    let items = c.in_ok-push-in-Colon.ensures.items in
    let label : is_label (name_in text c.args.name) ≡ true = ap is_label (sym c.slice_of.ensures) ∙ sym c.is_label.ensures ∙ c.if-not-is_label.false in
    let size = ap waiting_size items ∙ waiting-push r.waiting.items c.args.name in
    record {
      view = rw (c.in-Colon.is, label) (ap (λ (ls : List Label). Ok (record v { spot = view.Behind; waiting = ls })) (sym (ap (map (label_in text)) items ∙ map-append (label_in text) r.waiting.items (c.args.name ∷ []))));
      kept = ready.kept;
      counted = (omega (arith, ready.counted.0, ready.token.0, c.requires.spot), omega (arith, ready.counted.1, ready.token.0, c.requires.spot), omega (arith, ready.counted.2, ready.token.0, c.requires.spot, size));
    }
