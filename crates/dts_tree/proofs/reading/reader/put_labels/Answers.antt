use Rattle.std.proofs.Common.{◌≡◌, ◌∙◌, ◌∷◌, [], ℕ, List, map, take, get_or, ap, sym, arith}
use Rattle.std.proofs.lemmas.List.{drop_more, map-append, take_more}
use Rattle.std.proofs.lemmas.List.Sums.{fold-append}
use Rattle.name_map.specs.NameEntries.{same_name, keep_entry, size_of}
use Rattle.dts_lex.specs.declared.token.Token.{Token}
use Rattle.dts_lex.specs.declared.token.Kind.TheVariants as kind
use Rattle.dts_tree.specs.Content.{with_labels}
use Rattle.dts_tree.specs.Setting.{Label}
use Rattle.dts_tree.specs.Inside.Reader.{label_in, name_in, waiting_size}
use Rattle.dts_tree.proofs.ReaderLemmas.{name-length, size-keep}
use Rattle.dts_tree.proofs.reading.reader.put_labels.Goals as goal

abbrev blank : Token
blank = record { kind = kind.Word; start = 0; end = 0 }

pub loop-token-preserved : goal.loop-token-preserved
loop-token-preserved c =
    let text = c.args.text.now in
    let first = c.args.labels.now in
    let node = c.args.node in
    let waiting = c.args.waiting.now in
    let i = c.loop-token.token-index in
    let t = get_or waiting i blank in
    let labels = c.loop-token.labels in
    let inside = c.loop-token-test.true in
    let keep : List ((ℕ × List ℕ) × ℕ) → List ℕ → List ((ℕ × List ℕ) × ℕ) = λ es name. keep_entry same_name es (0, name) node in
    let kept : c.keep.new.self ≡ keep labels (name_in text t) = c.in_ok-keep.ensures.ok ∙ ap (keep labels) c.slice_of.ensures in
    record {
      room = omega (arith, c.loop-token.invariant.room, ap waiting_size (drop_more waiting i blank inside), ap size_of kept, size-keep labels (0, name_in text t) node, name-length text t);
      put = kept
          ∙ ap (λ es. keep es (name_in text t)) c.loop-token.invariant.put
          ∙ sym (ap (λ ls. with_labels first node ls) (ap (map (label_in text)) (take_more waiting i blank inside) ∙ map-append (label_in text) (take i waiting) (t ∷ []))
          ∙ fold-append (λ es (l : Label). keep es l.name) first (map (label_in text) (take i waiting)) (label_in text t ∷ []));
    }
