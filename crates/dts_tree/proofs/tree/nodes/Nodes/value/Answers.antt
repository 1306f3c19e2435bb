use Rattle.std.proofs.Common.{◌∙◌, ◌<◌, ℕ, List, Some, ap, sym, subst, length, arith}
use Rattle.std.specs.Prelude.{slice_range}
use Rattle.std.specs.Option.{option_map}
use Rattle.std.specs.List.{AllByRecursion}
use Rattle.std.proofs.lemmas.List.{get_or_read}
use Rattle.dts_tree.specs.declared.piece.Piece.{Piece}
use Rattle.dts_tree.specs.declared.store.Span.{Span}
use Rattle.dts_tree.specs.Inside.Pieces.{parts_of}
use Rattle.dts_tree.specs.Inside.Below.{IsPieceBelow}
use Rattle.dts_tree.proofs.KeptLemmas.{kept-count, kept-value, kept-past, map-none, all-slice}
use Rattle.dts_tree.proofs.tree.nodes.Nodes.value.Goals as goal

pub returns-then-node-len-clause-value : goal.returns-then-node-len-clause-value
returns-then-node-len-clause-value c =
    kept-past c.self.inside c.self.invariant c.args.self.now c.self.view_is c.args.node c.args.prop.now (omega (arith, c.if-node-len.true, c.len.ensures, c.self.inside.layout.order.ok.0))

pub returns-in-Some-clause-value : goal.returns-in-Some-clause-value
returns-in-Some-clause-value c =
    let t = c.self.inside in
    let node = c.args.node in
    let span = c.in-Some.span.now in
    let in_node : node < length t.layout.order.items = omega (arith, c.if-node-len.false, c.len.ensures, t.layout.order.ok.0) in
    let read = get_or_read t.layout.order.items node c.index-number.result.now in_node c.index-number.ensures 0 in
    kept-value c.self.inside c.self.invariant c.args.self.now c.self.view_is node c.index-number.result.now c.args.prop.now in_node read
    ∙ ap (option_map (λ (s : Span). parts_of (slice_range t.pieces.items s.from s.to))) (sym c.in-Some.ensures)
    ∙ ap (λ ps. Some (parts_of (slice_range ps span.from span.to))) (sym c.as_slice.ensures.value)
    ∙ ap (λ ps. Some (parts_of ps)) (sym c.pieces_in.ensures)

pub returns-in-Some-clause-below : goal.returns-in-Some-clause-below
returns-in-Some-clause-below c =
    let t = c.self.inside in
    let span = c.in-Some.span.now in
    let all : AllByRecursion (IsPieceBelow (length t.layout.order.items)) (slice_range t.pieces.items span.from span.to) = all-slice (IsPieceBelow (length t.layout.order.items)) span.from span.to t.pieces.items c.self.invariant.below in
    let same = c.pieces_in.ensures ∙ ap (λ ps. slice_range ps span.from span.to) c.as_slice.ensures.value in
    subst (λ (n : ℕ). AllByRecursion (IsPieceBelow n) c.pieces_in.result.now) (sym (kept-count c.self.inside c.self.invariant c.args.self.now c.self.view_is))
    (subst (λ (ps : List (Piece ℕ)). AllByRecursion (IsPieceBelow (length t.layout.order.items)) ps) (sym same) all)

pub returns-in-None-clause-value : goal.returns-in-None-clause-value
returns-in-None-clause-value c =
    let t = c.self.inside in
    let node = c.args.node in
    let in_node : node < length t.layout.order.items = omega (arith, c.if-node-len.false, c.len.ensures, t.layout.order.ok.0) in
    let read = get_or_read t.layout.order.items node c.index-number.result.now in_node c.index-number.ensures 0 in
    map-none _ _
    (kept-value c.self.inside c.self.invariant c.args.self.now c.self.view_is node c.index-number.result.now c.args.prop.now in_node read
    ∙ ap (option_map (λ (s : Span). parts_of (slice_range t.pieces.items s.from s.to))) (sym c.in-None.ensures))
