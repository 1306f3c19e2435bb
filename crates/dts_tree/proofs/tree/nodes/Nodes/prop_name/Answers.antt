use Rattle.std.proofs.Common.{◌∙◌, ◌<◌, ◌+◌, ℕ, List, [], ap, length, map, get_or, sym, arith}
use Rattle.std.proofs.lemmas.List.{get_or_read}
use Rattle.dts_tree.specs.declared.store.Span.{Span}
use Rattle.dts_tree.proofs.KeptLemmas.{kept-count, kept-starts, kept-next, kept-end, kept-place, kept-name}
use Rattle.dts_tree.proofs.tree.nodes.Nodes.prop_name.Goals as goal

pub index-start-requires : goal.index-start-requires
index-start-requires c = omega (arith, c.requires.node, kept-count c.self.inside c.self.invariant c.args.self.now c.self.view_is, kept-starts c.self.inside c.self.invariant c.args.self.now c.self.view_is, c.self.inside.listing.starts.ok.0)

pub overflow_add-start : goal.overflow_add-start
overflow_add-start c =
    let node = c.args.node in
    let in_node : node < length c.self.inside.layout.order.items = omega (arith, c.requires.node, kept-count c.self.inside c.self.invariant c.args.self.now c.self.view_is) in
    let read = get_or_read c.self.inside.listing.starts.items node c.index-start.result.now (omega (arith, in_node, kept-starts c.self.inside c.self.invariant c.args.self.now c.self.view_is)) c.index-start.ensures 0 in
    omega (arith, read, kept-next c.self.inside c.self.invariant c.args.self.now c.self.view_is node in_node, kept-end c.self.inside c.self.invariant c.args.self.now c.self.view_is node in_node, c.requires.prop, c.self.inside.listing.places.ok.0, c.self.inside.listing.places.small)

pub index-place-requires : goal.index-place-requires
index-place-requires c =
    let node = c.args.node in
    let in_node : node < length c.self.inside.layout.order.items = omega (arith, c.requires.node, kept-count c.self.inside c.self.invariant c.args.self.now c.self.view_is) in
    let read = get_or_read c.self.inside.listing.starts.items node c.index-start.result.now (omega (arith, in_node, kept-starts c.self.inside c.self.invariant c.args.self.now c.self.view_is)) c.index-start.ensures 0 in
    omega (arith, read, kept-next c.self.inside c.self.invariant c.args.self.now c.self.view_is node in_node, kept-end c.self.inside c.self.invariant c.args.self.now c.self.view_is node in_node, c.requires.prop, c.self.inside.listing.places.ok.0)

pub name-requires : goal.name-requires
name-requires c =
    let node = c.args.node in
    let places = c.self.inside.listing.places.items in
    let in_node : node < length c.self.inside.layout.order.items = omega (arith, c.requires.node, kept-count c.self.inside c.self.invariant c.args.self.now c.self.view_is) in
    let read = get_or_read c.self.inside.listing.starts.items node c.index-start.result.now (omega (arith, in_node, kept-starts c.self.inside c.self.invariant c.args.self.now c.self.view_is)) c.index-start.ensures 0 in
    let in_place : c.index-start.result.now + c.args.prop < length places = omega (arith, read, kept-next c.self.inside c.self.invariant c.args.self.now c.self.view_is node in_node, kept-end c.self.inside c.self.invariant c.args.self.now c.self.view_is node in_node, c.requires.prop) in
    let place = get_or_read places (c.index-start.result.now + c.args.prop) c.index-place.result.now in_place c.index-place.ensures 0 ∙ ap (λ (n : ℕ). get_or places (n + c.args.prop) 0) read in
    omega (arith, kept-place c.self.inside c.self.invariant c.args.self.now c.self.view_is node c.args.prop c.index-place.result.now in_node c.requires.prop place, ap length c.list.ensures)

pub returns : goal.returns
returns c =
    let node = c.args.node in
    let places = c.self.inside.listing.places.items in
    let in_node : node < length c.self.inside.layout.order.items = omega (arith, c.requires.node, kept-count c.self.inside c.self.invariant c.args.self.now c.self.view_is) in
    let read = get_or_read c.self.inside.listing.starts.items node c.index-start.result.now (omega (arith, in_node, kept-starts c.self.inside c.self.invariant c.args.self.now c.self.view_is)) c.index-start.ensures 0 in
    let in_place : c.index-start.result.now + c.args.prop < length places = omega (arith, read, kept-next c.self.inside c.self.invariant c.args.self.now c.self.view_is node in_node, kept-end c.self.inside c.self.invariant c.args.self.now c.self.view_is node in_node, c.requires.prop) in
    let place = get_or_read places (c.index-start.result.now + c.args.prop) c.index-place.result.now in_place c.index-place.ensures 0 ∙ ap (λ (n : ℕ). get_or places (n + c.args.prop) 0) read in
    kept-name c.self.inside c.self.invariant c.args.self.now c.self.view_is node c.args.prop c.index-place.result.now in_node c.requires.prop place
    ∙ ap (λ (es : List ((ℕ × List ℕ) × Span)). get_or (map (λ e. e.0.1) es) c.index-place.result.now []) (sym c.list.ensures)
    ∙ c.name.ensures
