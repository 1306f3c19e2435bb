use Rattle.std.proofs.Common.{◌∙◌, ◌<◌, ◌≤◌, ℕ, List, map, ap, sym, subst, length, get_or, arith}
use Rattle.std.specs.List.{AllByRecursion}
use Rattle.std.proofs.lemmas.List.{length-map}
use Rattle.dts_tree.specs.declared.piece.Piece.{Piece}
use Rattle.dts_tree.specs.declared.store.Span.{Span}
use Rattle.dts_tree.specs.Inside.Below.{IsPieceBelow}
use Rattle.dts_tree.specs.Inside.Kept.{nodes_kept}
use Rattle.dts_tree.specs.Inside.Listing.{IsListing}
use Rattle.dts_tree.specs.Inside.Numbered.{number_of}
use Rattle.dts_tree.specs.Inside.Pieces.{piece_by}
use Rattle.dts_tree.specs.Inside.Stored.{store_of}
use Rattle.dts_tree.proofs.LayoutLemmas.{layout-inside}
use Rattle.dts_tree.proofs.MadeLemmas.{pieces-below, kept-tree, outcome-known}
use Rattle.dts_tree.proofs.tree.nodes.nodes_of.Goals as goal

pub listing_of-requires-clause-inside : goal.listing_of-requires-clause-inside
listing_of-requires-clause-inside c = λ i inside.
    let children = c.args.store.children in
    let owners = map (λ e. e.0.0) children in
    let layout = c.in_ok-layout.layout in
    let same = c.as_slice-2.ensures.value in
    let earlier : (k : ℕ) → k < length owners → get_or owners k 0 ≤ k = λ k in_k. c.requires.sound.earlier k (omega (arith, in_k, length-map children (λ e. e.0.0))) in
    let under = layout-inside owners layout.order.items layout.ranks.items earlier c.in_ok-layout.ensures i (omega (arith, inside, ap length same)) in
    omega (arith, under, ap (λ xs. get_or xs i 0) same, c.len-count.ensures, layout.ranks.ok.0, c.in_ok-layout.ensures.long)

pub invariant_of-result : goal.invariant_of-result
invariant_of-result c =
    let store = c.args.store in
    let text = c.args.text.now in
    let pieces = c.args.pieces.items in
    let layout = c.in_ok-layout.layout in
    let n = length layout.order.items in
    let same = c.in_ok-pieces.ensures.numbered ∙ ap (λ rs. map (piece_by (number_of text c.args.labels rs)) pieces) c.as_slice.ensures.value in
    record {
      few = c.requires.sound.few;
      earlier = c.requires.sound.earlier;
      layout = c.in_ok-layout.ensures;
      listing = subst (λ (order : List ℕ). IsListing (map (λ e. e.0.0) store.properties) order c.in_ok-listing.listing.places.items c.in_ok-listing.listing.starts.items) c.as_slice-2.ensures.value
          (subst (λ (es : List ((ℕ × List ℕ) × Span)). IsListing (map (λ e. e.0.0) es) c.as_slice-2.result.now c.in_ok-listing.listing.places.items c.in_ok-listing.listing.starts.items) c.list.ensures c.in_ok-listing.ensures);
      below = subst (λ (ps : List (Piece ℕ)). AllByRecursion (IsPieceBelow n) ps) (sym same)
          (pieces-below text pieces store c.args.labels c.requires.sound layout.order.items layout.ranks.items c.in_ok-layout.ensures pieces);
    }

pub returns-clause-tree : goal.returns-clause-tree
returns-clause-tree c =
    let store = c.args.store in
    let text = c.args.text.now in
    let pieces = c.args.pieces.items in
    let layout = c.in_ok-layout.layout in
    let same = c.in_ok-pieces.ensures.numbered ∙ ap (λ rs. map (piece_by (number_of text c.args.labels rs)) pieces) c.as_slice.ensures.value in
    outcome-known text pieces (store_of store c.args.labels) (nodes_kept store c.in_ok-pieces.pieces.items layout.order.items) c.in_ok-pieces.ensures.known
    (ap (λ ps. nodes_kept store ps layout.order.items) same
    ∙ kept-tree text pieces store c.args.labels c.requires.sound layout.order.items layout.ranks.items c.in_ok-layout.ensures)
