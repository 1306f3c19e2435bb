use Rattle.std.proofs.Common.{◌≡◌, ◌<◌, ◌≤◌, ◌+◌, ℕ, ◌∙◌, List, length, map, drop, slice_index_or, sym, ap, subst, arith}
use Rattle.std.specs.Prelude.{reverse}
use Rattle.std.specs.List.{enumerate_from}
use Rattle.std.proofs.lemmas.List.{length-map, length_push}
use Rattle.board.specs.declared.rail.Rail.{Rail}
use Rattle.constraints.specs.Node.{constraints_at}
use Rattle.board_graph.specs.declared.graph.Graph.{Graph}
use Rattle.board_nodes.specs.Rails.{Found, seen}
use Rattle.board_draft.specs.Sketch.{rail_at, trimmed}
use Rattle.board_draft.proofs.Walks.{take_all}
use Rattle.board_draft.proofs.BuildLemmas.{last_of, rail_is, supply_there, group_there, limits_there, supply_count, group_count, one_before, none_yet, same_default}
use Rattle.board_draft.proofs.build.rails_of.Goals as goal

pub loop-node-init : goal.loop-node-init
loop-node-init c =
    let all = c.args.nodes.items in
    let few : length all ≤ length all = omega arith in
    record {
      few = few;
      kept = sym (take_all all (length all) few);
      built = ap (λ (rails : List Rail). map trimmed (reverse rails)) c.in_ok-rails.ensures.items ∙ none_yet c.args.tree.now all;
    }

pub offset_bounds-as_slice-r : goal.offset_bounds-as_slice-r
offset_bounds-as_slice-r c =
    let few = c.requires.few in
    let inside = (last_of c.args.nodes.items c.loop-node.nodes.items c.pop.new.self.items c.in-Some.node c.in-Some.ensures.items c.loop-node.invariant.kept).inside in
    let n : c.len-r.result ≡ length c.pop.new.self.items = let len = c.len-r.ensures in let ok = c.pop.new.self.ok.0 in omega (arith, len, ok) in
    omega (arith, few, inside, n)

pub bounds-as_slice-r : goal.bounds-as_slice-r
bounds-as_slice-r c =
    let inside = (last_of c.args.nodes.items c.loop-node.nodes.items c.pop.new.self.items c.in-Some.node c.in-Some.ensures.items c.loop-node.invariant.kept).inside in
    let n : c.len-r.result ≡ length c.pop.new.self.items = let len = c.len-r.ensures in let ok = c.pop.new.self.ok.0 in omega (arith, len, ok) in
    let count = ap length (c.as_slice.ensures ∙ ap (λ (g : Graph). g.supply) c.requires.graph) ∙ supply_count c.args.tree.now (map seen c.args.nodes.items) ∙ length-map c.args.nodes.items seen in
    omega (arith, inside, n, count)

pub bounds-as_slice-r-in-Some : goal.bounds-as_slice-r-in-Some
bounds-as_slice-r-in-Some c =
    let inside = (last_of c.args.nodes.items c.loop-node.nodes.items c.pop.new.self.items c.in-Some.node c.in-Some.ensures.items c.loop-node.invariant.kept).inside in
    let n : c.len-r.result ≡ length c.pop.new.self.items = let len = c.len-r.ensures in let ok = c.pop.new.self.ok.0 in omega (arith, len, ok) in
    let count = ap length (c.as_slice-in-Some.ensures ∙ ap (λ (g : Graph). g.group) c.requires.graph) ∙ group_count c.args.tree.now (map seen c.args.nodes.items) ∙ length-map c.args.nodes.items seen in
    omega (arith, inside, n, count)

pub bounds-limits-r : goal.bounds-limits-r
bounds-limits-r c =
    let inside = (last_of c.args.nodes.items c.loop-node.nodes.items c.pop.new.self.items c.in-Some.node c.in-Some.ensures.items c.loop-node.invariant.kept).inside in
    let n : c.len-r.result ≡ length c.pop.new.self.items = let len = c.len-r.ensures in let ok = c.pop.new.self.ok.0 in omega (arith, len, ok) in
    let count = ap length c.requires.limits ∙ length-map (map seen c.args.nodes.items) (λ (rail : Found). constraints_at c.args.tree.now rail.node rail.desc) ∙ length-map c.args.nodes.items seen in
    omega (arith, inside, n, count)

pub loop-node-preserved : goal.loop-node-preserved
loop-node-preserved c =
    let all = c.args.nodes.items in
    let rest = c.pop.new.self.items in
    let node = c.in-Some.node in
    let last = last_of all c.loop-node.nodes.items rest node c.in-Some.ensures.items c.loop-node.invariant.kept in
    let inside = last.inside in
    let n : c.len-r.result ≡ length rest = let len = c.len-r.ensures in let ok = c.pop.new.self.ok.0 in omega (arith, len, ok) in
    let more : length c.loop-node.nodes.items ≡ length rest + 1 = ap length c.in-Some.ensures.items ∙ length_push rest node in
    let r = c.len-r.result in
    let found = map seen all in
    let nodes = c.args.tree.now in
    let g : ℕ × Found → Rail = λ rail. rail_at nodes found rail.0 rail.1 in
    let within : r < length all = omega (arith, inside, n) in
    let item : node ≡ slice_index_or all r node = subst (λ (k : ℕ). node ≡ slice_index_or all k node) (sym n) last.item in
    let feeds = c.as_slice.ensures ∙ ap (λ (g : Graph). g.supply) c.requires.graph in
    let grouped = c.as_slice-in-Some.ensures ∙ ap (λ (g : Graph). g.group) c.requires.graph in
    let supplies : r < length c.as_slice.result.now = let count = ap length feeds ∙ supply_count nodes found ∙ length-map all seen in omega (arith, within, count) in
    let groups : r < length c.as_slice-in-Some.result.now = let count = ap length grouped ∙ group_count nodes found ∙ length-map all seen in omega (arith, within, count) in
    let limits : r < length c.args.limits.now =
    let count = ap length c.requires.limits ∙ length-map found (λ (rail : Found). constraints_at nodes rail.node rail.desc) ∙ length-map all seen in omega (arith, within, count) in
    let first = limits_there nodes all r node within item c.args.limits.now _ c.requires.limits (same_default c.args.limits.now r _ limits) in
    let second = supply_there nodes all r node within item c.as_slice.result.now _ feeds (same_default c.as_slice.result.now r _ supplies) in
    let third = group_there nodes all r node within item c.as_slice-in-Some.result.now _ grouped (same_default c.as_slice-in-Some.result.now r _ groups) in
    let new : trimmed c.rail_from.result ≡ rail_at nodes found r (seen node) = c.rail_from.ensures ∙ rail_is nodes found r (seen node) _ _ _ first second third in
    let older : map trimmed (reverse c.loop-node.rails.items) ≡ map g (drop (r + 1) (enumerate_from 0 found)) =
    let steps : length c.loop-node.nodes.items ≡ r + 1 = omega (arith, more, n) in
    c.loop-node.invariant.built ∙ ap (λ (k : ℕ). map g (drop k (enumerate_from 0 found))) steps in
    record {
      few = omega (arith, inside);
      kept = last.rest_is;
      built = ap (λ (rails : List Rail). map trimmed (reverse rails)) c.in_ok-push.ensures.items
          ∙ one_before nodes all r node within item c.loop-node.rails.items c.rail_from.result older new
          ∙ ap (λ (k : ℕ). map g (drop k (enumerate_from 0 found))) n;
    }

pub returns : goal.returns
returns c =
    let all = c.args.nodes.items in
    let nodes = c.args.tree.now in
    let g : ℕ × Found → Rail = λ rail. rail_at nodes (map seen all) rail.0 rail.1 in
    let none : length c.loop-node.nodes.items ≡ 0 = let empty = c.in_default.ensures.cases.0 in let ok = c.loop-node.nodes.ok.0 in omega (arith, empty, ok) in
    ap (map trimmed) (c.from_vec.ensures ∙ c.reverse.ensures.items) ∙ c.loop-node.invariant.built ∙ ap (λ (k : ℕ). map g (drop k (enumerate_from 0 (map seen all)))) none
