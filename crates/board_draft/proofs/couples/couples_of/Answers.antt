use Rattle.std.proofs.Common.{◌≡◌, ℕ, Bool, ◌∙◌, ◌++◌, [], ◌∷◌, map, take, refl, sym, ap}
use Rattle.std.specs.Prelude.{find}
use Rattle.std.specs.List.{enumerate_from}
use Rattle.std.specs.Option.{option_map}
use Rattle.board_nodes.specs.declared.rail_node.RailNode.{RailNode}
use Rattle.board_nodes.specs.Rails.{Found, seen}
use Rattle.board_draft.specs.declared.fault.BoardFault.TheVariants.{NoCouple}
use Rattle.board_draft.specs.Links.{named_by, names_badly}
use Rattle.board_draft.specs.Inside.Couples.{is_bad, first_bad}
use Rattle.board_draft.proofs.Walks.{place_taken, places_end, map_more, map_all, map_map, take_all}
use Rattle.board_draft.proofs.CoupleLemmas.{first_bad-more, told_at_first}
use Rattle.board_draft.proofs.couples.couples_of.Goals as goal

pub loop-r-preserved : goal.loop-r-preserved
loop-r-preserved c =
    let rails = c.args.rails.now in
    let seen_rails = map seen rails in
    let name = λ (rail : RailNode). named_by c.args.tree.now seen_rails (seen rail) in
    let test : ℕ × Found → Bool = λ rail. names_badly c.args.tree.now seen_rails rail.0 rail.1 in
    let es = enumerate_from 0 seen_rails in
    let r = c.loop-r.r in
    let rail = c.index-rails-r.result in
    let named = c.in_ok-couples.couples in
    let same : is_bad r named ≡ names_badly c.args.tree.now seen_rails r (seen rail) = rw (c.in_ok-couples.ensures.rails, c.in_ok-couples.ensures.lacking) refl in
    record {
      named = c.in_ok-push.ensures.items
          ∙ ap (λ s. s ++ named.rails ∷ []) c.loop-r.invariant.named
          ∙ ap (λ s. map name (take r rails) ++ s ∷ []) c.in_ok-couples.ensures.rails
          ∙ map_more name rails r rail c.loop-r-test.true c.index-rails-r.is;
      bad = c.first_bad-bad.ensures
          ∙ ap (λ b. first_bad b r named) c.loop-r.invariant.bad
          ∙ first_bad-more test (take r es) (r, seen rail) named same
          ∙ ap (λ xs. option_map (λ (x : ℕ × Found). x.0) (find test xs)) (sym (place_taken seen rails r rail c.loop-r-test.true c.index-rails-r.is));
    }

pub returns-clause-named : goal.returns-clause-named
returns-clause-named c =
    let rails = c.args.rails.now in
    c.from_vec.ensures
    ∙ map_all (λ rail. named_by c.args.tree.now (map seen rails) (seen rail)) rails c.loop-r.r c.loop-r.named.items c.loop-r-test.false c.loop-r.invariant.named
    ∙ sym (map_map (named_by c.args.tree.now (map seen rails)) seen rails)

pub returns-clause-bad : goal.returns-clause-bad
returns-clause-bad c =
    let rails = map seen c.args.rails.now in
    let test : ℕ × Found → Bool = λ rail. names_badly c.args.tree.now rails rail.0 rail.1 in
    let all = take_all (enumerate_from 0 rails) c.loop-r.r (places_end seen c.args.rails.now c.loop-r.r c.loop-r-test.false) in
    told_at_first (λ r. NoCouple r) test (enumerate_from 0 rails) c.loop-r.bad (c.loop-r.invariant.bad ∙ ap (λ xs. option_map (λ (x : ℕ × Found). x.0) (find test xs)) all)
