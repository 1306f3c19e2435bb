use Rattle.std.proofs.Common.{◌∙◌, ◌++◌, ◌+◌, Some, map, ap, sym, length, get_or, take, arith}
use Rattle.dts_tree.specs.Order.{children_from}
use Rattle.dts_tree.specs.Inside.Listing.{listed_of}
use Rattle.dts_tree.proofs.ListingLemmas.{rest_at, Waits, first-read, next-read, listed_more, listed-step, waits-from, rest-from, rest-step}
use Rattle.dts_tree.proofs.tree.listing.listing_of.Goals as goal

pub loop-waiting-init : goal.loop-waiting-init
loop-waiting-init c =
    let owners = map (λ e. e.0.0) c.args.properties.now in
    let order = c.args.order.now in
    let i = c.loop-number.number-index in
    let x = get_or order i 0 in
    let links = c.in_ok-links.links in
    let first = first-read owners c.args.count links.first.items links.next.items x c.index-waiting.result.now c.in_ok-links.ensures (c.requires.inside i c.loop-number-test.true) c.index-waiting.ensures in
    record {
      waits = waits-from owners x 0 c.index-waiting.result.now (sym first);
      left = ap (λ ys. c.loop-number.places.items ++ ys) (rest-from owners x 0 c.index-waiting.result.now (sym first))
          ∙ ap (λ ys. ys ++ children_from owners x 0) c.loop-number.invariant.listed
          ∙ sym (listed_more owners order i c.loop-number-test.true);
    }

pub loop-waiting-smaller : goal.loop-waiting-smaller
loop-waiting-smaller c =
    let owners = map (λ e. e.0.0) c.args.properties.now in
    let x = get_or c.args.order.now c.loop-number.number-index 0 in
    let p = c.in-Some.place in
    let links = c.in_ok-links.links in
    let waits : Waits owners x (Some p) = rw c.in-Some.is at c.loop-waiting.invariant.waits in
    let next = next-read owners c.args.count links.first.items links.next.items x p c.index-waiting-in-Some.result.now c.in_ok-links.ensures waits c.index-waiting-in-Some.ensures in
    let before = ap (λ o. length (rest_at owners x o)) c.in-Some.is in
    let step = ap length (rest-step owners x p waits) in
    let after = ap length (rest-from owners x (p + 1) c.index-waiting-in-Some.result.now (sym next)) in
    omega (arith, before, step, after)

pub loop-waiting-preserved : goal.loop-waiting-preserved
loop-waiting-preserved c =
    let owners = map (λ e. e.0.0) c.args.properties.now in
    let x = get_or c.args.order.now c.loop-number.number-index 0 in
    let p = c.in-Some.place in
    let links = c.in_ok-links.links in
    let waits : Waits owners x (Some p) = rw c.in-Some.is at c.loop-waiting.invariant.waits in
    let next = next-read owners c.args.count links.first.items links.next.items x p c.index-waiting-in-Some.result.now c.in_ok-links.ensures waits c.index-waiting-in-Some.ensures in
    record {
      waits = waits-from owners x (p + 1) c.index-waiting-in-Some.result.now (sym next);
      left = listed-step owners x p c.loop-waiting.places.items c.push-in-Some.new.self.items c.index-waiting-in-Some.result.now (listed_of owners (take (c.loop-number.number-index + 1) c.args.order.now))
          waits c.in_ok-push-2.ensures.items (sym next) (rw c.in-Some.is at c.loop-waiting.invariant.left);
    }
