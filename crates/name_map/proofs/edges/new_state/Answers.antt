use Rattle.std.proofs.Common.{◌≡◌, ◌∙◌, ℕ, List, ap, refl, sym, length, take, arith}
use Rattle.std.proofs.lemmas.List.{take_all}
use Rattle.name_map.specs.NameEntries.{same_name, place_of, keep_entry}
use Rattle.name_map.specs.Inside.States.{Edges, pieces, state_of, walk}
use Rattle.name_map.proofs.StateLemmas.{walk-none, walk-on, keep-front, keep-grows, keep-length, keep-longer, keep-stays}
use Rattle.name_map.proofs.edges.new_state.Goals as goal

pub loop-k-init : goal.loop-k-init
loop-k-init c = record { more = omega arith; few = omega arith; led = walk-none c.args.edges.now c.args.name.now; front = take_all (length c.args.edges.now) c.args.edges.now (omega arith); stays = λ state is. refl; kept = λ q state is. is }

pub overflow_add-state : goal.overflow_add-state
overflow_add-state c =
    let more = keep-length same_name c.loop-k.edges (c.loop-k.state, c.piece_at.result) tt in
    let count = c.pieces-k-end.ensures in
    omega (arith, c.in_ok-state.ensures.inside, ap length c.in_ok-state.ensures.ok, more, c.loop-k.invariant.few, c.loop-k-test.true, count, c.requires.long, c.requires.room)

pub loop-k-preserved : goal.loop-k-preserved
loop-k-preserved c =
    let first = c.args.edges.now in
    let name = c.args.name.now in
    let k = c.loop-k.k in
    let old = c.loop-k.edges in
    let key : ℕ × List ℕ = (c.loop-k.state, c.piece_at.result) in
    let count : c.pieces-k-end.result ≡ pieces name = c.pieces-k-end.ensures in
    let new = c.in_ok-state.ensures.ok in
    let there = ap (λ p. place_of (same_name (c.loop-k.state, p)) c.keep.new.self) (sym c.piece_at.ensures) ∙ c.in_ok-state.ensures.place in
    record {
      more = omega (arith, ap length new, keep-longer same_name old key tt, c.loop-k.invariant.more);
      few = omega (arith, ap length new, keep-length same_name old key tt, c.loop-k.invariant.few);
      led = walk-on c.keep.new.self name k c.loop-k.state c.in_ok-state.field-0
          (ap (λ (es : Edges). walk es name k) new ∙ keep-grows old key name k c.loop-k.state c.loop-k.invariant.led)
          there;
      front = ap (take (length first)) new ∙ keep-front same_name old key tt (length first) c.loop-k.invariant.more ∙ c.loop-k.invariant.front;
      stays = λ state is.
          let same = c.loop-k.invariant.stays state is in
          new
          ∙ ap (λ (es : Edges). keep_entry same_name es key tt) same
          ∙ ap (λ (p : List ℕ). keep_entry same_name first (c.loop-k.state, p) tt) c.piece_at.ensures
          ∙ keep-stays first name k (pieces name) c.loop-k.state state (omega (arith, c.loop-k-test.true, count)) (ap (λ (es : Edges). walk es name k) (sym same) ∙ c.loop-k.invariant.led) is;
      kept = λ q state is. ap (λ (es : Edges). state_of es q) new ∙ keep-grows old key q (pieces q) state (c.loop-k.invariant.kept q state is);
    }
