use Rattle.std.proofs.Common.{◌<◌, ◌+◌, ◌-◌, ◌∙◌, ap, length, take, List, ℕ, arith}
use Rattle.name_map.specs.NameEntries.{same_name, size_of, keep_entry, place_of}
use Rattle.name_map.proofs.ListedLemmas.{pop-push}
use Rattle.name_map.proofs.KeptLemmas.{size-length, kept-there, kept-push, keep-is-there, keep-is-new, put-there, put-new, put-inside}
use Rattle.name_map.proofs.name_map.NameMap.keep.Goals as goal

pub overflow_cast-end : goal.overflow_cast-end
overflow_cast-end g c = omega (arith, c.len-end.ensures, size-length c.self.inside.list, c.self.invariant.short)

pub invariant_of-self-then-place-end : goal.invariant_of-self-then-place-end
invariant_of-self-then-place-end g c =
    let es = c.self.inside.list in
    let popped = c.pop.ensures ∙ ap (λ (xs : List ((ℕ × List ℕ) × g.row.V.Denot)). take (length xs - 1) xs) c.in_ok-push.ensures.ok ∙ pop-push es ((c.args.owner, c.args.name.now), c.args.value) in
    rw popped (kept-there c.self.inside.edges c.put.new.edges c.self.inside.places c.put.new.places es (c.args.owner, c.args.name.now) c.args.value c.len-end.result c.in-Ok.place c.self.invariant c.in-Ok.ensures.grown c.in-Ok.ensures.put c.len-end.ensures c.if-place-end.true)

pub invariant_of-self-else-place-end : goal.invariant_of-self-else-place-end
invariant_of-self-else-place-end g c =
    let es = c.self.inside.list in
    let room : size_of es + length c.args.name.now < 4294967295 = omega (arith, c.requires.room, ap size_of c.self.view_is) in
    rw c.in_ok-push.ensures.ok (kept-push c.self.inside.edges c.put.new.edges c.self.inside.places c.put.new.places es (c.args.owner, c.args.name.now) c.args.value c.len-end.result c.in-Ok.place c.self.invariant c.in-Ok.ensures.grown c.in-Ok.ensures.put c.len-end.ensures c.if-place-end.false room)

pub returns-then-place-end-clause-ok : goal.returns-then-place-end-clause-ok
returns-then-place-end-clause-ok g c =
    let es = c.self.inside.list in
    let popped = c.pop.ensures ∙ ap (λ (xs : List ((ℕ × List ℕ) × g.row.V.Denot)). take (length xs - 1) xs) c.in_ok-push.ensures.ok ∙ pop-push es ((c.args.owner, c.args.name.now), c.args.value) in
    popped
    ∙ keep-is-there c.self.inside.edges c.put.new.edges c.self.inside.places c.put.new.places es (c.args.owner, c.args.name.now) c.args.value c.len-end.result c.in-Ok.place c.self.invariant c.in-Ok.ensures.grown c.in-Ok.ensures.put c.len-end.ensures c.if-place-end.true
    ∙ ap (λ xs. keep_entry same_name xs (c.args.owner, c.args.name.now) c.args.value) c.self.view_is

pub returns-then-place-end-clause-place : goal.returns-then-place-end-clause-place
returns-then-place-end-clause-place g c =
    let es = c.self.inside.list in
    let popped = c.pop.ensures ∙ ap (λ (xs : List ((ℕ × List ℕ) × g.row.V.Denot)). take (length xs - 1) xs) c.in_ok-push.ensures.ok ∙ pop-push es ((c.args.owner, c.args.name.now), c.args.value) in
    ap (place_of (same_name (c.args.owner, c.args.name.now))) popped
    ∙ put-there c.self.inside.edges c.put.new.edges c.self.inside.places c.put.new.places es (c.args.owner, c.args.name.now) c.args.value c.len-end.result c.in-Ok.place c.self.invariant c.in-Ok.ensures.grown c.in-Ok.ensures.put c.len-end.ensures c.if-place-end.true

pub returns-else-place-end-clause-ok : goal.returns-else-place-end-clause-ok
returns-else-place-end-clause-ok g c =
    let es = c.self.inside.list in
    c.in_ok-push.ensures.ok
    ∙ keep-is-new c.self.inside.edges c.put.new.edges c.self.inside.places c.put.new.places es (c.args.owner, c.args.name.now) c.args.value c.len-end.result c.in-Ok.place c.self.invariant c.in-Ok.ensures.grown c.in-Ok.ensures.put c.len-end.ensures c.if-place-end.false
    ∙ ap (λ xs. keep_entry same_name xs (c.args.owner, c.args.name.now) c.args.value) c.self.view_is

pub returns-else-place-end-clause-place : goal.returns-else-place-end-clause-place
returns-else-place-end-clause-place g c =
    let es = c.self.inside.list in
    ap (place_of (same_name (c.args.owner, c.args.name.now))) c.in_ok-push.ensures.ok
    ∙ put-new c.self.inside.edges c.put.new.edges c.self.inside.places c.put.new.places es (c.args.owner, c.args.name.now) c.args.value c.len-end.result c.in-Ok.place c.self.invariant c.in-Ok.ensures.grown c.in-Ok.ensures.put c.len-end.ensures c.if-place-end.false

pub returns-else-place-end-clause-inside : goal.returns-else-place-end-clause-inside
returns-else-place-end-clause-inside g c =
    let es = c.self.inside.list in
    omega (arith, ap length c.in_ok-push.ensures.ok, put-inside c.self.inside.edges c.put.new.edges c.self.inside.places c.put.new.places es (c.args.owner, c.args.name.now) c.args.value c.len-end.result c.in-Ok.place c.self.invariant c.in-Ok.ensures.grown c.in-Ok.ensures.put c.len-end.ensures c.if-place-end.false)
