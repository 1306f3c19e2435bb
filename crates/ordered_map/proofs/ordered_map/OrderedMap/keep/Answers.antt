use Rattle.std.proofs.Common.{◌∙◌, ◌++◌, ◌∷◌, [], cond, Some, ap, sym, take}
use Rattle.std.proofs.Math.Seq.{take-append_seam}
use Rattle.std.specs.BTreeMap.{get}
use Rattle.std.specs.Ordering.{is_eq}
use Rattle.ordered_map.specs.Entries.{keep_entry, place_of}
use Rattle.ordered_map.proofs.EntryLemmas.{found-there, found-missing, found-last, keep-there, keep-new, place-inside, place-new, placed-push}
use Rattle.ordered_map.proofs.ordered_map.OrderedMap.keep.Goals as goal

pub returns-then-place-end-clause-ok : goal.returns-then-place-end-clause-ok
returns-then-place-end-clause-ok g c =
    let es = c.self.inside.entries.items in
    let end = c.len-end.ensures ∙ c.self.inside.entries.ok.0 in
    let there = found-there (g.K.PartialEq.eq c.args.key) es (get g.K.Ord.cmp c.self.inside.places c.args.key) c.in-Ok.place c.len-end.result c.in-Ok.ensures.place (c.self.invariant.found c.args.key) end c.if-place-end.true in
    c.truncate.ensures.items ∙ ap (take c.len-end.result) c.in_ok-push.ensures.items
    ∙ ap (λ n. take n (es ++ (c.args.key, c.args.value) ∷ [])) end ∙ take-append_seam es ((c.args.key, c.args.value) ∷ [])
    ∙ sym (keep-there g.K.PartialEq.eq es c.args.key c.args.value c.in-Ok.place there)
    ∙ ap (λ xs. keep_entry g.K.PartialEq.eq xs c.args.key c.args.value) c.self.view_is

pub returns-then-place-end-clause-place : goal.returns-then-place-end-clause-place
returns-then-place-end-clause-place g c =
    let es = c.self.inside.entries.items in
    let end = c.len-end.ensures ∙ c.self.inside.entries.ok.0 in
    ap (place_of (g.K.PartialEq.eq c.args.key)) (c.truncate.ensures.items ∙ ap (take c.len-end.result) c.in_ok-push.ensures.items
    ∙ ap (λ n. take n (es ++ (c.args.key, c.args.value) ∷ [])) end ∙ take-append_seam es ((c.args.key, c.args.value) ∷ []))
    ∙ found-there (g.K.PartialEq.eq c.args.key) es (get g.K.Ord.cmp c.self.inside.places c.args.key) c.in-Ok.place c.len-end.result c.in-Ok.ensures.place (c.self.invariant.found c.args.key) end c.if-place-end.true

pub returns-then-place-end-clause-inside : goal.returns-then-place-end-clause-inside
returns-then-place-end-clause-inside g c = place-inside (g.K.PartialEq.eq c.args.key) c.truncate.new.self.items c.in-Ok.place (returns-then-place-end-clause-place g c)

pub returns-else-place-end-clause-ok : goal.returns-else-place-end-clause-ok
returns-else-place-end-clause-ok g c =
    let es = c.self.inside.entries.items in
    let end = c.len-end.ensures ∙ c.self.inside.entries.ok.0 in
    let absent = found-missing (g.K.PartialEq.eq c.args.key) es (get g.K.Ord.cmp c.self.inside.places c.args.key) c.in-Ok.place c.len-end.result c.in-Ok.ensures.place (c.self.invariant.found c.args.key) end c.if-place-end.false in
    c.in_ok-push.ensures.items
    ∙ sym (keep-new g.K.PartialEq.eq es c.args.key c.args.value absent)
    ∙ ap (λ xs. keep_entry g.K.PartialEq.eq xs c.args.key c.args.value) c.self.view_is

pub returns-else-place-end-clause-place : goal.returns-else-place-end-clause-place
returns-else-place-end-clause-place g c =
    let es = c.self.inside.entries.items in
    let end = c.len-end.ensures ∙ c.self.inside.entries.ok.0 in
    let absent = found-missing (g.K.PartialEq.eq c.args.key) es (get g.K.Ord.cmp c.self.inside.places c.args.key) c.in-Ok.place c.len-end.result c.in-Ok.ensures.place (c.self.invariant.found c.args.key) end c.if-place-end.false in
    ap (place_of (g.K.PartialEq.eq c.args.key)) c.in_ok-push.ensures.items
    ∙ place-new g.K.PartialEq.eq g.met.K.Eq.laws es c.args.key c.args.value absent
    ∙ ap Some (sym (found-last (g.K.PartialEq.eq c.args.key) es (get g.K.Ord.cmp c.self.inside.places c.args.key) c.in-Ok.place c.len-end.result c.in-Ok.ensures.place (c.self.invariant.found c.args.key) end c.if-place-end.false))

pub returns-else-place-end-clause-inside : goal.returns-else-place-end-clause-inside
returns-else-place-end-clause-inside g c = place-inside (g.K.PartialEq.eq c.args.key) c.push.new.self.items c.in-Ok.place (returns-else-place-end-clause-place g c)

pub invariant_of-self-else-place-end : goal.invariant_of-self-else-place-end
invariant_of-self-else-place-end g c =
    let es = c.self.inside.entries.items in
    let end = c.len-end.ensures ∙ c.self.inside.entries.ok.0 in
    let absent = found-missing (g.K.PartialEq.eq c.args.key) es (get g.K.Ord.cmp c.self.inside.places c.args.key) c.in-Ok.place c.len-end.result c.in-Ok.ensures.place (c.self.invariant.found c.args.key) end c.if-place-end.false in
    let places = c.self.inside.places in
    let last = sym c.in-Ok.ensures.place ∙ found-last (g.K.PartialEq.eq c.args.key) es (get g.K.Ord.cmp c.self.inside.places c.args.key) c.in-Ok.place c.len-end.result c.in-Ok.ensures.place (c.self.invariant.found c.args.key) end c.if-place-end.false in
    rw c.in_ok-push.ensures.items
    (placed-push g.K.PartialEq.eq g.K.Ord.cmp g.met.K.Eq.laws g.met.K.Ord.matches_eq es places c.place_or.new.places c.args.key c.args.value c.self.invariant absent
    (λ q. c.in-Ok.ensures.found q ∙ ap (λ n. cond (is_eq (g.K.Ord.cmp c.args.key q)) (Some n) (get g.K.Ord.cmp places q)) last))
