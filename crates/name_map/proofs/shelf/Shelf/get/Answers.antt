use Rattle.std.proofs.Common.{◌∙◌, ◌<◌, ap, sym, length, get_or, List, ℕ, [], arith}
use Rattle.std.proofs.lemmas.Grind.{get_or_default_zero}
use Rattle.std.specs.List.{slice_range}
use Rattle.name_map.specs.Inside.Shelved.{begin_of}
use Rattle.name_map.proofs.ShelfLemmas.{begin-end, end-last, name-read, names-length}
use Rattle.name_map.proofs.shelf.Shelf.get.Goals as goal

pub begin_of-requires : goal.begin_of-requires
begin_of-requires c = omega (arith, c.requires, ap length c.self.view_is, names-length 0 c.self.inside.ends.items c.self.inside.bytes.items, ap length c.as_slice-ends.ensures.value)

pub index-requires : goal.index-requires
index-requires c = omega (arith, c.requires, ap length c.self.view_is, names-length 0 c.self.inside.ends.items c.self.inside.bytes.items, c.self.inside.ends.ok.0)

pub part-requires : goal.part-requires
part-requires c =
    let ends = c.self.inside.ends.items in
    let inside : c.args.place < length ends = omega (arith, c.requires, ap length c.self.view_is, names-length 0 ends c.self.inside.bytes.items) in
    let from = c.begin_of.ensures ∙ ap (λ (xs : List ℕ). begin_of 0 xs c.args.place) c.as_slice-ends.ensures.value in
    let to = c.index.ensures ∙ get_or_default_zero ends c.args.place c.index.result.now inside in
    record {
      order = omega (arith, from, to, begin-end 0 ends c.args.place inside c.self.invariant.0);
      inside = omega (arith, to, end-last 0 ends c.args.place inside c.self.invariant.0, c.self.invariant.1, ap length c.as_slice.ensures.value);
    }

pub returns : goal.returns
returns c =
    let ends = c.self.inside.ends.items in
    let bytes = c.self.inside.bytes.items in
    let inside : c.args.place < length ends = omega (arith, c.requires, ap length c.self.view_is, names-length 0 ends bytes) in
    let from = c.begin_of.ensures ∙ ap (λ (xs : List ℕ). begin_of 0 xs c.args.place) c.as_slice-ends.ensures.value in
    let to = c.index.ensures ∙ get_or_default_zero ends c.args.place c.index.result.now inside in
    ap (λ (xs : List (List ℕ)). get_or xs c.args.place []) (sym c.self.view_is)
    ∙ name-read 0 ends bytes c.args.place inside
    ∙ sym (c.part.ensures
    ∙ ap (λ (xs : List ℕ). slice_range xs c.begin_of.result c.index.result.now) c.as_slice.ensures.value
    ∙ ap (λ (n : ℕ). slice_range bytes n c.index.result.now) from
    ∙ ap (slice_range bytes (begin_of 0 ends c.args.place)) to)
