use Rattle.std.proofs.Common.{◌≤◌, ◌∙◌, ◌++◌, ◌∷◌, [], ap, sym, subst, length, take, List, ℕ, arith}
use Rattle.std.proofs.lemmas.List.{length-append, length-take-le}
use Rattle.name_map.specs.Inside.Listed.{bytes_in}
use Rattle.name_map.specs.Inside.Shelved.{names_from, last_end, Rises}
use Rattle.name_map.proofs.ShelfLemmas.{on_err, names-front, names-behind, names-more, rises-push, last-push, last-bytes}
use Rattle.name_map.proofs.shelf.Shelf.push.Goals as goal

pub returns-in_err-extend_from_slice-clause-err : goal.returns-in_err-extend_from_slice-clause-err
returns-in_err-extend_from_slice-clause-err c =
    let ends = c.self.inside.ends.items in
    let bytes = c.self.inside.bytes.items in
    let end = c.last_end-end.ensures ∙ ap (last_end 0) c.as_slice.ensures.value in
    on_err c.from_residual.result
    (ap (names_from 0 ends) (c.in_err-extend_from_slice.ensures.items ∙ c.truncate.ensures.items)
    ∙ names-front 0 ends bytes c.last_end-end.result c.self.invariant.0 (omega (arith, end))
    ∙ c.self.view_is)

pub returns-in_err-push-clause-err : goal.returns-in_err-push-clause-err
returns-in_err-push-clause-err c =
    let ends = c.self.inside.ends.items in
    let bytes = c.self.inside.bytes.items in
    let name = c.args.name.now in
    let end = c.last_end-end.ensures ∙ ap (last_end 0) c.as_slice.ensures.value in
    let row = c.in_ok-extend_from_slice.ensures.items ∙ ap (λ (xs : List ℕ). xs ++ name) (c.truncate.ensures.items ∙ ap (λ (n : ℕ). take n bytes) end) in
    on_err c.from_residual-in_err-push.result
    (ap (λ (xs : List ℕ). names_from 0 xs c.extend_from_slice.new.self.items) c.in_err-push.ensures.items
    ∙ ap (names_from 0 ends) row
    ∙ names-behind ends bytes name c.self.invariant.0 c.self.invariant.1
    ∙ c.self.view_is)

pub invariant_of-self-2 : goal.invariant_of-self-2
invariant_of-self-2 c =
    let ends = c.self.inside.ends.items in
    let bytes = c.self.inside.bytes.items in
    let name = c.args.name.now in
    let end = c.last_end-end.ensures ∙ ap (last_end 0) c.as_slice.ensures.value in
    let row = c.in_ok-extend_from_slice.ensures.items ∙ ap (λ (xs : List ℕ). xs ++ name) (c.truncate.ensures.items ∙ ap (λ (n : ℕ). take n bytes) end) in
    let long = c.len.ensures ∙ c.extend_from_slice.new.self.ok.0 in
    let up : last_end 0 ends ≤ c.len.result = omega (arith, long, ap length row, length-append (take (last_end 0 ends) bytes) name, length-take-le (last_end 0 ends) bytes c.self.invariant.1) in (
      subst (Rises 0) (sym c.in_ok-push.ensures.items) (rises-push 0 ends c.len.result c.self.invariant.0 up),
      omega (arith, ap (last_end 0) c.in_ok-push.ensures.items, last-push 0 ends c.len.result, long),
    )

pub returns-clause-ok : goal.returns-clause-ok
returns-clause-ok c =
    let ends = c.self.inside.ends.items in
    let bytes = c.self.inside.bytes.items in
    let name = c.args.name.now in
    let end = c.last_end-end.ensures ∙ ap (last_end 0) c.as_slice.ensures.value in
    let row = c.in_ok-extend_from_slice.ensures.items ∙ ap (λ (xs : List ℕ). xs ++ name) (c.truncate.ensures.items ∙ ap (λ (n : ℕ). take n bytes) end) in
    ap (λ (xs : List ℕ). names_from 0 xs c.extend_from_slice.new.self.items) c.in_ok-push.ensures.items
    ∙ ap (names_from 0 (ends ++ c.len.result ∷ [])) row
    ∙ names-more ends bytes name c.len.result c.self.invariant.0 c.self.invariant.1 (c.len.ensures ∙ c.extend_from_slice.new.self.ok.0 ∙ ap length row)
    ∙ ap (λ xs. xs ++ name ∷ []) c.self.view_is

pub overflow_cast-len : goal.overflow_cast-len
overflow_cast-len c =
    let ends = c.self.inside.ends.items in
    let bytes = c.self.inside.bytes.items in
    let name = c.args.name.now in
    let end = c.last_end-end.ensures ∙ ap (last_end 0) c.as_slice.ensures.value in
    let row = c.in_ok-extend_from_slice.ensures.items ∙ ap (λ (xs : List ℕ). xs ++ name) (c.truncate.ensures.items ∙ ap (λ (n : ℕ). take n bytes) end) in
    let long = c.len.ensures ∙ c.extend_from_slice.new.self.ok.0 in
    omega (arith, long, ap length row, length-append (take (last_end 0 ends) bytes) name, length-take-le (last_end 0 ends) bytes c.self.invariant.1, last-bytes 0 ends bytes c.self.invariant.0 c.self.invariant.1, ap bytes_in c.self.view_is, c.requires.room)
