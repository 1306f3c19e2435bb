use Rattle.std.proofs.Common.{◌≡◌, List, [], ◌∷◌, ◌++◌, Result, Ok, Err, None, map, sym, ap, ◌∙◌, subst, inl, inr}
use Rattle.std.specs.Prelude.{◌⊎◌, position, remove, IsSome, OnOk, OnErr}
use Rattle.std.proofs.lemmas.Bool.{false≢true}
use Rattle.std.proofs.lemmas.List.{map_push}
use Rattle.std.proofs.lemmas.Result.{on_ok_weaker}
use Rattle.request_set.specs.declared.row.Row.{Row}
use Rattle.request_set.specs.Requests.{Asking, without, with_asked, asked_by}
use Rattle.request_set.specs.Inside.{asking_of, is_row_of, AreKept}
use Rattle.request_set.proofs.Once.{without_row, without_none, asked_by_none, kept_with}
use Rattle.request_set.proofs.request_set.RequestSet.set.Goals.{After-push, After-put_last}
use Rattle.request_set.proofs.request_set.RequestSet.set.Goals as goal

-- a row put behind others
put_behind : (rest rows : List Row) (row : Row) (others : List Asking) → rows ≡ rest ++ row ∷ [] → map asking_of rest ≡ others → map asking_of rows ≡ others ++ asking_of row ∷ []
put_behind rest rows row others is left = ap (map asking_of) is ∙ map_push asking_of rest row ∙ ap (λ asked. asked ++ asking_of row ∷ []) left

-- the handle had a row
replaced : (c : After-put_last) → map asking_of c.put_last.new.rows ≡ with_asked c.args.worker c.args.handle.now.bytes c.args.lo c.args.hi (map asking_of c.self.inside.rows)
replaced c =
    let worker = c.args.worker in
    let name = c.args.handle.now.bytes in
    put_behind (remove c.self.inside.rows c.in-Some.at) c.put_last.new.rows (record { worker = worker; handle = c.args.handle.now; least = c.args.lo; greatest = c.args.hi })
    (without worker name (map asking_of c.self.inside.rows)) c.put_last.ensures
    (without_row worker name c.self.inside.rows c.in-Some.at c.self.invariant.once (ap (position (is_row_of worker name)) (sym c.as_slice.ensures) ∙ sym c.place_of.ensures ∙ c.in-Some.is))

-- the handle had none
no_place : (c : After-push) → position (is_row_of c.args.worker c.args.handle.now.bytes) c.self.inside.rows ≡ None
no_place c = ap (position (is_row_of c.args.worker c.args.handle.now.bytes)) (sym c.as_slice.ensures) ∙ sym c.place_of.ensures ∙ c.in_default.is

added : (c : After-push)
    → c.push.new.self ≡ c.self.inside.rows ++ record { worker = c.args.worker; handle = c.args.handle.now; least = c.args.lo; greatest = c.args.hi } ∷ []
    → map asking_of c.push.new.self ≡ with_asked c.args.worker c.args.handle.now.bytes c.args.lo c.args.hi (map asking_of c.self.inside.rows)
added c is =
    let worker = c.args.worker in
    let name = c.args.handle.now.bytes in
    put_behind c.self.inside.rows c.push.new.self (record { worker = worker; handle = c.args.handle.now; least = c.args.lo; greatest = c.args.hi })
    (without worker name (map asking_of c.self.inside.rows)) is (without_none worker name c.self.inside.rows (no_place c))

-- what holds of requests holds with the new one
kept_anew : (c : After-push) → AreKept (with_asked c.args.worker c.args.handle.now.bytes c.args.lo c.args.hi (map asking_of c.self.inside.rows))
kept_anew c = kept_with c.args.worker c.args.handle.now.bytes c.args.lo c.args.hi (map asking_of c.self.inside.rows) c.ranges.hi.fits c.self.invariant

either : {A E : Type 0} (result : Result A E) (P Q : Type 0) → OnOk result P → OnErr result Q → P ⊎ Q
either (Ok a) P Q ok err = inl ok
either (Err e) P Q ok err = inr err

pub invariant_of-self : goal.invariant_of-self
invariant_of-self c =
    elim (either c.push.result _ _ c.push.ensures.ok c.push.ensures.err) [
      | inl is ↦ subst AreKept (sym (added c is)) (kept_anew c)
      | inr same ↦ subst (λ rows. AreKept (map asking_of rows)) (sym same) c.self.invariant
    ]

pub invariant_of-self-2 : goal.invariant_of-self-2
invariant_of-self-2 c =
    subst AreKept (sym (replaced c)) (kept_with c.args.worker c.args.handle.now.bytes c.args.lo c.args.hi (map asking_of c.self.inside.rows) c.ranges.hi.fits c.self.invariant)

pub returns-in_default-clause-ok : goal.returns-in_default-clause-ok
returns-in_default-clause-ok c =
    on_ok_weaker c.push.result (λ is. added c is ∙ ap (with_asked c.args.worker c.args.handle.now.bytes c.args.lo c.args.hi) c.self.view_is) c.push.ensures.ok

pub returns-in_default-clause-replaced : goal.returns-in_default-clause-replaced
returns-in_default-clause-replaced c =
    let worker = c.args.worker in
    let name = c.args.handle.now.bytes in
    let none : asked_by worker name c.args.self.now ≡ None = ap (asked_by worker name) (sym c.self.view_is) ∙ asked_by_none worker name c.self.inside.rows (no_place c) in
    λ asks. absurd (false≢true (subst IsSome none asks))

pub returns-clause-ok : goal.returns-clause-ok
returns-clause-ok c = replaced c ∙ ap (with_asked c.args.worker c.args.handle.now.bytes c.args.lo c.args.hi) c.self.view_is
