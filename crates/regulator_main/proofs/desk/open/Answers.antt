use Rattle.std.proofs.Common.{◌≡◌, ℕ, ◌++◌, ◌∷◌, [], Some, None, Option, false, leb, length, refl, sym, subst, ap, ◌∙◌, arith}
use Rattle.std.specs.Prelude.{is_some}
use Rattle.std.proofs.lemmas.Bool.Decides.{nat_tests}
use Rattle.board.specs.declared.board.Board.{Board}
use Rattle.board.specs.declared.rail_id.RailId.{RailId}
use Rattle.rows.specs.declared.answer.Answer.TheVariants.{Ok, Taken}
use Rattle.rows.specs.declared.call.Call.TheVariants.{Open}
use Rattle.plain_board.specs.Handles.{open_of, count_own}
use Rattle.plain_board.specs.Answer.{answer, new_row}
use Rattle.regulator_main.proofs.LoneAnswers.{open-excluded, open-done}
use Rattle.regulator_main.proofs.LoneBoard.{first}
use Rattle.regulator_main.proofs.LoneEntry.{board-is, all_here, rows-all, with_open-last}
use Rattle.regulator_main.proofs.desk.open.Goals as goal
use Rattle.regulator_main.proofs.desk.open.Goals.{After-excludes}

none_by : {X : Type 0} (o : Option X) → is_some o ≡ false → o ≡ None
none_by None is = refl
none_by (Some x) is = absurd cc

-- no handle of this name is open
fresh : (c : After-excludes) → open_of c.args.plain.now.handles c.args.worker c.args.handle.now.bytes ≡ None
fresh c =
    none_by (open_of c.args.plain.now.handles c.args.worker c.args.handle.now.bytes)
    (ap (λ hs. is_some (open_of hs c.args.worker c.args.handle.now.bytes)) (sym c.as_slice-handles.ensures) ∙ ap is_some (sym c.open_of.ensures) ∙ sym c.is_some.ensures ∙ c.if-is_some.false)

-- there is room for another one
roomy : (c : After-excludes) → leb 64 (count_own c.args.plain.now.handles c.args.worker) ≡ false
roomy c =
    let count = c.count_own.ensures ∙ ap (λ hs. count_own hs c.args.worker) c.as_slice-handles.ensures in
    let few = c.if-count_own-ge-MOST_HANDLES.false in
    grind (arith, nat_tests)

-- the rail is the board's one rail
rail_is : (c : After-excludes) → c.args.rail ≡ first
rail_is c =
    let zero_is : c.args.rail.0 ≡ 0 = omega (arith, c.requires.rail, ap length c.requires.lone.rails) in
    ap (λ (n : ℕ). let id : RailId = record { 0 = n } in id) zero_is

pub returns-then-excludes-clause-answer : goal.returns-then-excludes-clause-answer
returns-then-excludes-clause-answer c =
    let board = c.args.board.now in
    let plain = c.args.plain.now in
    let rail = c.requires.lone.rail in
    let d = (goal.at.returns-then-excludes-clause-answer c).After-excludes in
    let here = all_here board c.requires.lone plain c.requires.inv in
    let told = open-excluded rail board.chips plain c.args.worker c.args.handle.now c.args.exclusive (rows-all plain.handles here) (fresh d) (roomy d)
    (rw c.as_slice-handles.ensures at (sym c.excludes.ensures ∙ c.if-excludes.true)) in
    subst (λ (b : Board). answer b plain c.args.worker (Open c.args.handle.now c.args.rail c.args.exclusive) None ≡ (Taken (length c.as_slice-handles.result.now), plain))
    (sym (board-is board c.requires.lone rail c.requires.lone.rails))
    (rw (rail_is d, c.as_slice-handles.ensures) told)

pub returns-clause-answer : goal.returns-clause-answer
returns-clause-answer c =
    let board = c.args.board.now in
    let plain = c.args.plain.now in
    let rail = c.requires.lone.rail in
    let d = (goal.at.returns-clause-answer c).After-excludes in
    let here = all_here board c.requires.lone plain c.requires.inv in
    let row = new_row c.args.worker c.args.handle.now c.args.exclusive in
    let told = open-done rail board.chips plain c.args.worker c.args.handle.now c.args.exclusive (rows-all plain.handles here) (fresh d) (roomy d)
    (rw c.as_slice-handles.ensures at (sym c.excludes.ensures ∙ c.if-excludes.false)) (with_open-last plain.handles row here) in
    let pushed : c.push.new.self ≡ plain.handles ++ (first, row) ∷ [] = c.in_ok-push.ensures.ok ∙ ap (λ (id : RailId). plain.handles ++ (id, row) ∷ []) (rail_is d) in
    subst (λ (b : Board). answer b plain c.args.worker (Open c.args.handle.now c.args.rail c.args.exclusive) None ≡ (Ok, record plain { handles = c.push.new.self }))
    (sym (board-is board c.requires.lone rail c.requires.lone.rails))
    (rw (rail_is d, pushed) told)
