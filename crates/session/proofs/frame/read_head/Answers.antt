use Rattle.std.proofs.Common.{[], ◌∷◌, refl, arith}
use Rattle.session.specs.declared.fault.SessionKind.TheVariants.{BadSession}
use Rattle.session.specs.Lines.{lines_of, unended}
use Rattle.session.proofs.Boards.{head_stands, board_stands, demo_board, text_board, text_fault, ok_then, err_then}
use Rattle.session.proofs.Frames.{first_line, demo_line, dts_line}
use Rattle.session.proofs.Heads.{nothing_begins, nothing_ends, first_refused, head_begins, head_ends, board_refused}
use Rattle.session.proofs.Leaves.{fault_of, leaves_here, leaves_last}
use Rattle.session.proofs.LineLaws.{is_line, is_other, turned, shorter}
use Rattle.session.proofs.frame.read_head.Goals as goal

pub returns-in_default-clause-fault : goal.returns-in_default-clause-fault
returns-in_default-clause-fault c = λ other.
    let bytes = c.args.bytes.now in
    fault_of c.fault.ensures (leaves_last bytes c.in_default.ensures.none (lines_of bytes) [] (unended bytes) 1 refl nothing_begins (nothing_ends (unended bytes)) (omega arith))

pub returns-then-ne-clause-fault : goal.returns-then-ne-clause-fault
returns-then-ne-clause-fault c = λ other.
    let bytes = c.args.bytes.now in
    fault_of c.fault-then-ne.ensures (leaves_here bytes c.in-Some.line.now c.in-Some.rest.now c.in-Some.ensures.parts c.in-Some.ensures.first (lines_of bytes) [] (unended bytes) BadSession 1 refl nothing_begins (first_refused c.in-Some.line.now (is_other c.in-Some.line.now _ first_line c.as_slice.ensures (turned _ _ c.if-ne.ensures))) (omega arith))

pub returns-in_default-split_first-clause-fault : goal.returns-in_default-split_first-clause-fault
returns-in_default-split_first-clause-fault c = λ other.
    let bytes = c.args.bytes.now in
    let stand = head_stands bytes c.in-Some.line.now c.in-Some.rest.now c.in-Some.ensures.parts c.in-Some.ensures.first (is_line c.in-Some.line.now _ first_line c.as_slice.ensures (turned _ _ c.if-ne.ensures)) in
    fault_of c.fault-in_default-split_first.ensures (leaves_last c.in-Some.rest.now c.in_default-split_first.ensures.none (lines_of bytes) (first_line ∷ []) (unended bytes) 2 stand.before head_begins (head_ends (unended bytes)) (omega arith))

pub returns-then-eq-clause-board : goal.returns-then-eq-clause-board
returns-then-eq-clause-board c =
    let bytes = c.args.bytes.now in
    let stand = head_stands bytes c.in-Some.line.now c.in-Some.rest.now c.in-Some.ensures.parts c.in-Some.ensures.first (is_line c.in-Some.line.now _ first_line c.as_slice.ensures (turned _ _ c.if-ne.ensures)) in
    demo_board bytes c.in-Some-split_first.rest.now (board_stands bytes c.in-Some.rest.now stand c.in-Some-split_first.line.now c.in-Some-split_first.rest.now c.in-Some-split_first.ensures.parts c.in-Some-split_first.ensures.first demo_line (is_line c.in-Some-split_first.line.now _ demo_line c.as_slice-2.ensures c.if-eq.ensures)) (omega (arith, shorter bytes c.in-Some.line.now c.in-Some.rest.now c.in-Some.ensures.parts, shorter c.in-Some.rest.now c.in-Some-split_first.line.now c.in-Some-split_first.rest.now c.in-Some-split_first.ensures.parts))

pub returns-then-eq-2-clause-board : goal.returns-then-eq-2-clause-board
returns-then-eq-2-clause-board c =
    let bytes = c.args.bytes.now in
    let stand = head_stands bytes c.in-Some.line.now c.in-Some.rest.now c.in-Some.ensures.parts c.in-Some.ensures.first (is_line c.in-Some.line.now _ first_line c.as_slice.ensures (turned _ _ c.if-ne.ensures)) in
    ok_then c.read_text.result _ _ c.read_text.ensures.board (λ read text. text_board bytes c.in-Some-split_first.rest.now (board_stands bytes c.in-Some.rest.now stand c.in-Some-split_first.line.now c.in-Some-split_first.rest.now c.in-Some-split_first.ensures.parts c.in-Some-split_first.ensures.first dts_line (is_line c.in-Some-split_first.line.now _ dts_line c.as_slice-3.ensures c.if-eq-2.ensures)) (omega (arith, shorter bytes c.in-Some.line.now c.in-Some.rest.now c.in-Some.ensures.parts, shorter c.in-Some.rest.now c.in-Some-split_first.line.now c.in-Some-split_first.rest.now c.in-Some-split_first.ensures.parts)) _ _ _ text)

pub returns-then-eq-2-clause-fault : goal.returns-then-eq-2-clause-fault
returns-then-eq-2-clause-fault c =
    let bytes = c.args.bytes.now in
    let stand = head_stands bytes c.in-Some.line.now c.in-Some.rest.now c.in-Some.ensures.parts c.in-Some.ensures.first (is_line c.in-Some.line.now _ first_line c.as_slice.ensures (turned _ _ c.if-ne.ensures)) in
    err_then c.read_text.result _ _ c.read_text.ensures.fault (λ fault leaves. text_fault bytes c.in-Some-split_first.rest.now (board_stands bytes c.in-Some.rest.now stand c.in-Some-split_first.line.now c.in-Some-split_first.rest.now c.in-Some-split_first.ensures.parts c.in-Some-split_first.ensures.first dts_line (is_line c.in-Some-split_first.line.now _ dts_line c.as_slice-3.ensures c.if-eq-2.ensures)) fault leaves)

pub returns-clause-fault : goal.returns-clause-fault
returns-clause-fault c = λ other.
    let bytes = c.args.bytes.now in
    let stand = head_stands bytes c.in-Some.line.now c.in-Some.rest.now c.in-Some.ensures.parts c.in-Some.ensures.first (is_line c.in-Some.line.now _ first_line c.as_slice.ensures (turned _ _ c.if-ne.ensures)) in
    fault_of c.fault-2.ensures (leaves_here c.in-Some.rest.now c.in-Some-split_first.line.now c.in-Some-split_first.rest.now c.in-Some-split_first.ensures.parts c.in-Some-split_first.ensures.first (lines_of bytes) (first_line ∷ []) (unended bytes) BadSession 2 stand.before head_begins (board_refused c.in-Some-split_first.line.now (is_other c.in-Some-split_first.line.now _ demo_line c.as_slice-2.ensures c.if-eq.ensures) (is_other c.in-Some-split_first.line.now _ dts_line c.as_slice-3.ensures c.if-eq-2.ensures)) (omega arith))
