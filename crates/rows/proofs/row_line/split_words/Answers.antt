use Rattle.std.proofs.Common.{arith, get_or}
use Rattle.rows.proofs.CallFronts.{one_space, one_other, spaces-take}
use Rattle.rows.proofs.row_line.split_words.Goals as goal
use Rattle.rows.proofs.row_line.split_words.Goals.{then-byte-eq32+else-left-eq0, else-byte-eq32}

pub loop-at-preserved : goal.loop-at-preserved
loop-at-preserved c =
    let next = spaces-take c.args.text.now c.loop-at.at (omega arith) in
    elim c.if-byte-eq32.branch [
      | then-byte-eq32+else-left-eq0 w ↦
          let here = one_space (get_or c.args.text.now c.loop-at.at 0) w.if-byte-eq32.true in
          (omega arith, omega (arith, next, here))
      | else-byte-eq32 w ↦
          let here = one_other (get_or c.args.text.now c.loop-at.at 0) w.if-byte-eq32.false in
          (omega arith, omega (arith, next, here))
    ]
