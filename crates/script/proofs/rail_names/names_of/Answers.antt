use Rattle.std.proofs.Common.{◌≡◌, ◌<◌, ◌≤◌, length, get_or, sym, arith}
use Rattle.script.proofs.Named.{is_name-item, through-next, through-all}
use Rattle.script.proofs.rail_names.names_of.Goals as goal

pub put-requires : goal.put-requires
put-requires c =
    let is : get_or c.args.board.now.rails c.loop-at.at c.rail-item.result ≡ c.rail-item.result = sym (rw c.as_slice-rail-items.ensures at c.rail-item.is) in
    let inside : c.loop-at.at < length c.args.board.now.rails = rw c.as_slice-rail-items.ensures at c.loop-at-test.true in
    is_name-item c.args.board.now c.requires.sound.names c.loop-at.at c.rail-item.result is inside
    (let short : length c.rail-item.result.name.bytes ≤ 64 = omega (arith, c.len.ensures.value, c.len.ensures.fits) in short)

pub loop-at-preserved : goal.loop-at-preserved
loop-at-preserved c =
    let is : get_or c.args.board.now.rails c.loop-at.at c.rail-item.result ≡ c.rail-item.result = sym (rw c.as_slice-rail-items.ensures at c.rail-item.is) in
    let inside : c.loop-at.at < length c.args.board.now.rails = rw c.as_slice-rail-items.ensures at c.loop-at-test.true in
    through-next c.args.board.now.rails c.loop-at.at c.loop-at.names.entries c.put.new.names.entries c.rail-item.result is inside
    c.requires.sound.names.differ
    c.in_ok-put.ensures
    c.loop-at.invariant

pub returns : goal.returns
returns c =
    let past : length c.args.board.now.rails ≤ c.loop-at.at = rw c.as_slice-rail-items.ensures at c.loop-at-test.false in
    let within : c.loop-at.at ≤ length c.args.board.now.rails = rw c.as_slice-rail-items.ensures at c.loop-at.auto.at-end in
    through-all c.args.board.now c.loop-at.at c.loop-at.names.entries (omega arith) c.loop-at.invariant
