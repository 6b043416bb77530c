-- `sheet_write::write_sheet` meets its contract: the three writes lie within the output, and each goes on where the one before it ended. Assumes nothing.
use mathlib.Core.Path.{sym, ◌∙◌}
use Prim.Native.Nat.{◌+◌, ◌≤◌}
use native.Mathlib.Omega.{arith}
use lib.ListN.{length}
use borrow.Author.Tests.{leb-true}
use Rattle.sheet_header.specs.Header.{row_at}
use Rattle.sheet_write.specs.Write.{given}
use Rattle.sheet_write.proofs.Checks.{passed}
use Rattle.sheet_write.proofs.Outcomes.{all-written}
use Rattle.sheet_write.proofs.write_sheet.Goals as goal

pub row_at-k-requires : goal.row_at-k-requires
row_at-k-requires c =
    let sheet = given c.args.n c.args.p c.args.st c.args.sources.now c.args.targets.now c.args.x.now c.args.y.now in
    let room : c.front_bytes-at.result + row_at sheet.p sheet.n ≤ length c.args.out.now = leb-true _ _ (sym c.has_room.ensures ∙ c.if-not-has_room.false) in
    let fine = passed sheet (sym c.check.ensures ∙ c.in_ok-check.was) in
    omega (arith, room, fine.size.columns)

pub write-requires : goal.write-requires
write-requires c =
    let sheet = given c.args.n c.args.p c.args.st c.args.sources.now c.args.targets.now c.args.x.now c.args.y.now in
    let room : c.front_bytes-at.result + row_at sheet.p sheet.n ≤ length c.args.out.now = leb-true _ _ (sym c.has_room.ensures ∙ c.if-not-has_room.false) in
    let m = (passed sheet (sym c.check.ensures ∙ c.in_ok-check.was)).lengths in
    record { sources_len = m.sources; targets_len = m.targets; y_len = m.scores; x_len = m.features; p_in_bounds = omega arith }

pub returns : goal.returns
returns c =
    let sheet = given c.args.n c.args.p c.args.st c.args.sources.now c.args.targets.now c.args.x.now c.args.y.now in
    all-written _ sheet _ _ c.front_bytes-at.ensures c.has_room.result c.has_room.ensures c.if-not-has_room.false c.check.result
    c.check.ensures c.row_at-k.result c.in_ok-check.was c.row_at-k.ensures c.write_front.ensures c.write_head.ensures
    c.write.ensures
