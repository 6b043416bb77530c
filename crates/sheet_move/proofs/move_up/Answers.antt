-- `sheet_move::move_up` meets its contract: the part that is lent is the body. Assumes nothing.
use mathlib.Core.Path.{sym, ◌∙◌}
use Prim.Native.Nat.{◌-◌}
use native.Mathlib.Omega.{arith}
use lib.ListN.{length, drop, length-take}
use Rattle.sheet_move.proofs.Passed.{up_fits}
use Rattle.sheet_move.proofs.Outcomes.{up-moved}
use Rattle.sheet_move.proofs.move_up.Goals as goal

pub slice_bounds-write_version-count : goal.slice_bounds-write_version-count
slice_bounds-write_version-count c = (up_fits c.args.b.now _ (sym c.up_check.ensures ∙ c.in_ok-up_check.was)).0

pub slice_bounds-write_version-start : goal.slice_bounds-write_version-start
slice_bounds-write_version-start c =
    let fits = up_fits c.args.b.now _ (sym c.up_check.ensures ∙ c.in_ok-up_check.was) in
    omega (arith, fits)

pub write_version-requires : goal.write_version-requires
write_version-requires c =
    let b = c.args.b.now in
    let fits = up_fits b _ (sym c.up_check.ensures ∙ c.in_ok-up_check.was) in
    omega (arith, fits, length-take (length b - 5) (drop 5 b))

pub returns : goal.returns
returns c =
    let k = c.up_check in
    up-moved _ _ _ k.result k.ensures c.in_ok-up_check.was c.write_version.ensures
