-- `sheet_move::move_down` meets its contract: the part that is lent is the body. Assumes nothing.
use mathlib.Core.Path.{sym, ◌∙◌}
use Prim.Native.Nat.{◌-◌}
use native.Mathlib.Omega.{arith}
use lib.ListN.{length, drop, length-take}
use Rattle.sheet_move.proofs.Passed.{down_fits}
use Rattle.sheet_move.proofs.Outcomes.{down-moved}
use Rattle.sheet_move.proofs.move_down.Goals as goal

pub big_endian-family-requires-clause-k_in_bounds : goal.big_endian-family-requires-clause-k_in_bounds
big_endian-family-requires-clause-k_in_bounds c =
    let fits = down_fits c.args.b.now _ (sym c.down_check.ensures ∙ c.in_ok-down_check.was) in
    omega (arith, fits)

pub slice_bounds-write_version-count : goal.slice_bounds-write_version-count
slice_bounds-write_version-count c = (down_fits c.args.b.now _ (sym c.down_check.ensures ∙ c.in_ok-down_check.was)).0

pub slice_bounds-write_version-start : goal.slice_bounds-write_version-start
slice_bounds-write_version-start c =
    let fits = down_fits c.args.b.now _ (sym c.down_check.ensures ∙ c.in_ok-down_check.was) in
    omega (arith, fits)

pub write_version-requires : goal.write_version-requires
write_version-requires c =
    let b = c.args.b.now in
    let fits = down_fits b _ (sym c.down_check.ensures ∙ c.in_ok-down_check.was) in
    omega (arith, fits, length-take (length b - 9) (drop 9 b))

pub overflow_sub-result : goal.overflow_sub-result
overflow_sub-result c =
    let fits = down_fits c.args.b.now _ (sym c.down_check.ensures ∙ c.in_ok-down_check.was) in
    omega (arith, fits)

pub returns : goal.returns
returns c =
    let k = c.down_check in
    down-moved _ _ k.result k.ensures c.in_ok-down_check.was c.big_endian-family.ensures.0 c.write_version.ensures
