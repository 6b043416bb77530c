-- `sheet_fit::counted` meets its contract: the parts of the fixed arrays are long enough, and all +0. Assumes nothing.
use Prim.Native.Nat.{◌*◌, ◌≤◌}
use native.Mathlib.Omega.{arith}
use Rattle.sheet_fit.proofs.Returns.{same_text, area, zeros, lent-text}
use Rattle.sheet_fit.proofs.counted.Goals as goal

pub overflow_mul-n : goal.overflow_mul-n
overflow_mul-n c =
    let sized : c.args.n * c.args.p ≤ 4096 = area _ _ c.requires.n_bound c.requires.p_bound in
    omega (arith, sized)

pub slice_bounds-matrix-end : goal.slice_bounds-matrix-end
slice_bounds-matrix-end c =
    let sized : c.args.n * c.args.p ≤ 4096 = area _ _ c.requires.n_bound c.requires.p_bound in
    omega (arith, sized)

pub returns : goal.returns
returns c =
    let sized : c.args.n * c.args.p ≤ 4096 = area _ _ c.requires.n_bound c.requires.p_bound in
    let g = c.args in
    same_text _ (lent-text _ _ _ (zeros 4096 (g.n * g.p) sized) (zeros 256 g.n c.requires.n_bound)) c.read_in.ensures
