-- `paused_fit::fit_in_pieces` meets its contract: the third budget alone is 5,100·M. Assumes nothing.
use Prim.Native.Nat.{ℕ, ◌*◌}
use native.Mathlib.Omega.{arith}
use mathlib.Core.List.{[], ◌∷◌}
use Rattle.pause.specs.Progress.{total}
use Rattle.promises.specs.Chain.{Enough}
use Rattle.whole_fit.proofs.Returns.{start-refuses, many-weights, few, has_ended, settles}
use Rattle.paused_fit.proofs.fit_in_pieces.Goals as goal

enough : (M first second : ℕ) → Enough M (first ∷ second ∷ 5100 * M ∷ [])
unfolding total
enough M first second = omega arith

pub overflow_mul-st : goal.overflow_mul-st
overflow_mul-st c =
    let g = c.args in
    omega (arith, few g.n g.p g.x.now g.y.now g.st g.s.now g.w.now c.start_whole.result c.start_whole.ensures c.in-Ok.is)

pub resumed-requires : goal.resumed-requires
resumed-requires c =
    let g = c.args in
    many-weights g.n g.p g.x.now g.y.now g.st g.s.now g.w.now c.start_whole.result c.start_whole.ensures c.in-Ok.is

pub settled-requires : goal.settled-requires
settled-requires c =
    let g = c.args in
    has_ended g.n g.p g.x.now g.y.now g.st g.s.now g.w.now c.start_whole.result c.start_whole.ensures
    c.in-Ok.is c.resumed.result (enough g.st.max_iter g.first g.second) c.resumed.ensures

pub returns-in-Ok : goal.returns-in-Ok
returns-in-Ok c =
    let g = c.args in
    settles g.n g.p g.x.now g.y.now g.st g.s.now g.w.now c.start_whole.result c.start_whole.ensures
    c.in-Ok.is c.resumed.result (enough g.st.max_iter g.first g.second) c.resumed.ensures c.settled.ensures

pub returns-in-Err : goal.returns-in-Err
returns-in-Err c =
    let g = c.args in
    start-refuses g.n g.p g.x.now g.y.now g.st g.s.now g.w.now c.start_whole.result c.start_whole.ensures c.in-Err.is c.refused.ensures
