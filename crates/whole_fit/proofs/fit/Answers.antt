-- `whole_fit::fit` meets its contract: 5,100·M steps end any fit, so `settled` may be called. Assumes nothing.
use native.Mathlib.Omega.{arith}
use mathlib.Core.Path.{◌≡◌, ◌∙◌}
use lib.ListN.{length}
use Rattle.whole_fit.proofs.Returns.{start-refuses, few, one_ended, one-settles}
use Rattle.whole_fit.proofs.fit.Goals as goal

pub overflow_mul-st : goal.overflow_mul-st
overflow_mul-st c =
    let g = c.args in
    omega (arith, few g.n g.p g.x.now g.y.now g.st g.s.now g.w.now c.start_whole.result c.start_whole.ensures c.in-Ok.is)

pub settled-requires : goal.settled-requires
settled-requires c =
    let g = c.args in
    one_ended g.n g.p g.x.now g.y.now g.st g.s.now g.w.now c.start_whole.result c.start_whole.ensures
    c.in-Ok.is c.resume.result c.resume.ensures

pub shape_of-s-in-Ok : goal.shape_of-s-in-Ok
shape_of-s-in-Ok c =
    let scratch : length c.start_whole.new.s ≡ length c.args.s.now = c.start_whole.auto.s in
    c.resume.auto.s ∙ scratch

pub shape_of-w : goal.shape_of-w
shape_of-w c = c.resume.auto.w

pub returns-in-Ok : goal.returns-in-Ok
returns-in-Ok c =
    let g = c.args in
    one-settles g.n g.p g.x.now g.y.now g.st g.s.now g.w.now c.start_whole.result c.start_whole.ensures
    c.in-Ok.is c.resume.result c.resume.ensures c.settled.ensures

pub shape_of-s-in-Err : goal.shape_of-s-in-Err
shape_of-s-in-Err c =
    let scratch : length c.start_whole.new.s ≡ length c.args.s.now = c.start_whole.auto.s in
    scratch

pub returns-in-Err : goal.returns-in-Err
returns-in-Err c =
    let g = c.args in
    start-refuses g.n g.p g.x.now g.y.now g.st g.s.now g.w.now c.start_whole.result c.start_whole.ensures c.in-Err.is c.refused.ensures
