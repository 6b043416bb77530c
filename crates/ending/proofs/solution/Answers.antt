-- `ending::solution` meets its contract: one return for each mode; the sweep and `canonical` change no number. Assumes nothing.
use native.Mathlib.Omega.{arith}
use Rattle.ending.proofs.Whole.{ends, plain, normal}
use Rattle.ending.proofs.solution.Goals as goal

pub returns-then-fit : goal.returns-then-fit
returns-then-fit c =
    let f = c.args.fit.now in
    let r = c.requires in
    let both =
    normal f.sizes f.places (ends f r.room r.rows r.targets r.weights) f.terms.gamma c.copy_from.ensures c.mean-mu.ensures c.rescale.ensures
    (omega arith) c.product-b.ensures c.sweep.ensures c.canonical.ensures in
    rw c.if-fit.true (record { weights_are = both.0; intercept_is = both.1 })

pub returns : goal.returns
returns c =
    let f = c.args.fit.now in
    let r = c.requires in
    let both =
    plain f.sizes f.places (ends f r.room r.rows r.targets r.weights) f.terms.gamma c.copy_from.ensures c.mean-mu.ensures c.scale.ensures
    c.sweep-2.ensures c.canonical-2.ensures in
    rw c.if-fit.false (record { weights_are = both.0; intercept_is = both.1 })
