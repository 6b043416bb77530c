-- `stages::searching_step` meets its contract: a trial that is not taken halves or, as the hundredth, fails; else the next round or the limit follows.
-- Assumes nothing.
use native.Mathlib.Omega.{arith}
use Rattle.pause.specs.Parts.{trial+}
use Rattle.records.specs.Record.{counts_of}
use Rattle.stages.proofs.Moves.{searching-again, searching-none, searching-next, searching-limit}
use Rattle.stages.proofs.searching_step.Goals as goal

pub returns-then-j-lt100 : goal.returns-then-j-lt100
unfolding trial+
returns-then-j-lt100 c =
    let s = c.args in
    searching-again s.fit.now.sizes s.fit.now.terms s.fit.now.tol _ s.fit.now.limit s.r (counts_of s.c) s.a _ s.j c.attempt-o.ensures
    c.in_default.is c.scalars_of-halved.ensures c.if-j-lt100.true

pub returns-in_default : goal.returns-in_default
unfolding trial+
returns-in_default c =
    let s = c.args in
    searching-none s.fit.now.sizes s.fit.now.terms s.fit.now.tol _ s.fit.now.limit s.r (counts_of s.c) s.a _ s.j c.attempt-o.ensures
    c.in_default.is c.if-j-lt100.false

pub overflow_add-r : goal.overflow_add-r
overflow_add-r c = omega (arith, c.requires.searching_in.inside, c.requires.limit_bound)

pub overflow_add-result-then-r-fit : goal.overflow_add-result-then-r-fit
overflow_add-result-then-r-fit c = omega (arith, c.requires.searching_in.inside, c.requires.limit_bound)

pub returns-then-r-fit : goal.returns-then-r-fit
unfolding trial+
returns-then-r-fit c =
    let s = c.args in
    searching-next s.fit.now.sizes s.fit.now.terms s.fit.now.tol _ s.fit.now.limit s.r (counts_of s.c) s.a _ s.j c.attempt-o.ensures
    c.in-Accept.is c.if-r-fit.true

pub returns : goal.returns
unfolding trial+
returns c =
    let s = c.args in
    searching-limit s.fit.now.sizes s.fit.now.terms s.fit.now.tol _ s.fit.now.limit s.r (counts_of s.c) s.a _ s.j c.attempt-o.ensures
    c.in-Accept.is c.if-r-fit.false
