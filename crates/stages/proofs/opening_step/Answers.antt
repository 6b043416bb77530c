-- `stages::opening_step` meets its contract: one return for each answer of `open`. Assumes nothing.
use Rattle.pause.specs.Parts.{round+}
use Rattle.records.specs.Record.{counts_of}
use Rattle.stages.proofs.Moves.{opening-ready, opening-done, opening-fails}
use Rattle.stages.proofs.opening_step.Goals as goal

pub returns-in-Ready : goal.returns-in-Ready
unfolding round+
returns-in-Ready c =
    let s = c.args in
    opening-ready s.fit.now.sizes s.fit.now.terms s.fit.now.tol _ s.fit.now.limit s.r (counts_of s.c) s.a _ c.«open».ensures
    c.in-Ready.is

pub returns-in-Done : goal.returns-in-Done
unfolding round+
returns-in-Done c =
    let s = c.args in
    opening-done s.fit.now.sizes s.fit.now.terms s.fit.now.tol _ s.fit.now.limit s.r (counts_of s.c) s.a _ c.«open».ensures
    c.in-Done.is

pub returns-in-Failed : goal.returns-in-Failed
unfolding round+
returns-in-Failed c =
    let s = c.args in
    opening-fails s.fit.now.sizes s.fit.now.terms s.fit.now.tol _ s.fit.now.limit s.r (counts_of s.c) s.a _ c.«open».ensures
    c.in-Failed.is
