-- `stages::solving_step` meets its contract: the search begins where the solver stops, or after round 4,999. Assumes nothing.
use Rattle.pause.specs.Parts.{solver+}
use Rattle.records.specs.Record.{counts_of}
use Rattle.stages.proofs.Moves.{solving-again, solving-last, solving-stop}
use Rattle.stages.proofs.solving_step.Goals as goal

pub returns-in_default : goal.returns-in_default
unfolding solver+
returns-in_default c =
    let s = c.args in
    solving-stop s.fit.now.sizes s.fit.now.terms s.fit.now.tol _ s.fit.now.limit s.r (counts_of s.c) s.a _ s.k c.turn-o.ensures
    c.in_default.is c.scalars_in-last.ensures c.search_begins.ensures

pub returns-then-k-lt4999 : goal.returns-then-k-lt4999
unfolding solver+
returns-then-k-lt4999 c =
    let s = c.args in
    solving-again s.fit.now.sizes s.fit.now.terms s.fit.now.tol _ s.fit.now.limit s.r (counts_of s.c) s.a _ s.k c.turn-o.ensures
    c.in-More.is c.if-k-lt4999.true

pub returns : goal.returns
unfolding solver+
returns c =
    let s = c.args in
    solving-last s.fit.now.sizes s.fit.now.terms s.fit.now.tol _ s.fit.now.limit s.r (counts_of s.c) s.a _ s.k c.turn-o.ensures
    c.in-More.is c.if-k-lt4999.false c.search_begins-2.ensures
