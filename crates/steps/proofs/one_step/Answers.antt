-- `steps::one_step` meets its contract. An ended record is none that a step may take. Assumes nothing.
use Rattle.steps.proofs.ByStage.{by-stage, sane-at, opening-known}
use Rattle.steps.proofs.one_step.Goals as goal

pub opening_step-requires : goal.opening_step-requires
opening_step-requires c =
    let g = c.in-Opening.is in
    record { room = c.requires.room; suits = c.requires.suits; limit_bound = c.requires.limit_bound; known = opening-known c.args.rec g _ _ _ _ _ c.requires.known_at; opening_in = sane-at c.args.rec g _ c.requires.sane }

pub solving_step-requires-clause-solving_in : goal.solving_step-requires-clause-solving_in
solving_step-requires-clause-solving_in c = sane-at c.args.rec c.in-Solving.is _ c.requires.sane

pub searching_step-requires-clause-searching_in : goal.searching_step-requires-clause-searching_in
searching_step-requires-clause-searching_in c = sane-at c.args.rec c.in-Searching.is _ c.requires.sane

pub returns-in-Opening : goal.returns-in-Opening
returns-in-Opening c =
    let s = c.args in
    by-stage s.rec c.in-Opening.is s.fit.now.sizes s.fit.now.terms s.fit.now.tol _ s.fit.now.limit _
    c.opening_step.ensures

pub returns-in-Solving : goal.returns-in-Solving
returns-in-Solving c =
    let s = c.args in
    by-stage s.rec c.in-Solving.is s.fit.now.sizes s.fit.now.terms s.fit.now.tol _ s.fit.now.limit _
    c.solving_step.ensures

pub returns-in-Searching : goal.returns-in-Searching
returns-in-Searching c =
    let s = c.args in
    by-stage s.rec c.in-Searching.is s.fit.now.sizes s.fit.now.terms s.fit.now.tol _ s.fit.now.limit _
    c.searching_step.ensures

pub unreachable-requires : goal.unreachable-requires
unreachable-requires c = sane-at c.args.rec c.in-Ended.is _ c.requires.sane
