-- `opening::open` meets its contract: one return where it has converged, one where the tolerance is not positive, one where the solver is ready.
-- Assumes nothing.
use mathlib.Core.Path.{◌≡◌}
use lib.ListN.{length}
use Rattle.layout.proofs.Slots.{vars-of}
use Rattle.opening.proofs.Returns.{open_done, open-fails, open-ready}
use Rattle.opening.proofs.open.Goals as goal

pub returns-then-g-fit : goal.returns-then-g-fit
returns-then-g-fit c =
    let a = c.args in
    let d = c.gap-g.ensures in
    open_done a.fit.now.sizes a.fit.now.terms _ a.fit.now.tol a.r a.a _ d.gap_is d.dual-is d.left c.if-g-fit.true

pub newton_terms-requires-clause-gradphi : goal.newton_terms-requires-clause-gradphi
newton_terms-requires-clause-gradphi c =
    let len-gap : length c.gap-g.new.s ≡ length c.args.s.now = c.gap-g.auto.s in
    let d = c.gap-g.ensures in
    rw (vars-of c.args.fit.now.sizes d.left) d.gradphi-is

pub returns-then-pcg : goal.returns-then-pcg
returns-then-pcg c =
    let a = c.args in
    let d = c.gap-g.ensures in
    open-fails a.fit.now.sizes a.fit.now.terms _ a.fit.now.tol a.r a.a _ d.gap_is d.dual-is d.left
    c.next_t-t.ensures c.newton_terms.ensures c.pcgtol-pcg.ensures c.if-g-fit.false c.if-pcg.true

pub returns : goal.returns
returns c =
    let a = c.args in
    let d = c.gap-g.ensures in
    open-ready a.fit.now.sizes a.fit.now.terms _ a.fit.now.tol a.r a.a _ d.gap_is d.dual-is d.left
    c.next_t-t.ensures c.newton_terms.ensures c.pcgtol-pcg.ensures c.if-g-fit.false c.if-pcg.false c.begin-bnrm.ensures
