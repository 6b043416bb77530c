-- `elastic_net::accepted` meets its contract: a call that goes on leaves what the steps left, and one that ends is `finish`. Assumes nothing.
use mathlib.Core.Path.{◌≡◌, refl, sym, ◌∙◌}
use lib.ListN.{length}
use Rattle.elastic_net.proofs.Calls.{known, has-room}
use Rattle.elastic_net.proofs.Ends.{paused, ends}
use Rattle.elastic_net.proofs.accepted.Goals as goal

pub new-fit-requires-clause-allowed : goal.new-fit-requires-clause-allowed
new-fit-requires-clause-allowed c = c.requires.accepted.settings

pub go-requires : goal.go-requires
go-requires c =
    let e = c.new-fit.ensures in
    record { room = has-room c.requires.accepted e.sizes_are _ refl; suits = e.suits; limit_bound = e.limit_bound; rec_value = rw e.limit_is c.requires.rec_value }

pub tidy-requires : goal.tidy-requires
tidy-requires c = has-room c.requires.accepted c.new-fit.ensures.sizes_are _ c.go.auto.s

pub finish-requires : goal.finish-requires
finish-requires c =
    let a = c.requires.accepted in
    let e = c.new-fit.ensures in
    let q = e.sizes_are in
    record { room = has-room a q _ c.go.auto.s; small = e.small; rows = e.suits.rows; targets = a.targets ∙ sym (known a q).rows; weights = a.weights ∙ sym (known a q).columns }

pub shape_of-s-in-Going : goal.shape_of-s-in-Going
shape_of-s-in-Going c =
    let kept : length c.go.new.s ≡ length c.args.s.now = c.go.auto.s in
    c.tidy.auto.s ∙ kept

pub returns-in-Going : goal.returns-in-Going
returns-in-Going c =
    let g = c.args in
    let e = c.new-fit.ensures in
    paused g.n g.p g.x.now g.y.now g.st g.rec g.s.now g.w.now g.budget
    e.sizes_are e.terms_are (rw (e.tol_is, e.matrix_is, e.limit_is) at c.go.ensures)
    c.in-Going.is c.tidy.ensures c.clean-r.ensures

pub shape_of-s-in-Over : goal.shape_of-s-in-Over
shape_of-s-in-Over c =
    let kept : length c.go.new.s ≡ length c.args.s.now = c.go.auto.s in
    c.finish.auto.s ∙ kept

pub shape_of-w : goal.shape_of-w
shape_of-w c = c.finish.auto.w

pub returns-in-Over : goal.returns-in-Over
returns-in-Over c =
    let g = c.args in
    let e = c.new-fit.ensures in
    ends g.n g.p g.x.now g.y.now g.st g.rec g.s.now g.w.now g.budget
    e.sizes_are e.terms_are (rw (e.tol_is, e.matrix_is, e.limit_is) at c.go.ensures)
    c.finish.result c.in-Over.is (rw e.normalise_is at c.finish.ensures)
