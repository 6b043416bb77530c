-- `logarithm::far` is `far_of`: mid in its range, and out on either side of it. Assumes nothing.
use mathlib.Core.Path.{◌∙◌}
use borrow.Author.Tests.{le-leb, lt-leb}
use Rattle.logarithm.specs.Log.{far_of}
use Rattle.logarithm.proofs.far.Goals as goal

pub returns-then-hx-lt398458 : goal.returns-then-hx-lt398458
unfolding far_of
returns-then-hx-lt398458 c = c.out.ensures ∙ simp (c.series-r.ensures, lt-leb _ _ c.if-hx-lt398458.true)

pub returns-then-hx-gt440401 : goal.returns-then-hx-gt440401
unfolding far_of
returns-then-hx-gt440401 c = c.out-then-hx-gt440401.ensures ∙ simp (c.series-r.ensures, le-leb _ _ c.if-hx-lt398458.false, lt-leb _ _ c.if-hx-gt440401.true)

pub returns : goal.returns
unfolding far_of
returns c = c.mid.ensures ∙ simp (c.series-r.ensures, le-leb _ _ c.if-hx-lt398458.false, le-leb _ _ c.if-hx-gt440401.false)
