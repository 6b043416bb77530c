-- `lazy_gram::pairs` meets its contract. The invariant: but for the right panel, the sums of the first kb * cc columns are advanced, and all else is as it was.
-- Assumes nothing.
use Prim.Native.Nat.{◌+◌, ◌*◌}
use Rattle.gram_panels.specs.Panels.{same}
use Rattle.lazy_gram.specs.Nest.{Like, advanced}
use Rattle.lazy_gram.proofs.pairs.Given as goal

abbrev pub invariant-loop-kb : goal.invariant-loop-kb
invariant-loop-kb l =
    Like l.pl.ri (l.pl.ri + l.b.nr * l.pl.cc) l.s (advanced l.m l.b.p l.b.row l.b.nr l.initial.s l.pl (l.jb * l.pl.cc) (same (l.kb * l.pl.cc)) l.nj)
