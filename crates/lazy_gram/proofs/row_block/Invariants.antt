-- `lazy_gram::row_block` meets its contract. The invariant: but for the panels, the Gram's first jb * cc rows are advanced, and all else is as it was.
-- Assumes nothing.
use Prim.Native.Nat.{◌+◌, ◌*◌}
use Rattle.gram_panels.specs.Panels.{least}
use Rattle.lazy_gram.specs.Nest.{Like, advanced_low}
use Rattle.lazy_gram.proofs.row_block.Given as goal

abbrev pub invariant-loop-jb : goal.invariant-loop-jb
invariant-loop-jb l =
    Like l.pl.le (l.pl.ri + l.b.nr * l.pl.cc) l.s (advanced_low l.m l.b.p l.b.row l.b.nr l.initial.s l.pl (least l.b.p (l.jb * l.pl.cc)))
