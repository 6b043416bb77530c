-- `lazy_columns_both::entries` meets its contract. The invariant: the first j entries are written. Assumes nothing.
use Rattle.arrays.proofs.Turns.{Made}
use Rattle.lazy_normalization.proofs.Entries.{row_of}
use Rattle.lazy_columns_both.proofs.entries.Given as goal

abbrev pub invariant-loop-j : goal.invariant-loop-j
invariant-loop-j l = Made l.initial.r 0 l.p (row_of l.m l.s l.p l.ce l.sc l.rc l.i) l.r l.j
