-- `matrices::products::rows_of` meets its contract. The invariants: the products of the first i rows of each run, or of the first i rows, are written.
-- Assumes nothing.
use Rattle.arrays.specs.Part.{part}
use Rattle.arrays.proofs.Turns.{Made}
use Rattle.several.proofs.Runs.{Runs}
use Rattle.matrices.specs.Products.{row_product}
use Rattle.matrices.proofs.products.rows_of.Given as goal

abbrev pub invariant-loop-i : goal.invariant-loop-i
invariant-loop-i l = Runs l.fn.s l.out 8 l.e (row_product l.m l.cols (part l.fn.s l.v l.cols)) l.s l.i 0

abbrev pub invariant-loop-i-2 : goal.invariant-loop-i-2
invariant-loop-i-2 l = Made l.fn.s l.out l.rows (row_product l.m l.cols (part l.fn.s l.v l.cols)) l.s l.i
