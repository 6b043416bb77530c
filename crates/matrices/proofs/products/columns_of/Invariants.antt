-- `matrices::products::columns_of` meets its contract. The invariants: the products of the first 8 * i, or of the first j, columns are written, and all else is
-- as it was. Assumes nothing.
use Prim.Native.Nat.{◌*◌}
use Rattle.arrays.specs.Part.{part}
use Rattle.arrays.proofs.Turns.{Made}
use Rattle.matrices.specs.Products.{column_product}
use Rattle.matrices.proofs.products.columns_of.Given as goal

abbrev pub invariant-loop-i : goal.invariant-loop-i
invariant-loop-i l = Made l.initial.s l.out l.cols (column_product l.m l.rows l.cols (part l.initial.s l.v l.rows)) l.s (8 * l.i)

abbrev pub invariant-loop-j : goal.invariant-loop-j
invariant-loop-j l = Made l.fn.s l.out l.cols (column_product l.m l.rows l.cols (part l.fn.s l.v l.rows)) l.s l.j
