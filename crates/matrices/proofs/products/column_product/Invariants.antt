-- `matrices::products::column_product` meets its contract. The invariant: t is the column's sum over the first i rows. Assumes nothing.
use mathlib.Core.Path.{◌≡◌}
use Rattle.matrices.specs.Products.{column_product}
use Rattle.arrays.specs.Part.{part}
use Rattle.matrices.proofs.products.column_product.Given as goal

abbrev pub invariant-loop-i : goal.invariant-loop-i
invariant-loop-i l = l.t ≡ column_product l.m l.i l.cols (part l.s l.v l.rows) l.j
