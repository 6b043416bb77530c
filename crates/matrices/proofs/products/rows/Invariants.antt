-- `matrices::products::rows` meets its contract. The invariants: the products of the first i rows of each run, or of the first i rows, are written.
-- Assumes nothing.
use Prim.Native.Nat.{ℕ, ◌*◌}
use mathlib.Core.List.{List}
use lib.Ieee.{Float}
use Rattle.arrays.specs.Part.{part}
use Rattle.arrays.proofs.Turns.{Made}
use Rattle.several.proofs.Runs.{Runs}
use Rattle.matrices.specs.Products.{row_product}
use Rattle.matrices.proofs.products.rows.Given as goal

-- the products of all rows, of what s holds
abbrev pub all : List Float → ℕ → ℕ → ℕ → ℕ → ℕ → Float
all s mat rows cols v = row_product (part s mat (rows * cols)) cols (part s v cols)

abbrev pub invariant-loop-i : goal.invariant-loop-i
invariant-loop-i l = Runs l.fn.s l.out 8 l.e (all l.fn.s l.mat l.rows l.cols l.v) l.s l.i 0

abbrev pub invariant-loop-i-2 : goal.invariant-loop-i-2
invariant-loop-i-2 l = Made l.fn.s l.out l.rows (all l.fn.s l.mat l.rows l.cols l.v) l.s l.i
