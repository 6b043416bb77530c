-- Where the solver's seven vectors of n elements lie in one slice, and what the leaves that touch no matrix make of that slice. Definitions only.
use Rattle.std.specs.Prelude.{Bool, cond, List, ℕ, ◌+◌, ◌≤◌, length, Float}
use Rattle.std.specs.Float.Ieee.{le}
use Rattle.numbers.specs.Ops.{◌⊕◌, ◌⊖◌, ◌⊗◌, ◌⊘◌}
use Rattle.arrays.specs.Part.{part, put}
use Rattle.arrays.specs.Sums.{product_of}
use Rattle.arrays.specs.Vectors.{zip_of}
use Rattle.bg_solver.specs.declared.shared.Seven.{Seven}
use Rattle.bg_solver.specs.declared.shared.Turned.{Turned}
use Rattle.bg_solver.specs.declared.shared.Turned.TheVariants.{Stop, More}

-- a round's answer by its error: it stops where that is at most the tolerance, so never for a NaN
unfoldable pub turn_by : Float → Float → Float → Turned
turn_by tol err bkden = cond (le err tol) (Stop err bkden) (More err bkden)

abbrev pub error_in : Turned → Float
error_in (Stop e d) = e
error_in (More e d) = e

-- all within the slice, one after the other in this order
pub record Seated (m : List Float) (n : ℕ) (w : Seven) : Type 0 where
  pub x-r : w.x + n ≤ w.r
  pub r-rr : w.r + n ≤ w.rr
  pub rr-z : w.rr + n ≤ w.z
  pub z-zz : w.z + n ≤ w.zz
  pub zz-p : w.zz + n ≤ w.p
  pub p-pp : w.p + n ≤ w.pp
  pub room : w.pp + n ≤ length m

-- the new p and pp
abbrev pub aimed : Bool → Float → ℕ → List Float → List Float → List Float
aimed first bk n pp z = cond first z (zip_of (λ (v u : Float). bk ⊗ v ⊕ u) n pp z)

-- the slice after `direct`; both new directions are made of the old pp
unfoldable pub direct_mem : Bool → Float → ℕ → Seven → List Float → List Float
direct_mem first bkden n w m =
    let bk = product_of n (part m w.z n) (part m w.rr n) ⊘ bkden in
    put (put m w.p (aimed first bk n (part m w.pp n) (part m w.z n))) w.pp (aimed first bk n (part m w.pp n) (part m w.zz n))

-- the slice after `advance`
unfoldable pub advance_mem : Float → ℕ → Seven → List Float → List Float
advance_mem bknum n w m =
    let ak = bknum ⊘ product_of n (part m w.z n) (part m w.pp n) in
    put
    (put (put m w.x (zip_of (λ (v u : Float). v ⊕ ak ⊗ u) n (part m w.x n) (part m w.p n)))
    w.r (zip_of (λ (v u : Float). v ⊖ ak ⊗ u) n (part m w.r n) (part m w.z n)))
    w.rr (zip_of (λ (v u : Float). v ⊖ ak ⊗ u) n (part m w.rr n) (part m w.zz n))
