-- The biconjugate gradient solver of bg_solver.rs, over any product, transposed product and preconditioner: its first lines, and one round. Definitions only.
use Rattle.std.specs.Prelude.{Bool, cond, List, ℕ, Float}
use Rattle.numbers.specs.Ops.{◌⊕◌, ◌⊖◌, ◌⊗◌, ◌⊘◌}
use Rattle.arrays.specs.Sums.{product_of, norm_two_of}
use Rattle.arrays.specs.Vectors.{zip_of}

-- n, mat_vec_mul, mat_t_vec_mul and solve_preconditioner
pub record System : Type 0 where
  pub size : ℕ
  pub product : List Float → List Float
  pub transposed : List Float → List Float
  pub preconditioned : List Float → List Float

-- the solver's vectors
pub record Work : Type 0 where
  pub x : List Float
  pub r : List Float
  pub rr : List Float
  pub z : List Float
  pub zz : List Float
  pub p : List Float
  pub pp : List Float

-- what a round leaves: the vectors, and the sum that the next one divides by
pub record Round : Type 0 where
  pub work : Work
  pub bkden : Float

-- up to the loop, for the right side b
unfoldable pub begun : System → List Float → Work → Work
begun A b w =
    let r = zip_of (λ (v u : Float). v ⊖ u) A.size b (A.product w.x) in
    record { x = w.x; r = r; rr = r; z = A.preconditioned r; zz = w.zz; p = w.p; pp = w.pp }

-- one round; `first` where iter is 1. Both p and pp are renewed from the old pp.
unfoldable pub turned : System → Bool → Float → Work → Round
turned A first bkden w =
    let n = A.size in
    let zz = A.preconditioned w.rr in
    let bknum = product_of n w.z w.rr in
    let bk = bknum ⊘ bkden in
    let p = cond first w.z (zip_of (λ (v u : Float). bk ⊗ v ⊕ u) n w.pp w.z) in
    let pp = cond first zz (zip_of (λ (v u : Float). bk ⊗ v ⊕ u) n w.pp zz) in
    let z = A.product p in
    let ak = bknum ⊘ product_of n z pp in
    let zz' = A.transposed pp in
    let r = zip_of (λ (v u : Float). v ⊖ ak ⊗ u) n w.r z in
    record {
      work = record {
        x = zip_of (λ (v u : Float). v ⊕ ak ⊗ u) n w.x p;
        r = r;
        rr = zip_of (λ (v u : Float). v ⊖ ak ⊗ u) n w.rr zz';
        z = A.preconditioned r;
        zz = zz';
        p = p;
        pp = pp;
      };
      bkden = bknum;
    }

-- err, for the norm of the right side
unfoldable pub error_of : System → Float → Work → Float
error_of A bnrm w = norm_two_of A.size w.r ⊘ bnrm
