-- bg_solver.rs: solve_mut, over any mat_vec_mul, mat_t_vec_mul and solve_preconditioner. Definitions only.
use Rattle.std.specs.Prelude.{true, false, not, cond, List, ℕ, zero, suc, ◌+◌, ◌-◌, ◌*◌, eqb, Float}
use Rattle.std.specs.Float.Ieee.{eq, le}
use Rattle.numbers.specs.Ops.{◌⊕◌, ◌⊖◌, ◌⊗◌, ◌⊘◌}
use Rattle.arrays.specs.Part.{tab}
use Rattle.arrays.specs.Sums.{◌!◌, plus0, product_of, norm_two_of}
use Rattle.arrays.specs.Vectors.{zip_of, fill_of}
use Rattle.matrices.specs.Products.{rows_of, columns_of}

-- the trait's three functions
pub record Solver : Type 0 where
  pub mat_vec_mul : List Float → List Float
  pub mat_t_vec_mul : List Float → List Float
  pub solve_preconditioner : List Float → List Float

-- the trait's own bodies of them, for a matrix a of n by n: mat_vec_mul is x.xa(false, a), the transposed product; a diagonal of -0 counts as 0
unfoldable pub bg_solver : ℕ → List Float → Solver
bg_solver n a =
    let diag = tab (λ i. a ! (i * n + i)) n in
    record {
      mat_vec_mul = columns_of a n n;
      mat_t_vec_mul = rows_of a n n;
      solve_preconditioner = λ b. tab (λ i. cond (not (eq (diag ! i) plus0)) (b ! i ⊘ diag ! i) (b ! i)) n;
    }

-- Ok(err) with the solution x and the number of rounds made; or Err, with 01's number of the refusal
pub data Solution : Type 0 where
  ok : Float → List Float → ℕ → Solution
  err : ℕ → Solution

module _ (self : Solver) (n : ℕ) (bnrm tol : Float) where
  -- `for iter in 1..max_iter`, of which `left` are left and `made` are made; x, r, rr, z, pp, bkden and err live from round to round
  unfoldable pub loop : ℕ → ℕ → ℕ → List Float → List Float → List Float → List Float → List Float → Float → Float → Solution
  loop zero iter made x r rr z pp bkden error = ok error x made
  loop (suc left) iter made x r rr z pp bkden error =
      let zz = self.solve_preconditioner rr in
      let bknum = product_of n z rr in
      let bk = bknum ⊘ bkden in
      let p = cond (eqb iter 1) z (zip_of (λ (v u : Float). bk ⊗ v ⊕ u) n pp z) in
      let pp = cond (eqb iter 1) zz (zip_of (λ (v u : Float). bk ⊗ v ⊕ u) n pp zz) in
      let bkden = bknum in
      let z = self.mat_vec_mul p in
      let akden = product_of n z pp in
      let ak = bknum ⊘ akden in
      let zz = self.mat_t_vec_mul pp in
      let x = zip_of (λ (v u : Float). v ⊕ ak ⊗ u) n x p in
      let r = zip_of (λ (v u : Float). v ⊖ ak ⊗ u) n r z in
      let rr = zip_of (λ (v u : Float). v ⊖ ak ⊗ u) n rr zz in
      let z = self.solve_preconditioner r in
      let error = norm_two_of n r ⊘ bnrm in
      elim (le error tol) [
        | true ↦ ok error x (made + 1)
        | false ↦ loop left (iter + 1) (made + 1) x r rr z pp bkden error
      ]

-- n is b's length
unfoldable pub solve_mut : Solver → ℕ → List Float → List Float → Float → ℕ → Solution
solve_mut self n b x tol max_iter =
    elim (le tol plus0) [
      | true ↦ err 8
      | false ↦ elim (eqb max_iter 0) [
        | true ↦ err 10
        | false ↦
            let r = zip_of (λ (v u : Float). v ⊖ u) n b (self.mat_vec_mul x) in
            let rr = r in
            let bnrm = norm_two_of n b in
            let z = self.solve_preconditioner r in
            let pp = fill_of plus0 n in
            let bkden = plus0 in
            let error = plus0 in
            loop self n bnrm tol (max_iter - 1) 1 0 x r rr z pp bkden error
      ]
    ]
