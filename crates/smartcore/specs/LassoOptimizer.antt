-- lasso_optimizer.rs: InteriorPointOptimizer, line by line and with its names; what is used stands before its use. Vectors are lists, and a loop carries its
-- variables. Definitions only.
use Rattle.std.specs.Prelude.{Bool, true, false, not, ◌&&◌, cond, List, ◌++◌, ℕ, zero, suc, ◌+◌, ◌*◌, eqb, Float}
use Rattle.std.specs.Float.{inf}
use Rattle.std.specs.Float.Ieee.{neg, lt, le}
use Rattle.numbers.specs.Ops.{◌⊕◌, ◌⊖◌, ◌⊗◌, ◌⊘◌, f64}
use Rattle.numbers.specs.Order.{maximum_of, minimum_of}
use Rattle.numbers.specs.Constants.{half, one, two, epsilon}
use Rattle.logarithm.specs.Log.{ln_of}
use Rattle.arrays.specs.Part.{part, tab}
use Rattle.arrays.specs.Sums.{◌!◌, plus0, fold_to, sum_to, sum_of, dot_of, norm1_of, norm2_of, norm_inf_of, whole, mean_of}
use Rattle.arrays.specs.Vectors.{map_of, zip_of, fill_of}
use Rattle.matrices.specs.Grid.{grid}
use Rattle.matrices.specs.Products.{rows_of}
use Rattle.smartcore.specs.BgSolver.{Solver, ok, err, solve_mut}

-- openings of a round, rounds of the solver, trials of the line search
pub record Counts : Type 0 where
  pub openings : ℕ
  pub solver : ℕ
  pub trials : ℕ

abbrev pub opening : Counts → Counts
opening c = record { openings = c.openings + 1; solver = c.solver; trials = c.trials }

abbrev pub solved : ℕ → Counts → Counts
solved made c = record { openings = c.openings; solver = c.solver + made; trials = c.trials }

abbrev pub searched : ℕ → Counts → Counts
searched trials c = record { openings = c.openings; solver = c.solver; trials = trials }

-- Ok, by the stopping criterion or with all rounds made; or Err, with 01's number of the refusal
pub data Fitted (A : Type 0) : Type 0 where
  converged : Counts → A → Fitted A
  limit : Counts → A → Fitted A
  failed : ℕ → Counts → Fitted A

-- ---- parameters

abbrev pub max_ls_iter : ℕ
max_ls_iter = 100

abbrev pub pcgmaxi : ℕ
pcgmaxi = 5000

-- 0.1
abbrev pub min_pcgtol : Float
min_pcgtol = f64 0x3fb9_9999_9999_999a

-- 1E-3
abbrev pub eta : Float
eta = f64 0x3f50_624d_d2f1_a9fc

-- 0.01
abbrev pub alpha : Float
alpha = f64 0x3f84_7ae1_47ae_147b

-- 0.5
abbrev pub beta : Float
beta = half

-- -0.25; not the `gamma` of the settings
abbrev pub gamma : Float
gamma = neg (f64 0x3fd0_0000_0000_0000)

abbrev pub mu : Float
mu = two

-- ---- the solver's three functions, of ata, d1, d2, prb and prs

unfoldable pub solve_preconditioner : ℕ → List Float → List Float → List Float → List Float → List Float → List Float
solve_preconditioner p d1 d2 prb prs b =
    tab (λ i. (d1 ! i ⊗ b ! i ⊖ d2 ! i ⊗ b ! (i + p)) ⊘ prs ! i) p
    ++ tab (λ i. (neg (d2 ! i) ⊗ b ! i ⊕ prb ! i ⊗ b ! (i + p)) ⊘ prs ! i) p

unfoldable pub mat_vec_mul : ℕ → List Float → List Float → List Float → List Float → List Float
mat_vec_mul p ata d1 d2 x =
    let atax = rows_of ata p p (part x 0 p) in
    tab (λ i. two ⊗ atax ! i ⊕ d1 ! i ⊗ x ! i ⊕ d2 ! i ⊗ x ! (i + p)) p
    ++ tab (λ i. d2 ! i ⊗ x ! i ⊕ d1 ! i ⊗ x ! (i + p)) p

-- the solver of a round: mat_t_vec_mul is mat_vec_mul, since the matrix is symmetric
unfoldable pub self_of : ℕ → List Float → List Float → List Float → List Float → List Float → Solver
self_of p ata d1 d2 prb prs = record {
  mat_vec_mul = mat_vec_mul p ata d1 d2;
  mat_t_vec_mul = mat_vec_mul p ata d1 d2;
  solve_preconditioner = solve_preconditioner p d1 d2 prb prs;
}

-- f has p rows of two, and its elements stand row by row
unfoldable pub sumlogneg : ℕ → List Float → Float
sumlogneg p f = sum_to plus0 (λ i. ln_of (neg (f ! i))) (2 * p)

-- ---- optimize_with_products

-- what lives from round to round, and the counts
pub record Vars : Type 0 where
  pub w : List Float
  pub u : List Float
  pub f : List Float
  pub dxu : List Float
  pub t : Float
  pub s : Float
  pub dobj : Float
  pub pitr : ℕ
  pub counts : Counts

-- how the line search ends: s, neww, newu, newf and the trials so far; or the trials alone, where lsiter is at max_ls_iter
pub data Searched : Type 0 where
  accepted : Float → List Float → List Float → List Float → ℕ → Searched
  exceeded : ℕ → Searched

-- where the rounds end: the weights that are returned, and beside them their bounds and the last t
pub record Point : Type 0 where
  pub w : List Float
  pub u : List Float
  pub t : Float

-- how a round ends: with the next one's variables; or by `break` or `return`
pub data Next : Type 0 where
  on : Vars → Next
  out : Fitted Point → Next

module _ (n p : ℕ) (y : List Float) (lambda : Float) (matvec : List Float → List Float) where
  -- `while lsiter < max_ls_iter`, of which `left` are left
  unfoldable pub search : List Float → List Float → List Float → List Float → Float → Float → Float → ℕ → ℕ → Float → Searched
  search w u dx du t phi gdx zero trials s = exceeded trials
  search w u dx du t phi gdx (suc left) trials s =
      let neww = zip_of (λ (a d : Float). a ⊕ s ⊗ d) p w dx in
      let newu = zip_of (λ (a d : Float). a ⊕ s ⊗ d) p u du in
      let newf = grid (λ i c. cond (eqb c 0) (neww ! i ⊖ newu ! i) (neg (neww ! i) ⊖ newu ! i)) p 2 in
      let largest = fold_to (λ (max v : Float). maximum_of v max) (inf true) (λ i. newf ! i) (2 * p) in
      let newz = zip_of (λ (a b : Float). a ⊖ b) n (matvec neww) y in
      let newphi = dot_of n newz newz ⊕ lambda ⊗ sum_of p newu ⊖ sumlogneg p newf ⊘ t in
      elim (lt largest plus0 && le (newphi ⊖ phi) (alpha ⊗ s ⊗ gdx)) [
        | true ↦ accepted s neww newu newf (trials + 1)
        | false ↦ search w u dx du t phi gdx left (trials + 1) (beta ⊗ s)
      ]

  module _ (ata : List Float) (tol : Float) (transpose_matvec : List Float → List Float) where
    -- the body of `for ntiter in 0..max_iter`
    unfoldable pub round : ℕ → Vars → Next
    round ntiter v =
        let record { w = w; u = u; f = f; dxu = dxu; t = t; s = s; dobj = dobj; pitr = pitr; counts = c } = v in
        let c = opening c in
        let z = zip_of (λ (a b : Float). a ⊖ b) n (matvec w) y in
        let nu = map_of (λ (a : Float). two ⊗ a) n z in
        -- CALCULATE DUALITY GAP
        let xnu = transpose_matvec nu in
        let max_xnu = norm_inf_of p xnu in
        let nu = cond (lt lambda max_xnu) (map_of (λ (a : Float). a ⊗ (lambda ⊘ max_xnu)) n nu) nu in
        let pobj = dot_of n z z ⊕ lambda ⊗ norm1_of p w in
        let dobj = maximum_of dobj (gamma ⊗ dot_of n nu nu ⊖ dot_of n nu y) in
        let gap = pobj ⊖ dobj in
        -- STOPPING CRITERION
        elim (lt (gap ⊘ dobj) tol) [
          | true ↦ out (converged c (record { w = w; u = u; t = t }))
          | false ↦
              -- UPDATE t
              let t = cond (le half s) (maximum_of t (minimum_of (two ⊗ whole p ⊗ mu ⊘ gap) (mu ⊗ t))) t in
              -- CALCULATE NEWTON STEP
              let q1 = zip_of (λ (a b : Float). one ⊘ (a ⊕ b)) p u w in
              let q2 = zip_of (λ (a b : Float). one ⊘ (a ⊖ b)) p u w in
              let d1 = zip_of (λ (a b : Float). (a ⊗ a ⊕ b ⊗ b) ⊘ t) p q1 q2 in
              let d2 = zip_of (λ (a b : Float). (a ⊗ a ⊖ b ⊗ b) ⊘ t) p q1 q2 in
              let gradphi = transpose_matvec z in
              let g1 = tab (λ i. two ⊗ gradphi ! i ⊖ (q1 ! i ⊖ q2 ! i) ⊘ t) p in
              let grad = map_of neg p g1 ++ zip_of (λ (a b : Float). neg (lambda ⊖ (a ⊕ b) ⊘ t)) p q1 q2 in
              let prb = map_of (λ (a : Float). two ⊕ a) p d1 in
              let prs = tab (λ i. prb ! i ⊗ d1 ! i ⊖ d2 ! i ⊗ d2 ! i) p in
              let normg = norm2_of (2 * p) grad in
              let pcgtol = minimum_of min_pcgtol (eta ⊗ gap ⊘ minimum_of one normg) in
              let pcgtol = cond (not (eqb ntiter 0) && eqb pitr 0) (pcgtol ⊗ min_pcgtol) pcgtol in
              elim (solve_mut (self_of p ata d1 d2 prb prs) (2 * p) grad dxu pcgtol pcgmaxi) [
                | err k ↦ out (failed k c)
                | ok error dxu made ↦
                    let c = solved made c in
                    let pitr = cond (lt pcgtol error) pcgmaxi pitr in
                    let dx = part dxu 0 p in
                    let du = part dxu p p in
                    -- BACKTRACKING LINE SEARCH
                    let phi = dot_of n z z ⊕ lambda ⊗ sum_of p u ⊖ sumlogneg p f ⊘ t in
                    let s = one in
                    let gdx = dot_of (2 * p) grad dxu in
                    elim (search w u dx du t phi gdx max_ls_iter c.trials s) [
                      | exceeded trials ↦ out (failed 7 (searched trials c))
                      | accepted s neww newu newf trials ↦
                          on (record { w = neww; u = newu; f = newf; dxu = dxu; t = t; s = s; dobj = dobj; pitr = pitr; counts = searched trials c })
                    ]
              ]
        ]

    -- `left` rounds, from number ntiter on
    unfoldable pub rounds : ℕ → ℕ → Vars → Fitted Point
    rounds zero ntiter v = limit v.counts (record { w = v.w; u = v.u; t = v.t })
    rounds (suc left) ntiter v = elim (round ntiter v) [
      | on v' ↦ rounds left (ntiter + 1) v'
      | out e ↦ e
    ]

-- self.ata, shape, y, lambda, max_iter, tol, fit_intercept, matvec, transpose_matvec
unfoldable pub optimize : List Float → ℕ → ℕ → List Float → Float → ℕ → Float → Bool → (List Float → List Float) → (List Float → List Float) → Fitted Point
optimize ata n p y lambda max_iter tol fit_intercept matvec transpose_matvec =
    let lambda = maximum_of lambda epsilon in
    let y = cond fit_intercept (map_of (λ (v : Float). v ⊖ mean_of n y) n y) y in
    let v : Vars = record {
      w = fill_of plus0 p;
      u = fill_of one p;
      f = fill_of (neg one) (2 * p);
      dxu = fill_of plus0 (2 * p);
      t = minimum_of (maximum_of one (one ⊘ lambda)) (two ⊗ whole p ⊘ eta);
      s = inf false;
      dobj = plus0;
      pitr = 0;
      counts = record { openings = 0; solver = 0; trials = 0 };
    } in
    rounds n p y lambda matvec ata tol transpose_matvec max_iter 0 v
