-- elastic_net.rs: `fit`, from a matrix of n rows and p columns, n targets and settings to the coefficients and the intercept. Its two other ways out, for
-- targets of the wrong length and for a constant column, are 01's refusals 2 and 6, which stand ahead of every fit of ours. Definitions only.
use Rattle.std.specs.Prelude.{true, cond, List, ◌++◌, ℕ, ◌+◌, Float}
use Rattle.numbers.specs.Ops.{◌⊖◌, ◌⊗◌, ◌⊘◌}
use Rattle.arrays.specs.Part.{part}
use Rattle.arrays.specs.Sums.{plus0, mean_of, product_of}
use Rattle.arrays.specs.Vectors.{map_of, zip_of, fill_of}
use Rattle.matrices.specs.Products.{rows_of, columns_of}
use Rattle.settings.specs.declared.Settings.{Settings}
use Rattle.settings.specs.Settings.{l1_of, terms_of}
use Rattle.lazy_gram.specs.Gram.{lazy_gram_of}
use Rattle.design.specs.Statistics.{centres_of, scales_of}
use Rattle.design.specs.Eager.{design_of, gram_of}
use Rattle.smartcore.specs.LazyNormalization.{matvec, transpose_matvec}
use Rattle.smartcore.specs.LassoOptimizer.{Fitted, converged, limit, failed, Point, optimize}

-- n targets, and p zeros
unfoldable pub augment_y : ℕ → ℕ → List Float → List Float
augment_y n p y = part y 0 n ++ fill_of plus0 p

-- the optimiser's call in fit_eager_coefficients: the design of n + p rows is stored, normalised or not
unfoldable pub optimize_eager : ℕ → ℕ → List Float → List Float → Settings → Fitted Point
optimize_eager n p x y st =
    let tm = terms_of st n in
    let col_mean = centres_of st.normalise x n p in
    let col_std = scales_of st.normalise x n p in
    let x2 = design_of st.normalise tm n p x col_mean col_std in
    let y2 = augment_y n p y in
    optimize (gram_of (n + p) p x2) (n + p) p y2 (l1_of st n ⊗ tm.gamma) st.max_iter st.tol true (rows_of x2 (n + p) p) (columns_of x2 (n + p) p)

-- in fit_lazy_coefficients: each product makes the design anew
unfoldable pub optimize_lazy : ℕ → ℕ → List Float → List Float → Settings → Fitted Point
optimize_lazy n p x y st =
    let tm = terms_of st n in
    let col_mean = centres_of st.normalise x n p in
    let col_std = scales_of st.normalise x n p in
    let y2 = augment_y n p y in
    optimize (lazy_gram_of n p tm x col_mean col_std) (n + p) p y2 (l1_of st n ⊗ tm.gamma) st.max_iter st.tol true
    (matvec n p tm.gamma tm.padding x col_mean col_std) (transpose_matvec n p tm.gamma tm.padding x col_mean col_std)

-- the weights before they are rescaled
unfoldable pub optimize_fit : ℕ → ℕ → List Float → List Float → Settings → Fitted Point
optimize_fit n p x y st = cond st.lazy (optimize_lazy n p x y st) (optimize_eager n p x y st)

pub record ElasticNet : Type 0 where
  pub coefficients : List Float
  pub intercept : Float

-- gamma * w / col_std, and y_mean less the sum of the products with col_mean; unnormalised gamma * w, and y_mean
unfoldable pub rescaled : ℕ → ℕ → List Float → List Float → Settings → List Float → ElasticNet
rescaled n p x y st w =
    let gamma = (terms_of st n).gamma in
    let y_mean = mean_of n y in
    let col_mean = centres_of st.normalise x n p in
    let col_std = scales_of st.normalise x n p in
    let w = cond st.normalise (zip_of (λ (v d : Float). gamma ⊗ v ⊘ d) p w col_std) (map_of (λ (v : Float). gamma ⊗ v) p w) in
    let b = cond st.normalise (y_mean ⊖ product_of p w col_mean) y_mean in
    record { coefficients = w; intercept = b }

-- with the model that the weights make
abbrev pub model_of : ℕ → ℕ → List Float → List Float → Settings → Fitted Point → Fitted ElasticNet
model_of n p x y st (converged c o) = converged c (rescaled n p x y st o.w)
model_of n p x y st (limit c o) = limit c (rescaled n p x y st o.w)
model_of n p x y st (failed k c) = failed k c

-- the optimiser, and then the model in the scale of the matrix
unfoldable pub fit : ℕ → ℕ → List Float → List Float → Settings → Fitted ElasticNet
fit n p x y st = model_of n p x y st (optimize_fit n p x y st)
