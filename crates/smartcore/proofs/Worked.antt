-- One small fit that converges, worked out from the definitions round by round: features 1, -1, scores -1, 5, alpha 2, l1_ratio 0.25, tol 0.0625, no flags.
-- The bits are those of the fixed oracle. Assumes nothing.
use mathlib.Core.Path.{◌≡◌, refl}
use mathlib.Core.Bool.{false}
use mathlib.Core.List.{List, [], ◌∷◌}
use Prim.Native.Nat.{ℕ}
use lib.Ieee.{Float, inf, of_bits, to_bits, of_int, sub, mul, div, le}
use Rattle.numbers.specs.Ops.{f64, magnitude_of}
use Rattle.numbers.specs.Order.{maximum_of, minimum_of}
use Rattle.numbers.specs.Units.{count}
use Rattle.numbers.specs.Root.{root_of, root_bits, last, reaches}
use Rattle.logarithm.specs.Log.{close_of, series_of, out_of, far_of, normal_ln, ln_of}
use Rattle.arrays.specs.Part.{tab, part}
use Rattle.arrays.specs.Sums.{fold_to, sum_of, mean_of, dot_of, product_of, norm1_of, norm2_of, norm_two_of, norm_inf_of}
use Rattle.arrays.specs.Vectors.{fill_of, map_of, zip_of}
use Rattle.matrices.specs.Grid.{grid}
use Rattle.matrices.specs.Products.{rows_of, columns_of}
use Rattle.settings.specs.declared.Settings.{Settings}
use Rattle.settings.specs.Settings.{gamma_of, l1_of, l2_of, terms_of}
use Rattle.design.specs.Eager.{design_of, gram_of}
use Rattle.smartcore.specs.BgSolver.{loop, solve_mut}
use Rattle.smartcore.specs.LassoOptimizer.{Counts, Fitted, converged, Point, Vars, Next, on, out}
use Rattle.smartcore.specs.LassoOptimizer.{self_of, mat_vec_mul, solve_preconditioner, sumlogneg, search, round, rounds, optimize}
use Rattle.smartcore.specs.ElasticNet.{augment_y, optimize_eager, optimize_fit, rescaled, fit}

-- ---- what is asked

abbrev pub features : List Float
features = f64 0x3ff0_0000_0000_0000 ∷ f64 0xbff0_0000_0000_0000 ∷ []

abbrev pub scores : List Float
scores = f64 0xbff0_0000_0000_0000 ∷ f64 0x4014_0000_0000_0000 ∷ []

abbrev tol : Float
tol = f64 0x3fb0_0000_0000_0000

-- R and C are the caller's, and matter to a lazy fit only
abbrev pub asked : ℕ → ℕ → Settings
asked R C = record {
  alpha = f64 0x4000_0000_0000_0000;
  l1_ratio = f64 0x3fd0_0000_0000_0000;
  tol = tol;
  max_iter = 10;
  panel_rows = R;
  panel_cols = C;
  normalise = false;
  lazy = false;
}

-- openings, rounds of the solver, trials
abbrev pub counts : ℕ → ℕ → ℕ → Counts
counts r s t = record { openings = r; solver = s; trials = t }

-- ---- the start: l1 is 1 and l2 is 3, so gamma is 0.5

-- 0.5, -0.5, and the padding
abbrev design : List Float
design = f64 0x3fe0_0000_0000_0000 ∷ f64 0xbfe0_0000_0000_0000 ∷ f64 0x3feb_b67a_e858_4caa ∷ []

-- 1.25
abbrev gram : List Float
gram = f64 0x3ff4_0000_0000_0000 ∷ []

-- -1, 5 and 0, less their mean 4/3
abbrev targets : List Float
targets = f64 0xc002_aaaa_aaaa_aaaa ∷ f64 0x400d_5555_5555_5556 ∷ f64 0xbff5_5555_5555_5555 ∷ []

-- 0.5
abbrev lambda : Float
lambda = f64 0x3fe0_0000_0000_0000

abbrev round_of : ℕ → Vars → Next
round_of = round 3 1 targets lambda (rows_of design 3 1) gram tol (columns_of design 3 1)

abbrev rounds_of : ℕ → ℕ → Vars → Fitted Point
rounds_of = rounds 3 1 targets lambda (rows_of design 3 1) gram tol (columns_of design 3 1)

abbrev before : Vars
before = record {
  w = f64 0 ∷ [];
  u = f64 0x3ff0_0000_0000_0000 ∷ [];
  f = f64 0xbff0_0000_0000_0000 ∷ f64 0xbff0_0000_0000_0000 ∷ [];
  dxu = f64 0 ∷ f64 0 ∷ [];
  t = f64 0x4000_0000_0000_0000;
  s = inf false;
  dobj = f64 0;
  pitr = 0;
  counts = counts 0 0 0;
}

starts : (R C : ℕ) → optimize_fit 2 1 features scores (asked R C) ≡ rounds_of 10 0 before
unfolding
    optimize_fit optimize_eager augment_y optimize terms_of l1_of l2_of gamma_of design_of gram_of
    grid tab fold_to part fill_of map_of mean_of sum_of root_of root_bits last reaches count maximum_of minimum_of of_bits to_bits of_int sub mul div
starts R C = refl

-- ---- the rounds

-- after the first: gap over dual value was 7.6; t stayed 2; one round of the solver met the tolerance 0.018; s = 1 had an f above 0, and s = 1/2 was accepted
abbrev once : Vars
once = record {
  w = f64 0xbff3_05a9_7a37_faad ∷ [];
  u = f64 0x3ff3_6f10_5008_dc4e ∷ [];
  f = f64 0xc003_3a5c_e520_6b7e ∷ f64 0xbf9a_59b5_7438_6840 ∷ [];
  dxu = f64 0xc003_05a9_7a37_faad ∷ f64 0x3fdb_7882_8046_e26c ∷ [];
  t = f64 0x4000_0000_0000_0000;
  s = f64 0x3fe0_0000_0000_0000;
  dobj = f64 0x4003_4c6b_0ea1_0251;
  pitr = 0;
  counts = counts 1 1 2;
}

-- after the second: 3.6; t stayed 2; the error 0.0102 of the solver's first round met 0.0103, but not the tenth of it that is asked, so there were two; s = 1
abbrev twice : Vars
twice = record {
  w = f64 0xc008_43b8_b3a4_299a ∷ [];
  u = f64 0x4008_ab75_a622_2150 ∷ [];
  f = f64 0xc018_7797_2ce3_2575 ∷ f64 0xbfa9_ef3c_9f7d_ed80 ∷ [];
  dxu = f64 0xbffd_81c7_ed10_5886 ∷ f64 0x3ffd_e7da_fc3b_6652 ∷ [];
  t = f64 0x4000_0000_0000_0000;
  s = f64 0x3ff0_0000_0000_0000;
  dobj = f64 0x4006_b139_d814_de59;
  pitr = 0;
  counts = counts 2 3 3;
}

-- after the third: 0.087; t doubled to 4; two rounds of the solver; s = 1
abbrev thrice : Vars
thrice = record {
  w = f64 0xc009_3d41_1150_1a64 ∷ [];
  u = f64 0x400a_030a_1265_2516 ∷ [];
  f = f64 0xc019_a025_91da_9fbd ∷ f64 0xbfb8_b920_22a1_5640 ∷ [];
  dxu = f64 0xbfbf_310b_b57e_193d ∷ f64 0x3fc5_7946_c430_3c68 ∷ [];
  t = f64 0x4010_0000_0000_0000;
  s = f64 0x3ff0_0000_0000_0000;
  dobj = f64 0x401f_3513_5685_3e05;
  pitr = 0;
  counts = counts 3 5 4;
}

-- the fourth opens with 0.030, below tol
abbrev end : Fitted Point
end = converged (counts 4 5 4) (record { w = thrice.w; u = thrice.u; t = thrice.t })

rounds-are : (round_of 0 before ≡ on once) × (round_of 1 once ≡ on twice) × (round_of 2 twice ≡ on thrice) × (round_of 3 thrice ≡ out end)
unfolding
    round solve_mut loop search self_of mat_vec_mul solve_preconditioner sumlogneg ln_of close_of series_of out_of far_of normal_ln
    rows_of columns_of grid tab fold_to part map_of zip_of sum_of dot_of product_of norm1_of norm2_of norm_two_of norm_inf_of
    root_of root_bits last reaches count maximum_of minimum_of magnitude_of of_bits to_bits of_int sub mul div le
rounds-are = (refl, refl, refl, refl)

ends : rounds_of 10 0 before ≡ end
unfolding rounds
ends = rw (rounds-are.0, rounds-are.1, rounds-are.2, rounds-are.3, rounds) refl

-- THE FIT: four openings, five rounds of the solver, four trials; the weight is -1.577 and the intercept 2
pub worked-out : (R C : ℕ) → fit 2 1 features scores (asked R C)
    ≡ converged (counts 4 5 4) (record { coefficients = f64 0xbff9_3d41_1150_1a64 ∷ []; intercept = f64 0x4000_0000_0000_0000 })
unfolding fit rescaled terms_of l2_of gamma_of map_of tab mean_of sum_of fold_to root_of root_bits last reaches count of_bits to_bits of_int sub mul div
worked-out R C = rw (starts R C, ends) refl
