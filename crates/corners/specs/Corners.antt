-- 01's corners P1 to P9: one table, and what each of its rows says. Numbers that are fractions stand as bit patterns. Definitions only.
use Rattle.std.specs.Prelude.{ℕ, ◌*◌, ◌≤◌, ◌≡◌, false, List, [], ◌∷◌, map, length, Float, Ok}
use Rattle.numbers.specs.Ops.{f64}
use Rattle.numbers.specs.Root.{root_of}
use Rattle.settings.specs.declared.Settings.{Settings}
use Rattle.settings.specs.Settings.{gamma_of, terms_of}
use Rattle.layout.specs.Need.{sizes_of, need_of}
use Rattle.checks.specs.Checks.{limits_of, start_values}
use Rattle.records.specs.declared.Counts.{Counts}
use Rattle.records.specs.Records.{ended_of}
use Rattle.ending.specs.End.{gone}
use Rattle.elastic_net.specs.ElasticNet.{Said, limit, refused, Outcome}
use Rattle.smartcore.specs.ElasticNet.{fit as fit_r}
use Rattle.promises.specs.Outcome.{outcome_of}
use Rattle.sheet.specs.Sheet.{outcome, sheet_of}

-- what a fit without flags is asked
pub record Input : Type 0 where
  pub n : ℕ
  pub p : ℕ
  pub alpha : ℕ
  pub ratio : ℕ
  pub tol : ℕ
  pub max_iter : ℕ
  pub matrix : List ℕ
  pub targets : List ℕ

-- its lambda, what it answers, and the counts and weights that it leaves
pub record Ends : Type 0 where
  pub lambda : ℕ
  pub answer : Said
  pub counts : Counts
  pub weights : List ℕ

pub data Row : Type 0 where
  -- the root of the one pattern is the other
  root : ℕ → ℕ → Row
  -- gamma of an l2
  gamma : ℕ → ℕ → Row
  -- an input is accepted, and smartcore's fit of it ends so
  fit : Input → Ends → Row
  -- bytes are the sheet of an input, and its fit ends so
  sheet : List ℕ → Input → Ends → Row

-- rounds opened, solver rounds, trials
abbrev pub counts : ℕ → ℕ → ℕ → Counts
counts r s t = record { rounds = record { 0 = r }; solver = record { 0 = s }; trials = record { 0 = t } }

-- R and C are the caller's, and matter to a lazy fit only
abbrev pub settings_of : Input → ℕ → ℕ → Settings
settings_of i R C = record {
  alpha = f64 i.alpha;
  l1_ratio = f64 i.ratio;
  tol = f64 i.tol;
  max_iter = i.max_iter;
  panel_rows = R;
  panel_cols = C;
  normalise = false;
  lazy = false;
}

abbrev pub floats : List ℕ → List Float
floats bits = map f64 bits

-- what the last call leaves beside the scratch's excess e
abbrev pub end_of : ℕ → ℕ → Settings → Ends → List Float → Outcome
end_of n p st a e = record {
  answer = a.answer;
  paused = ended_of a.counts;
  weights = floats a.weights;
  scratch = gone (sizes_of n p st) e;
}

-- accepted in any scratch that is large enough, and the end's whole outcome
pub record Fits (n p : ℕ) (x y : List Float) (st : Settings) (a : Ends) : Type 0 where
  pub lambda : (terms_of st n).lambda ≡ f64 a.lambda
  pub limits : (room : ℕ) → need_of n p st ≤ room → limits_of n p (length x) (length y) p st room ≡ Ok tt
  pub values : start_values x y n p st.normalise ≡ Ok tt
  pub ends : (e : List Float) → outcome_of (sizes_of n p st) e (fit_r n p x y st) ≡ end_of n p st a e

abbrev pub FitHolds : Input → Ends → Type 0
FitHolds i a = (R C : ℕ) → Fits i.n i.p (floats i.matrix) (floats i.targets) (settings_of i R C) a

-- read into any lent matrix and targets of the right lengths
abbrev pub SheetHolds : List ℕ → Input → Type 0
SheetHolds b i =
    (R C : ℕ) (x y : List Float) → length x ≡ i.n * i.p → length y ≡ i.n
    → sheet_of b R C x y
    ≡ outcome (Ok (record { n = i.n; p = i.p; settings = settings_of i R C })) (floats i.matrix) (floats i.targets)

abbrev pub Holds : Row → Type 0
Holds (root a b) = root_of (f64 a) ≡ f64 b
Holds (gamma a b) = gamma_of (f64 a) ≡ f64 b
Holds (fit i a) = FitHolds i a
Holds (sheet b i a) = SheetHolds b i × FitHolds i a

abbrev pub AllHold : List Row → Type 0
AllHold [] = Unit {0}
AllHold (r ∷ rs) = Holds r × AllHold rs

-- ---- the table

-- P8 and P9: features 1 and 2, alpha 1, l1_ratio 1 and tol 0.5, with M and the scores
abbrev pub two-rows : ℕ → List ℕ → Input
two-rows M scores = record {
  n = 2;
  p = 1;
  alpha = 0x3ff0_0000_0000_0000;
  ratio = 0x3ff0_0000_0000_0000;
  tol = 0x3fe0_0000_0000_0000;
  max_iter = M;
  matrix = 0x3ff0_0000_0000_0000 ∷ 0x4000_0000_0000_0000 ∷ [];
  targets = scores;
}

-- P8: no round is allowed
abbrev pub p8-input : Input
p8-input = two-rows 0 (0x3ff0_0000_0000_0000 ∷ 0x4008_0000_0000_0000 ∷ [])

abbrev pub p8-end : Ends
p8-end = record {
  lambda = 0x4000_0000_0000_0000;
  answer = limit (f64 0x4000_0000_0000_0000) (counts 0 0 0);
  counts = counts 0 0 0;
  weights = 0 ∷ [];
}

abbrev pub p8-sheet : List ℕ
p8-sheet =
    -- the version, and the length of the rest
    1 ∷ 0 ∷ 0 ∷ 0 ∷ 73
    -- n, p
    ∷ 0 ∷ 2 ∷ 0 ∷ 1
    -- alpha, l1_ratio, tol
    ∷ 0x3f ∷ 0xf0 ∷ 0 ∷ 0 ∷ 0 ∷ 0 ∷ 0 ∷ 0
    ∷ 0x3f ∷ 0xf0 ∷ 0 ∷ 0 ∷ 0 ∷ 0 ∷ 0 ∷ 0
    ∷ 0x3f ∷ 0xe0 ∷ 0 ∷ 0 ∷ 0 ∷ 0 ∷ 0 ∷ 0
    -- M, flags
    ∷ 0 ∷ 0 ∷ 0 ∷ 0 ∷ 0
    -- the pair (1, 1), its feature and its score
    ∷ 0 ∷ 1 ∷ 0 ∷ 1
    ∷ 0x3f ∷ 0xf0 ∷ 0 ∷ 0 ∷ 0 ∷ 0 ∷ 0 ∷ 0
    ∷ 0x3f ∷ 0xf0 ∷ 0 ∷ 0 ∷ 0 ∷ 0 ∷ 0 ∷ 0
    -- the pair (3, 2), its feature and its score
    ∷ 0 ∷ 3 ∷ 0 ∷ 2
    ∷ 0x40 ∷ 0 ∷ 0 ∷ 0 ∷ 0 ∷ 0 ∷ 0 ∷ 0
    ∷ 0x40 ∷ 8 ∷ 0 ∷ 0 ∷ 0 ∷ 0 ∷ 0 ∷ 0
    ∷ []

-- P9: one round, which begins with a gap and a dual value of 0
abbrev pub p9-input : Input
p9-input = two-rows 1 (0 ∷ 0 ∷ [])

abbrev pub p9-end : Ends
p9-end = record { lambda = 0x4000_0000_0000_0000; answer = refused 8 0; counts = counts 1 0 0; weights = 0 ∷ [] }

abbrev pub table : List Row
table =
    -- P1: the root of 4 is 2
    root 0x4010_0000_0000_0000 0x4000_0000_0000_0000
    -- P2: of -0 it is -0
    ∷ root 0x8000_0000_0000_0000 0x8000_0000_0000_0000
    -- P3: of -1 a NaN
    ∷ root 0xbff0_0000_0000_0000 0x7ff8_0000_0000_0000
    -- P4: of 1 + 2 ^ -52 it is 1
    ∷ root 0x3ff0_0000_0000_0001 0x3ff0_0000_0000_0000
    -- P5: of 1 - 2 ^ -53 itself
    ∷ root 0x3fef_ffff_ffff_ffff 0x3fef_ffff_ffff_ffff
    -- P6: of 2 ^ -1074, the smallest double, 2 ^ -537
    ∷ root 1 0x1e60_0000_0000_0000
    -- P7: gamma of 3 is 0.5
    ∷ gamma 0x4008_0000_0000_0000 0x3fe0_0000_0000_0000
    -- P8: the sheet of 78 bytes ends as limit after no step, with intercept 2
    ∷ sheet p8-sheet p8-input p8-end
    -- P9: scores of 0 end as refused 8 after one step
    ∷ fit p9-input p9-end
    ∷ []
