-- The solver inside a fit: the Newton system of lasso_optimizer.rs over the store. Definitions only.
use Rattle.std.specs.Prelude.{◌≡◌, Bool, List, ◌++◌, ℕ, ◌+◌, ◌*◌, ◌≤◌, ◌<◌, length, Float}
use Rattle.std.specs.Float.Ieee.{neg}
use Rattle.numbers.specs.Ops.{◌⊕◌, ◌⊖◌, ◌⊗◌, ◌⊘◌}
use Rattle.numbers.specs.Constants.{two}
use Rattle.arrays.specs.Part.{tab}
use Rattle.arrays.specs.Sums.{◌!◌, norm_two_of}
use Rattle.matrices.specs.Products.{rows_of}
use Rattle.layout.specs.declared.Sizes.{Sizes}
use Rattle.layout.specs.declared.Places.{Places}
use Rattle.layout.specs.Slots.{Store, Has, ◌⟨◌≔◌⟩}
use Rattle.layout.specs.Slots.{Slot.D1, Slot.D2, Slot.PRB, Slot.PRS, Slot.DXU, Slot.GRAD, Slot.R, Slot.RR, Slot.ZS, Slot.ZZ, Slot.PS, Slot.PP, Slot.ATAX, Slot.GRAM}
use Rattle.bg_solver.specs.declared.shared.Turned.{Turned}
use Rattle.bg_solver.specs.Shared.{turn_by}
use Rattle.bg_solver.specs.Solver.{System, Work, Round, begun, turned, error_of}

-- 2p elements, of which the first p are f's and the others g's
abbrev pub halves : ℕ → (ℕ → Float) → (ℕ → Float) → List Float
halves p f g = tab f p ++ tab g p

-- solve_preconditioner
abbrev pub low_solved : ℕ → List Float → List Float → List Float → List Float → ℕ → Float
low_solved p d1 d2 prs b i = (d1 ! i ⊗ b ! i ⊖ d2 ! i ⊗ b ! (i + p)) ⊘ prs ! i

abbrev pub high_solved : ℕ → List Float → List Float → List Float → List Float → ℕ → Float
high_solved p d2 prb prs b i = (neg (d2 ! i) ⊗ b ! i ⊕ prb ! i ⊗ b ! (i + p)) ⊘ prs ! i

unfoldable pub solved_of : ℕ → List Float → List Float → List Float → List Float → List Float → List Float
solved_of p d1 d2 prb prs b = halves p (low_solved p d1 d2 prs b) (high_solved p d2 prb prs b)

-- mat_vec_mul, and mat_t_vec_mul, which is the same
abbrev pub low_times : ℕ → List Float → List Float → List Float → List Float → ℕ → Float
low_times p atax d1 d2 x i = two ⊗ atax ! i ⊕ d1 ! i ⊗ x ! i ⊕ d2 ! i ⊗ x ! (i + p)

abbrev pub high_times : ℕ → List Float → List Float → List Float → ℕ → Float
high_times p d1 d2 x i = d2 ! i ⊗ x ! i ⊕ d1 ! i ⊗ x ! (i + p)

unfoldable pub times_of : ℕ → List Float → List Float → List Float → List Float → List Float
times_of p gram d1 d2 x = halves p (low_times p (rows_of gram p p x) d1 d2 x) (high_times p d1 d2 x)

-- ---- over the store

-- the Newton system: its matrix is symmetric, so that both products are one
unfoldable pub system_of : Sizes → Store → System
system_of sh v = record {
  size = 2 * sh.p;
  product = times_of sh.p (v GRAM) (v D1) (v D2);
  transposed = times_of sh.p (v GRAM) (v D1) (v D2);
  preconditioned = solved_of sh.p (v D1) (v D2) (v PRB) (v PRS);
}

abbrev pub work_of : Store → Work
work_of v = record { x = v DXU; r = v R; rr = v RR; z = v ZS; zz = v ZZ; p = v PS; pp = v PP }

-- the store with the solver's vectors w; ATAX keeps the Gram's product with the first half of `last`, the vector that was multiplied last
unfoldable pub with_work : Sizes → List Float → Work → Store → Store
with_work sh last w v =
    v
    ⟨ DXU ≔ (λ u. w.x) ⟩
    ⟨ R ≔ (λ u. w.r) ⟩
    ⟨ RR ≔ (λ u. w.rr) ⟩
    ⟨ ZS ≔ (λ u. w.z) ⟩
    ⟨ ZZ ≔ (λ u. w.zz) ⟩
    ⟨ PS ≔ (λ u. w.p) ⟩
    ⟨ PP ≔ (λ u. w.pp) ⟩
    ⟨ ATAX ≔ (λ u. rows_of (v GRAM) sh.p sh.p last) ⟩

-- the solver's first lines, for the right side `grad`, and the norm of it
unfoldable pub begin_store : Sizes → Store → Store
begin_store sh v = with_work sh (v DXU) (begun (system_of sh v) (v GRAD) (work_of v)) v

unfoldable pub bnrm_of : Sizes → Store → Float
bnrm_of sh v = norm_two_of (2 * sh.p) (v GRAD)

-- one round
unfoldable pub round_of : Sizes → Bool → Float → Store → Round
round_of sh first bkden v = turned (system_of sh v) first bkden (work_of v)

unfoldable pub turn_store : Sizes → Bool → Float → Store → Store
turn_store sh first bkden v = with_work sh (round_of sh first bkden v).work.pp (round_of sh first bkden v).work v

unfoldable pub turn_error : Sizes → Bool → Float → Float → Store → Float
turn_error sh first bkden bnrm v = error_of (system_of sh v) bnrm (round_of sh first bkden v).work

-- what `begin` answers and leaves; e is the excess of the scratch
pub record DidBegin (sh : Sizes) (e : List Float) (v : Store) (bnrm : Float) (m : List Float) : Type 0 where
  pub is : bnrm ≡ bnrm_of sh v
  pub left : Has sh e (begin_store sh v) m

-- what `turn` answers and leaves
pub record DidTurn (sh : Sizes) (e : List Float) (first : Bool) (bkden bnrm tol : Float) (v : Store) (a : Turned) (m : List Float) : Type 0 where
  pub is : a ≡ turn_by tol (turn_error sh first bkden bnrm v) (round_of sh first bkden v).bkden
  pub left : Has sh e (turn_store sh first bkden v) m

-- ---- what the functions ask of their places

-- three vectors of p elements and one of 2p that are read, and one of 2p elsewhere that is written
pub record Reads (m : List Float) (p a b c x out : ℕ) : Type 0 where
  pub first : a + p ≤ length m
  pub second : b + p ≤ length m
  pub third : c + p ≤ length m
  pub vector : x + 2 * p ≤ length m
  pub room : out + 2 * p ≤ length m
  pub off-first : out < a + p → out + 2 * p ≤ a
  pub off-second : out < b + p → out + 2 * p ≤ b
  pub off-third : out < c + p → out + 2 * p ≤ c
  pub off-vector : out < x + 2 * p → out + 2 * p ≤ x

-- the slots that are read, and behind them the one that is written
pub record Solves (m : List Float) (p : ℕ) (l : Places) (b out : ℕ) : Type 0 where
  pub d1-d2 : l.d1 + p ≤ l.d2
  pub d2-prb : l.d2 + p ≤ l.prb
  pub prb-prs : l.prb + p ≤ l.prs
  pub prs-b : l.prs + p ≤ b
  pub b-out : b + 2 * p ≤ out
  pub room : out + 2 * p ≤ length m

-- the slots that are read, and elsewhere the one that is written; the Gram lies behind them all
pub record Times (m : List Float) (p : ℕ) (l : Places) (x out : ℕ) : Type 0 where
  pub d1-d2 : l.d1 + p ≤ l.d2
  pub d2-x : l.d2 + p ≤ x
  pub d2-out : l.d2 + p ≤ out
  pub off-vector : out < x + 2 * p → out + 2 * p ≤ x
  pub x-atax : x + 2 * p ≤ l.atax
  pub out-atax : out + 2 * p ≤ l.atax
  pub atax-gram : l.atax + p ≤ l.gram
  pub room : l.gram + p * p ≤ length m
