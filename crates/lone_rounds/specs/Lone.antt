-- The lone solver's system and its scratch: eight vectors of n elements, laid one after the other. Definitions only.
use Rattle.std.specs.Prelude.{◌≡◌, Bool, cond, List, [], ◌∷◌, ◌++◌, ℕ, ◌+◌, ◌*◌, ◌≤◌, length, drop, Float}
use Rattle.std.specs.Float.Ieee.{eq}
use Rattle.numbers.specs.Ops.{◌⊘◌}
use Rattle.arrays.specs.Part.{part, tab}
use Rattle.arrays.specs.Sums.{◌!◌, plus0, norm_two_of}
use Rattle.matrices.specs.Products.{rows_of, columns_of}
use Rattle.layout.specs.Store.{flat}
use Rattle.bg_solver.specs.declared.shared.Turned.{Turned}
use Rattle.bg_solver.specs.Shared.{turn_by}
use Rattle.bg_solver.specs.Solver.{System, Work, begun, turned, error_of}

-- the eight vectors, in their order
pub data LoneSlot : Type 0 where
  X R RR Z ZZ P PP DIAG : LoneSlot

-- in the order in which they lie
abbrev pub names : List LoneSlot
names = X ∷ R ∷ RR ∷ Z ∷ ZZ ∷ P ∷ PP ∷ DIAG ∷ []

abbrev pub LoneStore : Type 0
LoneStore = LoneSlot → List Float

-- memory that holds the vectors v, each of n elements, and e after them
pub record LoneHas (n : ℕ) (e : List Float) (v : LoneStore) (m : List Float) : Type 0 where
  pub is : m ≡ flat names v ++ e
  pub sized : (s : LoneSlot) → length (v s) ≡ n

-- the diagonal, and `preconditioned` by it: -0 counts as 0
unfoldable pub diagonal_of : ℕ → List Float → List Float
diagonal_of n a = tab (λ i. a ! (i * n + i)) n

unfoldable pub over_of : Float → Float → Float
over_of b d = cond (eq d plus0) b (b ⊘ d)

unfoldable pub divided_of : ℕ → List Float → List Float → List Float
divided_of n d b = tab (λ i. over_of (b ! i) (d ! i)) n

-- mat_vec_mul is x.xa(false, a), the transposed product, and mat_t_vec_mul the other
unfoldable pub lone_system : ℕ → List Float → System
lone_system n a = record {
  size = n;
  product = columns_of a n n;
  transposed = rows_of a n n;
  preconditioned = divided_of n (diagonal_of n a);
}

-- what the scratch holds: the solver's vectors and the diagonal
abbrev pub lone_store : List Float → Work → LoneStore
lone_store d w X = w.x
lone_store d w R = w.r
lone_store d w RR = w.rr
lone_store d w Z = w.z
lone_store d w ZZ = w.zz
lone_store d w P = w.p
lone_store d w PP = w.pp
lone_store d w DIAG = d

-- the solver's vectors as a scratch m holds them
abbrev pub work_in : ℕ → List Float → Work
work_in n m = record {
  x = part m 0 n;
  r = part m n n;
  rr = part m (2 * n) n;
  z = part m (3 * n) n;
  zz = part m (4 * n) n;
  p = part m (5 * n) n;
  pp = part m (6 * n) n;
}

-- ---- what the functions ask and promise

-- a matrix of n by n, and room for the eight vectors
pub record Loops (n : ℕ) (a m : List Float) : Type 0 where
  pub small : n ≤ 64
  pub matrix : length a ≡ n * n
  pub room : 8 * n ≤ length m

-- the scratch m' holds the vectors w and the diagonal d, and the excess is that of m
abbrev pub Keeps : ℕ → List Float → Work → List Float → List Float → Type 0
Keeps n d w m m' = LoneHas n (drop (8 * n) m) (lone_store d w) m'

pub record Begun (n : ℕ) (a b m : List Float) (bnrm : Float) (m' : List Float) : Type 0 where
  pub is : bnrm ≡ norm_two_of n b
  pub left : Keeps n (diagonal_of n a) (begun (lone_system n a) b (work_in n m)) m m'

-- a round, where the diagonal is in its place
pub record LoneTurn (n : ℕ) (a : List Float) (first : Bool) (bkden bnrm tol : Float) (m : List Float) (t : Turned) (m' : List Float) : Type 0 where
  pub is : part m (7 * n) n ≡ diagonal_of n a
      → t ≡ turn_by tol (error_of (lone_system n a) bnrm (turned (lone_system n a) first bkden (work_in n m)).work) (turned (lone_system n a) first bkden (work_in n m)).bkden
  pub left : part m (7 * n) n ≡ diagonal_of n a → Keeps n (diagonal_of n a) (turned (lone_system n a) first bkden (work_in n m)).work m m'
