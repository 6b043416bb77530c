-- The vectors of a fit, where they lie in the lent scratch, and what it means that memory holds them. Definitions only.
use Rattle.std.specs.Prelude.{◌≡◌, true, false, List, [], ◌∷◌, ◌++◌, ℕ, ◌+◌, ◌*◌, ◌≤◌, length, drop, Float}
use Rattle.arrays.specs.Part.{part}
use Rattle.arrays.specs.Vectors.{fill_of}
use Rattle.layout.specs.declared.Sizes.{Sizes}
use Rattle.layout.specs.declared.Places.{Places}
use Rattle.layout.specs.Store.{upd, flat}

-- docs/LAYOUT.md says what each holds at each stage. ZS is the solver's z, and Z the residuals.
pub data Slot : Type 0 where
  W U NEWW NEWU F NEWF Q1 Q2 D1 D2 PRB PRS DXU GRAD R RR ZS ZZ PS PP XNU ATAX CENTRE SCALE RECIP SPARE LEFT RIGHT SUMS GRAM Y Z NU NEWZ DESIGN : Slot

-- by which the slots are told apart
abbrev pub num : Slot → ℕ
num W = 0
num U = 1
num NEWW = 2
num NEWU = 3
num F = 4
num NEWF = 5
num Q1 = 6
num Q2 = 7
num D1 = 8
num D2 = 9
num PRB = 10
num PRS = 11
num DXU = 12
num GRAD = 13
num R = 14
num RR = 15
num ZS = 16
num ZZ = 17
num PS = 18
num PP = 19
num XNU = 20
num ATAX = 21
num CENTRE = 22
num SCALE = 23
num RECIP = 24
num SPARE = 25
num LEFT = 26
num RIGHT = 27
num SUMS = 28
num GRAM = 29
num Y = 30
num Z = 31
num NU = 32
num NEWZ = 33
num DESIGN = 34

-- how many words each has, and where it begins
abbrev pub size : Sizes → Slot → ℕ
size sh W = sh.p
size sh U = sh.p
size sh NEWW = sh.p
size sh NEWU = sh.p
size sh F = 2 * sh.p
size sh NEWF = 2 * sh.p
size sh Q1 = sh.p
size sh Q2 = sh.p
size sh D1 = sh.p
size sh D2 = sh.p
size sh PRB = sh.p
size sh PRS = sh.p
size sh DXU = 2 * sh.p
size sh GRAD = 2 * sh.p
size sh R = 2 * sh.p
size sh RR = 2 * sh.p
size sh ZS = 2 * sh.p
size sh ZZ = 2 * sh.p
size sh PS = 2 * sh.p
size sh PP = 2 * sh.p
size sh XNU = sh.p
size sh ATAX = sh.p
size sh CENTRE = sh.p
size sh SCALE = sh.p
size sh RECIP = sh.p
size sh SPARE = 5 * sh.p
size sh LEFT = sh.pr * sh.pc
size sh RIGHT = sh.pr * sh.pc
size sh SUMS = sh.pc * sh.pc
size sh GRAM = sh.p * sh.p
size sh Y = sh.k
size sh Z = sh.k
size sh NU = sh.k
size sh NEWZ = sh.k
size sh DESIGN = sh.stored * sh.p

abbrev pub off : Sizes → Slot → ℕ
off sh W = 0
off sh U = sh.p
off sh NEWW = 2 * sh.p
off sh NEWU = 3 * sh.p
off sh F = 4 * sh.p
off sh NEWF = 6 * sh.p
off sh Q1 = 8 * sh.p
off sh Q2 = 9 * sh.p
off sh D1 = 10 * sh.p
off sh D2 = 11 * sh.p
off sh PRB = 12 * sh.p
off sh PRS = 13 * sh.p
off sh DXU = 14 * sh.p
off sh GRAD = 16 * sh.p
off sh R = 18 * sh.p
off sh RR = 20 * sh.p
off sh ZS = 22 * sh.p
off sh ZZ = 24 * sh.p
off sh PS = 26 * sh.p
off sh PP = 28 * sh.p
off sh XNU = 30 * sh.p
off sh ATAX = 31 * sh.p
off sh CENTRE = 32 * sh.p
off sh SCALE = 33 * sh.p
off sh RECIP = 34 * sh.p
off sh SPARE = 35 * sh.p
off sh LEFT = 40 * sh.p
off sh RIGHT = 40 * sh.p + sh.pr * sh.pc
off sh SUMS = 40 * sh.p + 2 * (sh.pr * sh.pc)
off sh GRAM = 40 * sh.p + 2 * (sh.pr * sh.pc) + sh.pc * sh.pc
off sh Y = 40 * sh.p + 2 * (sh.pr * sh.pc) + sh.pc * sh.pc + sh.p * sh.p
off sh Z = 40 * sh.p + 2 * (sh.pr * sh.pc) + sh.pc * sh.pc + sh.p * sh.p + sh.k
off sh NU = 40 * sh.p + 2 * (sh.pr * sh.pc) + sh.pc * sh.pc + sh.p * sh.p + 2 * sh.k
off sh NEWZ = 40 * sh.p + 2 * (sh.pr * sh.pc) + sh.pc * sh.pc + sh.p * sh.p + 3 * sh.k
off sh DESIGN = 40 * sh.p + 2 * (sh.pr * sh.pc) + sh.pc * sh.pc + sh.p * sh.p + 4 * sh.k

-- in the order in which they lie
abbrev pub names : List Slot
names =
    W ∷ U ∷ NEWW ∷ NEWU ∷ F ∷ NEWF ∷ Q1 ∷ Q2 ∷ D1 ∷ D2 ∷ PRB ∷ PRS ∷ DXU ∷ GRAD ∷ R ∷ RR ∷ ZS ∷ ZZ ∷ PS ∷ PP ∷ XNU ∷ ATAX ∷ CENTRE ∷ SCALE ∷ RECIP ∷ SPARE
    ∷ LEFT ∷ RIGHT ∷ SUMS ∷ GRAM ∷ Y ∷ Z ∷ NU ∷ NEWZ ∷ DESIGN ∷ []

-- the words that a fit of these sizes needs
unfoldable pub words : Sizes → ℕ
words sh = 40 * sh.p + 2 * (sh.pr * sh.pc) + sh.pc * sh.pc + sh.p * sh.p + 4 * sh.k + sh.stored * sh.p

abbrev pub Store : Type 0
Store = Slot → List Float

-- v with what f makes of it under the name w
infixl 40 ◌⟨◌≔◌⟩
unfoldable pub ◌⟨◌≔◌⟩ : Store → Slot → (Store → List Float) → Store
v ⟨ w ≔ f ⟩ = upd num v w (f v)

-- the vectors v one after the other, and e after them; no size occurs in it, since each vector has its own length
unfoldable pub flatly : Sizes → Store → List Float → List Float
flatly sh v e = flat names v ++ e

-- memory that holds the vectors v, each of its size, and e after them
pub record Has (sh : Sizes) (e : List Float) (v : Store) (m : List Float) : Type 0 where
  pub is : m ≡ flatly sh v e
  pub sized : (s : Slot) → length (v s) ≡ size sh s

-- what memory holds at the slots' places, and after the needed words
abbrev pub vars : Sizes → List Float → Store
vars sh m = λ s. part m (off sh s) (size sh s)

abbrev pub rest : Sizes → List Float → List Float
rest sh m = drop (words sh) m

-- after m, memory m' holds what f makes of the vectors that m held, and the same excess
abbrev pub Makes : Sizes → (Store → Store) → List Float → List Float → Type 0
Makes sh f m m' = Has sh (rest sh m) (f (vars sh m)) m'

-- the needed words overwritten by x
abbrev pub all_of : Sizes → Float → Store
all_of sh x = λ s. fill_of x (size sh s)

-- the places that the code computes are the slots'
pub record Laid (sh : Sizes) (l : Places) : Type 0 where
  pub at-w : l.w ≡ off sh W
  pub at-u : l.u ≡ off sh U
  pub at-neww : l.neww ≡ off sh NEWW
  pub at-newu : l.newu ≡ off sh NEWU
  pub at_f : l.f ≡ off sh F
  pub at-newf : l.newf ≡ off sh NEWF
  pub at-q1 : l.q1 ≡ off sh Q1
  pub at-q2 : l.q2 ≡ off sh Q2
  pub at-d1 : l.d1 ≡ off sh D1
  pub at-d2 : l.d2 ≡ off sh D2
  pub at-prb : l.prb ≡ off sh PRB
  pub at-prs : l.prs ≡ off sh PRS
  pub at-dxu : l.dxu ≡ off sh DXU
  pub at-grad : l.grad ≡ off sh GRAD
  pub at-r : l.r ≡ off sh R
  pub at-rr : l.rr ≡ off sh RR
  pub at-zs : l.zs ≡ off sh ZS
  pub at-zz : l.zz ≡ off sh ZZ
  pub at_ps : l.ps ≡ off sh PS
  pub at-pp : l.pp ≡ off sh PP
  pub at-xnu : l.xnu ≡ off sh XNU
  pub at-atax : l.atax ≡ off sh ATAX
  pub at-centre : l.centre ≡ off sh CENTRE
  pub at-scale : l.scale ≡ off sh SCALE
  pub at-recip : l.recip ≡ off sh RECIP
  pub at-spare : l.spare ≡ off sh SPARE
  pub at_left : l.left ≡ off sh LEFT
  pub at_right : l.right ≡ off sh RIGHT
  pub at-sums : l.sums ≡ off sh SUMS
  pub at-gram : l.gram ≡ off sh GRAM
  pub at_y : l.y ≡ off sh Y
  pub at-z : l.z ≡ off sh Z
  pub at-nu : l.nu ≡ off sh NU
  pub at-newz : l.newz ≡ off sh NEWZ
  pub at-design : l.design ≡ off sh DESIGN

-- a memory that is long enough
abbrev pub HasRoom : Sizes → List Float → Type 0
HasRoom sh m = 40 * sh.p + 2 * (sh.pr * sh.pc) + sh.pc * sh.pc + sh.p * sh.p + 4 * sh.k + sh.stored * sh.p ≤ length m

-- sizes that are right for a lent matrix
pub record Suits (sh : Sizes) (m : List Float) : Type 0 where
  pub matrix : sh.n * sh.p ≤ length m
  pub rows : sh.n ≤ 4096
  pub columns : sh.p ≤ 64
  pub all : sh.k ≡ sh.n + sh.p
  pub stored : sh.lazy ≡ false → sh.stored ≡ sh.k

-- the panels of a design that is not stored
pub record Panelled (sh : Sizes) : Type 0 where
  pub rows : sh.lazy ≡ true → 1 ≤ sh.pr
  pub columns : sh.lazy ≡ true → 1 ≤ sh.pc

-- sizes and places that are right for a memory
pub record Room (sh : Sizes) (l : Places) (m : List Float) : Type 0 where
  pub room : 40 * sh.p + 2 * (sh.pr * sh.pc) + sh.pc * sh.pc + sh.p * sh.p + 4 * sh.k + sh.stored * sh.p ≤ length m
  pub laid : Laid sh l
