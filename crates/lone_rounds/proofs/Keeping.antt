-- What the lone solver's scratch holds: its eight vectors read and written by their names. Assumes nothing.
use mathlib.Core.Path.{◌≡◌, refl, sym, ap, ◌∙◌, fun_ext, subst}
use mathlib.Core.List.{List}
use Prim.Native.Nat.{ℕ, ◌*◌, ◌≤◌, ◌<◌}
use native.Mathlib.Omega.{arith}
use lib.Dec.{lit<}
use lib.ListN.{length, get_or, drop}
use lib.Ieee.{Float}
use Rattle.arrays.specs.Part.{part, put}
use Rattle.arrays.specs.Vectors.{fill_of}
use Rattle.layout.specs.Store.{upd}
use Rattle.layout.proofs.Store.{Table, Tiled, Holds, need, total, cut, save, held, wrote, cut_holds, rest-holds, cleared}
use Rattle.bg_solver.specs.Solver.{Work}
use Rattle.lone_rounds.specs.Lone.{LoneSlot, LoneStore, LoneHas, names, lone_store, work_in}
use Rattle.lone_rounds.specs.Lone.{LoneSlot.X, LoneSlot.R, LoneSlot.RR, LoneSlot.Z, LoneSlot.ZZ, LoneSlot.P, LoneSlot.PP, LoneSlot.DIAG}

-- ---- the table of the vectors' names

abbrev num : LoneSlot → ℕ
num X = 0
num R = 1
num RR = 2
num Z = 3
num ZZ = 4
num P = 5
num PP = 6
num DIAG = 7

slot_of : (s : LoneSlot) → get_or names (num s) X ≡ s
slot_of X = refl
slot_of R = refl
slot_of RR = refl
slot_of Z = refl
slot_of ZZ = refl
slot_of P = refl
slot_of PP = refl
slot_of DIAG = refl

listed : (s : LoneSlot) → num s < 8
listed X = lit< tt
listed R = lit< tt
listed RR = lit< tt
listed Z = lit< tt
listed ZZ = lit< tt
listed P = lit< tt
listed PP = lit< tt
listed DIAG = lit< tt

tiled : (n : ℕ) → Tiled num (λ (s : LoneSlot). n) (λ (s : LoneSlot). num s * n) names 0 0
tiled n =
    (refl, omega arith, (refl, omega arith, (refl, omega arith, (refl, omega arith, (refl, omega arith, (refl, omega arith, (refl, omega arith, (refl, omega arith, tt))))))))

abbrev table : ℕ → Table LoneSlot
table n = record {
  num = num;
  size = λ (s : LoneSlot). n;
  off = λ (s : LoneSlot). num s * n;
  names = names;
  tiled = tiled n;
  all = listed;
  inj = λ s t q. sym (slot_of s) ∙ ap (λ (i : ℕ). get_or names i X) q ∙ slot_of t;
}

to-table : {n : ℕ} {e : List Float} {v : LoneStore} {m : List Float} → LoneHas n e v m → Holds (table n) e v m
unfolding save
to-table h = record { is = h.is; sized = h.sized }

of-table : {n : ℕ} {e : List Float} {v : LoneStore} {m : List Float} → Holds (table n) e v m → LoneHas n e v m
unfolding save
of-table h = record { is = h.is; sized = h.sized }

-- ---- reading and writing

-- where a vector lies, as the code has it
abbrev pub place : ℕ → LoneSlot → ℕ
place n X = 0
place n R = n
place n RR = 2 * n
place n Z = 3 * n
place n ZZ = 4 * n
place n P = 5 * n
place n PP = 6 * n
place n DIAG = 7 * n

place_is : (n : ℕ) (s : LoneSlot) → num s * n ≡ place n s
place_is n X = omega arith
place_is n R = omega arith
place_is n RR = refl
place_is n Z = refl
place_is n ZZ = refl
place_is n P = refl
place_is n PP = refl
place_is n DIAG = refl

need-is : (n : ℕ) → need (table n) ≡ 8 * n
unfolding need total
need-is n = omega arith

-- the vectors in a memory
abbrev pub here : ℕ → List Float → LoneStore
here n m = lone_store (part m (7 * n) n) (work_in n m)

cut-is : (n : ℕ) (m : List Float) → cut (table n) m ≡ here n m
unfolding cut
cut-is n m = fun_ext go where
  go : (s : LoneSlot) → part m (num s * n) n ≡ here n m s
  go X = ap (λ (a : ℕ). part m a n) (place_is n X)
  go R = ap (λ (a : ℕ). part m a n) (place_is n R)
  go RR = refl
  go Z = refl
  go ZZ = refl
  go P = refl
  go PP = refl
  go DIAG = refl

pub start : (n : ℕ) (m : List Float) → 8 * n ≤ length m → LoneHas n (drop (8 * n) m) (here n m) m
start n m l = of-table (rw (need-is, cut-is n m) at (held (table n) m (rw need-is l)))

infixl 40 ◌⟨◌≔◌⟩
unfoldable pub ◌⟨◌≔◌⟩ : LoneStore → LoneSlot → (LoneStore → List Float) → LoneStore
v ⟨ w ≔ f ⟩ = upd num v w (f v)

module _ {n : ℕ} {e : List Float} {v : LoneStore} {m : List Float} (h : LoneHas n e v m) where
  pub read : here n m ≡ v
  read = sym (cut-is n m) ∙ cut_holds (to-table h)

  pub rest-is : drop (8 * n) m ≡ e
  rest-is = ap (λ (k : ℕ). drop k m) (sym (need-is n)) ∙ rest-holds (to-table h)

  pub write : (w : LoneSlot) (xs : List Float) → length xs ≡ n → (m' : List Float) → m' ≡ put m (place n w) xs → LoneHas n e (upd num v w xs) m'
  write w xs l m' q = of-table (wrote (to-table h) w xs l m' (rw (place_is n w) q))

  -- a write of what f makes of the vectors in memory
  pub then : (w : LoneSlot) (f : LoneStore → List Float) → length (f v) ≡ n → {m' : List Float} → m' ≡ put m (place n w) (f (here n m))
      → LoneHas n e (v ⟨ w ≔ f ⟩) m'
  unfolding ◌⟨◌≔◌⟩
  then w f l {m'} q = write w (f v) l m' (q ∙ ap (λ (u : LoneStore). put m (place n w) (f u)) read)

  -- all of them overwritten by x
  pub overwritten : (x : Float) (m' : List Float) → m' ≡ put m 0 (fill_of x (8 * n)) → LoneHas n e (λ s. fill_of x n) m'
  overwritten x m' q = of-table (cleared (to-table h) x m' (rw need-is q))

  -- the same vectors as those of a solver's work and a diagonal
  pub named : (d : List Float) (w : Work) → v X ≡ w.x → v R ≡ w.r → v RR ≡ w.rr → v Z ≡ w.z → v ZZ ≡ w.zz → v P ≡ w.p → v PP ≡ w.pp → v DIAG ≡ d
      → LoneHas n e (lone_store d w) m
  named d w x r rr z zz p pp q = subst (λ (u : LoneStore). LoneHas n e u m) (fun_ext go) h where
    go : (s : LoneSlot) → v s ≡ lone_store d w s
    go X = x
    go R = r
    go RR = rr
    go Z = z
    go ZZ = zz
    go P = p
    go PP = pp
    go DIAG = q
