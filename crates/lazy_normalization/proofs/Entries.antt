-- An entry of the design with the columns' numbers that lie in a slice; and slices in which no write touches what the products read. Assumes nothing.
use mathlib.Core.Path.{◌≡◌}
use mathlib.Core.List.{List}
use Prim.Native.Nat.{ℕ, ◌+◌, ◌≤◌, ◌<◌}
use native.Mathlib.Omega.{arith}
use lib.ListN.{length}
use lib.Ieee.{Float}
use Rattle.arrays.specs.Part.{part}
use Rattle.arrays.proofs.Turns.{Made, part-kept}
use Rattle.layout.specs.declared.Places.{Places}
use Rattle.lazy_normalization.specs.Lazy.{Reads, lazy_at}

-- row i of m with the centres, scales and reciprocals at ce, sc and rc of s
abbrev pub row_of : List Float → List Float → ℕ → ℕ → ℕ → ℕ → ℕ → ℕ → Float
row_of m s p ce sc rc i k = lazy_at p m (part s ce p) (part s sc p) (part s rc p) i k

-- row i, column j of the design with the columns' numbers that lie in s
abbrev pub design : List Float → List Float → ℕ → Places → ℕ → ℕ → Float
design m s p l i j = row_of m s p l.centre l.scale l.recip i j

-- what the products read
pub record Unwritten (s₀ s : List Float) (p : ℕ) (l : Places) (v nv : ℕ) : Type 0 where
  pub centres : part s l.centre p ≡ part s₀ l.centre p
  pub scales : part s l.scale p ≡ part s₀ l.scale p
  pub reciprocals : part s l.recip p ≡ part s₀ l.recip p
  pub vector : part s v nv ≡ part s₀ v nv

pub unwritten_of : {m : List Float} {n p : ℕ} {s₁ : List Float} {l : Places} {v nv out no : ℕ} → Reads m n p s₁ l v nv out no → {s₀ s : List Float}
    → ((a k : ℕ) → (out < a + k → out + no ≤ a) → a + k ≤ length s₁ → part s a k ≡ part s₀ a k) → Unwritten s₀ s p l v nv
unwritten_of {p = p} {l = l} {v} {nv} r kept = record {
  centres = kept l.centre p (λ h. omega (arith, r.off-columns (omega arith))) (omega arith);
  scales = kept l.scale p (λ h. omega (arith, r.off-columns (omega arith))) (omega arith);
  reciprocals = kept l.recip p (λ h. omega (arith, r.off-columns h)) r.reciprocals;
  vector = kept v nv r.off-vector r.vector;
}

pub while-made : {m : List Float} {n p : ℕ} {s₁ : List Float} {l : Places} {v nv out no : ℕ} → Reads m n p s₁ l v nv out no
    → {s₀ s : List Float} {k i : ℕ} {f : ℕ → Float} → k ≤ no → Made s₀ out k f s i → Unwritten s₀ s p l v nv
while-made r q d = unwritten_of r (λ a k off _. part-kept d a k (λ h. omega (arith, off h)))

-- memory that is as long
pub reads_on : {m : List Float} {n p : ℕ} {s s' : List Float} {l : Places} {v nv out no : ℕ} → Reads m n p s l v nv out no → length s' ≡ length s → Reads m n p s' l v nv out no
reads_on r e = record {
  matrix = r.matrix;
  rows = r.rows;
  columns = r.columns;
  centres = r.centres;
  scales = r.scales;
  reciprocals = omega arith;
  vector = omega arith;
  room = omega arith;
  off-columns = r.off-columns;
  off-vector = r.off-vector;
}
