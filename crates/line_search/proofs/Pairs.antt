-- A loop that writes a matrix of two columns row by row, two elements a turn: what holds at its head, one turn and its end. Assumes nothing.
use mathlib.Core.Path.{◌≡◌, refl, sym, ap, ◌∙◌}
use mathlib.Core.List.{List, [], ◌∷◌, ◌++◌, append_assoc}
use Prim.Native.Nat.{ℕ, ◌+◌, ◌*◌, ◌≤◌, ◌<◌}
use native.Mathlib.Omega.{arith}
use lib.ListN.{length, get_or, set, length-set, length-append}
use lib.Ieee.{Float, nan}
use Rattle.arrays.specs.Part.{part, put, tab}
use Rattle.arrays.proofs.Part.{put-snoc, put-none, part-put-apart, apart_of, apart-fewer, get_or-part}
use Rattle.arrays.specs.Sums.{◌!◌}
use Rattle.matrices.specs.Grid.{grid}
use Rattle.matrices.proofs.Grid.{length-grid, grid-more}

-- the first i of p rows from `out` are written, and all else is as it was in s₀
pub record Paired (s₀ : List Float) (out p : ℕ) (f : ℕ → ℕ → Float) (s : List Float) (i : ℕ) : Type 0 where
  pub within : i ≤ p
  pub long : length s ≡ length s₀
  pub is : s ≡ put s₀ out (grid f i 2)

pub paired_none : (s₀ : List Float) (out p : ℕ) (f : ℕ → ℕ → Float) → Paired s₀ out p f s₀ 0
unfolding grid
paired_none s₀ out p f = record { within = omega arith; long = refl; is = sym (put-none s₀ out) }

put_two : (s : List Float) (a : ℕ) (xs : List Float) (x y : Float)
    → set (set (put s a xs) (a + length xs) x) (a + length xs + 1) y ≡ put s a (xs ++ (x ∷ y ∷ []))
put_two s a xs x y =
    let e : a + length xs + 1 ≡ a + length (xs ++ (x ∷ [])) = omega (arith, length-append xs (x ∷ [])) in
    rw (put-snoc s a xs x, e, put-snoc s a (xs ++ (x ∷ [])) y) (ap (put s a) (append_assoc xs (x ∷ []) (y ∷ [])))

row_more : (f : ℕ → ℕ → Float) (i : ℕ) → grid f i 2 ++ (f i 0 ∷ f i 1 ∷ []) ≡ grid f (i + 1) 2
unfolding tab
row_more f i = sym (grid-more f i 2)

module _ {s₀ : List Float} {out p : ℕ} {f : ℕ → ℕ → Float} {s : List Float} {i : ℕ} (m : Paired s₀ out p f s i) where
  pub paired-more : (x y : Float) → i < p → x ≡ f i 0 → y ≡ f i 1 → Paired s₀ out p f (set (set s (out + 2 * i) x) (out + 2 * i + 1) y) (i + 1)
  paired-more x y h ex ey =
      let e : out + 2 * i ≡ out + length (grid f i 2) = omega (arith, length-grid f i 2) in
      let two = put_two s₀ out (grid f i 2) (f i 0) (f i 1) in
      record {
        within = omega arith;
        long = simp (length-set, m.long);
        is = rw (m.is, e, ex, ey, two, row_more f i);
      }

  -- what lies apart is as it was
  pub apart : (a : ℕ) → (out < a + p → out + p * 2 ≤ a) → i < p → get_or s (a + i) nan ≡ part s₀ a p ! i
  apart a off h =
      let k = apart-fewer out (p * 2) (i * 2) a p (omega arith) (apart_of out (p * 2) a p off) in
      let e = part-put-apart s₀ out (grid f i 2) a p (rw (length-grid f i 2) k) in
      sym (get_or-part s a p i nan h) ∙ rw (m.is, e)

  pub paired-all : p ≤ i → s ≡ put s₀ out (grid f p 2)
  paired-all h =
      let e : i ≡ p = omega arith in
      rw e at m.is
