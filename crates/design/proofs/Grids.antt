-- A loop that writes the rows of a matrix one after another: what holds at its head, one turn, its end, and what it leaves as it was. Assumes nothing.
use mathlib.Core.Path.{◌≡◌, refl, ap, ◌∙◌}
use mathlib.Core.List.{List}
use Prim.Native.Nat.{ℕ, ◌+◌, ◌*◌, ◌≤◌, ◌<◌}
use native.Mathlib.Omega.{arith}
use lib.ListN.{length}
use lib.Ieee.{Float}
use Rattle.arrays.specs.Part.{part, put, tab}
use Rattle.arrays.proofs.Part.{length-put, part-put-above}
use Rattle.matrices.specs.Grid.{grid}
use Rattle.matrices.proofs.Grid.{put-grid-none, put-grid-more}

-- the first i of n rows of `cols` entries from `out` are written, and all else is as it was in s₀
pub record Written (s₀ : List Float) (out n cols : ℕ) (f : ℕ → ℕ → Float) (s : List Float) (i : ℕ) : Type 0 where
  pub within : i ≤ n
  pub long : length s ≡ length s₀
  pub is : s ≡ put s₀ out (grid f i cols)

pub written_none : (s₀ : List Float) (out n cols : ℕ) (f : ℕ → ℕ → Float) → Written s₀ out n cols f s₀ 0
written_none s₀ out n cols f = record { within = omega arith; long = refl; is = put-grid-none s₀ out f cols }

module _ {s₀ : List Float} {out n cols : ℕ} {f : ℕ → ℕ → Float} {s : List Float} {i : ℕ} (w : Written s₀ out n cols f s i) where
  pub written-more : (t : List Float) → i < n → t ≡ put s (out + i * cols) (tab (f i) cols) → Written s₀ out n cols f t (i + 1)
  written-more t h e = record {
    within = omega arith;
    long = rw e (length-put s (out + i * cols) (tab (f i) cols) ∙ w.long);
    is = e ∙ ap (λ (r : List Float). put r (out + i * cols) (tab (f i) cols)) w.is ∙ put-grid-more s₀ out f i cols;
  }

  pub written_all : n ≤ i → s ≡ put s₀ out (grid f n cols)
  written_all h =
      let e : i ≡ n = omega arith in
      rw e at w.is

  pub part-below : (b k : ℕ) → b + k ≤ out → part s b k ≡ part s₀ b k
  part-below b k h = rw w.is (part-put-above s₀ out (grid f i cols) b k h)
