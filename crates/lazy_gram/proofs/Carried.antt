-- Sums of products that are carried from panel to panel: where two are the same, and that the order of the two columns does not matter. Assumes nothing.
use mathlib.Core.Path.{◌≡◌}
use mathlib.Core.List.{List}
use Prim.Native.Nat.{ℕ, ◌+◌, ◌*◌, ◌<◌}
use native.Mathlib.Omega.{arith}
use lib.Ieee.{Float, binary64}
use Rattle.arrays.specs.Sums.{◌!◌}
use Rattle.arrays.proofs.Folds.{fold-ext, fold_on}
use Rattle.arrays.proofs.Commute.{times-comm}
use Rattle.several.specs.Several.{gathered, added_of}
use Rattle.gram_panels.specs.Panels.{cell, carry}
use Rattle.lazy_gram.specs.Nest.{adv, entry}

pub cell-like : (m : List Float) (p : ℕ) (s t : List Float) (ce sc i j : ℕ) → s ! (ce + j) ≡ t ! (ce + j) → s ! (sc + j) ≡ t ! (sc + j)
    → cell m p s ce sc i j ≡ cell m p t ce sc i j
unfolding cell
cell-like m p s t ce sc i j a b = rw (a, b)

-- a block's carried sums are the cells' products, where its panels hold the cells
pub carry-adv : (c : ℕ → ℕ → Float) (s : List Float) (g p l r cc row : ℕ) (t : Float) (nr a b j k : ℕ) → s ! (g + a * p + b) ≡ t
    → ((i : ℕ) → i < nr → s ! (l + i * cc + a) ≡ c (row + i) j) → ((i : ℕ) → i < nr → s ! (r + i * cc + b) ≡ c (row + i) k)
    → carry s g p l r cc nr a b ≡ adv c row t nr j k
unfolding carry added_of gathered adv
carry-adv c s g p l r cc row t nr a b j k e hl hr =
    rw e (fold-ext _ t _ _ nr (λ i h.
    let place : l + a + i * cc ≡ l + i * cc + a = omega arith in
    rw (place, hl i h, hr i h)))

module _ (c e : ℕ → ℕ → Float) where
  pub adv-like : (row : ℕ) (t u : Float) (n j k : ℕ) → t ≡ u → ((i : ℕ) → c i j ≡ e i j) → ((i : ℕ) → c i k ≡ e i k) → adv c row t n j k ≡ adv e row u n j k
  unfolding adv
  adv-like row t u n j k h hj hk = rw h (fold-ext _ u _ _ n (λ i l. rw (hj (row + i), hk (row + i))))

  pub entry-like : (n j k : ℕ) → ((i : ℕ) → c i j ≡ e i j) → ((i : ℕ) → c i k ≡ e i k) → entry c n j k ≡ entry e n j k
  unfolding entry
  entry-like n j k hj hk = fold-ext _ _ _ _ n (λ i l. rw (hj i, hk i))

-- an entry over the first rows, advanced by n more
pub adv-entry : (c : ℕ → ℕ → Float) (row n j k : ℕ) → adv c row (entry c row j k) n j k ≡ entry c (row + n) j k
unfolding adv entry
adv-entry c row n j k = fold_on _ _ _ row n

pub entry-sym : (c : ℕ → ℕ → Float) (n j k : ℕ) → entry c n j k ≡ entry c n k j
unfolding entry
entry-sym c n j k = fold-ext _ _ _ _ n (λ i l. times-comm binary64 (c i j) (c i k))
