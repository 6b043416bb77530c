-- Several sums side by side in an array, over their number: one term more for the first k of them, one after another. Assumes nothing.
use mathlib.Core.Path.{◌≡◌, sym, ap, ◌∙◌}
use mathlib.Core.Logic.{⊎_elim}
use mathlib.Core.List.{List}
use Prim.Native.Nat.{ℕ, ◌+◌, ◌*◌, ◌≤◌, ◌<◌}
use native.Mathlib.Nat.{ne_of_lt, ne_of_gt, eq-or-lt_of_le, mul-le-mul_right}
use native.Mathlib.Omega.{arith}
use lib.ListN.{length, set, length-set}
use lib.Seq.{get_or-set_other, get_or-set_same, ext_get_or}
use lib.Ieee.{Float, nan}
use Rattle.numbers.specs.Ops.{◌⊕◌}
use Rattle.arrays.specs.Part.{tab}
use Rattle.arrays.proofs.Part.{length-tab, get_or-tab}
use Rattle.arrays.specs.Sums.{◌!◌, sum_to, plus0}
use Rattle.arrays.proofs.Folds.{fold-none, fold-turn}

-- sum q is of f q 0, f q 1, ..: the first k of the `count` sums have n + 1 terms, the others n
pub record Several (count : ℕ) (f : ℕ → ℕ → Float) (n : ℕ) (t : List Float) (k : ℕ) : Type 0 where
  pub within : k ≤ count
  pub long : length t ≡ count
  pub ahead : (q : ℕ) → q < k → t ! q ≡ sum_to plus0 (f q) (n + 1)
  pub behind : (q : ℕ) → k ≤ q → q < count → t ! q ≡ sum_to plus0 (f q) n

pub several-none : (count : ℕ) (f : ℕ → ℕ → Float) (t : List Float) → t ≡ tab (λ q. plus0) count → Several count f 0 t 0
several-none count f t e = record {
  within = omega arith;
  long = ap length e ∙ length-tab _ count;
  ahead = λ q l. absurd (omega arith);
  behind = λ q _ l. ap (λ (r : List Float). r ! q) e ∙ get_or-tab _ count q nan l ∙ sym (fold-none _ _ _);
}

module _ {count : ℕ} {f : ℕ → ℕ → Float} {n : ℕ} {t : List Float} {k : ℕ} (s : Several count f n t k) where
  -- the next sum gets its term
  pub several-more : (x : Float) → k < count → x ≡ f k n → Several count f n (set t k (t ! k ⊕ x)) (k + 1)
  several-more x h e = record {
    within = omega arith;
    long = simp length-set s.long;
    ahead = λ q l.
        ⊎_elim
        (λ (i : q ≡ k).
        rw i (get_or-set_same t k (t ! k ⊕ x) nan (omega arith) ∙ fold-turn _ plus0 (f k) n (t ! k) x (s.behind k (omega arith) h) e))
        (λ (i : q < k). get_or-set_other t k q _ nan (ne_of_lt i) ∙ s.ahead q i)
        (eq-or-lt_of_le (omega arith));
    behind = λ q l i. get_or-set_other t k q _ nan (ne_of_gt (omega arith)) ∙ s.behind q (omega arith) i;
  }

  -- all of them have it
  pub several-turn : count ≤ k → Several count f (n + 1) t 0
  several-turn h = record { within = omega arith; long = s.long; ahead = λ q l. absurd (omega arith); behind = λ q _ l. s.ahead q (omega arith) }

pub several-all : {count : ℕ} {f : ℕ → ℕ → Float} {n : ℕ} {t : List Float} → Several count f n t 0 → t ≡ tab (λ q. sum_to plus0 (f q) n) count
several-all {count} {f} {n} {t} s =
    ext_get_or nan t _ (s.long ∙ sym (length-tab _ count))
    (λ q l. s.behind q (omega arith) (omega arith) ∙ sym (get_or-tab _ count q nan (omega arith)))

-- of count + 1 vectors that lie `apart` from each other none begins behind the last
pub few : (k count apart : ℕ) → k < count + 1 → k * apart ≤ count * apart
few k count apart h = mul-le-mul_right apart (omega arith)
