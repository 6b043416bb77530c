-- One turn of a loop that makes each element of three. Assumes nothing.
use mathlib.Core.List.{List}
use Prim.Native.Nat.{ℕ, ◌+◌, ◌<◌}
use lib.ListN.{get_or, set}
use lib.Ieee.{Float, nan}
use Rattle.arrays.specs.Part.{part}
use Rattle.arrays.specs.Sums.{◌!◌}
use Rattle.arrays.specs.Vectors.{Clear}
use Rattle.arrays.proofs.Turns.{Made, made_more, kept}

pub three-more : (g : Float → Float → Float → Float) {s₀ : List Float} {out : ℕ} (a b c : ℕ) {n : ℕ} {s : List Float} {i : ℕ}
    → Made s₀ out n (λ k. g (part s₀ a n ! k) (part s₀ b n ! k) (part s₀ c n ! k)) s i → i < n → Clear out a n → Clear out b n → Clear out c n
    → Made s₀ out n (λ k. g (part s₀ a n ! k) (part s₀ b n ! k) (part s₀ c n ! k))
    (set s (out + i) (g (get_or s (a + i) nan) (get_or s (b + i) nan) (get_or s (c + i) nan))) (i + 1)
three-more g a b c {s = s} {i = i} m h ka kb kc =
    let ea = kept m a h ka in
    let eb = kept m b h kb in
    let ec = kept m c h kc in
    made_more m (g (get_or s (a + i) nan) (get_or s (b + i) nan) (get_or s (c + i) nan)) h (rw (ea, eb, ec))
