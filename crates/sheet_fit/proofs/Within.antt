-- A text that was written lies within the lent slice, so that a caller may take its bytes. Assumes nothing.
use mathlib.Core.Path.{◌≡◌, ap}
use mathlib.Core.Bool.{Bool, true, false, cond}
use mathlib.Core.List.{List, ◌++◌}
use Prim.Native.Nat.{ℕ, ◌≤◌}
use native.Mathlib.Omega.{arith}
use lib.Dec.{ltb}
use lib.ListN.{length, drop, length-append}
use Rattle.answer_text.specs.Text.{Written.written, laid}

pub within : {k : ℕ} {after : List ℕ} (t out : List ℕ) → written k after ≡ laid t out → k ≤ length after
unfolding laid
within {k} {after} t out e = go (ltb (length out) 2048) e where
  go : (b : Bool) → written k after ≡ cond b (written 0 out) (written (length t) (t ++ drop (length t) out)) → k ≤ length after
  go true f =
      let g : k ≡ 0 = cc in
      omega arith
  go false f =
      let g : k ≡ length t = cc in
      let h : after ≡ t ++ drop (length t) out = cc in
      omega (arith, ap length h, length-append t (drop (length t) out))
