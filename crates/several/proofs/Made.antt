-- The array that `array::from_fn` makes by a closure that computes h. Assumes nothing.
use mathlib.Core.Path.{◌≡◌, refl, sym, ◌∙◌, subst}
use mathlib.Core.List.{List}
use Prim.Native.Nat.{ℕ, zero, suc, ◌+◌, ◌<◌}
use native.Mathlib.Omega.{arith}
use lib.ListN.{get_or}
use lib.Seq.{ext_get_or}
use denote.Param.Members.{Mut}
use Rattle.std.specs.Fn.{Called}
use Rattle.std.specs.Array.{IsFromFnResult, IsFromFnResultFrom}
use Rattle.arrays.specs.Part.{tab}
use Rattle.arrays.proofs.Part.{length-tab, get_or-tab}

module _ {F B : Type 0} (g : Mut F (ℕ × Unit {0}) B) (h : ℕ → B) (f : F) (call : (i : ℕ) (y : B) (q : F) → Called g f (i, tt) y q → (y ≡ h i) × (q ≡ f)) (d : B) where
  element : (ys : List B) (i n : ℕ) (q : F) → q ≡ f → IsFromFnResultFrom g q ys i n → (k : ℕ) → k < n → get_or ys (i + k) d ≡ h (i + k)
  element ys i zero q e made k l = absurd (omega arith)
  element ys i (suc n) q e made zero l =
      let one = call i made.1 made.0 (subst (λ (p : F). Called g p (i, tt) made.1 made.0) e made.3) in
      let z : i + 0 ≡ i = omega arith in
      rw z (made.2.1 d ∙ one.0)
  element ys i (suc n) q e made (suc k) l =
      let one = call i made.1 made.0 (subst (λ (p : F). Called g p (i, tt) made.1 made.0) e made.3) in
      let z : i + suc k ≡ i + 1 + k = omega arith in
      rw z (element ys (i + 1) n made.0 one.1 made.4 k (omega arith))

  pub array-made : (ys : List B) (n : ℕ) → IsFromFnResult g f ys n → ys ≡ tab h n
  array-made ys n made =
      ext_get_or d ys (tab h n) (made.long ∙ sym (length-tab h n))
      (λ i l.
      let k : i < n = omega arith in
      let z : 0 + i ≡ i = omega arith in
      rw z at (element ys 0 n f refl made.each i k) ∙ sym (get_or-tab h n i d k))
