-- The executable root of a pattern: it is the one pattern that the root lies nearest to, and every positive finite pattern has one. Assumes nothing.
use mathlib.Core.Path.{◌≡◌, refl, sym, ap, ◌∙◌, subst}
use mathlib.Core.Bool.{Bool, true, false, cond}
use Prim.Native.Nat.{ℕ, zero, suc, ◌+◌, ◌-◌, ◌*◌, ◌/◌, ◌%◌, ◌^◌, ◌≤◌, ◌<◌}
use native.Mathlib.Nat.{le_of_lt, lt_of_lt_of_le, lt_of_le_of_lt, lt_of_not-le, mul-le-mul, add-le-add, add_assoc, add-sub_cancel, two-pow-succ}
use native.Mathlib.Decide.{dec_le, ℕ_discrete}
use native.Mathlib.Omega.{arith}
use lib.Dec.{lit≤}
use borrow.Author.Tests.{lt-ltb, le-ltb}
use Rattle.numbers.specs.Units.{count, IsNormal}
use Rattle.numbers.specs.declared.square_root.Digits.{Digits}
use Rattle.numbers.specs.Nearest.{Nearest, Half, RootBits}
use Rattle.numbers.specs.Digits.{next_bit}
use Rattle.numbers.specs.Root.{reaches, last, root_bits}
use Rattle.numbers.proofs.Counts.{count-le}
use Rattle.numbers.proofs.Normals.{low-normal, high-normal}
use Rattle.numbers.proofs.Recurrence.{Worked, start, step, nearest-of}
use Rattle.numbers.proofs.Halves.{half-even, half-odd, root-of-normal}

-- ---- the bisection ends at any pattern that is the root
module _ (bits r : ℕ) (R : RootBits bits r) where
  mids : (s t : ℕ) → s ≤ t → (count (s - 1) + count s) * (count (s - 1) + count s) ≤ (count (t - 1) + count t) * (count (t - 1) + count t)
  mids s t h =
      let l : count (s - 1) + count s ≤ count (t - 1) + count t = add-le-add (count-le (s - 1) (t - 1) (omega arith)) (count-le s t h) in
      mul-le-mul l l

  reached : (s : ℕ) → s ≤ r → reaches bits s ≡ true
  unfolding reaches
  reached s h = lt-ltb _ _ (lt_of_le_of_lt (mids s r h) R.above)

  missed : (s : ℕ) → r < s → reaches bits s ≡ false
  unfolding reaches
  missed s h = le-ltb _ _ (le_of_lt (lt_of_lt_of_le next (mids (r + 1) s (omega arith))))
    where
      next : count bits * 2 ^ 1076 < (count (r + 1 - 1) + count (r + 1)) * (count (r + 1 - 1) + count (r + 1))
      next = rw add-sub_cancel R.below

  last-is : (k s : ℕ) → s ≤ r → r < s + 2 ^ k → last bits k s ≡ r
  unfolding last
  last-is zero s l u = omega arith
  last-is (suc k) s l u = elim (dec_le (s + 2 ^ k) r) [
    | yes h ↦
        ap (λ (b : Bool). last bits k (cond b (s + 2 ^ k) s)) (reached (s + 2 ^ k) h)
        ∙ last-is k (s + 2 ^ k) h (subst (λ (j : ℕ). r < j) (ap (λ (j : ℕ). s + j) (two-pow-succ k) ∙ sym (add_assoc s (2 ^ k) (2 ^ k))) u)
    | no h ↦ ap (λ (b : Bool). last bits k (cond b (s + 2 ^ k) s)) (missed (s + 2 ^ k) (lt_of_not-le h)) ∙ last-is k s l (lt_of_not-le h)
  ]

  pub root-bits-is : root_bits bits ≡ r
  unfolding root_bits
  root-bits-is = last-is 63 0 (omega arith) (lt_of_lt_of_le R.finite (lit≤ tt))

-- ---- and there is one: bit by bit it is found
run : (k i m : ℕ) (w : Digits) → i + k ≡ 54 → 2 ^ 52 ≤ m → m < 2 ^ 54 - 1 → Worked m w i → (n : ℕ) × Nearest m n
run zero i m w e lo hi d = let all : i ≡ 54 = omega arith in ((w.root + 1) / 2, nearest-of m w (subst (Worked m w) all d) lo hi)
run (suc k) i m w e lo hi d = run k (i + 1) m (next_bit w) (omega arith) lo hi (step m w i d (omega arith))

nearest : (m : ℕ) → 2 ^ 52 ≤ m → m < 2 ^ 54 - 1 → (n : ℕ) × Nearest m n
nearest m lo hi = run 54 0 m (record { root = 0; remainder = 0; ahead = m }) refl lo hi (start m (omega arith))

half : (b m : ℕ) → 972 ≤ b → b ≤ 3069 → 2 ^ 52 ≤ m → m < 2 ^ 53 → (r : ℕ) × Half b m r
half b m l u lo hi = elim (ℕ_discrete (b % 2) 0) [
  | yes h ↦ let n = nearest m lo (omega arith) in ((b / 2 - 1) * 2 ^ 52 + n.0, half-even b m n.0 l u h lo n.1)
  | no h ↦ let n = nearest (m * 2) (omega arith) (omega arith) in ((b / 2 - 1) * 2 ^ 52 + n.0, half-odd b m n.0 l u h lo n.1)
]

root : (bits power digits : ℕ) → IsNormal bits power digits → RootBits bits (root_bits bits)
root bits p d N =
    let h = half (p + 971) d (omega (arith, N.least)) (omega (arith, N.most)) N.long N.short in
    let R = root-of-normal bits p d h.0 N h.1 in
    subst (λ (k : ℕ). RootBits bits k) (sym (root-bits-is bits h.0 R)) R

pub root-bits-root : (bits : ℕ) → 0 < bits → bits < 0x7ff0_0000_0000_0000 → RootBits bits (root_bits bits)
root-bits-root bits some finite = elim (ℕ_discrete (bits / 2 ^ 52) 0) [
  | yes h ↦ root bits _ _ (low-normal bits _ some h refl)
  | no h ↦ root bits _ _ (high-normal bits finite h)
]
