use mathlib.Core.Path.{◌≡◌, sym, ap, ◌∙◌}
use mathlib.Core.List.{List, [], ◌∷◌}
use Prim.Native.Nat.{ℕ, suc, ◌+◌, ◌-◌, ◌/◌, ◌%◌, ◌<◌}
use native.Mathlib.Omega.{arith}
use lib.ListN.{length, set}
use Rattle.arrays.specs.Part.{put}
use Rattle.arrays.proofs.Part.{put-comm, put-none, put-snoc}
use Rattle.big_endian.specs.Bytes.{bytes_of}
use Rattle.big_endian.proofs.Bytes.{length-bytes}
use Rattle.big_endian.proofs.write_number.Goals as goal

-- the last byte first
last-first : (s : List ℕ) (at m left : ℕ) → put (set s (at + m) (left % 256)) at (bytes_of m (left / 256)) ≡ put s at (bytes_of (suc m) left)
unfolding put bytes_of
last-first s at m left =
    let xs = bytes_of m (left / 256) in
    ap (λ (k : ℕ). put (set s (at + k) (left % 256)) at xs) (sym (length-bytes m (left / 256)))
    ∙ sym (put-comm s at xs (at + length xs) (left % 256 ∷ []) (omega arith))
    ∙ put-snoc s at xs (left % 256)

one_more : (s : List ℕ) (at j left : ℕ) (due : List ℕ) → 0 < j → put s at (bytes_of j left) ≡ due
    → put (set s (at + (j - 1)) (left % 256)) at (bytes_of (j - 1) (left / 256)) ≡ due
one_more s at j left due h e =
    let m : j ≡ suc (j - 1) = omega arith in
    last-first s at (j - 1) left ∙ rw m at e

all-written : (s : List ℕ) (at j left : ℕ) {due : List ℕ} → j ≡ 0 → put s at (bytes_of j left) ≡ due → s ≡ due
unfolding bytes_of
all-written s at j left n e = sym (put-none s at) ∙ rw n at e

pub loop-j-preserved : goal.loop-j-preserved
loop-j-preserved c = one_more _ _ c.loop-j.j c.loop-j.left _ c.loop-j-test.true c.loop-j.invariant

pub returns : goal.returns
returns c = all-written _ _ _ c.loop-j.left (omega arith) c.loop-j.invariant
