-- The lines of an answer: how long each is, so that 2,048 bytes hold them all, and the loop over the weights. Assumes nothing.
use mathlib.Core.Path.{◌≡◌, refl, ◌∙◌}
use mathlib.Core.List.{List, ◌++◌}
use Prim.Native.Nat.{ℕ, zero, suc, ◌+◌, ◌*◌, ◌≤◌, ◌<◌}
use native.Mathlib.Nat.{zero-add}
use native.Mathlib.Numerals.{add-one}
use native.Mathlib.Omega.{arith}
use borrow.Author.Tests.{le-ltb}
use lib.ListN.{length, get_or, drop, length-append}
use lib.Seq.{sets-eq}
use Rattle.arrays.specs.Part.{put}
use Rattle.refusal.specs.declared.Way.{Way}
use Rattle.refusal.specs.declared.Way.TheVariants.{Converged, Limit}
use Rattle.answer_text.specs.Text.{Wrote, Written.written, bytes, hex_of, decimal_of, count_text, word_text, end_text, counts_text}
use Rattle.answer_text.specs.Text.{weight_text, weights_text, done_text, refused_text, laid, done_of}
use Rattle.answer_text.proofs.Writes.{wrote_none, then, kept}
use Rattle.answer_text.proofs.Digits.{hex-long, decimal-long, below-hundred}

-- ---- lengths

pub count_long : (s : List ℕ) (n : ℕ) → length (count_text s n) ≤ length s + 20
unfolding count_text
count_long s n = omega (arith, length-append s (decimal_of n), decimal-long 20 n)

pub word-long : (s : List ℕ) (x : ℕ) → length (word_text s x) ≤ length s + 17
unfolding word_text
word-long s x = omega (arith, length-append (s ++ hex_of 16 x) (bytes "\n"), length-append s (hex_of 16 x), hex-long 16 x)

pub end-long : (e : Way) → length (end_text e) ≤ 16
unfolding end_text
end-long Converged = omega arith
end-long Limit = omega arith

pub counts-long : (r s t : ℕ) → length (counts_text r s t) ≤ 84
unfolding counts_text
counts-long r s t =
    simp length-append (omega (arith, count_long (bytes "rounds ") r, count_long (bytes " solver ") s, count_long (bytes " trials ") t))

weight-long : (j x : ℕ) → j < 100 → length (weight_text j x) ≤ 22
unfolding weight_text count_text
weight-long j x h =
    simp length-append (omega (arith, below-hundred 20 j h, word-long (bytes " ") x))

weights-long : (w : List ℕ) (n : ℕ) → n ≤ 100 → length (weights_text w n) ≤ 22 * n
unfolding weights_text
weights-long w zero h = omega arith
weights-long w (suc j) h =
    simp length-append (omega (arith, weights-long w j (omega arith), weight-long j (get_or w j 0) (omega arith)))

done-long : (e : Way) (r s t b : ℕ) (w : List ℕ) → length w ≤ 64 → length (done_text e r s t b w) ≤ 2048
unfolding done_text
done-long e r s t b w h =
    simp length-append
    (omega (arith, end-long e, counts-long r s t, word-long (bytes "intercept ") b, weights-long w (length w) (omega arith)))

pub refused-long : (n k : ℕ) → length (refused_text n k) ≤ 2048
unfolding refused_text
refused-long n k = simp length-append (omega (arith, count_long (bytes "refused ") n, count_long (bytes " at ") k))

-- ---- the lines of the first j weights are written

pub record Lined (m : List ℕ) (at : ℕ) (w out : List ℕ) (a j : ℕ) : Type 0 where
  pub within : j ≤ length w
  pub long : length out ≡ length m
  pub room : a ≤ at + 22 * j
  pub wrote : Wrote m at (weights_text w j) a out

pub lined-none : (m : List ℕ) (at : ℕ) (w : List ℕ) → Lined m at w m at 0
unfolding weights_text
lined-none m at w = record { within = omega arith; long = refl; room = omega arith; wrote = wrote_none m at }

module _ {m : List ℕ} {at : ℕ} {w out : List ℕ} {a j : ℕ} (h : Lined m at w out a j) where
  pub lined-more : {b : ℕ} {last : List ℕ} → length w ≤ 64 → j < length w → Wrote out a (weight_text j (get_or w j 0)) b last
      → Lined m at w last b (j + 1)
  unfolding weights_text
  lined-more {b} {last} s l k =
      let u = weight-long j (get_or w j 0) (omega arith) in
      record {
        within = omega arith;
        long = kept k ∙ h.long;
        room = omega (arith, h.room, k.ends);
        wrote = rw (add-one j) (then h.wrote k);
      }

  pub all-lined : length w ≤ j → Wrote m at (weights_text w (length w)) a out
  all-lined l =
      let e : j ≡ length w = omega (arith, h.within) in
      rw e at h.wrote

-- ---- the whole text at the front

front : (t out : List ℕ) → length t ≤ length out → put out 0 t ≡ t ++ drop (length t) out
unfolding put
front t out h =
    let l : 0 + length t ≤ length out = omega arith in
    rw zero-add at (sets-eq t out 0 l)

pub stands : (t out : List ℕ) {r : ℕ} {last : List ℕ} → 2048 ≤ length out → length t ≤ 2048 → Wrote out 0 t r last → written r last ≡ laid t out
unfolding laid
stands t out {r} {last} l s h =
    let e : r ≡ length t = omega (arith, h.ends) in
    rw (le-ltb (length out) 2048 l, e, h.is, front t out (omega arith))

pub done-written : (e : Way) (r s t x : ℕ) (w : List ℕ) {out : List ℕ} {a : ℕ} {o₁ : List ℕ} {b : ℕ} {o₂ : List ℕ} {c : ℕ} {o₃ : List ℕ}
    {n : ℕ} {last : List ℕ} → length w ≤ 64 → 2048 ≤ length out → Wrote out 0 (end_text e) a o₁ → Wrote o₁ a (counts_text r s t) b o₂
    → Wrote o₂ b (word_text (bytes "intercept ") x) c o₃ → Wrote o₃ c (weights_text w (length w)) n last
    → written n last ≡ done_of e r s t x w out
unfolding done_of done_text
done-written e r s t x w {out} h l p q u v =
    rw (le-ltb 64 (length w) h) (stands _ out l (done-long e r s t x w h) (then (then (then p q) u) v))
