-- Texts written one after another: a text, and one more behind it. Assumes nothing.
use mathlib.Core.Path.{◌≡◌, sym, ap, ◌∙◌}
use mathlib.Core.List.{List, [], ◌∷◌, ◌++◌}
use Prim.Native.Nat.{ℕ, ◌+◌, ◌≤◌}
use native.Mathlib.Nat.{add-zero}
use native.Mathlib.Omega.{arith}
use lib.ListN.{length, set, length-append}
use Rattle.arrays.proofs.Part.{put-none, put-append, put-snoc, length-put}
use Rattle.answer_text.specs.Text.{Wrote}

pub wrote_none : (m : List ℕ) (at : ℕ) → Wrote m at [] at m
wrote_none m at = record { ends = sym (add-zero at); is = sym (put-none m at) }

module _ {m : List ℕ} {at : ℕ} {s : List ℕ} {next : ℕ} {after : List ℕ} (h : Wrote m at s next after) where
  pub kept : length after ≡ length m
  kept = ap length h.is ∙ length-put m at s

  -- the place after a text of k bytes at most
  pub upto : {k : ℕ} → length s ≤ k → next ≤ at + k
  upto l = omega (arith, h.ends)

  pub then : {t : List ℕ} {end : ℕ} {last : List ℕ} → Wrote after next t end last → Wrote m at (s ++ t) end last
  then {t} k =
      let e : at + length s + length t ≡ at + length (s ++ t) = omega (arith, length-append s t) in
      record { ends = rw (k.ends, h.ends) e; is = rw (k.is, h.ends, h.is) (put-append m at s t) }

  -- one byte more
  pub more : (x : ℕ) → Wrote m at (s ++ x ∷ []) (next + 1) (set after next x)
  more x =
      let e : at + length s + 1 ≡ at + length (s ++ x ∷ []) = omega (arith, length-append s (x ∷ [])) in
      record { ends = rw h.ends e; is = rw (h.ends, h.is) (put-snoc m at s x) }
