-- A scratch as long as `scratch_words` says passes 1 to 4, and no shorter one does. Assumes nothing.
use Rattle.refusal.specs.declared.Refusal.{Refusal}
use Rattle.std.specs.Prelude.{Result, ⊤, Ok, Err}
use mathlib.Core.Path.{◌≡◌, refl, sym, ◌∙◌}
use mathlib.Core.Logic.{◌⊎◌, inl, inr}
use mathlib.Core.Bool.{Bool, true, false, ◌&&◌, cond}
use Prim.Native.Nat.{ℕ, ◌*◌, ◌≤◌}
use native.Mathlib.Omega.{arith}
use lib.Dec.{leb}
use borrow.Author.Tests.{eq-eqb}
use Rattle.settings.specs.declared.Settings.{Settings}
use Rattle.settings.specs.Settings.{allowed_of}
use Rattle.layout.specs.Need.{need_of}
use Rattle.refusal.specs.declared.Refusal.TheVariants.{Size, Setting, Scratch}
use Rattle.refusal.specs.Checks.{ask}
use Rattle.refusal.specs.Sizes.{in_size}
use Rattle.refusal.proofs.Sizes.{size_of}
use Rattle.checks.specs.Checks.{limits_of, scratch_words}

-- a fit of one row needs words
need-some : (n p : ℕ) (st : Settings) → 1 ≤ n → need_of n p st ≡ 0 → ⊥
unfolding need_of
need-some n p st l h = omega arith

module _ (n p : ℕ) (st : Settings) where
  -- 1 to 4 of a fit with so much scratch, whose slices have the right lengths
  abbrev pub limits-with : ℕ → Result ⊤ Refusal
  limits-with room = limits_of n p (n * p) n p st room

  by_tests : (room : ℕ) → limits-with room ≡ ask (in_size n p) Size (ask (allowed_of st) Setting (ask (leb (need_of n p st) room) Scratch (Ok tt)))
  unfolding limits_of
  by_tests room = rw (eq-eqb (n * p) (n * p) refl, eq-eqb n n refl, eq-eqb p p refl)

  by-range : (s t : Bool) → in_size n p ≡ s → allowed_of st ≡ t → scratch_words n p st ≡ cond (s && t) (need_of n p st) 0
  unfolding scratch_words
  by-range s t es et = rw (es, et)

  -- where it is not 0, that many words are enough, and fewer are refusal 4
  pub scratch-enough : (scratch_words n p st ≡ 0 → ⊥) → (room : ℕ) → limits-with room ≡ ask (leb (scratch_words n p st) room) Scratch (Ok tt)
  scratch-enough h room = go (in_size n p) (allowed_of st) refl refl where
    go : (s t : Bool) → in_size n p ≡ s → allowed_of st ≡ t → limits-with room ≡ ask (leb (scratch_words n p st) room) Scratch (Ok tt)
    go true true es et = rw (by_tests room, by-range true true es et, es, et)
    go true false es et = absurd (h (by-range true false es et))
    go false t es et = absurd (h (by-range false t es et))

  -- where it is 0, no scratch would do: 1 or 3
  pub scratch-none : scratch_words n p st ≡ 0 → (room : ℕ) → (limits-with room ≡ Err Size) ⊎ (limits-with room ≡ Err Setting)
  scratch-none h room = go (in_size n p) (allowed_of st) refl refl where
    go : (s t : Bool) → in_size n p ≡ s → allowed_of st ≡ t → (limits-with room ≡ Err Size) ⊎ (limits-with room ≡ Err Setting)
    go true true es et = absurd (need-some n p st (size_of n p es).some-rows (sym (by-range true true es et) ∙ h))
    go true false es et = inr (rw (by_tests room, es, et))
    go false t es et = inl (rw (by_tests room, es))
