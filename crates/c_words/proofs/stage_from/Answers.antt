-- `c_words::stage_from` meets its contract. Assumes nothing.
use mathlib.Core.Path.{◌≡◌, refl}
use Prim.Native.Nat.{ℕ, zero, suc}
use Rattle.records.specs.declared.Stage.TheVariants.{Ended}
use Rattle.c_words.specs.Words.{stage_from}
use Rattle.c_words.proofs.stage_from.Goals as goal

unknown : (k i : ℕ) → (k ≡ 0 → ⊥) → (k ≡ 1 → ⊥) → (k ≡ 2 → ⊥) → Ended ≡ stage_from k i
unknown zero i a b c = absurd (a refl)
unknown (suc zero) i a b c = absurd (b refl)
unknown (suc (suc zero)) i a b c = absurd (c refl)
unknown (suc (suc (suc k))) i a b c = refl

pub returns-then-k-eq1 : goal.returns-then-k-eq1
returns-then-k-eq1 c = rw c.if-k-eq1.true

pub returns-then-k-eq2 : goal.returns-then-k-eq2
returns-then-k-eq2 c = rw c.if-k-eq2.true

pub returns : goal.returns
returns c = unknown _ _ c.if-k-eq0.false c.if-k-eq1.false c.if-k-eq2.false
