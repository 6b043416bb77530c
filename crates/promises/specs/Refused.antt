-- The refusals of a start and of a resuming call in 01's order, and what a refused call leaves. Definitions only.
use Rattle.refusal.specs.declared.Refusal.{Refusal}
use Rattle.std.specs.Prelude.{ℕ, ◌≡◌, cond, List, length, Float, Result, ⊤, Ok, Err}
use Rattle.refusal.specs.declared.Refusal.TheVariants.{Record}
use Rattle.settings.specs.declared.Settings.{Settings}
use Rattle.checks.specs.Checks.{limits_of, start_values}
use Rattle.records.specs.declared.Paused.{Paused}
use Rattle.records.specs.Records.{possible_of}
use Rattle.elastic_net.specs.declared.Answer.{Answer}
use Rattle.elastic_net.specs.declared.Resumed.{Resumed}

-- of two checks in a row, the second looked at only where the first is fine
abbrev pub first_of : Result ⊤ Refusal → Result ⊤ Refusal → Result ⊤ Refusal
first_of (Ok tt) k = k
first_of (Err r) k = Err r

-- 1 to 4, then 5 and 6
abbrev pub start_check : ℕ → ℕ → List Float → List Float → Settings → List Float → Result ⊤ Refusal
start_check n p x y st s = first_of (limits_of n p (length x) (length y) p st (length s)) (start_values x y n p st.normalise)

-- 1 to 4, then 9
abbrev pub resume_check : ℕ → ℕ → List Float → List Float → Settings → Paused → List Float → List Float → Result ⊤ Refusal
resume_check n p x y st a s w =
    first_of (limits_of n p (length x) (length y) (length w) st (length s)) (cond (possible_of st.max_iter a) (Ok tt) (Err Record))

-- a call that answers g and leaves record, weights and scratch as they were
pub record Unchanged (a : Paused) (s w : List Float) (r : Resumed) (w' s' : List Float) (g : Answer) : Type 0 where
  pub answer : r.answer ≡ g
  pub paused : r.paused ≡ a
  pub weights : w' ≡ w
  pub scratch : s' ≡ s
