-- Tests in a row, of which the first that fails gives the refusal. Definitions only.
use Rattle.std.specs.Prelude.{Bool, true, false, ℕ, ◌+◌, ◌^◌, ◌≤◌, ◌<◌, Option, None, Some, Result, ⊤, Ok, Err}
use Rattle.refusal.specs.declared.Refusal.{Refusal}
use Rattle.refusal.specs.declared.Refusal.TheVariants.{NotFinite}

-- a test, and the refusal where it fails; what follows is looked at only where it holds
abbrev pub ask : Bool → Refusal → Result ⊤ Refusal → Result ⊤ Refusal
ask true r rest = rest
ask false r rest = Err r

-- a value that is not finite is refusal 5, with its place
abbrev pub ask_values : Option ℕ → Result ⊤ Refusal → Result ⊤ Refusal
ask_values None rest = rest
ask_values (Some i) rest = Err (NotFinite i)

-- what a scan found, `from` places further on; it was within a slice, which has less than 2 ^ 60 elements
abbrev pub found_at : Option ℕ → ℕ → Result ⊤ Refusal
found_at None from = Ok tt
found_at (Some i) from = Err (NotFinite (from + i))

-- so that the place does not wrap
abbrev pub Near : Option ℕ → ℕ → Type 0
Near None from = from ≤ 1048576
Near (Some i) from = (from ≤ 1048576) × (i < 2 ^ 60)
