-- What every part of a fit keeps of the optimiser's data, n rounds being opened. Definitions only.
use Rattle.std.specs.Prelude.{◌≡◌, false, ℕ, ◌+◌, length}
use Rattle.layout.specs.declared.Sizes.{Sizes}
use Rattle.layout.specs.Slots.{Slot, size}
use Rattle.layout.specs.Slots.{Slot.W, Slot.U}
use Rattle.bound.specs.Guarded.{Guarded}
use Rattle.lasso_optimizer.specs.Data.{Data, held}

-- with p columns: each weight finite and strictly within its finite bound, t from 1 on and finite
abbrev pub KeptData : ℕ → ℕ → Data → Type 0
KeptData p n (held a v) = Guarded p n a.t (v W) (v U)

-- sizes of a fit: a stored design has all n + p rows
pub record Proper (sh : Sizes) : Type 0 where
  pub all : sh.k ≡ sh.n + sh.p
  pub stored : sh.lazy ≡ false → sh.stored ≡ sh.k

-- every vector has its size
abbrev pub SizedData : Sizes → ℕ → Data → Type 0
SizedData sh n (held a v) = (s : Slot) → length (v s) ≡ size sh s
