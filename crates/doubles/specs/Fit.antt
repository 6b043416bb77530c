-- Scalars whose bits say them again: values of binary64. (A `Float` of the logic may be any number m·2^e.) Definitions only.
use Rattle.std.specs.Prelude.{ℕ, T, Float}
use Rattle.std.specs.Float.{binary64}
use Rattle.std.specs.Float.Ieee.{fits}
use Rattle.lasso_optimizer.specs.declared.Scalars.{Scalars}
use Rattle.lasso_optimizer.specs.Data.{Data, held}

abbrev pub Double : Float → Type 0
Double x = T (fits binary64 x)

-- each scalar is one
pub record Fit (v : Scalars) : Type 0 where
  pub t : Double v.t
  pub s : Double v.s
  pub dual : Double v.dual
  pub pcgtol : Double v.pcgtol
  pub bnrm : Double v.bnrm
  pub bkden : Double v.bkden
  pub error : Double v.error
  pub phi : Double v.phi
  pub gdx : Double v.gdx

-- of the optimiser's data, n rounds being opened
abbrev pub FitData : ℕ → Data → Type 0
FitData n (held a v) = Fit a
