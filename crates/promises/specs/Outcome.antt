-- What smartcore's fit means as the outcome of the call that ends it. Definitions only.
use Rattle.std.specs.Prelude.{List, ℕ, Float}
use Rattle.arrays.specs.Sums.{plus0}
use Rattle.arrays.specs.Vectors.{fill_of}
use Rattle.layout.specs.declared.Sizes.{Sizes}
use Rattle.records.specs.declared.Counts.{Counts as CountsE}
use Rattle.records.specs.Records.{ended_of}
use Rattle.ending.specs.End.{gone}
use Rattle.elastic_net.specs.ElasticNet.{Said, converged as converged_a, limit as limit_a, refused as refused_a, Outcome}
use Rattle.smartcore.specs.LassoOptimizer.{Counts, Fitted, converged, limit, failed}
use Rattle.smartcore.specs.ElasticNet.{ElasticNet}

abbrev pub counts_in : {A : Type 0} → Fitted A → Counts
counts_in (converged c o) = c
counts_in (limit c o) = c
counts_in (failed k c) = c

-- openings, solver rounds and trials, as a call answers them
abbrev pub answered : Counts → CountsE
answered c = record { rounds = record { 0 = c.openings }; solver = record { 0 = c.solver }; trials = record { 0 = c.trials } }

-- a fit that fails answers as a refusal, with place 0
abbrev pub answer_of : Fitted ElasticNet → Said
answer_of (converged c o) = converged_a o.intercept (answered c)
answer_of (limit c o) = limit_a o.intercept (answered c)
answer_of (failed k c) = refused_a k 0

-- a fit that is refused has no weights: they are +0
abbrev pub weights_in : ℕ → Fitted ElasticNet → List Float
weights_in p (converged c o) = o.coefficients
weights_in p (limit c o) = o.coefficients
weights_in p (failed k c) = fill_of plus0 p

-- e is the scratch's excess
unfoldable pub outcome_of : Sizes → List Float → Fitted ElasticNet → Outcome
outcome_of sh e o = record {
  answer = answer_of o;
  paused = ended_of (answered (counts_in o));
  weights = weights_in sh.p o;
  scratch = gone sh e;
}
