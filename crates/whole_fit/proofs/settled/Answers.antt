-- `whole_fit::settled` meets its contract: the arm of a pending call contradicts what is asked. Assumes nothing.
use mathlib.Core.Path.{refl, sym, ap}
use Rattle.elastic_net.specs.ElasticNet.{said}
use Rattle.whole_fit.proofs.settled.Goals as goal

pub returns-in-Done : goal.returns-in-Done
returns-in-Done c = record { says = sym (ap said c.in-Done.is); paused = refl }

pub returns-in-Refused : goal.returns-in-Refused
returns-in-Refused c = record { says = sym (ap said c.in-Refused.is); paused = refl }

-- the call was not pending
pub unreachable-requires : goal.unreachable-requires
unreachable-requires c = c.requires (ap said c.in-Pending.is)
