-- `records::spent` meets its contract: each arm is that of `spent_of`. Assumes nothing.
use Rattle.records.specs.Records.{spent_at, spent_of}
use Rattle.records.proofs.spent.Goals as goal

pub returns-in-Opening : goal.returns-in-Opening
unfolding spent_at spent_of
returns-in-Opening c = rw c.in-Opening.is

pub returns-in-Solving : goal.returns-in-Solving
unfolding spent_at spent_of
returns-in-Solving c = rw c.in-Solving.is

pub returns-in-Searching : goal.returns-in-Searching
unfolding spent_at spent_of
returns-in-Searching c = rw c.in-Searching.is

pub returns-in-Ended : goal.returns-in-Ended
unfolding spent_at spent_of
returns-in-Ended c = rw c.in-Ended.is
