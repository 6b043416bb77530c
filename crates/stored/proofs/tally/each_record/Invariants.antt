-- `stored::tally::each_record` is safe and ends: the records that are left are the measure. Assumes nothing.
use Rattle.stored.proofs.tally.each_record.Given as goal

abbrev pub decreases-loop-t : goal.decreases-loop-t
decreases-loop-t g l = l.t.left
