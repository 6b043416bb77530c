use Rattle.lone_rounds.proofs.Looping.{going, goes_on, stopped-at, ended}
use Rattle.lone_rounds.proofs.rounds.Goals as goal

pub loop-iter-init : goal.loop-iter-init
loop-iter-init c = going _ _ _ _ _ _

pub returns-in_default : goal.returns-in_default
returns-in_default c = stopped-at c.loop-iter.invariant c.loop-iter-test.true c.turn-t.ensures c.in_default.is c.error_of.ensures

pub loop-iter-preserved : goal.loop-iter-preserved
loop-iter-preserved c = goes_on c.loop-iter.invariant c.loop-iter-test.true c.turn-t.ensures c.turn-t.auto.s c.in-More.is

pub returns : goal.returns
returns c = ended c.loop-iter.invariant c.loop-iter-test.false
