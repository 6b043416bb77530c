-- `lone_rounds::rounds` meets its contract. The invariant: the rounds left, from `iter` on, give the whole loop's result; diagonal and excess are as they were.
-- Assumes nothing.
use Rattle.lone_rounds.proofs.Looping.{Going}
use Rattle.lone_rounds.proofs.rounds.Given as goal

abbrev pub invariant-loop-iter : goal.invariant-loop-iter
invariant-loop-iter l = Going l.n l.a l.bnrm l.tol l.limit l.initial.s l.s l.err l.bkden l.iter
