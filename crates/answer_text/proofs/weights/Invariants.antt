-- `answer_text::weights` meets its contract. The invariant: the lines of the first j weights are written and end at a, 22 bytes a line at most.
-- Assumes nothing.
use Rattle.answer_text.proofs.Lines.{Lined}
use Rattle.answer_text.proofs.weights.Given as goal

abbrev pub invariant-loop-j : goal.invariant-loop-j
invariant-loop-j l = Lined l.initial.out l.at l.w l.out l.a l.j
