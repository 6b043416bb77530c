-- `answer_text::counts` meets its contract. Assumes nothing.
use native.Mathlib.Omega.{arith}
use Rattle.answer_text.specs.Text.{counts_text}
use Rattle.answer_text.proofs.Writes.{then, upto}
use Rattle.answer_text.proofs.Lines.{count_long}
use Rattle.answer_text.proofs.counts.Goals as goal

pub count-b-requires : goal.count-b-requires
count-b-requires c = let a = upto c.count-a.ensures (count_long _ _) in omega arith

pub count-c-requires : goal.count-c-requires
count-c-requires c =
    let a = upto c.count-a.ensures (count_long _ _) in
    let b = upto c.count-b.ensures (count_long _ _) in
    omega arith

pub text-requires : goal.text-requires
text-requires c =
    let a = upto c.count-a.ensures (count_long _ _) in
    let b = upto c.count-b.ensures (count_long _ _) in
    let i = upto c.count-c.ensures (count_long _ _) in
    omega arith

pub returns : goal.returns
unfolding counts_text
returns c = then (then (then c.count-a.ensures c.count-b.ensures) c.count-c.ensures) c.text.ensures
