-- `answer_text::write_refused` meets its contract. Assumes nothing.
use borrow.Author.Tests.{lt-ltb}
use native.Mathlib.Omega.{arith}
use Rattle.answer_text.specs.Text.{refused_text, laid}
use Rattle.answer_text.proofs.Writes.{then, upto}
use Rattle.answer_text.proofs.Lines.{count_long, refused-long, stands}
use Rattle.answer_text.proofs.write_refused.Goals as goal

pub returns-then-out-lt2048 : goal.returns-then-out-lt2048
unfolding laid
returns-then-out-lt2048 c = rw (lt-ltb _ _ c.if-out-lt2048.true)

pub count-b-requires : goal.count-b-requires
count-b-requires c = let a = upto c.count-a.ensures (count_long _ _) in omega arith

pub text-requires : goal.text-requires
text-requires c =
    let a = upto c.count-a.ensures (count_long _ _) in
    let b = upto c.count-b.ensures (count_long _ _) in
    omega arith

pub returns : goal.returns
unfolding refused_text
returns c = stands _ _ c.if-out-lt2048.false (refused-long _ _) (then (then c.count-a.ensures c.count-b.ensures) c.text.ensures)
