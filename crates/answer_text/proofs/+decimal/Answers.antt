-- The inner call writes all digits but the last.
use native.Mathlib.Omega.{arith}
use Rattle.answer_text.proofs.Writes.{upto}
use Rattle.answer_text.proofs.Digits.{decimal-long, no-decimal, one-digit, decimal-more}
use Rattle.answer_text.proofs.+decimal.Goals as goal

pub returns-then-k-eq0 : goal.returns-then-k-eq0
returns-then-k-eq0 t c = no-decimal _ _ c.if-k-eq0.true

pub returns-then-n-lt10 : goal.returns-then-n-lt10
returns-then-n-lt10 t c = one-digit _ _ _ c.if-k-eq0.false c.if-n-lt10.true c.digit.ensures

pub bounds-out-a : goal.bounds-out-a
bounds-out-a t c = let e = upto c.decimal-a.ensures (decimal-long _ _) in omega arith

pub overflow_add-result-2 : goal.overflow_add-result-2
overflow_add-result-2 t c = let e = upto c.decimal-a.ensures (decimal-long _ _) in omega arith

pub returns : goal.returns
returns t c = decimal-more _ _ _ c.if-k-eq0.false c.if-n-lt10.false c.decimal-a.ensures c.digit-2.ensures
