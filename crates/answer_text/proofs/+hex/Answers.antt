-- The inner call writes all digits but the last.
use native.Mathlib.Omega.{arith}
use Rattle.answer_text.proofs.Writes.{upto}
use Rattle.answer_text.proofs.Digits.{hex-long, no-hex, hex-more}
use Rattle.answer_text.proofs.+hex.Goals as goal

pub returns-then-k-eq0 : goal.returns-then-k-eq0
returns-then-k-eq0 t c = no-hex _ _ c.if-k-eq0.true

pub bounds-out-a : goal.bounds-out-a
bounds-out-a t c = let e = upto c.hex-a.ensures (hex-long _ _) in omega arith

pub overflow_add-result : goal.overflow_add-result
overflow_add-result t c = let e = upto c.hex-a.ensures (hex-long _ _) in omega arith

pub returns : goal.returns
returns t c = hex-more _ _ _ c.if-k-eq0.false c.hex-a.ensures c.digit.ensures
