-- `c_words::write_paused` meets its contract. Assumes nothing.
use mathlib.Core.Path.{◌∙◌}
use native.Mathlib.Omega.{arith}
use lib.ListN.{length-set}
use Rattle.c_words.proofs.Writing.{paused-written}
use Rattle.c_words.proofs.write_paused.Goals as goal

pub bounds-out-1 : goal.bounds-out-1
bounds-out-1 c = simp length-set (omega arith)

pub bounds-out-2 : goal.bounds-out-2
bounds-out-2 c = simp length-set (omega arith)

pub bounds-out-3 : goal.bounds-out-3
bounds-out-3 c = simp length-set (omega arith)

pub bounds-out-4 : goal.bounds-out-4
bounds-out-4 c = simp length-set (omega arith)

pub bounds-out-5 : goal.bounds-out-5
bounds-out-5 c = simp length-set (omega arith)

pub shape_of-out : goal.shape_of-out
shape_of-out c = c.write_scalars.auto.out ∙ simp length-set

pub returns : goal.returns
returns c = paused-written c.args.a c.args.out.now c.requires c.stage_word.ensures c.index_word.ensures c.write_scalars.ensures
