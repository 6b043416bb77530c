-- `sheet_words::write_words` meets its contract: two words, and the settings' behind them. Assumes nothing.
use native.Mathlib.Omega.{arith}
use lib.ListN.{length-set}
use Rattle.sheet_words.proofs.Words.{header-written}
use Rattle.sheet_words.proofs.write_words.Goals as goal

pub bounds-out-1 : goal.bounds-out-1
bounds-out-1 c = simp length-set (omega arith)

pub slice_bounds-write_settings-count : goal.slice_bounds-write_settings-count
slice_bounds-write_settings-count c = simp length-set (omega (arith, c.requires))

pub slice_bounds-write_settings-start : goal.slice_bounds-write_settings-start
slice_bounds-write_settings-start c = simp length-set (omega (arith, c.requires))

pub returns : goal.returns
returns c = header-written c.args.h c.args.out.now c.requires c.write_settings.ensures
