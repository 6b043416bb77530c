use mathlib.Core.Path.{◌≡◌}
use native.Mathlib.Omega.{arith}
use Rattle.lazy_gram.proofs.Nest.{pairs_start, pairs-block, pairs-turn}
use Rattle.lazy_gram.proofs.pairs.Goals as goal

pub loop-kb-init : goal.loop-kb-init
loop-kb-init c = pairs_start c.requires

pub block-requires : goal.block-requires
block-requires c = pairs-block c.requires c.loop-kb.kb c.loop-kb.s _ (omega arith) c.loop-kb.auto.s c.fill_panel.ensures

pub loop-kb-preserved : goal.loop-kb-preserved
loop-kb-preserved c = pairs-turn c.requires c.loop-kb.kb c.loop-kb.s _ _ (omega arith) c.loop-kb.invariant c.fill_panel.ensures c.block.ensures

pub returns : goal.returns
returns c =
    let e : c.loop-kb.kb ≡ c.args.jb = omega arith in
    rw e at c.loop-kb.invariant
