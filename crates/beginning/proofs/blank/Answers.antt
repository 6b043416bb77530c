-- `beginning::blank` meets its contract. Assumes nothing.
use native.Mathlib.Omega.{arith}
use Rattle.layout.specs.Slots.{words}
use Rattle.layout.proofs.Slots.{start}
use Rattle.beginning.proofs.Starts.{blanked}
use Rattle.beginning.proofs.blank.Goals as goal

pub fill-requires : goal.fill-requires
unfolding words
fill-requires c = omega (arith, c.requires.need_value)

pub returns : goal.returns
unfolding words
returns c =
    let f = c.args.fit.now in
    blanked f.laid (start f.sizes c.args.s.now c.requires.room) c.requires.need_value c.fill.ensures c.fill-2.ensures c.fill-3.ensures
