-- `beginning::begin` meets its contract: each call's store is that of the one before, and the sweep changes nothing. Assumes nothing.
use native.Mathlib.Omega.{arith}
use Rattle.layout.specs.Slots.{words}
use Rattle.layout.proofs.Slots.{next}
use Rattle.layout.proofs.Fits.{room_of}
use Rattle.design.specs.Statistics.{statistics_store, targets_store}
use Rattle.beginning.specs.Start.{prepared_store, start_store}
use Rattle.beginning.proofs.Starts.{given}
use Rattle.beginning.proofs.begin.Goals as goal

pub statistics-requires : goal.statistics-requires
statistics-requires c = given c.args.fit.now c.requires.suits (omega arith)

pub targets-requires : goal.targets-requires
targets-requires c =
    let h = c.requires.suits in
    record { room = room_of c.args.fit.now (omega arith); targets = c.requires.targets; all = h.all; rows = h.rows; columns = h.columns }

pub sweep-requires : goal.sweep-requires
unfolding words
sweep-requires c = omega (arith, c.requires.need_value)

pub returns : goal.returns
unfolding start_store
returns c =
    let f = c.args.fit.now in
    let sh = f.sizes in
    let m = f.matrix.now in
    let h₂ = next sh c.blank.ensures (statistics_store sh f.normalise m) c.statistics.ensures in
    let h₃ = next sh h₂ (targets_store sh c.args.y.now) c.targets.ensures in
    rw c.sweep.ensures (next sh h₃ (prepared_store sh f.normalise f.terms m) c.prepare.ensures)
