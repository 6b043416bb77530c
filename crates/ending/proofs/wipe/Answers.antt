-- `ending::wipe` meets its contract. Assumes nothing.
use Rattle.ending.proofs.Whole.{wiped}
use Rattle.ending.proofs.wipe.Goals as goal

pub returns : goal.returns
returns c = wiped c.args.sh c.args.need c.args.s.now _ c.requires.need_value c.requires.need_in_bounds c.fill.ensures
