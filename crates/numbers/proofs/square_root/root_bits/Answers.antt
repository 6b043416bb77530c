-- `square_root::root_bits` meets its contract: the arithmetic is in Halves. Assumes nothing.
use Rattle.numbers.proofs.Halves.{root-of-normal}
use Rattle.numbers.proofs.square_root.root_bits.Goals as goal

pub returns : goal.returns
returns c = root-of-normal _ _ _ _ c.normalised-n.ensures c.half.ensures
