-- `big_endian::write_float` meets its contract. Assumes nothing.
use Rattle.big_endian.proofs.write_float.Goals as goal

pub returns : goal.returns
returns c = rw (← c.bits_of.ensures) c.write_number.ensures
