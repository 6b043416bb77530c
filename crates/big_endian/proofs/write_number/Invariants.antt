-- `big_endian::write_number` meets its contract. The invariant: with the j low bytes of what is left of v written too, the output is as due. Assumes nothing.
use mathlib.Core.Path.{◌≡◌}
use Rattle.arrays.specs.Part.{put}
use Rattle.big_endian.specs.Bytes.{bytes_of}
use Rattle.big_endian.proofs.write_number.Given as goal

abbrev pub invariant-loop-j : goal.invariant-loop-j
invariant-loop-j l = put l.out l.at (bytes_of l.j l.left) ≡ put l.initial.out l.at (bytes_of l.k l.v)
