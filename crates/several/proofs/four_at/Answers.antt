-- `several::four_at` meets its contract: its closure reads element k of the four. Assumes nothing.
use Prim.Native.Nat.{◌+◌, ◌*◌}
use Rattle.std.proofs.Common.{rules}
use lib.Ieee.{nan}
use Rattle.arrays.specs.Sums.{◌!◌}
use Rattle.several.proofs.Made.{array-made}
use Rattle.several.proofs.four_at.Goals as goal

pub returns : goal.returns
returns c = array-made _ (λ k. c.args.s.now ! (c.args.a + k * c.args.apart)) _ (λ i y q e. search rules) nan _ 4 c.from_fn.ensures.items
