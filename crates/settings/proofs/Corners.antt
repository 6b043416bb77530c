-- 01's worked value of gamma, computed from the definitions. Assumes nothing.
use mathlib.Core.Path.{◌≡◌, refl}
use lib.Ieee.{of_bits, to_bits, add, div}
use Rattle.numbers.specs.Ops.{f64}
use Rattle.numbers.specs.Units.{count}
use Rattle.numbers.specs.Root.{root_of, root_bits, last, reaches}
use Rattle.settings.specs.Settings.{gamma_of}

-- P7: gamma of 3.0 is 0.5
pub p7 : gamma_of (f64 0x4008_0000_0000_0000) ≡ f64 0x3fe0_0000_0000_0000
unfolding gamma_of root_of root_bits last reaches count of_bits to_bits add div
p7 = refl
