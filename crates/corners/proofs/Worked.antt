-- The table of worked fits holds: the fit's end is worked out beside smartcore's definitions, its acceptance here. Assumes nothing.
use Rattle.std.specs.Prelude.{Ok}
use mathlib.Core.Path.{◌≡◌, refl, ap}
use Prim.Native.Nat.{ℕ, ◌≤◌}
use lib.Ieee.{of_bits, to_bits, sub, mul, div, of_int, le}
use borrow.Author.Tests.{le-leb}
use Rattle.numbers.specs.Order.{maximum_of}
use Rattle.numbers.specs.Units.{count}
use Rattle.numbers.specs.Root.{root_of, root_bits, last, reaches}
use Rattle.arrays.specs.Scan.{first_infinite}
use Rattle.settings.specs.Settings.{gamma_of, l1_of, l2_of, terms_of, allowed_of, range_of, panels_of}
use Rattle.layout.specs.Need.{need_of, sizes_of}
use Rattle.smartcore.proofs.Worked.{worked-out}
use Rattle.checks.specs.Checks.{limits_of, start_values}
use Rattle.promises.specs.Outcome.{outcome_of}
use Rattle.corners.specs.Corners.{settings_of, FitHolds, AllHold}
use Rattle.corners.specs.Worked.{small-input, small-end, worked}

small-accepted : (R C room : ℕ) → need_of 2 1 (settings_of small-input R C) ≤ room → limits_of 2 1 2 2 1 (settings_of small-input R C) room ≡ Ok tt
unfolding limits_of allowed_of range_of panels_of of_bits le
small-accepted R C room h = rw (le-leb _ _ h) refl

small-fits : FitHolds small-input small-end
unfolding
    outcome_of start_values first_infinite terms_of l1_of l2_of gamma_of root_of root_bits last reaches count maximum_of of_bits to_bits sub mul div of_int
small-fits R C = record {
  lambda = refl;
  limits = small-accepted R C;
  values = refl;
  ends = λ e. ap (outcome_of (sizes_of 2 1 (settings_of small-input R C)) e) (worked-out R C);
}

pub worked-holds : AllHold worked
worked-holds = (small-fits, tt)
