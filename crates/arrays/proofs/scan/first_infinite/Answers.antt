-- `arrays::scan::first_infinite` meets its contract. Assumes nothing.
use mathlib.Core.Path.{◌≡◌}
use mathlib.Core.Bool.{true, false}
use lib.Ieee.Scale.{finite}
use borrow.Author.Tests.{tests}
use Rattle.std.proofs.Common.{rules}
use Rattle.std.proofs.lemmas.Iterator.{YieldsList-from_slice, IsFirst-from_position}
use Rattle.arrays.proofs.Scans.{found-by}
use Rattle.arrays.proofs.scan.first_infinite.Goals as goal

pub returns : goal.returns
returns c =
    found-by c.args.x.now c.position.result
    (IsFirst-from_position _ _ _ (λ x. finite x ≡ false) (λ x. finite x ≡ true) c.position.ensures.ran (YieldsList-from_slice c.args.x.now (cc)) (λ x q k. search (rules, tests)) (λ x q k. search (rules, tests)))
