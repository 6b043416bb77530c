-- `arrays::scan::clean` meets its contract. Assumes nothing.
use mathlib.Core.Path.{◌≡◌, refl, subst}
use mathlib.Core.Bool.{◌&&◌}
use lib.Ieee.Scale.{finite}
use borrow.Author.Tests.{tests}
use Rattle.std.proofs.Common.{rules}
use Rattle.std.specs.Prelude.{is_none}
use Rattle.std.proofs.lemmas.Fn.{fold_over, fronts, slice_gives}
use Rattle.arrays.specs.Scan.{first_infinite}
use Rattle.arrays.proofs.Scans.{clean-more}
use Rattle.arrays.proofs.scan.clean.Goals as goal

pub returns : goal.returns
unfolding first_infinite
returns c =
    subst (λ l. c.fold.result ≡ is_none (first_infinite 0 l)) c.iter.ensures.rest
    (fold_over fronts (λ y. y.now) _ (λ l a. a ≡ is_none (first_infinite 0 l)) _
    (λ l a x b q h k. let e : b ≡ a && finite x.now = search (rules, tests) in (rw (clean-more l x.now, ← h) e, refl))
    c.iter.result c.iter.result.rest.now _ _ (slice_gives c.iter.result) refl c.fold.ensures.ran)
