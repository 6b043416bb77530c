-- `square_root::root` is `root_of`, by the cases that the code tells apart. Assumes nothing.
use mathlib.Core.Path.{◌∙◌, sym, subst}
use mathlib.Core.Bool.{Bool, not}
use lib.Dec.{T}
use lib.Ieee.{binary64, fits}
use lib.Ieee.Bits.{nan_bits_is}
use Rattle.numbers.proofs.Values.{number-bits}
use Rattle.numbers.proofs.Nans.{nan_is, not-nan}
use Rattle.numbers.proofs.Patterns.{pattern}
use Rattle.numbers.proofs.RootCases.{at-nan, at_zero, at-negative, at-infinity, at-positive}
use Rattle.numbers.proofs.square_root.root.Goals as goal

pub returns-then-x : goal.returns-then-x
returns-then-x c = nan_is ∙ at-nan _ c.if-x.true

pub float_to_bits-bits : goal.float_to_bits-bits
float_to_bits-bits c = not-nan _ c.if-x.false

pub returns-then-bits-eq0 : goal.returns-then-bits-eq0
returns-then-bits-eq0 c =
    let held : T (fits binary64 c.args.x) = subst T (sym c.well_formed.0.1) tt in
    at_zero _ _ (pattern _ held) c.if-bits-eq0.true

pub returns-then-bits-ge-SIGN : goal.returns-then-bits-ge-SIGN
returns-then-bits-ge-SIGN c =
    let held : T (fits binary64 c.args.x) = subst T (sym c.well_formed.0.1) tt in
    nan_is ∙ at-negative _ _ (pattern _ held) c.if-bits-eq0.false c.if-bits-ge-SIGN.true

pub returns-then-bits-ge-INFINITY : goal.returns-then-bits-ge-INFINITY
returns-then-bits-ge-INFINITY c =
    let held : T (fits binary64 c.args.x) = subst T (sym c.well_formed.0.1) tt in
    at-infinity _ _ (pattern _ held) c.if-bits-ge-SIGN.false c.if-bits-ge-INFINITY.true

pub float_from_bits-result : goal.float_from_bits-result
float_from_bits-result c = subst (λ (b : Bool). T (not b)) (sym (nan_bits_is binary64 _)) (number-bits c.root_bits.result c.root_bits.ensures.finite)

pub returns : goal.returns
returns c =
    let held : T (fits binary64 c.args.x) = subst T (sym c.well_formed.0.1) tt in
    at-positive _ _ (pattern _ held) c.if-bits-eq0.false c.if-bits-ge-INFINITY.false
    c.root_bits.ensures
