-- The lambda of a fit, for any settings and any number of rows: it has no minus sign, since 2 ^ -52 is the least. Assumes nothing.
use mathlib.Core.Bool.{Bool, true, false, ◌&&◌, ◌||◌, cond}
use Prim.Native.Nat.{ℕ, ◌+◌, ◌*◌, ◌<◌}
use native.Mathlib.Nat.{mul-pos}
use native.Mathlib.Omega.{arith}
use lib.Dec.{T, ltb, ltb→lt, lt→ltb}
use lib.Ieee.{Float, nan, inf, fin, up, down, lt, eq, of_bits}
use lib.Ieee.Fits.{up_pos, down_pos}
use lib.Ieee.Positive.{positive}
use Rattle.numbers.specs.Kinds.{unsigned}
use Rattle.numbers.specs.Ops.{◌⊗◌}
use Rattle.numbers.specs.Order.{maximum_of}
use Rattle.numbers.specs.Constants.{epsilon}
use Rattle.settings.specs.declared.Settings.{Settings}
use Rattle.settings.specs.Settings.{l1_of, l2_of, gamma_of, terms_of}

either : (c : Bool) (x y : Float) → T (unsigned x) → T (unsigned y) → T (unsigned (cond c y x))
either true x y p q = q
either false x y p q = p

first : (a b : Bool) (x y : Float) → T a → T (unsigned y) → T (unsigned (cond (a || b) y x))
first true b x y t q = q
first false b x y t q = absurd t

maximum-unsigned : (x y : Float) → T (positive y) → T (unsigned (maximum_of x y))
unfolding maximum_of
maximum-unsigned x nan p = absurd p
maximum-unsigned x (inf s) p = absurd p
maximum-unsigned x (fin true n d) p = absurd p
maximum-unsigned nan (fin false n d) p = tt
maximum-unsigned (inf true) (fin false n d) p = tt
maximum-unsigned (inf false) (fin false n d) p = tt
maximum-unsigned (fin false m e) (fin false n d) p =
    let x = fin false m e in
    let y = fin false n d in
    either (lt x y || (eq x y && false)) x y tt tt
maximum-unsigned (fin true m e) (fin false n d) p =
    let a = m * up e * down d in
    let b = n * up d * down e in
    let b-pos : 0 < b = mul-pos (mul-pos (ltb→lt 0 n p) (up_pos d)) (down_pos e) in
    let x = fin true m e in
    let y = fin false n d in
    first (ltb 0 (a + b)) (eq x y && true) x y (lt→ltb 0 (a + b) (omega arith)) tt

pub lambda-unsigned : (st : Settings) (n : ℕ) → T (unsigned (terms_of st n).lambda)
unfolding terms_of of_bits
lambda-unsigned st n = maximum-unsigned (l1_of st n ⊗ gamma_of (l2_of st n)) epsilon tt
