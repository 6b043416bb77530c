-- `Guarded` holds at the start, when a round opens, with any gap, and at an accepted trial. Assumes nothing.
use mathlib.Core.Path.{◌≡◌}
use mathlib.Core.Bool.{true}
use mathlib.Core.List.{List}
use Prim.Native.Nat.{ℕ, ◌+◌, ◌*◌, ◌≤◌, ◌<◌}
use native.Mathlib.Omega.{arith}
use lib.Dec.{T}
use lib.ListN.{length}
use lib.Ieee.{Float, nan, neg, lt, of_bits}
use Rattle.numbers.specs.Kinds.{unsigned}
use Rattle.numbers.proofs.Sign.{positive-unsigned}
use Rattle.numbers.specs.Constants.{one}
use Rattle.arrays.proofs.Part.{get_or-tab}
use Rattle.arrays.specs.Sums.{◌!◌, plus0, sum_of}
use Rattle.arrays.specs.Vectors.{fill_of}
use Rattle.arrays.proofs.Lengths.{length-fill}
use Rattle.newton.specs.Newton.{start_t, next_t}
use Rattle.line_search.specs.Search.{faces_of, largest_of, sumlogneg_of, phi_of, decreases}
use Rattle.bound.specs.Guarded.{Inside, Bounded, Guarded}
use Rattle.bound.proofs.Barrier.{bounded-positive, later, start-bounded, next-bounded}
use Rattle.bound.proofs.Trial.{accepted-inside}

-- ---- the start, w = 0 and u = 1
zero-in-one : Inside plus0 one
unfolding of_bits lt neg
zero-in-one = record { weight-finite = tt; bound-finite = tt; over = tt; beneath = tt }

filled : (p i : ℕ) → i < p → Inside (fill_of plus0 p ! i) (fill_of one p ! i)
unfolding fill_of
filled p i h = rw (get_or-tab (λ j. plus0) p i nan h, get_or-tab (λ j. one) p i nan h) zero-in-one

pub kept-start : (p : ℕ) (lambda : Float) → 0 < p → p ≤ 64 → Guarded p 0 (start_t p lambda) (fill_of plus0 p) (fill_of one p)
kept-start p lambda P h = record {
  columns = length-fill plus0 p;
  bounds = length-fill one p;
  inside = filled p;
  barrier = start-bounded p lambda P h;
}

pub kept-round : (p k : ℕ) (s gap t : Float) (ws us : List Float) → k < 1006 → Guarded p k t ws us → Guarded p (k + 1) (next_t p s gap t) ws us
kept-round p k s gap t ws us h c = record {
  columns = c.columns;
  bounds = c.bounds;
  inside = c.inside;
  barrier = next-bounded p k s gap t h c.barrier;
}

-- a round that ends the fit leaves t as it was
pub kept-later : (p k : ℕ) (t : Float) (ws us : List Float) → Guarded p k t ws us → Guarded p (k + 1) t ws us
kept-later p k t ws us c = record { columns = c.columns; bounds = c.bounds; inside = c.inside; barrier = later k (k + 1) t (omega arith) c.barrier }

pub kept-accept : (p k : ℕ) (lambda t zz phi s gdx : Float) (ws us : List Float) → length ws ≡ p → length us ≡ p → T (unsigned lambda) → Bounded k t
    → lt (largest_of (2 * p) (faces_of p ws us)) plus0 ≡ true
    → decreases (phi_of lambda t zz (sum_of p us) (sumlogneg_of (2 * p) (faces_of p ws us))) phi s gdx ≡ true → Guarded p k t ws us
kept-accept p k lambda t zz phi s gdx ws us ew eu L B b d = record {
  columns = ew;
  bounds = eu;
  inside = accepted-inside p lambda t zz phi s gdx ws us ew eu L (positive-unsigned t (bounded-positive k t B)) b d;
  barrier = B;
}
