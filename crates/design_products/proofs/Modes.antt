-- A product by mode: what it asks of its places, and that its answer is that of the mode. Assumes nothing.
use mathlib.Core.Bool.{true, false}
use mathlib.Core.Path.{◌≡◌, ap, ◌∙◌}
use mathlib.Core.List.{List}
use Prim.Native.Nat.{ℕ, ◌+◌, ◌*◌, ◌≤◌}
use native.Mathlib.Omega.{arith}
use lib.Ieee.{Float}
use Rattle.arrays.specs.Part.{part, put}
use Rattle.matrices.specs.Products.{rows_of, columns_of, Together}
use Rattle.settings.specs.declared.Terms.{Terms}
use Rattle.layout.specs.declared.Sizes.{Sizes}
use Rattle.layout.specs.declared.Places.{Places}
use Rattle.layout.specs.Slots.{vars}
use Rattle.layout.specs.Slots.{Slot.DESIGN}
use Rattle.lazy_normalization.specs.Lazy.{lazy_rows, lazy_columns, Reads}
use Rattle.design_products.specs.Mode.{matvec_of, transposed_of, Held}

-- a product of the transposed design, wherever it is written
module _ {sh : Sizes} {l : Places} {m s : List Float} (h : Held sh l m s) (v : ℕ) (t : Terms) (d : List Float) (out : ℕ) {d' : List Float} where
  pub lazy-columns : sh.lazy ≡ true
      → d' ≡ put d out (lazy_columns sh.n sh.p t m (part s l.centre sh.p) (part s l.scale sh.p) (part s l.recip sh.p) (part s v (sh.n + sh.p)))
      → d' ≡ put d out (transposed_of sh t m (vars sh s) (part s v sh.k))
  unfolding transposed_of
  lazy-columns z e = rw (z, h.all) (rw (h.room.laid.at-centre, h.room.laid.at-scale, h.room.laid.at-recip) at e)

  pub stored-columns : sh.lazy ≡ false
      → d' ≡ put d out (columns_of (part s l.design (sh.stored * sh.p)) sh.stored sh.p (part s v sh.stored))
      → d' ≡ put d out (transposed_of sh t m (vars sh s) (part s v sh.k))
  unfolding transposed_of
  stored-columns z e =
      rw z
      (rw h.room.laid.at-design at e
      ∙ ap (λ (i : ℕ). put d out (columns_of (vars sh s DESIGN) sh.stored sh.p (part s v i))) (h.stored z))

module _ (sh : Sizes) (l : Places) (m s : List Float) (h : Held sh l m s) (v out : ℕ) where
  -- from below the columns' numbers to above the Gram
  pub upward : v + sh.p ≤ l.centre → l.y ≤ out → out + sh.k ≤ l.design → Reads m sh.n sh.p s l v sh.p out (sh.n + sh.p)
  upward a b c = record {
    matrix = h.matrix;
    rows = h.rows;
    columns = h.columns;
    centres = omega arith;
    scales = omega arith;
    reciprocals = omega arith;
    vector = omega arith;
    room = omega arith;
    off-columns = λ k. omega arith;
    off-vector = λ k. omega arith;
  }

  pub downward : out + sh.p ≤ l.centre → l.y ≤ v → v + sh.k ≤ l.design → Reads m sh.n sh.p s l v (sh.n + sh.p) out sh.p
  downward a b c = record {
    matrix = h.matrix;
    rows = h.rows;
    columns = h.columns;
    centres = omega arith;
    scales = omega arith;
    reciprocals = omega arith;
    vector = omega arith;
    room = omega arith;
    off-columns = λ k. omega arith;
    off-vector = λ k. omega arith;
  }

  -- the same of a stored design
  pub stored-upward : sh.lazy ≡ false → v + sh.p ≤ l.centre → l.y ≤ out → out + sh.k ≤ l.design
      → Together s l.design (sh.stored * sh.p) v sh.p out sh.stored
  stored-upward z a b c =
      let e = h.stored z in
      record { matrix = omega arith; vector = omega arith; room = omega arith; off-vector = λ k. omega arith; off-matrix = λ k. omega arith }

  pub stored-downward : sh.lazy ≡ false → out + sh.p ≤ l.centre → l.y ≤ v → v + sh.k ≤ l.design
      → Together s l.design (sh.stored * sh.p) v sh.stored out sh.p
  stored-downward z a b c =
      let e = h.stored z in
      record { matrix = omega arith; vector = omega arith; room = omega arith; off-vector = λ k. omega arith; off-matrix = λ k. omega arith }

  module _ (t : Terms) (s' : List Float) where
    pub lazy-rows : sh.lazy ≡ true
        → s' ≡ put s out (lazy_rows sh.n sh.p t m (part s l.centre sh.p) (part s l.scale sh.p) (part s l.recip sh.p) (part s v sh.p))
        → s' ≡ put s out (matvec_of sh t m (vars sh s) (part s v sh.p))
    unfolding matvec_of
    lazy-rows z e = rw z (rw (h.room.laid.at-centre, h.room.laid.at-scale, h.room.laid.at-recip) at e)

    pub stored-rows : sh.lazy ≡ false
        → s' ≡ put s out (rows_of (part s l.design (sh.stored * sh.p)) sh.stored sh.p (part s v sh.p))
        → s' ≡ put s out (matvec_of sh t m (vars sh s) (part s v sh.p))
    unfolding matvec_of
    stored-rows z e = rw z (rw h.room.laid.at-design at e)
