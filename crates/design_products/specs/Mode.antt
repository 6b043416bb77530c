-- A product with the design or its transpose, whichever way the design is held. Definitions only.
use Rattle.std.specs.Prelude.{◌≡◌, false, cond, List, ◌+◌, ◌*◌, ◌≤◌, length, Float}
use Rattle.matrices.specs.Products.{rows_of, columns_of}
use Rattle.settings.specs.declared.Terms.{Terms}
use Rattle.layout.specs.declared.Sizes.{Sizes}
use Rattle.layout.specs.declared.Places.{Places}
use Rattle.layout.specs.Slots.{Store, Room}
use Rattle.layout.specs.Slots.{Slot.CENTRE, Slot.SCALE, Slot.RECIP, Slot.DESIGN}
use Rattle.lazy_normalization.specs.Lazy.{lazy_rows, lazy_columns}

-- the design times xs; a design that is not stored is made from the matrix m
unfoldable pub matvec_of : Sizes → Terms → List Float → Store → List Float → List Float
matvec_of sh t m v xs =
    cond sh.lazy (lazy_rows sh.n sh.p t m (v CENTRE) (v SCALE) (v RECIP) xs) (rows_of (v DESIGN) sh.stored sh.p xs)

-- the transposed design times xs
unfoldable pub transposed_of : Sizes → Terms → List Float → Store → List Float → List Float
transposed_of sh t m v xs =
    cond sh.lazy (lazy_columns sh.n sh.p t m (v CENTRE) (v SCALE) (v RECIP) xs) (columns_of (v DESIGN) sh.stored sh.p xs)

-- sizes, places and a matrix that are right for a fit: a stored design has all its rows
pub record Held (sh : Sizes) (l : Places) (m s : List Float) : Type 0 where
  pub room : Room sh l s
  pub matrix : sh.n * sh.p ≤ length m
  pub rows : sh.n ≤ 4096
  pub columns : sh.p ≤ 64
  pub all : sh.k ≡ sh.n + sh.p
  pub stored : sh.lazy ≡ false → sh.stored ≡ sh.k
