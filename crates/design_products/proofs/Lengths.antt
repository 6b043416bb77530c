-- A product with the design has an element to each row or each column, in either mode; and what holds of a memory holds of every one that is as long. Assumes
-- nothing.
use mathlib.Core.Path.{◌≡◌, refl, sym}
use mathlib.Core.Bool.{Bool, true, false}
use mathlib.Core.List.{List}
use Prim.Native.Nat.{◌+◌}
use native.Mathlib.Omega.{arith}
use lib.ListN.{length, length-append}
use lib.Ieee.{Float}
use Rattle.arrays.proofs.Part.{length-tab}
use Rattle.matrices.proofs.Lengths.{length-rows, length-columns}
use Rattle.settings.specs.declared.Terms.{Terms}
use Rattle.layout.specs.declared.Sizes.{Sizes}
use Rattle.layout.specs.declared.Places.{Places}
use Rattle.layout.specs.declared.fit.Fit.{Fit}
use Rattle.layout.specs.Slots.{Store, HasRoom, Suits}
use Rattle.layout.proofs.Fits.{room_of}
use Rattle.lazy_normalization.specs.Lazy.{lazy_rows, lazy_columns}
use Rattle.design_products.specs.Mode.{matvec_of, transposed_of, Held}

-- of the sizes alone
pub length-matvec-of : (sh : Sizes) → sh.k ≡ sh.n + sh.p → (sh.lazy ≡ false → sh.stored ≡ sh.k) → (t : Terms) (m : List Float) (v : Store) (xs : List Float)
    → length (matvec_of sh t m v xs) ≡ sh.k
unfolding matvec_of lazy_rows
length-matvec-of sh all stored t m v xs = go sh.lazy refl where
  go : (b : Bool) → sh.lazy ≡ b → length (matvec_of sh t m v xs) ≡ sh.k
  go true z = rw (z, length-append, length-tab _ sh.n, length-tab _ sh.p) (sym all)
  go false z = rw (z, length-rows) (stored z)

pub length-matvec : {sh : Sizes} {l : Places} {m s : List Float} → Held sh l m s → (t : Terms) (v : Store) (xs : List Float)
    → length (matvec_of sh t m v xs) ≡ sh.k
length-matvec {sh} {l} {m} h t v xs = length-matvec-of sh h.all h.stored t m v xs

pub length-transposed : (sh : Sizes) (t : Terms) (m : List Float) (v : Store) (xs : List Float) → length (transposed_of sh t m v xs) ≡ sh.p
unfolding transposed_of lazy_columns
length-transposed sh t m v xs = go sh.lazy refl where
  go : (b : Bool) → sh.lazy ≡ b → length (transposed_of sh t m v xs) ≡ sh.p
  go true z = rw (z, length-tab)
  go false z = rw (z, length-columns)

-- a fit whose sizes are right for its matrix is right for every memory that is long enough
pub held_of : (f : Fit) {s : List Float} → Suits f.sizes f.matrix.now → HasRoom f.sizes s → Held f.sizes f.places f.matrix.now s
held_of f suits long =
    record { room = room_of f long; matrix = suits.matrix; rows = suits.rows; columns = suits.columns; all = suits.all; stored = suits.stored }
