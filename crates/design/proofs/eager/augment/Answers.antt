-- `design::eager::augment` meets its contract: the rows of the matrix, and those of the padding below. Assumes nothing.
use Prim.Native.Nat.{ℕ, ◌+◌, ◌*◌}
use mathlib.Core.Bool.{Bool}
use mathlib.Core.Path.{◌≡◌, sym, ap, ◌∙◌}
use mathlib.Core.List.{List}
use native.Mathlib.Nat.{add-mul}
use native.Mathlib.Decide.{ℕ_discrete}
use native.Mathlib.Omega.{arith}
use borrow.Author.Tests.{lt-ltb, le-ltb, eq-eqb, ne_eqb}
use lib.Dec.{eqb}
use lib.Ieee.{Float}
use Rattle.arrays.specs.Part.{part, put}
use Rattle.arrays.proofs.Part.{put-append}
use Rattle.matrices.specs.Grid.{grid}
use Rattle.matrices.proofs.Grid.{grid-ext, grid-append, length-grid}
use Rattle.settings.specs.declared.Terms.{Terms}
use Rattle.layout.specs.declared.Sizes.{Sizes}
use Rattle.layout.specs.declared.Places.{Places}
use Rattle.layout.specs.Slots.{Slot.CENTRE, Slot.SCALE, Slot.DESIGN, Has, Room, vars, rest, words}
use Rattle.layout.proofs.Slots.{start, then}
use Rattle.design.specs.Eager.{design_at, design_of, design_store}
use Rattle.design.specs.Rows.{row_of, diagonal_at}
use Rattle.design.proofs.eager.augment.Goals as goal

eqb-shift : (n r j : ℕ) → eqb (n + r) (n + j) ≡ eqb r j
eqb-shift n r j = go (ℕ_discrete r j) where
  go : Dec (r ≡ j) → eqb (n + r) (n + j) ≡ eqb r j
  go (yes e) = eq-eqb (n + r) (n + j) (ap (λ (k : ℕ). n + k) e) ∙ sym (eq-eqb r j e)
  go (no h) = ne_eqb (n + r) (n + j) (λ q. h (omega arith)) ∙ sym (ne_eqb r j h)

words_of : (rows n p : ℕ) → rows ≡ n + p → rows * p ≡ n * p + p * p
words_of rows n p e = rw (e, add-mul)

module _ (normalise : Bool) (t : Terms) (n p : ℕ) (m ce sc : List Float) where
  matrix : grid (λ i. row_of normalise t.gamma m (i * p) ce sc) n p ≡ grid (design_at normalise t n p m ce sc) n p
  matrix = grid-ext _ _ n p (λ i j l k. rw (lt-ltb i n l))

  below : grid (diagonal_at t.padding) p p ≡ grid (λ r. design_at normalise t n p m ce sc (n + r)) p p
  below = grid-ext _ _ p p (λ r j l k. rw (le-ltb (n + r) n (omega arith), eqb-shift n r j))

  joined : (s : List Float) (out : ℕ) (s1 s2 : List Float) → s1 ≡ put s out (grid (λ i. row_of normalise t.gamma m (i * p) ce sc) n p)
      → s2 ≡ put s1 (out + n * p) (grid (diagonal_at t.padding) p p) → s2 ≡ put s out (design_of normalise t n p m ce sc)
  unfolding design_of
  joined s out s1 s2 e1 e2 =
      let f = design_at normalise t n p m ce sc in
      let low = grid (λ r. f (n + r)) p p in
      let e : s2 ≡ put (put s out (grid f n p)) (out + n * p) low = rw (e2, e1, matrix, below) in
      e ∙ ap (λ (k : ℕ). put (put s out (grid f n p)) (out + k) low) (sym (length-grid f n p))
      ∙ put-append s out (grid f n p) low ∙ ap (put s out) (grid-append f n p p)

stored : (sh : Sizes) (l : Places) (normalise : Bool) (t : Terms) (m s : List Float) → Room sh l s → sh.stored ≡ sh.n + sh.p → (u : List Float)
    → u ≡ put s l.design (design_of normalise t sh.n sh.p m (part s l.centre sh.p) (part s l.scale sh.p))
    → Has sh (rest sh s) (design_store sh normalise t m (vars sh s)) u
unfolding design_store design_of words
stored sh l normalise t m s r k u e =
    then sh (start sh s r.room) DESIGN (λ v. design_of normalise t sh.n sh.p m (v CENTRE) (v SCALE))
    (length-grid _ (sh.n + sh.p) sh.p ∙ ap (λ (x : ℕ). x * sh.p) (sym k))
    (rw (r.laid.at-design, r.laid.at-centre, r.laid.at-scale) at e)

pub rows-requires : goal.rows-requires
rows-requires c =
    let e = words_of c.args.sh.stored c.args.sh.n c.args.sh.p c.requires.stored_value in
    omega arith

pub padding-requires : goal.padding-requires
padding-requires c =
    let e = words_of c.args.sh.stored c.args.sh.n c.args.sh.p c.requires.stored_value in
    omega arith

pub returns : goal.returns
returns c =
    let g = c.args in
    let p = g.sh.p in
    let s = g.s.now in
    stored g.sh g.l g.normalise g.t g.m.now s c.requires.given.room c.requires.stored_value _
    (joined g.normalise g.t g.sh.n p g.m.now (part s g.l.centre p) (part s g.l.scale p) s g.l.design _ _
    c.rows.ensures c.padding.ensures)
