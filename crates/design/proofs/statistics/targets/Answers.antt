-- `design::statistics::targets` meets its contract: the two writes are one, and the mean is over all of it. Assumes nothing.
use Prim.Native.Nat.{ℕ, ◌+◌, ◌≤◌}
use mathlib.Core.Path.{◌≡◌, refl, sym, ap, ◌∙◌}
use mathlib.Core.List.{List, ◌++◌}
use native.Mathlib.Omega.{arith}
use lib.ListN.{length, length-append}
use lib.Ieee.{Float}
use Rattle.numbers.specs.Ops.{◌⊖◌}
use Rattle.arrays.specs.Part.{part, put}
use Rattle.arrays.proofs.Part.{put-append, length_part, part-put-same, put-put-same}
use Rattle.arrays.specs.Sums.{plus0, mean_of}
use Rattle.arrays.specs.Vectors.{fill_of, map_of}
use Rattle.arrays.proofs.Lengths.{length-fill, length-map}
use Rattle.layout.specs.Slots.{Slot.Y, Has, vars, rest, words}
use Rattle.layout.proofs.Slots.{start, then}
use Rattle.layout.specs.declared.Sizes.{Sizes}
use Rattle.layout.specs.declared.Places.{Places}
use Rattle.design.specs.Statistics.{centred_of, targets_store, Targets}
use Rattle.design.proofs.statistics.targets.Goals as goal

module _ (s ys : List Float) (out n p : ℕ) (long : length ys ≡ n) (room : out + (n + p) ≤ length s) where
  -- the targets, and the zeros after them
  all : List Float
  all = part ys 0 n ++ fill_of plus0 p

  length-all : length all ≡ n + p
  unfolding all
  length-all = length-append (part ys 0 n) (fill_of plus0 p) ∙ rw (length_part ys 0 n (omega arith), length-fill)

  joined : (s1 s2 : List Float) → s1 ≡ put s out (part ys 0 n) → s2 ≡ put s1 (out + n) (fill_of plus0 p) → s2 ≡ put s out all
  unfolding all
  joined s1 s2 e1 e2 =
      e2 ∙ rw e1 (ap (λ (k : ℕ). put (put s out (part ys 0 n)) (out + k) (fill_of plus0 p)) (sym (length_part ys 0 n (omega arith))))
      ∙ put-append s out (part ys 0 n) (fill_of plus0 p)

  centred : (s2 s3 : List Float) (k : ℕ) (mu : Float) → k ≡ n + p → s2 ≡ put s out all → mu ≡ mean_of k (part s2 out k)
      → s3 ≡ put s2 out (map_of (λ (v : Float). v ⊖ mu) k (part s2 out k)) → s3 ≡ put s out (centred_of n p ys)
  unfolding all centred_of
  centred s2 s3 k mu ek e2 em e3 =
      let whole : part s2 out k ≡ all = rw (e2, ek) (part-put-same s out all (n + p) length-all room) in
      let e : s3 ≡ put (put s out all) out (map_of (λ (v : Float). v ⊖ mean_of (n + p) all) (n + p) all) = rw (e3, em, whole, ek, e2) in
      e ∙ put-put-same s out all _ (omega (arith, length-all, length-map (λ (v : Float). v ⊖ mean_of (n + p) all) (n + p) all))

stored : (sh : Sizes) (l : Places) (ys s : List Float) → Targets sh l ys s → (t : List Float) → t ≡ put s l.y (centred_of sh.n sh.p ys)
    → Has sh (rest sh s) (targets_store sh ys (vars sh s)) t
unfolding targets_store centred_of words
stored sh l ys s pre t e =
    then sh (start sh s pre.room.room) Y (λ u. centred_of sh.n sh.p ys) (length-map _ _ _ ∙ sym pre.all)
    (e ∙ ap (λ (a : ℕ). put s a (centred_of sh.n sh.p ys)) pre.room.laid.at_y)

pub sub_scalar-requires : goal.sub_scalar-requires
sub_scalar-requires c = record { room = omega arith; first = omega arith; clear = λ l k. refl }

pub returns : goal.returns
returns c =
    let g = c.args in
    let n = g.sh.n in
    let p = g.sh.p in
    let room : g.l.y + (n + p) ≤ length g.s.now = omega (arith, c.requires.room.laid.at_y) in
    let long = c.requires.targets in
    let e2 = joined g.s.now g.y.now g.l.y n p long room _ _ c.copy_from.ensures c.fill.ensures in
    stored g.sh g.l g.y.now g.s.now c.requires _
    (centred g.s.now g.y.now g.l.y n p long room _ _ g.sh.k _ c.requires.all e2 c.mean-mu.ensures c.sub_scalar.ensures)
