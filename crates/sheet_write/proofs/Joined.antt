-- Lists joined one behind another: one list more, the length of all, the numbers in each list where it stands; and lists that are written one behind another.
-- Assumes nothing.
use mathlib.Core.Path.{◌≡◌, refl, ap, ◌∙◌}
use mathlib.Core.Logic.{⊎_elim}
use mathlib.Core.List.{List, [], ◌++◌}
use Prim.Native.Nat.{ℕ, zero, suc, ◌+◌, ◌*◌, ◌≤◌, ◌<◌}
use native.Mathlib.Nat.{zero-mul, suc-mul, le_of_suc-le-suc, eq-or-lt_of_le}
use native.Mathlib.Numerals.{add-one}
use native.Mathlib.Omega.{arith}
use lib.ListN.{length, get_or, length-append, get_or-append}
use lib.Seq.{get_or-append-add}
use Rattle.arrays.specs.Part.{put}
use Rattle.arrays.proofs.Part.{put-none, put-append}
use Rattle.matrices.proofs.Lengths.{row_room}
use Rattle.big_endian.specs.Bytes.{big_endian, bytes_of}
use Rattle.big_endian.proofs.Bytes.{length-bytes, same_bytes}
use Rattle.sheet_write.specs.Write.{joined}

joined-none : (f : ℕ → List ℕ) → joined f 0 ≡ []
unfolding joined
joined-none f = refl

joined-more : (f : ℕ → List ℕ) (k : ℕ) → joined f (k + 1) ≡ joined f k ++ f k
unfolding joined
joined-more f k = rw add-one

-- ---- lists of one length

module _ (f : ℕ → List ℕ) (w : ℕ) (each : (i : ℕ) → length (f i) ≡ w) where
  pub joined-long : (k : ℕ) → length (joined f k) ≡ k * w
  unfolding joined
  joined-long zero = rw zero-mul
  joined-long (suc k) = length-append (joined f k) (f k) ∙ rw (joined-long k, each k, suc-mul)

  joined_at : (n i j : ℕ) → i < n → j < w → get_or (joined f n) (i * w + j) 0 ≡ get_or (f i) j 0
  unfolding joined
  joined_at zero i j h l = absurd (omega arith)
  joined_at (suc n) i j h l =
      ⊎_elim
      (λ (e : i ≡ n). rw (e, ← joined-long n) (get_or-append-add (joined f n) (f n) j 0))
      (λ (k : i < n). get_or-append (joined f n) (f n) 0 (i * w + j) (omega (arith, joined-long n, row_room i n w k)) ∙ joined_at n i j k l)
      (eq-or-lt_of_le (le_of_suc-le-suc h))

  -- a number that lies within list i
  pub joined_number : (n i at k : ℕ) → i < n → at + k ≤ w → big_endian (joined f n) (i * w + at) k ≡ big_endian (f i) at k
  joined_number n i at k h l =
      same_bytes (joined f n) (f i) (i * w + at) at k
      (λ j m. ap (λ (a : ℕ). get_or (joined f n) a 0) (place j) ∙ joined_at n i (at + j) h (omega arith))
    where
      place : (j : ℕ) → i * w + at + j ≡ i * w + (at + j)
      place j = omega arith

-- ---- written

-- ys right behind xs
pub put_then : {s' s'' : List ℕ} {at' : ℕ} (s : List ℕ) (at : ℕ) (xs ys : List ℕ) → s' ≡ put s at xs → at' ≡ at + length xs → s'' ≡ put s' at' ys
    → s'' ≡ put s at (xs ++ ys)
put_then s at xs ys e a h = h ∙ rw (e, a) (put-append s at xs ys)

-- ys right behind a number in k bytes
pub bytes-then : {s' s'' : List ℕ} {at' : ℕ} (s : List ℕ) (at k v : ℕ) (ys : List ℕ) → s' ≡ put s at (bytes_of k v) → at' ≡ at + k → s'' ≡ put s' at' ys
    → s'' ≡ put s at (bytes_of k v ++ ys)
bytes-then s at k v ys e a h = put_then s at (bytes_of k v) ys e (rw (length-bytes k v) a) h

pub joined-begun : (s : List ℕ) (at : ℕ) (f : ℕ → List ℕ) → s ≡ put s at (joined f 0)
joined-begun s at f = rw (joined-none f, put-none s at)

-- f k right behind those before it, which are of w bytes each
pub joined-put : {s' s'' : List ℕ} {at' : ℕ} (s : List ℕ) (at : ℕ) (f : ℕ → List ℕ) (w k : ℕ) → ((j : ℕ) → length (f j) ≡ w)
    → s' ≡ put s at (joined f k) → at' ≡ at + k * w → s'' ≡ put s' at' (f k) → s'' ≡ put s at (joined f (k + 1))
joined-put s at f w k l e a h = rw (joined-more f k) (put_then s at (joined f k) (f k) e (rw (joined-long f w l k) a) h)
