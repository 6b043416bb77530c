-- How long the head, a row, all rows and the body are. Assumes nothing.
use mathlib.Core.Path.{◌≡◌, ◌∙◌}
use mathlib.Core.List.{List}
use Prim.Native.Nat.{ℕ, ◌+◌, ◌*◌}
use native.Mathlib.Omega.{arith}
use lib.ListN.{length, get_or, length-append}
use lib.Ieee.{Float}
use Rattle.arrays.specs.Sums.{◌!◌}
use Rattle.settings.specs.declared.Settings.{Settings}
use Rattle.big_endian.specs.Bytes.{float_bytes}
use Rattle.big_endian.proofs.Bytes.{length-bytes}
use Rattle.sheet_header.specs.Header.{row-bytes, row_at}
use Rattle.sheet_write.specs.Write.{Given, joined, head_bytes, row_bytes, rows_bytes, body_bytes}
use Rattle.sheet_write.proofs.Joined.{joined-long}

pub head-long : (n p : ℕ) (st : Settings) → length (head_bytes n p st) ≡ 33
unfolding head_bytes
head-long n p st = simp (length-append, length-bytes)

pub features-long : (x : List Float) (from p : ℕ) → length (joined (λ j. float_bytes (x ! (from + j))) p) ≡ p * 8
features-long x from p = joined-long (λ j. float_bytes (x ! (from + j))) 8 (λ j. length-bytes 8 _) p

pub row-long : (p source target : ℕ) (x : List Float) (from : ℕ) (score : Float) → length (row_bytes p source target x from score) ≡ row-bytes p
unfolding row_bytes
row-long p source target x from score = simp (length-append, length-bytes, features-long) (omega arith)

rows_long : (p : ℕ) (sources targets : List ℕ) (x y : List Float) (n : ℕ) → length (rows_bytes p sources targets x y n) ≡ n * row-bytes p
rows_long p sources targets x y n =
    joined-long (λ i. row_bytes p (get_or sources i 0) (get_or targets i 0) x (i * p) (y ! i)) (row-bytes p) (λ i. row-long p _ _ x _ _) n

pub body-long : (g : Given) → length (body_bytes g) ≡ row_at g.p g.n
unfolding body_bytes
body-long g =
    length-append (head_bytes g.n g.p g.settings) (rows_bytes g.p g.sources g.targets g.x g.y g.n)
    ∙ rw (head-long g.n g.p g.settings, rows_long g.p g.sources g.targets g.x g.y g.n)
