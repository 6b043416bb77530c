-- 01's refusals 1 to 4 of every call of a fit, and 5 and 6 of a start, in this order. Definitions only.
use Rattle.refusal.specs.declared.Refusal.{Refusal}
use Rattle.std.specs.Prelude.{◌≡◌, Bool, cond, ◌&&◌, List, ◌++◌, ℕ, ◌*◌, ◌≤◌, T, leb, eqb, length, Float, Option, None, Some, Result, ⊤, Ok, Err}
use Rattle.arrays.specs.Scan.{first_infinite}
use Rattle.settings.specs.declared.Settings.{Settings}
use Rattle.settings.specs.Settings.{allowed_of}
use Rattle.layout.specs.Need.{need_of}
use Rattle.refusal.specs.declared.Refusal.TheVariants.{Size, Length, Setting, Scratch, Constant}
use Rattle.refusal.specs.Checks.{ask, ask_values}
use Rattle.refusal.specs.Sizes.{in_size}
use Rattle.design.specs.Statistics.{constant_of}

-- 1, 2, 3, 4; matrix, targets and weights by their lengths
unfoldable pub limits_of : ℕ → ℕ → ℕ → ℕ → ℕ → Settings → ℕ → Result ⊤ Refusal
limits_of n p xl yl wl st room =
    ask (in_size n p) Size
    (ask (eqb xl (n * p) && eqb yl n && eqb wl p) Length
    (ask (allowed_of st) Setting
    (ask (leb (need_of n p st) room) Scratch (Ok tt))))

-- the words of scratch that a fit needs; 0 where a size or a setting is out of range
unfoldable pub scratch_words : ℕ → ℕ → Settings → ℕ
scratch_words n p st = cond (in_size n p && allowed_of st) (need_of n p st) 0

abbrev pub ask_constant : Option ℕ → Result ⊤ Refusal
ask_constant None = Ok tt
ask_constant (Some j) = Err (Constant j)

-- 5, matrix and targets as one list, then 6 where the matrix is normalised
unfoldable pub start_values : List Float → List Float → ℕ → ℕ → Bool → Result ⊤ Refusal
start_values x y n p normalise = ask_values (first_infinite 0 (x ++ y)) (cond normalise (ask_constant (constant_of x n p)) (Ok tt))

-- what the other crates take from 1 to 4 where none holds
pub record Accepted (n p xl yl wl : ℕ) (st : Settings) (room : ℕ) : Type 0 where
  pub some-rows : 1 ≤ n
  pub rows : n ≤ 4096
  pub some-columns : 1 ≤ p
  pub columns : p ≤ 64
  pub matrix : xl ≡ n * p
  pub targets : yl ≡ n
  pub weights : wl ≡ p
  pub settings : T (allowed_of st)
  pub enough : need_of n p st ≤ room

-- matrix and targets of n rows and p columns
pub record Measured (x y : List Float) (n p : ℕ) : Type 0 where
  pub matrix : length x ≡ n * p
  pub targets : length y ≡ n
  pub rows : n ≤ 4096
  pub columns : p ≤ 64
