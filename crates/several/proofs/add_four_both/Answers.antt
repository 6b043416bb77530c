-- `several::add_four_both` meets its contract: what it adds is read before anything is written. Assumes nothing.
use Prim.Native.Nat.{ℕ, ◌+◌}
use mathlib.Core.Path.{ap, ◌∙◌}
use native.Mathlib.Nat.{mul-one}
use native.Mathlib.Omega.{arith}
use Rattle.arrays.specs.Part.{put}
use Rattle.arrays.specs.Sums.{◌!◌}
use Rattle.several.proofs.Added.{added-read}
use Rattle.several.proofs.add_four_both.Goals as goal

pub add_products_both-requires : goal.add_products_both-requires
add_products_both-requires c = record { four = c.requires.four; n_in_bounds = c.requires.n_in_bounds }

pub returns : goal.returns
returns c =
    let g = c.args in
    let s = g.s.now in record {
      s_after = c.add_products_both.ensures.s_after
          ∙ ap (put _ _)
          (added-read _ _ _ _ (λ k. s ! (g.l + k)) _ _ _ _ _ c.four_at-x.ensures (λ k h. ap (λ (a : ℕ). s ! a) (omega (arith, mul-one k))));
      t_after = c.add_products_both.ensures.t_after
          ∙ ap (put _ _)
          (added-read _ _ _ _ (λ k. s ! (g.w + k)) _ _ _ _ _ c.four_at-z.ensures (λ k h. ap (λ (a : ℕ). s ! a) (omega (arith, mul-one k))));
    }
