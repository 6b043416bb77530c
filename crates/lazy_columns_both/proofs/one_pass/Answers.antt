-- `lazy_columns_both::one_pass` meets its contract: the sums of both, and what is made of them. Assumes nothing.
use mathlib.Core.Path.{refl, ◌∙◌}
use native.Mathlib.Omega.{arith}
use Rattle.arrays.proofs.Lengths.{length-zip}
use Rattle.lazy_normalization.proofs.Entries.{reads_on}
use Rattle.lazy_columns_both.proofs.Both.{added-length, sums_kept, finished, in_two}
use Rattle.lazy_columns_both.proofs.one_pass.Goals as goal

pub sums-requires : goal.sums-requires
sums-requires c = c.requires

pub overflow_add-v : goal.overflow_add-v
overflow_add-v c = omega (arith, c.requires.first.vector)

pub augment-requires : goal.augment-requires
augment-requires c =
    let pre = c.requires.first in
    record {
      room = omega arith;
      first = omega arith;
      second = omega arith;
      clear = λ _ _. refl;
      clear2 = λ l k. absurd (omega (arith, pre.off-vector (omega arith)));
    }

pub times-requires : goal.times-requires
times-requires c = record { room = omega arith; first = omega arith; clear = λ _ _. refl }

pub overflow_add-w : goal.overflow_add-w
overflow_add-w c = omega (arith, c.requires.second.vector)

pub add_scaled_from-requires : goal.add_scaled_from-requires
add_scaled_from-requires c =
    let pre = c.requires.second in
    record { n_in_bounds = omega arith; n_in_bounds_2 = omega arith }

pub returns : goal.returns
returns c =
    let g = c.args in
    let own = c.sums.ensures.s_after in
    let added = added-length g.n g.p g.m.now in record {
      s_after = finished g.m.now g.n g.p g.s.now g.l g.v g.t _ _ _ _ c.requires.first.room own _ (sums_kept c.requires.first _ (added _ _ _ _ _) own) c.augment.ensures;
      y_after = finished g.m.now g.n g.p g.s.now g.l g.w g.t _ _ _ 0 (omega arith) c.sums.ensures.y_after _
          (sums_kept (reads_on c.requires.second (omega arith)) _ (length-zip _ _ _ _) c.augment.ensures ∙ sums_kept c.requires.second _ (added _ _ _ _ _) own)
          (in_two g.t g.p _ _ _ _ (omega arith) c.times.ensures c.add_scaled_from.ensures);
    }
