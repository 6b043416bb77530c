-- `lone_rounds::begin` meets its contract: each call's places lie apart in the eight vectors, and no call changes the scratch's length. Assumes nothing.
use mathlib.Core.Path.{◌∙◌, sym, ap}
use Rattle.arrays.proofs.Part.{part-all}
use Rattle.arrays.specs.Sums.{norm2_of}
use Rattle.arrays.proofs.Norms.{norm-two}
use Rattle.lone_rounds.proofs.Turning.{begins}
use Rattle.lone_rounds.proofs.begin.Goals as goal

pub diagonal-requires : goal.diagonal-requires
diagonal-requires c = c.requires.loops

pub returns : goal.returns
returns c =
    let g = c.args in
    let n = g.n in
    record {
      is = c.norm_2.ensures ∙ ap (norm2_of n) (part-all g.b.now n c.requires.b_len) ∙ sym (norm-two n g.b.now);
      left = begins n g.a.now g.s.now c.requires.loops.room g.b.now c.requires.b_len c.diagonal.ensures c.columns_of.ensures
          c.copy_from.ensures c.sub.ensures c.copy.ensures c.divide.ensures;
    }
