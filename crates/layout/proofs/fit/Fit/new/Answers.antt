-- `layout::fit::Fit::new` meets its contract. Assumes nothing.
use mathlib.Core.Path.{refl, sym, subst}
use Rattle.settings.proofs.Laws.{allowed-says}
use Rattle.layout.specs.Slots.{Panelled}
use Rattle.layout.proofs.Laws.{small-sizes, SizesAre, sizes-known, panelled}
use Rattle.layout.proofs.fit.Fit.new.Goals as goal

pub place-requires : goal.place-requires
place-requires c = rw c.sizes_of-sizes.ensures (small-sizes _ _ _ c.requires.n_bound c.requires.p_bound (allowed-says _ c.requires.allowed).panels)

pub invariant_of-result : goal.invariant_of-result
invariant_of-result c = record { laid = c.place.ensures }

pub returns-clause-suits : goal.returns-clause-suits
returns-clause-suits c =
    let a = c.args in
    let known = subst (SizesAre a.n a.p) (sym c.sizes_of-sizes.ensures) (sizes-known a.n a.p a.st) in
    record {
      matrix = rw (known.rows, known.columns) c.requires.lent;
      rows = rw known.rows c.requires.n_bound;
      columns = rw known.columns c.requires.p_bound;
      all = rw (known.all, known.rows, known.columns) refl;
      stored = known.stored;
    }

pub returns-clause-some_columns : goal.returns-clause-some_columns
returns-clause-some_columns c =
    let a = c.args in
    rw (subst (SizesAre a.n a.p) (sym c.sizes_of-sizes.ensures) (sizes-known a.n a.p a.st)).columns c.requires.some_columns

pub returns-clause-panelled : goal.returns-clause-panelled
returns-clause-panelled c =
    let a = c.args in
    subst Panelled (sym c.sizes_of-sizes.ensures) (panelled a.n a.p a.st (allowed-says a.st c.requires.allowed).panels)

pub returns-clause-small : goal.returns-clause-small
returns-clause-small c = rw c.sizes_of-sizes.ensures (small-sizes _ _ _ c.requires.n_bound c.requires.p_bound (allowed-says _ c.requires.allowed).panels)

pub returns-clause-limit_bound : goal.returns-clause-limit_bound
returns-clause-limit_bound c = (allowed-says c.args.st c.requires.allowed).max_iter
