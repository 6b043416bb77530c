-- `lazy_gram::column` meets its contract: the pairs with earlier columns, then the left panel with itself. Assumes nothing.
use mathlib.Core.Path.{◌≡◌}
use Prim.Native.Nat.{◌-◌, ◌*◌}
use native.Mathlib.Omega.{arith}
use Rattle.gram_panels.specs.Panels.{least}
use Rattle.lazy_gram.proofs.Nest.{column-pairs, column-block, column-turn}
use Rattle.lazy_gram.proofs.column.Goals as goal

pub pairs-requires : goal.pairs-requires
pairs-requires c = column-pairs c.requires.lie c.args.jb c.requires.inside (omega (arith, c.min-nj.ensures)) c.fill_panel.ensures

pub block-requires : goal.block-requires
block-requires c =
    column-block c.requires.lie c.args.jb c.requires.inside (omega (arith, c.min-nj.ensures)) c.fill_panel.ensures _ c.pairs.ensures

pub returns : goal.returns
returns c =
    let g = c.args in
    let e : c.min-nj.result ≡ least (g.b.p - g.jb * g.pl.cc) g.pl.cc = omega (arith, c.min-nj.ensures) in
    rw e at (column-turn c.requires.lie g.jb c.requires.inside e c.fill_panel.ensures _ _ c.pairs.ensures c.block.ensures)
