-- `layout::sizes_of` meets its contract. Assumes nothing.
use Rattle.layout.specs.Need.{sizes_of}
use Rattle.layout.proofs.sizes_of.Goals as goal

pub returns-then-st : goal.returns-then-st
unfolding sizes_of
returns-then-st c = rw c.if-st.true

pub returns : goal.returns
unfolding sizes_of
returns c = rw c.if-st.false
