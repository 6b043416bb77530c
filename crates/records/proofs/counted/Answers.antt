-- `records::counted` meets its contract: each return is the first test that fails. Assumes nothing.
use borrow.Author.Tests.{le-leb, lt-leb, eq-eqb, ne_eqb}
use Rattle.records.specs.Records.{counted_of}
use Rattle.records.proofs.counted.Goals as goal

pub returns-then-a-opened : goal.returns-then-a-opened
unfolding counted_of
returns-then-a-opened c = rw (ne_eqb _ _ c.if-a-opened.true)

pub returns-then-opened-b : goal.returns-then-opened-b
unfolding counted_of
returns-then-opened-b c = rw (eq-eqb _ _ c.if-a-opened.false, lt-leb _ _ c.if-opened-b.true)

pub returns : goal.returns
unfolding counted_of
returns c = rw (eq-eqb _ _ c.if-a-opened.false, le-leb _ _ c.if-opened-b.false)
