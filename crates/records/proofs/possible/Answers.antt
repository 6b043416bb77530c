-- `records::possible` meets its contract: each return is the first test that fails, stage by stage. Assumes nothing.
use borrow.Author.Tests.{lt-ltb, le-ltb, le-leb, lt-leb, eq-eqb, ne_eqb}
use Rattle.records.specs.Records.{possible_of, possible_at}
use Rattle.records.proofs.possible.Goals as goal

pub returns-then-r-limit : goal.returns-then-r-limit
unfolding possible_of possible_at
returns-then-r-limit c = rw (c.in-Opening.is, lt-ltb _ _ c.if-r-limit.true) c.counted.ensures

pub returns-then-limit-ne0 : goal.returns-then-limit-ne0
unfolding possible_of possible_at
returns-then-limit-ne0 c = rw (c.in-Opening.is, le-ltb _ _ c.if-r-limit.false, ne_eqb _ _ c.if-limit-ne0.true)

pub returns-then-r-ne0 : goal.returns-then-r-ne0
unfolding possible_of possible_at
returns-then-r-ne0 c = rw (c.in-Opening.is, le-ltb _ _ c.if-r-limit.false, eq-eqb _ _ c.if-limit-ne0.false, ne_eqb _ _ c.if-r-ne0.true)

pub returns-then-limit-r : goal.returns-then-limit-r
unfolding possible_of possible_at
returns-then-limit-r c = rw (c.in-Solving.is, le-ltb _ _ c.if-limit-r.true)

pub returns-then-k-lt1 : goal.returns-then-k-lt1
unfolding possible_of possible_at
returns-then-k-lt1 c = rw (c.in-Solving.is, lt-ltb _ _ c.if-limit-r.false, lt-leb _ _ c.if-k-lt1.true)

pub returns-then-k-gt4999 : goal.returns-then-k-gt4999
unfolding possible_of possible_at
returns-then-k-gt4999 c = rw (c.in-Solving.is, lt-ltb _ _ c.if-limit-r.false, le-leb _ _ c.if-k-lt1.false, lt-leb _ _ c.if-k-gt4999.true)

pub returns-then-limit-r-2 : goal.returns-then-limit-r-2
unfolding possible_of possible_at
returns-then-limit-r-2 c = rw (c.in-Searching.is, le-ltb _ _ c.if-limit-r-2.true)

pub returns-then-j-gt99 : goal.returns-then-j-gt99
unfolding possible_of possible_at
returns-then-j-gt99 c = rw (c.in-Searching.is, lt-ltb _ _ c.if-limit-r-2.false, lt-leb _ _ c.if-j-gt99.true)

pub returns-else-r-ne0 : goal.returns-else-r-ne0
unfolding possible_of possible_at
returns-else-r-ne0 c = rw (c.in-Opening.is, le-ltb _ _ c.if-r-limit.false, eq-eqb _ _ c.if-limit-ne0.false, eq-eqb _ _ c.if-r-ne0.false) c.counted-in-Opening.ensures

pub returns-else-k-gt4999 : goal.returns-else-k-gt4999
unfolding possible_of possible_at
returns-else-k-gt4999 c = rw (c.in-Solving.is, lt-ltb _ _ c.if-limit-r.false, le-leb _ _ c.if-k-lt1.false, le-leb _ _ c.if-k-gt4999.false) c.counted-in-Solving.ensures

pub returns-else-j-gt99 : goal.returns-else-j-gt99
unfolding possible_of possible_at
returns-else-j-gt99 c = rw (c.in-Searching.is, lt-ltb _ _ c.if-limit-r-2.false, le-leb _ _ c.if-j-gt99.false) c.counted-in-Searching.ensures

pub returns-in-Ended : goal.returns-in-Ended
unfolding possible_of possible_at
returns-in-Ended c = rw c.in-Ended.is
