-- `sheet::is_cancelled` meets its contract. Assumes nothing.
use Rattle.sheet.proofs.is_cancelled.Goals as goal

pub returns : goal.returns
returns c = rw (c.two_bytes.ensures.0, c.row_at.ensures)
