-- `records::clean_scalars` meets its contract: `canonical` changes no number. Assumes nothing.
use Rattle.records.proofs.clean_scalars.Goals as goal

pub returns : goal.returns
returns c =
    rw (
      c.canonical.ensures,
      c.canonical-2.ensures,
      c.canonical-3.ensures,
      c.canonical-4.ensures,
      c.canonical-5.ensures,
      c.canonical-6.ensures,
      c.canonical-7.ensures,
      c.canonical-8.ensures,
      c.canonical-9.ensures,
    )
