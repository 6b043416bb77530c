-- The optimiser's data: the scalars between steps, and the vectors by name. Definitions only.
use Rattle.std.specs.Prelude.{Bool, Float}
use Rattle.layout.specs.Slots.{Store}
use Rattle.lasso_optimizer.specs.declared.Scalars.{Scalars}

pub data Data : Type 0 where
  held : Scalars → Store → Data

abbrev pub scalars_of : Data → Scalars
scalars_of (held a v) = a

abbrev pub store_of : Data → Store
store_of (held a v) = v

-- the scalars that an opening, a solver round, what follows the last one, and a failed trial set
abbrev pub opened : Scalars → Float → Float → Float → Float → Scalars
opened a t dual pcgtol bnrm = record {
  t = t;
  s = a.s;
  dual = dual;
  pcgtol = pcgtol;
  bnrm = bnrm;
  bkden = a.bkden;
  error = a.error;
  phi = a.phi;
  gdx = a.gdx;
  missed = a.missed;
}

abbrev pub with_round : Scalars → Float → Float → Scalars
with_round a error bkden = record {
  t = a.t;
  s = a.s;
  dual = a.dual;
  pcgtol = a.pcgtol;
  bnrm = a.bnrm;
  bkden = bkden;
  error = error;
  phi = a.phi;
  gdx = a.gdx;
  missed = a.missed;
}

abbrev pub aimed : Scalars → Float → Float → Float → Bool → Scalars
aimed a s phi gdx missed = record {
  t = a.t;
  s = s;
  dual = a.dual;
  pcgtol = a.pcgtol;
  bnrm = a.bnrm;
  bkden = a.bkden;
  error = a.error;
  phi = phi;
  gdx = gdx;
  missed = missed;
}

abbrev pub stepped : Scalars → Float → Scalars
stepped a s = aimed a s a.phi a.gdx a.missed
