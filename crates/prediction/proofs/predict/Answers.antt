-- `prediction::predict` meets its contract: a check that passes gives what `rows` asks. Assumes nothing.
use Rattle.prediction.proofs.Checks.{passed}
use Rattle.prediction.proofs.predict.Goals as goal

pub rows-requires : goal.rows-requires
rows-requires c =
    let g = passed _ _ _ _ _ _ c.check.result c.check.ensures c.in_ok-check.was in
    record { x_len = g.1.matrix; w_len = g.1.weights; out_len = g.1.predictions; n_bound = g.0.rows; p_bound = g.0.columns }
