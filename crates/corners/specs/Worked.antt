-- Beside 01's corners a table of its own: a fit that converges, with the bits of the fixed oracle. Definitions only.
use Rattle.std.specs.Prelude.{List, [], ◌∷◌}
use Rattle.numbers.specs.Ops.{f64}
use Rattle.elastic_net.specs.ElasticNet.{converged}
use Rattle.corners.specs.Corners.{Input, Ends, Row, fit, counts}

-- features 1 and -1, scores -1 and 5, alpha 2, l1_ratio 0.25, tol 0.0625 and at most 10 rounds
abbrev pub small-input : Input
small-input = record {
  n = 2;
  p = 1;
  alpha = 0x4000_0000_0000_0000;
  ratio = 0x3fd0_0000_0000_0000;
  tol = 0x3fb0_0000_0000_0000;
  max_iter = 10;
  matrix = 0x3ff0_0000_0000_0000 ∷ 0xbff0_0000_0000_0000 ∷ [];
  targets = 0xbff0_0000_0000_0000 ∷ 0x4014_0000_0000_0000 ∷ [];
}

-- lambda is 0.5; four openings, five solver rounds, four trials; the intercept is 2 and the weight -1.577
abbrev pub small-end : Ends
small-end = record {
  lambda = 0x3fe0_0000_0000_0000;
  answer = converged (f64 0x4000_0000_0000_0000) (counts 4 5 4);
  counts = counts 4 5 4;
  weights = 0xbff9_3d41_1150_1a64 ∷ [];
}

abbrev pub worked : List Row
worked = fit small-input small-end ∷ []
