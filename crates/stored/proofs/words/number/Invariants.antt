-- `stored::words::number` meets its contract. The loop's invariant: the digits passed make n, and the word is what the digits that are left write behind n.
-- Assumes nothing.
use Rattle.std.proofs.Common.{◌≡◌, ◌^◌, ◌<◌, drop}
use Rattle.stored.specs.Words.{hex_from}
use Rattle.stored.proofs.words.number.Given as goal

abbrev pub invariant-loop-b : goal.invariant-loop-b
invariant-loop-b l = record {
  fits : l.n < 16 ^ l.b-index;
  word : hex_from 0 l.digits ≡ hex_from l.n (drop l.b-index l.digits);
}
