-- `console::read_full`: what is read so far is what the input has lost. The bytes that are left to fill are the measure.
use Rattle.std.proofs.Common.{length, ◌-◌, ◌≡◌, take, ◌<◌, ◌≤◌, ◌^◌}
use Rattle.std.specs.Io.KnownBytes.{Consumes}
use Rattle.console.proofs.read_full.Given as goal

abbrev pub invariant-loop-done : goal.invariant-loop-done
invariant-loop-done g l =
    (length l.buf ≡ length l.initial.buf)
    × (l.done ≤ length l.buf)
    × (length l.buf < 2 ^ 64)
    × Consumes (g.R.Read.remaining l.fn.input) (g.R.Read.remaining l.input) (take l.done l.buf)

abbrev pub decreases-loop-done : goal.decreases-loop-done
decreases-loop-done g l = length l.initial.buf - l.done
