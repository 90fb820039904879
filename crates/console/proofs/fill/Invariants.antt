-- Each turn reads a part of what is left of the buffer; what was read stands at its start.
use Rattle.std.proofs.Common.{◌-◌, length, ◌≡◌, ◌≤◌, take}
use Rattle.std.specs.Io.KnownBytes.{Consumes}
use Rattle.console.proofs.fill.Given as goal

abbrev pub invariant-loop-done : goal.invariant-loop-done
invariant-loop-done g l = record {
  size : l.end ≡ length l.buffer;
  within : l.done ≤ l.end;
  taken : Consumes (g.R.Read.remaining l.initial.stream) (g.R.Read.remaining l.stream) (take l.done l.buffer);
}

abbrev pub decreases-loop-done : goal.decreases-loop-done
decreases-loop-done g l = l.end - l.done
