-- No log is too long for its length to be answered.
use mathlib.Core.Path.{sym, subst}
use Rattle.certifier.specs.SimulateEntry.{CountableLog}
use Rattle.certifier.proofs.Laws.SimulateEntry.{answer-countable}
use Rattle.certifier.proofs.simulate_entry.certifier_simulate.Goals as goal

pub encode_simulated-requires : goal.encode_simulated-requires
encode_simulated-requires c = subst CountableLog (sym c.simulate_files.ensures.value) (answer-countable _ _ _ _ _)
