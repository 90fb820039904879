-- The loop over the instances, turn by turn.
use Prim.Native.Nat.{ℕ, ◌+◌, ◌-◌, ◌*◌, ◌≤◌, ◌<◌, max}
use Rattle.std.specs.Prelude.{◌≡◌, List, Option}
use Rattle.std.proofs.Math.Path.{ap}
use Rattle.std.proofs.Common.{◌∙◌}
use Rattle.arith.specs.Least.{least, or_zero}
use Rattle.arith.specs.Laws.Walks.{count-more, greatest-more}
use Rattle.bus_model.specs.declared.Frame.{Frame}
use Rattle.bus_model.specs.declared.Faults.{Faults}
use Rattle.bus_model.specs.declared.Choice.{Choice}
use Rattle.bus_model.specs.Bounds.{own_distance, instance_response}
use Rattle.workload.specs.declared.Search.TheVariants.{Instance}
use Rattle.response_time.specs.Load.{holds, Windowed}
use Rattle.response_time.specs.Laws.Searches.{InstanceLoop, loop-later}
use Rattle.response_time.specs.Laws.Searches.{loop-fits as fits-below}
use Rattle.response_time.specs.Laws.Searches.{loop-ends as ends-below}
use Rattle.response_time.specs.Laws.Searches.{loop-response as response-found}

module _ {faults : Faults} {fs : List Frame} {k : Frame} {cs : List Choice} {l instances : ℕ} (v : Windowed faults fs k cs l instances) where
  module _ {given best from q : ℕ} (turn : InstanceLoop faults fs k cs l instances given best from q) (inside : q < instances) where
    -- Its release is below the limit,
    pub loop-fits : own_distance k cs + q * k.period < 1000000
    loop-fits = fits-below v q inside

    -- and its delay is found by the search from `from` on.
    module _ {delay : ℕ} {found : Option ℕ} (search : found ≡ least (holds faults fs k cs (Instance q)) (1000000 - from) from) (is : delay ≡ or_zero found) where
      -- It ends below the limit,
      pub loop-ends : delay + k.length ≤ 1000000
      loop-ends = ends-below v turn.later inside search is

      -- its response runs from its release to there,
      pub loop-response : {response : ℕ} → response ≡ delay + k.length - (own_distance k cs + q * k.period) → response ≡ instance_response faults fs k cs q
      loop-response response-is = response-found v turn.later inside search is response-is

      -- and with its response counted the next one's turn is there.
      pub loop-more : {next response : ℕ} → response ≡ delay + k.length - (own_distance k cs + q * k.period) → next ≡ max best response
          → InstanceLoop faults fs k cs l instances given next (delay + k.length) (q + 1)
      loop-more response-is next-is =
          record {
            counts = count-more _ _ _ _ turn.counts inside (greatest-more _ best q (next-is ∙ ap (max best) (loop-response response-is)));
            later = loop-later v turn.later inside search is;
          }
