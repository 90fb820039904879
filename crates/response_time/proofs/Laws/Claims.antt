-- The loop over the instances to the first whose response exceeds a claim, turn by turn.
use Prim.Native.Nat.{ℕ, ◌+◌, ◌-◌, ◌*◌, ◌≤◌, ◌<◌, min}
use Rattle.std.specs.Prelude.{◌≡◌, List, Option, Some, None}
use Rattle.std.proofs.Math.Path.{sym}
use native.Mathlib.Omega.{arith}
use Rattle.std.proofs.Math.Decide.{dec_lt}
use Rattle.std.proofs.Math.Numerals.{add-one}
use Rattle.arith.specs.Least.{least, or_zero}
use Rattle.bus_model.specs.declared.Frame.{Frame}
use Rattle.bus_model.specs.declared.Faults.{Faults}
use Rattle.bus_model.specs.declared.Choice.{Choice}
use Rattle.bus_model.specs.Bounds.{own_distance, instance_response}
use Rattle.bus_model.specs.Case.{exceeding_instance}
use Rattle.bus_model.proofs.Theory.Cases.{exceeding-is, exceeding-none}
use Rattle.bus_model.proofs.Theory.Response.{response-at}
use Rattle.workload.specs.declared.Search.TheVariants.{Instance}
use Rattle.response_time.specs.Load.{holds, Windowed}
use Rattle.response_time.specs.Laws.Searches.{InstanceLoop, loop-start, loop-skip, loop-end}
use Rattle.response_time.proofs.Laws.Instances.{loop-response, loop-more}

-- Instance q is next: no response before it exceeds the claim.
pub record ClaimLoop (faults : Faults) (fs : List Frame) (k : Frame) (cs : List Choice) (l instances claim from q : ℕ) : Type 0 where
  pub turn : InstanceLoop faults fs k cs l instances claim claim from q
  pub within : (i : ℕ) → i < q → instance_response faults fs k cs i ≤ claim

module _ {faults : Faults} {fs : List Frame} {k : Frame} {cs : List Choice} {l instances claim : ℕ} (v : Windowed faults fs k cs l instances) where
  pub claim-start : ClaimLoop faults fs k cs l instances claim 0 0
  claim-start = record { turn = loop-start v; within = λ i less. absurd (omega arith) }

  module _ {from q : ℕ} (turn : ClaimLoop faults fs k cs l instances claim from q) where
    -- Some that do not exceed it are passed over.
    pub claim-skip : (c : ℕ) → ((i : ℕ) → i < c → instance_response faults fs k cs (q + i) ≤ claim) → ClaimLoop faults fs k cs l instances claim from (min (q + c) instances)
    claim-skip c each =
        record {
          turn = loop-skip c turn.turn each;
          within = λ i less. elim (dec_lt i q) [
            | yes before ↦ turn.within i before
            | no after ↦ let is : q + (i - q) ≡ i = omega arith in rw is at (each (i - q) (omega arith))
          ];
        }

    -- Where the last one is passed, there is none.
    pub claim-end : instances ≤ q → None ≡ exceeding_instance faults fs k claim cs
    claim-end over = let all = loop-end turn.turn over in sym (exceeding-none faults fs k claim cs (omega (arith, response-at faults fs k cs l v.window)))

    module _ (inside : q < instances) {delay : ℕ} {found : Option ℕ} (search : found ≡ least (holds faults fs k cs (Instance q)) (1000000 - from) from) (is : delay ≡ or_zero found)
        {response : ℕ} (response-is : response ≡ delay + k.length - (own_distance k cs + q * k.period)) where
      -- The first that exceeds it is found,
      pub claim-here : claim < response → Some (q + 1) ≡ exceeding_instance faults fs k claim cs
      claim-here more =
          let its = loop-response v turn.turn inside search is response-is in
          sym (rw (add-one q) (exceeding-is faults fs k claim cs l v.window q (rw v.number at inside) (omega arith) turn.within))

      -- and one that does not is counted.
      pub claim-more : response ≤ claim → ClaimLoop faults fs k cs l instances claim (delay + k.length) (q + 1)
      claim-more le =
          let its = loop-response v turn.turn inside search is response-is in
          let last : (i : ℕ) → i ≡ q → instance_response faults fs k cs i ≤ claim = λ i same. rw same (omega arith) in
          record {
            turn = loop-more v turn.turn inside search is response-is (omega arith);
            within = λ i less. elim (dec_lt i q) [
              | yes before ↦ turn.within i before
              | no after ↦ last i (omega arith)
            ];
          }
