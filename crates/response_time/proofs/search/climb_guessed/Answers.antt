-- The placed frames hold what the scenario with guesses holds, where every alignment is fixed.
use Prim.Native.Nat.{ℕ, ◌-◌}
use mathlib.Core.Path.{◌≡◌, ap, ◌∙◌}
use mathlib.Core.Bool.{Bool}
use native.Mathlib.Nat.{sub-zero}
use borrow.Author.Rules.{rules}
use lib.ListN.{take}
use Rattle.arith.specs.Least.{least}
use Rattle.workload.specs.Placed.{placed_in, placed_out}
use Rattle.workload.proofs.Laws.Placed.{placed-fine}
use Rattle.greatest_work.specs.Setting.{frames, ready, listed}
use Rattle.response_time.specs.Laws.Searches.{placed-search, base-small}
use Rattle.response_time.proofs.search.climb_guessed.Goals as goal
use Rattle.response_time.proofs.search.climb_guessed.Goals.{After-place-to}

pub place-to-requires : goal.place-to-requires
place-to-requires c = let p = (ready c.args.setting.now c.requires.remembered) in record { filled = p.prepared.filled; fine_target = p.target; area_len = search rules }

pub waits_of-requires : goal.waits_of-requires
waits_of-requires c = record { fine_target = c.args.setting.now.posed.target; search_bound = base-small c.args.setting.now.posed.prepared.filled.table (listed c.args.setting.now) c.args.choices c.args.search c.requires.asked c.args.setting.now.posed.blocked }

-- the frames are those of the scenario with guesses
placed : (c : After-place-to) → placed_in (take (c.place-to.result - 0) c.place-to.new.area) ≡ placed_out (frames c.args.setting.now) c.args.setting.now.target c.args.search c.guessed-finer.result
placed c = rw sub-zero c.place-to.ensures.area_after

pub climb-requires : goal.climb-requires
climb-requires c =
    record { fine_placed = rw (placed (goal.at.climb-requires c).After-place-to) (placed-fine c.args.setting.now.posed.prepared.filled.table c.args.setting.now.posed.target c.args.search c.guessed-finer.result); shift_bound = (c.shift_of.ensures.small, c.waits_of.ensures.small, c.requires.end_bound) }

pub returns : goal.returns
returns c =
    let same = placed-search c.args.setting.now.posed.prepared.filled.table c.args.setting.now.posed.target c.args.setting.now.posed.blocked c.args.setting.now.posed.cost c.guessed-finer.result c.guessed-finer.ensures.fixed c.args.search (placed (goal.at.returns c).After-place-to) c.shift_of.ensures.value c.waits_of.ensures.value in
    (c.guessed-finer.result, c.guessed-finer.ensures.refined_by, c.climb.ensures ∙ ap (λ (p : ℕ → Bool). least p (c.args.end - c.args.from) c.args.from) same)
