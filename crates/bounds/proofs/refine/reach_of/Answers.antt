-- By the limit: the one given, or the window that is found.
use Rattle.std.proofs.Common.{◌≡◌, ap, ◌∙◌, arith}
use Rattle.arith.specs.Least.{or_zero}
use Rattle.response_time.specs.Laws.Searches.{window-small}
use Rattle.bounds.proofs.refine.reach_of.Goals as goal
use Rattle.bounds.proofs.refine.reach_of.Goals.{in-Some, in-None}

pub reach_before-requires : goal.reach_before-requires
reach_before-requires c =
    elim c.match-limit.branch [
      | in-Some w ↦ rw w.end-is (rw w.in-Some.is at c.requires.limits)
      | in-None w ↦
          let (l, is) = c.requires.by_index in
          let long : w.unwrap_or-end.result ≡ l = w.unwrap_or-end.ensures ∙ ap or_zero (w.busy_window.ensures.value ∙ is) in
          rw w.end-is (record { window = l; is = is; within = omega (arith, long); small = omega (arith, long, window-small _ _ _ _ is) })
    ]
