-- What computing an example unfolds: the definitions of arith and of this crate, in one name.
-- A proof that says `unfolding everything` sees through all of them.
use Rattle.std.specs.Prelude.{ℕ, is_none}
use mathlib.Core.List.{flat_map}
use Rattle.arith.specs.Lists.{sum, product, greatest, keep, exists, range, combinations}
use Rattle.arith.specs.Least.{least, or_zero}
use Rattle.arith.specs.Releases.{releases_before}
use Rattle.arith.specs.Multiples.{euclid, gcd, lcm, lcm_of}
use Rattle.bus_model.specs.Pattern.{of_group, hyperperiod, pattern_releases}
use Rattle.bus_model.specs.Bounds.{window_limit, ahead, better, below, blocking, fault_time, fault_load, phase, is_released_at, alignments, distance, or_empty, choices, scenarios, demand, work_at, group_work, work, window_load, busy_window, delay_load, queueing_delay, own_distance, instance_response, response_time, scenario_response, bound_of, scenario_count}
use Rattle.bus_model.specs.Levels.{fixing_order, fixed_at, level_bound, level_count}
use Rattle.bus_model.specs.Case.{or_else, alignments_of, instance_of, shown, exceeding_instance, case_in, first_among, first_case, case_of}
use Rattle.bus_model.specs.Judgement.{scenario_limit, lacks_window, too_many_scenarios, deepest_level, precise_outcome, crowded_outcome, refined_outcome, windowed_outcome, outcome_of, bound_used, margin_of, judge}
use Rattle.bus_model.specs.Worst.{last_row, all_early, worst_case, meeting_tick, starts_of, worst_starts, instance_from, worst_instance}

-- its value is of no use
unfoldable pub everything : ℕ
unfolding flat_map sum product greatest keep exists range combinations least releases_before euclid gcd lcm lcm_of phase window_limit ahead better below blocking fault_time fault_load of_group hyperperiod pattern_releases is_released_at alignments distance or_empty choices scenarios demand work_at group_work work window_load busy_window delay_load queueing_delay own_distance instance_response response_time scenario_response bound_of scenario_count fixing_order fixed_at level_bound level_count scenario_limit lacks_window too_many_scenarios deepest_level precise_outcome crowded_outcome refined_outcome windowed_outcome outcome_of bound_used margin_of judge or_else alignments_of instance_of shown exceeding_instance case_in first_among first_case case_of last_row all_early worst_case meeting_tick starts_of worst_starts instance_from worst_instance
everything = 0
