-- The pattern in which a group's frames are released (document 01, "The table": "Pattern"). What document 01 says of a node there, and
-- of its start, its alignments and its sums, is said of a group of nodes that start together (document 02, request 6).
-- It repeats after each hyperperiod.
use Rattle.std.specs.Prelude.{ℕ, ◌/◌, List, eqb}
use Rattle.arith.specs.Lists.{sum, keep}
use Rattle.arith.specs.Multiples.{lcm_of}
use Rattle.bus_model.specs.declared.Frame.{Frame}

-- the frames of group j
unfoldable pub of_group : List Frame → ℕ → List Frame
of_group fs j = keep (λ g. eqb g.group j) fs

-- "hyperperiod": the least common multiple of the frames' periods
unfoldable pub hyperperiod : List Frame → ℕ
hyperperiod gs = lcm_of (λ g. g.period) gs

-- the sum over the frames of hyperperiod / period: how many releases the pattern has
unfoldable pub pattern_releases : List Frame → ℕ
pattern_releases gs = sum (λ g. hyperperiod gs / g.period) gs
