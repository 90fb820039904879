-- A node's bus load (document 02, request 1), from the node's frames and the hyperperiod of its group (request 6).
use Rattle.std.specs.Prelude.{ℕ, ◌*◌, ◌/◌, ◌%◌, List}
use Rattle.arith.specs.Lists.{sum}
use Rattle.bus_model.specs.declared.Frame.{Frame}
use Rattle.load_sheet.specs.declared.Load.{Load}

-- "work": the sum over the frames of largest length × (hyperperiod / period)
unfoldable pub work_in : ℕ → List Frame → ℕ
work_in h gs = sum (λ g. g.length * (h / g.period)) gs

-- work × 10000
unfoldable pub dividend : ℕ → List Frame → ℕ
dividend h gs = work_in h gs * 10000

-- its whole quotient by the hyperperiod, the exact remainder, and the hyperperiod as divisor
unfoldable pub load_of : ℕ → List Frame → Load
load_of h gs =
    record {
      quotient = dividend h gs / h;
      remainder = dividend h gs % h;
      divisor = h;
    }
