-- The bus rule: what a schedule is, and what it means that a frame meets its claim (document 01, "The bus rule"); with faults
-- that cut transmissions (document 02, request 9), of which document 01 has none.
-- `starts j` is when group j starts; `sent i` is how many instances of row i have started and were not cut, older ones first.
use Rattle.std.specs.Prelude.{ℕ, suc, ◌+◌, ◌≤◌, ◌<◌, ◌≡◌, cond, eqb, length, Option, Some, None}
use mathlib.Core.List.{List, [], ◌∷◌, Memᴰ as Mem}
use Rattle.bus_model.specs.Frame.{row}
use Rattle.bus_model.specs.Release.{release}
use Rattle.bus_model.specs.declared.Frame.{Frame}
use Rattle.bus_model.specs.declared.Faults.{Faults}
use Rattle.bus_model.specs.declared.Faults.TheVariants.{Never, Apart}

-- A transmission: it holds the ticks start .. start + length - 1, and ends at start + length. If a fault begins in one of these
-- ticks, it is cut at that tick's end.
pub record Transmission : Type 0 where
  pub frame : ℕ  -- its row
  pub instance : ℕ  -- which release of the frame, from 0
  pub start : ℕ
  pub length : ℕ
  pub fault : Option ℕ  -- the tick in which a fault begins, or nothing

-- one more instance of row i has started
unfoldable pub one_more : (ℕ → ℕ) → ℕ → ℕ → ℕ
one_more sent i j = cond (eqb i j) (suc (sent j)) (sent j)

-- Row i waits at tick t, document 01's "queued": its next instance is released at t or before.
unfoldable pub Waiting : List Frame → (ℕ → ℕ) → (ℕ → ℕ) → ℕ → ℕ → Type 0
Waiting fs starts sent t i = (i < length fs) × (release starts (row fs i) (sent i) ≤ t)

-- Nothing waits at any tick from `free` to before t.
unfoldable pub Idle : List Frame → (ℕ → ℕ) → (ℕ → ℕ) → ℕ → ℕ → Type 0
Idle fs starts sent free t = (u i : ℕ) → free ≤ u → u < t → Waiting fs starts sent u i → ⊥

-- What the bus rule asks of the next transmission, where the bus is free from `free` on:
-- it starts when the bus is free and something is queued, and not later; its frame is queued; older instances go first;
-- it is the best-ranked queued frame; it takes from 1 tick to its frame's largest length. A fault that cuts it begins in one of its ticks.
pub record Next (fs : List Frame) (starts sent : ℕ → ℕ) (free : ℕ) (x : Transmission) : Type 0 where
  pub after : free ≤ x.start
  pub idle : Idle fs starts sent free x.start
  pub waiting : Waiting fs starts sent x.start x.frame
  pub oldest : x.instance ≡ sent x.frame
  pub best : (i : ℕ) → Waiting fs starts sent x.start i → (row fs x.frame).priority ≤ (row fs i).priority
  pub positive : 1 ≤ x.length
  pub fits : x.length ≤ (row fs x.frame).length
  pub hit : (f : ℕ) → x.fault ≡ Some f → (x.start ≤ f) × (f < x.start + x.length)

-- how many ticks of signalling follow a fault's tick
abbrev pub signalling : ℕ
signalling = 31

-- When the bus is free again: where the transmission ends, or after a fault's tick and the signalling.
unfoldable pub free_after : Transmission → ℕ
free_after x = elim x.fault [ None ↦ x.start + x.length | Some f ↦ suc f + signalling ]

-- What is sent then: one more instance, but if the transmission is cut its instance still waits.
unfoldable pub sent_after : (ℕ → ℕ) → Transmission → ℕ → ℕ
sent_after sent x = elim x.fault [ None ↦ one_more sent x.frame | Some f ↦ sent ]

-- The list is all that starts before tick T, where the bus is free from `free` on. Each transmission finds the bus and the
-- queue as the one before left them; when the list is over, nothing waits any more before T.
unfoldable pub Runs : List Frame → (ℕ → ℕ) → ℕ → (ℕ → ℕ) → ℕ → List Transmission → Type 0
Runs fs starts T sent free [] = Idle fs starts sent free T
Runs fs starts T sent free (x ∷ xs) =
    Next fs starts sent free x × (x.start < T) × Runs fs starts T (sent_after sent x) (free_after x) xs

-- A fault of the list begins in tick f.
abbrev pub FaultIn : List Transmission → ℕ → Type 0
FaultIn xs f = (x : Transmission) × Mem x xs × (x.fault ≡ Some f)

-- The faults of the list come as the premise says: never, or at least g ticks apart.
unfoldable pub Keeps : Faults → List Transmission → Type 0
Keeps Never xs = (f : ℕ) → FaultIn xs f → ⊥
Keeps (Apart g) xs = (e f : ℕ) → FaultIn xs e → FaultIn xs f → e < f → e + g ≤ f

-- A "schedule" up to tick T under a premise about faults, which is `Never` in document 01: at 0 the bus is free and nothing is sent.
unfoldable pub Schedule : Faults → List Frame → (ℕ → ℕ) → ℕ → List Transmission → Type 0
Schedule faults fs starts T xs = Runs fs starts T (λ i. 0) 0 xs × Keeps faults xs

-- Instance n of row k stands in the list, in a transmission that no fault cuts, and is "finished" at `limit` or before.
pub record Finished (xs : List Transmission) (k n limit : ℕ) : Type 0 where
  pub sent : Transmission
  pub listed : Mem sent xs
  pub frame : sent.frame ≡ k
  pub instance : sent.instance ≡ n
  pub whole : sent.fault ≡ None
  pub ended : sent.start + sent.length ≤ limit

-- Document 01's demand 3 for one row: in every schedule under the premise, each instance whose claim has run out by T is finished within its claim.
unfoldable pub MeetsClaim : Faults → List Frame → ℕ → ℕ → Type 0
MeetsClaim faults fs k claim =
    (starts : ℕ → ℕ) (T : ℕ) (xs : List Transmission) → Schedule faults fs starts T xs →
    (n : ℕ) → release starts (row fs k) n + claim ≤ T → Finished xs k n (release starts (row fs k) n + claim)
