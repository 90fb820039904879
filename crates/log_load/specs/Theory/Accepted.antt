-- The lines of an accepted log come one after the other.
use Rattle.std.specs.Prelude.{ℕ, ◌+◌, ◌≤◌, ◌≡◌}
use Rattle.std.proofs.Common.{subst, ap, ap₂, arith}
use mathlib.Core.List.Memᴰ
use mathlib.Core.List.Memᴰ.{head as here}
use mathlib.Core.List.Memᴰ.{tail as there}
use mathlib.Core.List.{List, [], ◌∷◌, Memᴰ as Mem}
use Rattle.arith.specs.Lists.{sum}
use Rattle.bus_model.specs.Frame.{row}
use Rattle.bus_model.specs.Release.{release}
use Rattle.bus_model.specs.Bus.{Transmission, one_more, Waiting}
use Rattle.bus_model.proofs.Theory.Uncut.{PlainRuns, never-plain}
use Rattle.bus_model.specs.declared.Frame.{Frame}
use Rattle.bus_log.specs.declared.Line.{Line}
use Rattle.bus_log.specs.Log.{ShowsAll, last_end, IsBeginning, AcceptedLog}
use Rattle.log_load.specs.Busy.{busy_in}
use Rattle.log_load.specs.Sheet.{response}
use Rattle.log_load.specs.Steps.{Ordered}
use Rattle.log_load.specs.Theory.Count.{busy-whole}

runs-ordered : (fs : List Frame) (t : List ℕ) (starts : ℕ → ℕ) (T : ℕ) (sent : ℕ → ℕ) (free : ℕ) (log : List Line) (xs : List Transmission)
    → ShowsAll fs t starts log xs → PlainRuns fs starts T sent free xs → Ordered free log
unfolding ShowsAll PlainRuns Ordered
runs-ordered fs t starts T sent free [] xs all runs = tt
runs-ordered fs t starts T sent free (l ∷ ls) [] all runs = absurd all
runs-ordered fs t starts T sent free (l ∷ ls) (x ∷ xs) (shows, all) (next, whole, before, runs) =
    let rest = runs-ordered fs t starts T (one_more sent x.frame) (x.start + x.length) ls xs all runs in
    (omega (arith, next.after, shows.start), subst (λ (e : ℕ). Ordered e ls) (ap₂ ◌+◌ shows.start shows.length) rest)

pub accepted-ordered : (fs : List Frame) (t : List ℕ) (log : List Line) → AcceptedLog fs t log → Ordered 0 log
unfolding AcceptedLog IsBeginning
accepted-ordered fs t log (starts, (xs, all, schedule)) = runs-ordered fs t starts (last_end log) (λ i. 0) 0 log xs all ((never-plain fs starts (last_end log) xs).0 schedule)

-- "The busy ticks of the whole log equal the sum of its lengths."
pub accepted-busy : (fs : List Frame) (t : List ℕ) (log : List Line) → AcceptedLog fs t log → busy_in log (last_end log) 0 ≡ sum (λ l. l.length) log
accepted-busy fs t log accepted = busy-whole log (accepted-ordered fs t log accepted)

-- Each line was queued by its start, so its response is what the end exceeds the queueing by.
runs-queued : (fs : List Frame) (t : List ℕ) (starts : ℕ → ℕ) (T : ℕ) (sent : ℕ → ℕ) (free : ℕ) (log : List Line) (xs : List Transmission)
    → ShowsAll fs t starts log xs → PlainRuns fs starts T sent free xs → (l : Line) → Mem l log → l.release ≤ l.start
unfolding ShowsAll PlainRuns Waiting
runs-queued fs t starts T sent free [] xs all runs l m = absurd (Memᴰ.not-nil m)
runs-queued fs t starts T sent free (k ∷ ks) [] all runs l m = absurd all
runs-queued fs t starts T sent free (k ∷ ks) (x ∷ xs) (shows, all) (next, whole, before, runs) l (here e) =
    let same = ap (release starts (row fs x.frame)) next.oldest in
    rw e (omega (arith, shows.queueing, shows.start, same, next.waiting.1))
runs-queued fs t starts T sent free (k ∷ ks) (x ∷ xs) (shows, all) (next, whole, before, runs) l (there m) =
    runs-queued fs t starts T (one_more sent x.frame) (x.start + x.length) ks xs all runs l m

pub accepted-queued : (fs : List Frame) (t : List ℕ) (log : List Line) → AcceptedLog fs t log → (l : Line) → Mem l log → l.release + response l ≡ l.start + l.length
unfolding AcceptedLog IsBeginning
accepted-queued fs t log (starts, (xs, all, schedule)) l m =
    let queued = runs-queued fs t starts (last_end log) (λ i. 0) 0 log xs all ((never-plain fs starts (last_end log) xs).0 schedule) l m in
    omega arith
