-- What following a log says of it: whether it is accepted, which starts serve, and its shortest beginning that fails.
use Prim.Native.Nat.{ℕ, zero, suc, ◌+◌, ◌-◌, ◌≤◌, ◌<◌}
use Rattle.std.specs.Prelude.{◌≡◌, true, false, cond, ◌⊎◌, ◌↔◌, eqb, get_or, take, replicate}
use Rattle.std.proofs.Math.Path.{refl, ap}
use Rattle.std.proofs.Common.{sym, ◌∙◌, eq-eqb, ne_eqb, take-take, take_all}
use mathlib.Core.List.Memᴰ
use mathlib.Core.List.Memᴰ.{head as here}
use mathlib.Core.List.Memᴰ.{tail as there}
use mathlib.Core.List.{List, [], ◌∷◌, map, Memᴰ as Mem}
use Rattle.std.proofs.Math.Logic.{inl, inr}
use native.Mathlib.Omega.{arith}
use Rattle.std.proofs.Math.Decide.{ℕ_discrete}
use Rattle.std.proofs.Math.ListN.{length, length-map}
use Rattle.arith.specs.Laws.Tests.{by-test}
use Rattle.bus_model.specs.Frame.{row}
use Rattle.bus_model.specs.Valid.{Valid}
use Rattle.bus_model.specs.Bus.{one_more, Waiting}
use Rattle.bus_model.specs.declared.Frame.{Frame}
use Rattle.bus_log.specs.declared.Line.{Line}
use Rattle.bus_log.specs.declared.Entry.{Entry}
use Rattle.bus_log.specs.declared.Progress.{Progress}
use Rattle.bus_log.specs.Log.{end_from, IsBeginning, AcceptedLog, ShortestFailing, row_of, start_from, shown_start}
use Rattle.bus_log.specs.Beginning.{Follows}
use Rattle.bus_log.specs.Follow.{Followed, entry_of, entries_of, is_seen, start_of, due_of, begin, is_allowed, advance, follow, follow_log, start_shown}
use Rattle.bus_log.proofs.Theory.Known.{seen_same, seen_other, start-same, start-kept}
use Rattle.bus_log.proofs.Theory.Step.{Fits, Counts, clash, counts-after, allowed-inside}
use Rattle.bus_log.proofs.Theory.Lines.{Stopped, whole, failing, Followable, followable, follow-more, follow-fails}
use Rattle.bus_log.proofs.Theory.Entries.{Names, beginning-entries}

-- ---- before the first line

-- A list of one value has it at every place, and beyond its end.
pub get_d_replicate : {A : Type 0} (k i : ℕ) (d : A) → get_or (replicate k d) i d ≡ d
get_d_replicate zero i d = refl
get_d_replicate (suc k) zero d = refl
get_d_replicate (suc k) (suc i) d = get_d_replicate k i d

-- No group has a line.
none_seen : (j : ℕ) → is_seen begin j ≡ false
none_seen j = get_d_replicate 17 j false

none-due : (i : ℕ) → due_of begin.due i ≡ 0
none-due i = get_d_replicate 64 i 0

-- All starts are possible.
fits-begin : (fs : List Frame) (starts : ℕ → ℕ) → Fits fs begin starts
fits-begin fs starts i l = record { known = λ s. absurd (clash s (none_seen (row fs i).group)); late = λ _. omega (arith, none-due i) }

counts-begin : (fs : List Frame) → Counts fs begin (λ i. 0)
counts-begin fs = record {
  shape = record { seen = refl; starts = refl };
  rows = λ i l. record { next = λ s. absurd (clash s (none_seen (row fs i).group)); none = λ _. (refl, omega (arith, none-due i)) };
}

-- ---- beginnings of lists

follows-take : (fs : List Frame) (starts sent : ℕ → ℕ) (free n : ℕ) (es : List Entry) → Follows fs starts sent free es → Follows fs starts sent free (take n es)
unfolding Follows
follows-take fs starts sent free zero es h = tt
follows-take fs starts sent free (suc n) [] h = tt
follows-take fs starts sent free (suc n) (e ∷ es) (s, h) = (s, follows-take fs starts (one_more sent e.frame) (e.start + e.length) n es h)

map-take : {A B : Type 0} (f : A → B) (n : ℕ) (xs : List A) → map f (take n xs) ≡ take n (map f xs)
map-take f zero xs = refl
map-take f (suc n) [] = refl
map-take f (suc n) (x ∷ xs) = ap (λ r. f x ∷ r) (map-take f n xs)

-- The frames of entries that follow the bus rule are in the table.
follows-inside : (fs : List Frame) (starts sent : ℕ → ℕ) (free : ℕ) {e : Entry} (es : List Entry) → Follows fs starts sent free es → Mem e es → e.frame < length fs
unfolding Follows Waiting
follows-inside fs starts sent free [] h m = absurd (Memᴰ.not-nil m)
follows-inside fs starts sent free (d ∷ ds) (s, h) (here same) = rw same s.0.waiting.0
follows-inside fs starts sent free (d ∷ ds) (s, h) (there m) = follows-inside fs starts (one_more sent d.frame) (d.start + d.length) ds h m

-- ---- starts that serve

shown-seen : (p : Progress) (j : ℕ) → is_seen p j ≡ true → start_of p.starts j ≡ start_shown p j
unfolding start_shown
shown-seen p j s = rw s

-- What is shown fits.
fits-shown : (fs : List Frame) (p : Progress) (sent : ℕ → ℕ) → Counts fs p sent → Fits fs p (start_shown p)
unfolding start_shown
fits-shown fs p sent counts i l = record {
  known = λ s. rw s;
  late = λ f. rw f (omega (arith, ((counts.rows i l).none f).1));
}

module _ {fs : List Frame} (valid : Valid fs) (few : length fs ≤ 64) (t : List ℕ) (names : Names fs t) (log : List Line) where
  es : List Entry
  es = entries_of t log

  result : Followable fs begin (λ i. 0) 0 es (follow_log fs t log)
  unfolding follow_log es
  result = followable valid few begin (λ i. 0) (counts-begin fs) 0 es

  -- the first m lines' entries
  first : (m : ℕ) (starts : ℕ → ℕ) → IsBeginning fs t starts (take m log) ↔ Follows fs starts (λ i. 0) 0 (take m es)
  unfolding es
  first m starts =
      let (to, from) = beginning-entries fs t names starts (take m log) in
      (λ h. rw (map-take (entry_of t) m log) at (to h), λ h. from (rw (map-take (entry_of t) m log) h))

  -- What the lines that were followed allow.
  exact : (starts : ℕ → ℕ) → IsBeginning fs t starts (take result.done log) ↔ Fits fs (follow_log fs t log).progress starts
  exact starts = (
    λ h. (result.exact starts).0 (fits-begin fs starts, (first result.done starts).0 h),
    λ h. (first result.done starts).1 ((result.exact starts).1 h).1,
  )

  -- No more lines than these allow the starts that are shown.
  serves : (n : ℕ) → n ≤ result.done → IsBeginning fs t (start_shown (follow_log fs t log).progress) (take n log)
  serves n le =
      let shown : ℕ → ℕ = start_shown (follow_log fs t log).progress in
      let all = (first result.done shown).0 ((exact shown).1 (fits-shown fs _ result.total result.counts)) in
      (first n shown).1 (rw (take-take n result.done es le) at (follows-take fs shown (λ i. 0) 0 n (take result.done es) all))

  size : length es ≡ length log
  unfolding es
  size = length-map log (entry_of t)

  -- The place 0 is given just to an accepted log.
  pub accepted-iff : AcceptedLog fs t log ↔ ((follow_log fs t log).place ≡ 0)
  unfolding AcceptedLog
  accepted-iff = (λ (starts, h). accepted starts h result.stopped, λ z. serving z result.stopped)
    where
      accepted : (starts : ℕ → ℕ) → IsBeginning fs t starts log → Stopped fs begin (λ i. 0) 0 es (follow_log fs t log).place result.done → (follow_log fs t log).place ≡ 0
      accepted starts h (whole all none) = none
      accepted starts h (failing l at no-starts) =
          let long = (first (length log) starts).0 (rw (take_all (length log) log (omega arith)) h) in
          let cut = follows-take fs starts (λ i. 0) 0 (suc result.done) (take (length log) es) long in
          absurd (no-starts starts (fits-begin fs starts) (rw (take-take (suc result.done) (length log) es (omega (arith, size))) at cut))

      serving : (follow_log fs t log).place ≡ 0 → Stopped fs begin (λ i. 0) 0 es (follow_log fs t log).place result.done → AcceptedLog fs t log
      serving z (whole all none) = (start_shown (follow_log fs t log).progress, rw (take_all (length log) log (omega arith)) at (serves (length log) (omega (arith, size))))
      serving z (failing l at no-starts) = absurd (omega arith)

  -- The starts of an accepted log are those that fit.
  pub beginning-fits : (follow_log fs t log).place ≡ 0 → (starts : ℕ → ℕ) → IsBeginning fs t starts log ↔ Fits fs (follow_log fs t log).progress starts
  beginning-fits z starts = go result.stopped
    where
      go : Stopped fs begin (λ i. 0) 0 es (follow_log fs t log).place result.done → IsBeginning fs t starts log ↔ Fits fs (follow_log fs t log).progress starts
      go (whole all none) =
          let e : result.done ≡ length log = all ∙ size in
          rw (e, take_all (length log) log (omega arith)) at (exact starts)
      go (failing l at no-starts) = absurd (omega arith)

  pub fits-starts : Fits fs (follow_log fs t log).progress (start_shown (follow_log fs t log).progress)
  fits-starts = fits-shown fs _ result.total result.counts

  -- A beginning of an accepted log is accepted.
  pub beginning-accepted : AcceptedLog fs t log → (n : ℕ) → AcceptedLog fs t (take n log)
  unfolding AcceptedLog es
  beginning-accepted (starts, h) n = (starts, (first n starts).1 (follows-take fs starts (λ i. 0) 0 n es ((beginning-entries fs t names starts log).0 h)))

  -- Any other place is the shortest beginning that fails.
  pub place-shortest : 0 < (follow_log fs t log).place → ShortestFailing fs t log (follow_log fs t log).place
  unfolding AcceptedLog
  place-shortest some = go result.stopped
    where
      go : Stopped fs begin (λ i. 0) 0 es (follow_log fs t log).place result.done → ShortestFailing fs t log (follow_log fs t log).place
      go (whole all none) = absurd (omega arith)
      go (failing l at no-starts) =
          let e : (follow_log fs t log).place ≡ suc result.done = omega arith in
          rw e (record {
            within = omega (arith, size);
            fails = λ (starts, h). no-starts starts (fits-begin fs starts) ((first (suc result.done) starts).0 h);
            shorter = λ n less. (start_shown (follow_log fs t log).progress, serves n (omega arith));
          })

-- ---- the starts that are shown

module _ {fs : List Frame} (valid : Valid fs) (few : length fs ≤ 64) (t : List ℕ) where
  -- One line.
  shown-step : (p : Progress) (sent : ℕ → ℕ) → Counts fs p sent → (e : Entry) → is_allowed fs p e ≡ true → (j : ℕ) → (v : ℕ)
      → cond (is_seen (advance fs p e) j) (start_of (advance fs p e).starts j) v ≡ cond (is_seen p j) (start_of p.starts j) (cond (eqb (row fs e.frame).group j) (e.release - (row fs e.frame).offset) v)
  shown-step p sent counts e ok j v =
      let inside = allowed-inside valid few p sent counts e ok in
      elim (ℕ_discrete j (row fs e.frame).group) [
        | yes q ↦ by-test (is_seen p j)
            (λ s. rw (seen_same valid counts.shape e inside j q, s) (start-kept valid counts.shape e inside j s))
            (λ f. rw (seen_same valid counts.shape e inside j q, f, eq-eqb (row fs e.frame).group j (sym q))
            (start-same valid counts.shape e inside j q (ap (is_seen p) (sym q) ∙ f)))
        | no ne ↦ by-test (is_seen p j)
            (λ s. rw (seen_other valid counts.shape e inside j ne, s) (start-kept valid counts.shape e inside j s))
            (λ f. rw (seen_other valid counts.shape e inside j ne, f, ne_eqb (row fs e.frame).group j (λ q. ne (sym q))))
      ]

  -- What is shown of group j, where the rest of the log was followed from p: what p knows, or what the first line tells.
  shown-from : (p : Progress) (sent : ℕ → ℕ) → Counts fs p sent → (n : ℕ) (log : List Line) → (follow fs p n (entries_of t log)).place ≡ 0 → (j : ℕ)
      → start_shown (follow fs p n (entries_of t log)).progress j ≡ cond (is_seen p j) (start_of p.starts j) (start_from fs t (end_from p.free log) j log)
  unfolding follow start_from end_from start_shown entry_of advance
  shown-from p sent counts n [] z j = refl
  shown-from p sent counts n (l ∷ ls) z j =
      by-test (is_allowed fs p (entry_of t l))
      (λ ok.
      let next = follow-more fs p n (entry_of t l) (entries_of t ls) ok in
      ap (λ (r : Followed). start_shown r.progress j) next
      ∙ shown-from (advance fs p (entry_of t l)) (one_more sent (row_of t l)) (counts-after valid few p sent counts (entry_of t l) ok) (suc n) ls (ap (λ (r : Followed). r.place) (sym next) ∙ z) j
      ∙ shown-step p sent counts (entry_of t l) ok j _)
      (λ f. absurd (omega (arith, ap (λ (r : Followed). r.place) (follow-fails fs p n (entry_of t l) (entries_of t ls) f))))

  -- The starts shown are those that the lines tell.
  pub shown-is : (log : List Line) → (follow_log fs t log).place ≡ 0 → (j : ℕ) → start_shown (follow_log fs t log).progress j ≡ shown_start fs t log j
  unfolding follow_log shown_start
  shown-is log z j = shown-from begin (λ i. 0) (counts-begin fs) 0 log z j ∙ rw (none_seen j)

  -- A group that has a line is seen.
  seen-kept : (p : Progress) (sent : ℕ → ℕ) → Counts fs p sent → (n : ℕ) (es : List Entry) → (follow fs p n es).place ≡ 0 → (j : ℕ)
      → (is_seen p j ≡ true) ⊎ ((e : Entry) × Mem e es × ((row fs e.frame).group ≡ j)) → is_seen (follow fs p n es).progress j ≡ true
  unfolding follow
  seen-kept p sent counts n [] z j (inl s) = s
  seen-kept p sent counts n [] z j (inr (e, m, q)) = absurd (Memᴰ.not-nil m)
  seen-kept p sent counts n (e ∷ es) z j h =
      by-test (is_allowed fs p e)
      (λ ok.
      let next = follow-more fs p n e es ok in
      ap (λ (r : Followed). is_seen r.progress j) next
      ∙ seen-kept (advance fs p e) (one_more sent e.frame) (counts-after valid few p sent counts e ok) (suc n) es (ap (λ (r : Followed). r.place) (sym next) ∙ z) j (later (allowed-inside valid few p sent counts e ok) h))
      (λ f. absurd (omega (arith, ap (λ (r : Followed). r.place) (follow-fails fs p n e es f))))
    where
      later : e.frame < length fs → (is_seen p j ≡ true) ⊎ ((d : Entry) × Mem d (e ∷ es) × ((row fs d.frame).group ≡ j))
          → (is_seen (advance fs p e) j ≡ true) ⊎ ((d : Entry) × Mem d es × ((row fs d.frame).group ≡ j))
      later inside (inl s) =
          elim (ℕ_discrete j (row fs e.frame).group) [
            | yes q ↦ inl (seen_same valid counts.shape e inside j q)
            | no ne ↦ inl (seen_other valid counts.shape e inside j ne ∙ s)
          ]
      later inside (inr (d, here same, q)) = inl (seen_same valid counts.shape e inside j (sym q ∙ ap (λ (d : Entry). (row fs d.frame).group) same))
      later inside (inr (d, there m, q)) = inr (d, m, q)

  module _ (names : Names fs t) (log : List Line) where
    passed : AcceptedLog fs t log → (follow_log fs t log).place ≡ 0
    passed accepted = (accepted-iff valid few t names log).0 accepted

    -- They serve, where any do, and so do all that are the same for the groups that have frames.
    pub serves-same : AcceptedLog fs t log → (starts : ℕ → ℕ) → ((i : ℕ) → i < length fs → starts (row fs i).group ≡ shown_start fs t log (row fs i).group)
        → IsBeginning fs t starts log
    serves-same accepted starts same =
        (beginning-fits valid few t names log (passed accepted) starts).1 (λ i l.
        let fit = fits-starts valid few t names log i l in
        let e = shown-is log (passed accepted) (row fs i).group ∙ sym (same i l) in
        record { known = λ s. sym e ∙ fit.known s; late = λ f. rw (← e) (fit.late f) })

    -- A group that has a line has no other start.
    pub shown-only : (starts : ℕ → ℕ) → IsBeginning fs t starts log → (l : Line) → Mem l log
        → starts (row fs (row_of t l)).group ≡ shown_start fs t log (row fs (row_of t l)).group
    unfolding AcceptedLog follow_log entry_of
    shown-only starts h l m =
        let z = passed (starts, h) in
        let k : ℕ = row_of t l in
        let inside : k < length fs = follows-inside fs starts (λ i. 0) 0 (entries_of t log) ((beginning-entries fs t names starts log).0 h) (Memᴰ.map (entry_of t) m) in
        let s = seen-kept begin (λ i. 0) (counts-begin fs) 0 (entries_of t log) z (row fs k).group (inr (entry_of t l, Memᴰ.map (entry_of t) m, refl)) in
        ((beginning-fits valid few t names log z starts).0 h k inside).known s ∙ shown-seen (follow_log fs t log).progress (row fs k).group s ∙ shown-is log z (row fs k).group
