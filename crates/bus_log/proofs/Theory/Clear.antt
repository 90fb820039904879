-- What the bus rule asks of a transmission, row by row.
use Rattle.std.specs.Prelude.{ℕ, ◌≤◌, ◌<◌, max, refl, List, Bool, true, false, ◌||◌, length}
use Rattle.std.proofs.Math.Path.{◌≡◌}
use Rattle.std.proofs.Common.{arith}
use Rattle.std.proofs.Math.Decide.{dec_le}
use borrow.Author.Tests.{ltb-false, le-ltb, le-leb, lt-leb}
use Rattle.bus_model.specs.Frame.{row}
use Rattle.bus_model.specs.Release.{release}
use Rattle.bus_model.specs.Bus.{Waiting, Idle, Next}
use Rattle.bus_model.specs.declared.Frame.{Frame}
use Rattle.bus_log.specs.declared.Entry.{Entry}
use Rattle.bus_log.specs.declared.Progress.{Progress}
use Rattle.bus_log.specs.Beginning.{sending, Sends}
use Rattle.bus_log.specs.Follow.{is_against}

-- A row whose next release is d lets a transmission start: it does not wait before, where the bus is free, and if it waits then it is not
-- ranked better. `ours` is the priority of the transmission's frame, `theirs` that of the row.
pub record Clear (free start ours theirs d : ℕ) : Type 0 where
  pub idle : start ≤ max free d
  pub best : d ≤ start → ours ≤ theirs

-- Both parts, of an entry
pub record Starts (fs : List Frame) (free : ℕ) (e : Entry) : Type 0 where
  pub inside : e.frame < length fs
  pub positive : 1 ≤ e.length
  pub fits : e.length ≤ (row fs e.frame).length
  pub after : free ≤ e.start
  pub queued : e.release ≤ e.start

module _ (fs : List Frame) (starts sent : ℕ → ℕ) (free : ℕ) (e : Entry) where
  -- when row i waits for the bus
  abbrev pub due : ℕ → ℕ
  due i = release starts (row fs i) (sent i)

  -- row i lets the entry start
  abbrev pub ClearAt : ℕ → Type 0
  ClearAt i = Clear free e.start (row fs e.frame).priority (row fs i).priority (due i)

  -- What the bus rule asks, from its parts.
  pub next_of : Starts fs free e → due e.frame ≡ e.release → ((i : ℕ) → i < length fs → ClearAt i) → Next fs starts sent free (sending sent e)
  unfolding Idle Waiting
  next_of s told clear = record {
    after = s.after;
    idle = λ u i from to (inside, waits). omega (arith, (clear i inside).idle);
    waiting = (s.inside, omega (arith, s.queued));
    oldest = refl;
    best = λ i (inside, waits). (clear i inside).best waits;
    positive = s.positive;
    fits = s.fits;
    hit = λ f is. absurd (let z : ◌≡◌ {A = ℕ} 0 1 = cc in omega arith);
  }

  -- Its parts, from what it asks.
  pub starts-of : Sends fs starts sent free e → Starts fs free e
  unfolding Waiting
  starts-of (next, told) = record {
    inside = next.waiting.0;
    positive = next.positive;
    fits = next.fits;
    after = next.after;
    queued = let waits = next.waiting.1 in omega arith;
  }

  pub clear_of : Sends fs starts sent free e → (i : ℕ) → i < length fs → ClearAt i
  unfolding Idle Waiting
  clear_of (next, told) i inside = record {
    idle = elim (dec_le e.start (max free (due i))) [
      | yes h ↦ h
      | no h ↦ absurd (next.idle (max free (due i)) i (omega arith) (omega arith) (inside, omega arith))
    ];
    best = λ waits. next.best i (inside, waits);
  }

-- ---- the test of it

-- Both of two tests fail where they fail together.
pub or-both : (a b : Bool) → (a || b) ≡ false → (a ≡ false) × (b ≡ false)
or-both true b h = let z : ◌≡◌ {A = ℕ} 0 1 = cc in absurd (omega arith)
or-both false b h = (refl, h)

module _ (fs : List Frame) (p : Progress) (e : Entry) (i d : ℕ) where
  abbrev At : Type 0
  At = Clear p.free e.start (row fs e.frame).priority (row fs i).priority d

  pub clear-test : is_against p.free (row fs e.frame) e (row fs i) d ≡ false → At
  unfolding is_against
  clear-test h =
      let (first, second) = or-both _ _ h in
      record {
        idle = ltb-false (max p.free d) e.start first;
        best = λ waits. ltb-false _ _ (rw (le-leb d e.start waits) at second);
      }

  pub test-clear : At → is_against p.free (row fs e.frame) e (row fs i) d ≡ false
  unfolding is_against
  test-clear c =
      rw (le-ltb (max p.free d) e.start c.idle)
      (elim (dec_le d e.start) [
        | yes h ↦ rw (le-leb d e.start h) (le-ltb _ _ (c.best h))
        | no h ↦ rw (lt-leb d e.start (omega arith))
      ])
