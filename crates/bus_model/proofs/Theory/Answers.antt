-- Tables with the same answers: any change of priorities that keeps their order changes none.
use Rattle.std.specs.Prelude.{ℕ, ◌/◌, ◌<◌, ◌≡◌, refl, ◌↔◌, length}
use Rattle.std.proofs.Common.{sym, ◌∙◌}
use mathlib.Core.List.{List, map, Memᴰ as Mem}
use Rattle.std.proofs.Math.ListN.{length-map}
use Rattle.arith.specs.Laws.Members.{mem-get_d}
use Rattle.arith.specs.Laws.Maps.{sum-map}
use Rattle.bus_model.specs.declared.Frame.{Frame}
use Rattle.bus_model.specs.declared.Faults.{Faults}
use Rattle.bus_model.specs.Frame.{no_frame, row}
use Rattle.bus_model.specs.Bus.{Transmission, Schedule, MeetsClaim}
use Rattle.bus_model.specs.Pattern.{of_group, hyperperiod, pattern_releases}
use Rattle.bus_model.specs.Bounds.{phase, bound_of, scenario_count}
use Rattle.bus_model.specs.Judgement.{lacks_window, judge}
use Rattle.bus_model.proofs.Theory.Alike.{recast, KeepsOrder, group-recast, hyper-recast, row-alike, bound-alike, count-alike, lacks-alike, judge-alike, schedule-alike, meets-alike}

-- Each group has the same pattern; each row has the same bounds, whatever groups are fixed, the same scenario count, lack of a window
-- and judgements; the same lists are schedules; and the same claims are met: whatever the premise about faults.
pub record SameAnswers (fs gs : List Frame) : Type 0 where
  pub size : length fs ≡ length gs
  pub hyper : (j : ℕ) → hyperperiod (of_group fs j) ≡ hyperperiod (of_group gs j)
  pub releases : (j : ℕ) → pattern_releases (of_group fs j) ≡ pattern_releases (of_group gs j)
  pub bound : (faults : Faults) (k : ℕ) → k < length fs → bound_of faults fs (row fs k) ≡ bound_of faults gs (row gs k)
  pub count : (k : ℕ) → k < length fs → scenario_count fs (row fs k) ≡ scenario_count gs (row gs k)
  pub lacks : (faults : Faults) (k : ℕ) → k < length fs → lacks_window faults fs (row fs k) ≡ lacks_window faults gs (row gs k)
  pub judged : (faults : Faults) (k : ℕ) → k < length fs → judge faults fs (row fs k) ≡ judge faults gs (row gs k)
  pub schedules : (faults : Faults) (starts : ℕ → ℕ) (T : ℕ) (xs : List Transmission) → Schedule faults fs starts T xs ↔ Schedule faults gs starts T xs
  pub meets : (faults : Faults) (k : ℕ) → k < length fs → (claim : ℕ) → MeetsClaim faults fs k claim ↔ MeetsClaim faults gs k claim

-- Frames with other priorities in the same order have the same answers.
module _ (r : Frame → ℕ) {fs : List Frame} (keeps : KeepsOrder r fs) where
  abbrev other : Frame → Frame
  other = recast r (λ g. g.offset)

  -- an index of the frames changed is one of the frames
  inside : {k : ℕ} → k < length (map other fs) → k < length fs
  inside l = rw (length-map fs other) at l

  -- What is the same of a frame and of the frame changed is the same of a row.
  of-row : {A : Type 0} (f : List Frame → Frame → A) → ((k : Frame) → Mem k fs → f (map other fs) (other k) ≡ f fs k)
      → (k : ℕ) → k < length (map other fs) → f (map other fs) (row (map other fs) k) ≡ f fs (row fs k)
  of-row f same k l = let i = inside l in rw (row-alike r keeps k i) (same (row fs k) (mem-get_d fs k no_frame i))

  pub ranked-answers : SameAnswers (map other fs) fs
  unfolding phase pattern_releases
  ranked-answers = record {
    size = length-map fs other;
    hyper = hyper-recast r (λ g. g.offset) fs;
    releases = λ j.
        rw (hyper-recast r (λ g. g.offset) fs j, group-recast r (λ g. g.offset) fs j)
        (sum-map other (λ g. hyperperiod (of_group fs j) / g.period) (of_group fs j));
    bound = λ faults. of-row (bound_of faults) (λ k m. bound-alike r (λ g. g.offset) (λ g. refl) keeps m faults);
    count = of-row scenario_count (λ k m. count-alike r (λ g. g.offset) (λ g. refl) keeps m);
    lacks = λ faults. of-row (lacks_window faults) (λ k m. lacks-alike r (λ g. g.offset) (λ g. refl) keeps m faults);
    judged = λ faults. of-row (judge faults) (λ k m. judge-alike r (λ g. g.offset) (λ g. refl) keeps m faults);
    schedules = schedule-alike r keeps;
    meets = λ faults k l. meets-alike r keeps faults k (inside l);
  }

-- Two tables with the answers of a third have the same ones.
pub answers-through : {fs gs hs : List Frame} → SameAnswers fs hs → SameAnswers gs hs → SameAnswers fs gs
answers-through {fs} {gs} a b = record {
  size = a.size ∙ sym b.size;
  hyper = λ j. a.hyper j ∙ sym (b.hyper j);
  releases = λ j. a.releases j ∙ sym (b.releases j);
  bound = λ faults k l. a.bound faults k l ∙ sym (b.bound faults k (there l));
  count = λ k l. a.count k l ∙ sym (b.count k (there l));
  lacks = λ faults k l. a.lacks faults k l ∙ sym (b.lacks faults k (there l));
  judged = λ faults k l. a.judged faults k l ∙ sym (b.judged faults k (there l));
  schedules = λ faults starts T xs. both (a.schedules faults starts T xs) (b.schedules faults starts T xs);
  meets = λ faults k l claim. both (a.meets faults k l claim) (b.meets faults k (there l) claim);
}
  where
    there : {k : ℕ} → k < length fs → k < length gs
    there l = rw (a.size ∙ sym b.size) at l

    both : {A B C : Type 0} → A ↔ C → B ↔ C → A ↔ B
    both p q = (λ x. q.1 (p.0 x), λ y. p.1 (q.0 y))
