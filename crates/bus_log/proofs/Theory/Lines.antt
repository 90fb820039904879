-- All lines: where following a log stops, and which starts the lines before allow.
use Prim.Native.Nat.{ℕ, suc, ◌+◌, ◌≤◌, ◌<◌}
use Rattle.std.specs.Prelude.{◌≡◌, false, ◌↔◌, length, take, Result, Ok, Err}
use Rattle.std.proofs.Math.Path.{refl, sym, ap}
use Rattle.std.proofs.Common.{◌∙◌, arith, ltb-true}
use mathlib.Core.List.{List, [], ◌∷◌}
use Rattle.std.proofs.Math.Bool.{true}
use Rattle.std.proofs.Math.Numerals.{add-one}
use Rattle.arith.specs.Laws.Tests.{by-test, and_both}
use Rattle.bus_model.specs.Valid.{Valid}
use Rattle.bus_model.specs.Bus.{one_more}
use Rattle.bus_model.specs.declared.Frame.{Frame}
use Rattle.bus_log.specs.declared.Entry.{Entry}
use Rattle.bus_log.specs.declared.Progress.{Progress}
use Rattle.bus_log.specs.Beginning.{Follows}
use Rattle.bus_log.specs.Follow.{Followed, is_allowed, advance, follow_line, follow}
use Rattle.bus_log.proofs.Theory.Step.{Fits, Counts, clash, sent-allowed, counts-after, fits_after, fits-before, sends-before}

-- where following stopped
pub data Stopped (fs : List Frame) (p : Progress) (sent : ℕ → ℕ) (n : ℕ) (es : List Entry) (place done : ℕ) : Type 0 where
  -- at the end
  whole : done ≡ length es → place ≡ 0 → Stopped fs p sent n es place done
  -- before a line that none of the starts allows
  failing : done < length es → place ≡ suc (n + done) → ((starts : ℕ → ℕ) → Fits fs p starts → Follows fs starts sent p.free (take (suc done) es) → ⊥)
      → Stopped fs p sent n es place done

-- What following says, n lines having been before: of the entries `done` were followed, and the progress describes the starts that allow these.
pub record Followable (fs : List Frame) (p : Progress) (sent : ℕ → ℕ) (n : ℕ) (es : List Entry) (r : Followed) : Type 0 where
  pub done : ℕ
  pub stopped : Stopped fs p sent n es r.place done
  pub exact : (starts : ℕ → ℕ) → (Fits fs p starts × Follows fs starts sent p.free (take done es)) ↔ Fits fs r.progress starts
  pub total : ℕ → ℕ
  pub counts : Counts fs r.progress total

-- The definition's clauses.
module _ (fs : List Frame) (p : Progress) (n : ℕ) (e : Entry) (es : List Entry) where
  pub follow-more : is_allowed fs p e ≡ true → follow fs p n (e ∷ es) ≡ follow fs (advance fs p e) (suc n) es
  unfolding follow
  follow-more t = rw (t, follow)

  pub follow-fails : is_allowed fs p e ≡ false → follow fs p n (e ∷ es) ≡ record { place = suc n; progress = p }
  unfolding follow
  follow-fails f = rw (f, follow)

-- An allowed entry's frame is in the table.
pub allowed-frame : (fs : List Frame) (p : Progress) (e : Entry) → is_allowed fs p e ≡ true → e.frame < length fs
unfolding is_allowed
allowed-frame fs p e t = ltb-true _ _ (and_both _ _ t).0

-- A line as a loop follows it: it goes on, or stops there.
module _ (fs : List Frame) (p : Progress) (n : ℕ) (e : Entry) (es : List Entry) where
  pub line-goes : (q : Progress) → Ok q ≡ follow_line fs p n e → follow fs q (n + 1) es ≡ follow fs p n (e ∷ es)
  unfolding follow_line
  line-goes q is =
      by-test (is_allowed fs p e)
      (λ t.
      let s : ◌≡◌ {A = Result Progress ℕ} (Ok q) (Ok (advance fs p e)) = rw t at is in
      let same : q ≡ advance fs p e = cc in
      rw (same, add-one n) (sym (follow-more fs p n e es t)))
      (λ f. let s : ◌≡◌ {A = Result Progress ℕ} (Ok q) (Err (n + 1)) = rw f at is in let z : ◌≡◌ {A = ℕ} 0 1 = cc in absurd (omega arith))

  pub line-stops : (k : ℕ) → Err k ≡ follow_line fs p n e → (k ≡ n + 1) × (record { place = k; progress = p } ≡ follow fs p n (e ∷ es))
  unfolding follow_line
  line-stops k is =
      by-test (is_allowed fs p e)
      (λ t. let s : ◌≡◌ {A = Result Progress ℕ} (Err k) (Ok (advance fs p e)) = rw t at is in let z : ◌≡◌ {A = ℕ} 0 1 = cc in absurd (omega arith))
      (λ f.
      let s : ◌≡◌ {A = Result Progress ℕ} (Err k) (Err (n + 1)) = rw f at is in
      let same : k ≡ n + 1 = cc in
      (same, rw (same, add-one n) (sym (follow-fails fs p n e es f))))

module _ {fs : List Frame} (valid : Valid fs) (few : length fs ≤ 64) where
  pub followable : (p : Progress) (sent : ℕ → ℕ) → Counts fs p sent → (n : ℕ) (es : List Entry) → Followable fs p sent n es (follow fs p n es)
  unfolding follow Follows advance
  followable p sent counts n [] = record {
    done = 0;
    stopped = whole refl refl;
    exact = λ starts. (λ h. h.0, λ h. (h, tt));
    total = sent;
    counts = counts;
  }
  followable p sent counts n (e ∷ es) =
      by-test (is_allowed fs p e)
      (λ t. rw (follow-more fs p n e es t) (more t (followable (advance fs p e) (one_more sent e.frame) (counts-after valid few p sent counts e t) (suc n) es)))
      (λ f. rw (follow-fails fs p n e es f) (record {
        done = 0;
        stopped = failing (omega arith) (omega arith) (λ starts fits h. clash (sent-allowed valid few p sent counts e starts fits h.0) f);
        exact = λ starts. (λ h. h.0, λ h. (h, tt));
        total = sent;
        counts = counts;
      }))
    where
      more : is_allowed fs p e ≡ true → Followable fs (advance fs p e) (one_more sent e.frame) (suc n) es (follow fs (advance fs p e) (suc n) es)
          → Followable fs p sent n (e ∷ es) (follow fs (advance fs p e) (suc n) es)
      more t r = record {
        done = suc r.done;
        stopped = stop r.stopped;
        exact = λ starts. (
          λ h. (r.exact starts).0 (fits_after valid few p sent counts e t starts h.0 h.1.0, h.1.1),
          λ h.
              let (fits, rest) = (r.exact starts).1 h in
              (fits-before valid few p sent counts e t starts fits, (sends-before valid few p sent counts e t starts fits, rest)),
        );
        total = r.total;
        counts = r.counts;
      }
        where
          stop : {place done : ℕ} → Stopped fs (advance fs p e) (one_more sent e.frame) (suc n) es place done → Stopped fs p sent n (e ∷ es) place (suc done)
          stop (whole all none) = whole (omega arith) none
          stop (failing l at no-starts) =
              failing (omega arith) (omega arith) (λ starts fits h. no-starts starts (fits_after valid few p sent counts e t starts fits h.0) h.1)
