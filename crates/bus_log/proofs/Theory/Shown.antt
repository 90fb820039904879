-- The starts of groups 1 to 16 that are computed are the ones that are to be shown.
use Rattle.std.specs.Prelude.{ℕ, ◌+◌, ◌-◌, ◌≤◌, ◌<◌, ◌≡◌, refl, false, eqb, length}
use Rattle.std.proofs.Math.Path.{sym, ap}
use Rattle.std.proofs.Common.{◌∙◌, eqb-true}
use mathlib.Core.List.Memᴰ.{head as here}
use mathlib.Core.List.Memᴰ.{tail as there}
use mathlib.Core.List.{List, [], ◌∷◌, Memᴰ as Mem}
use native.Mathlib.Omega.{arith}
use Rattle.std.proofs.Math.Decide.{dec_lt}
use Rattle.std.proofs.Math.ListN.{length-map}
use Rattle.arith.specs.Lists.{range}
use Rattle.arith.specs.Laws.Tests.{by-test}
use Rattle.arith.specs.Laws.Members.{length-range, get_d-table, get_d_beyond}
use Rattle.bus_model.specs.Frame.{no_frame, row}
use Rattle.bus_model.specs.Valid.{Valid}
use Rattle.bus_model.specs.declared.Frame.{Frame}
use Rattle.bus_log.specs.declared.Line.{Line}
use Rattle.bus_log.specs.Log.{last_end, AcceptedLog, HasLine, start_in, ShownStarts, row_of, start_from, shown_start, shown_starts}
use Rattle.bus_log.proofs.Theory.Entries.{Names, row_named, named-row}
use Rattle.bus_log.proofs.Theory.Verdict.{serves-same, shown-only}

-- No line tells another start than the last end where none is of the group.
untold : (fs : List Frame) (t : List ℕ) (e j : ℕ) (log : List Line) → ((l : Line) → Mem l log → eqb (row fs (row_of t l)).group j ≡ false)
    → start_from fs t e j log ≡ e
unfolding start_from
untold fs t e j [] none = refl
untold fs t e j (l ∷ ls) none = rw (none l (here refl)) (untold fs t e j ls (λ k m. none k (there m)))

module _ {fs : List Frame} (valid : Valid fs) (few : length fs ≤ 64) (t : List ℕ) (names : Names fs t) (log : List Line) where
  -- a start among the sixteen
  shown-at : (j : ℕ) → 1 ≤ j → j ≤ 16 → start_in (shown_starts fs t log) j ≡ shown_start fs t log j
  unfolding shown_starts
  shown-at j low high =
      let e : 1 + (j - 1) ≡ j = omega arith in
      get_d-table (shown_start fs t log) 1 16 (j - 1) 0 (omega arith) ∙ ap (shown_start fs t log) e

  row_at : (i : ℕ) → i < length fs → start_in (shown_starts fs t log) (row fs i).group ≡ shown_start fs t log (row fs i).group
  row_at i l = let v = valid.frame i l in shown-at (row fs i).group v.group-low v.group-high

  -- A line of a group's frame is one of the group.
  not-of : (j : ℕ) → 1 ≤ j → (HasLine fs t log j → ⊥) → (l : Line) → Mem l log → eqb (row fs (row_of t l)).group j ≡ false
  not-of j low none l m =
      by-test (eqb (row fs (row_of t l)).group j)
      (λ y.
      let q : (row fs (row_of t l)).group ≡ j = eqb-true _ _ y in
      elim (dec_lt (row_of t l) (length fs)) [
        | yes h ↦ let (a, b) = row_named fs t names l h in
            absurd (none (record { line = l; listed = m; frame = row_of t l; inside = h; identifier = a; kind = b; group = q }))
        | no h ↦ let z : row fs (row_of t l) ≡ no_frame = get_d_beyond fs (row_of t l) no_frame (omega arith) in
            absurd (omega (arith, ap (λ (g : Frame). g.group) z))
      ])
      (λ f. f)

  -- Where starts serve at all, these do, and they are settled.
  pub starts-shown : AcceptedLog fs t log → ShownStarts fs t log (shown_starts fs t log)
  unfolding shown_start shown_starts
  starts-shown accepted = record {
    count = length-map (range 1 16) (shown_start fs t log) ∙ length-range 1 16;
    serve = serves-same valid few t names log accepted (start_in (shown_starts fs t log)) row_at;
    only = λ starts h j has.
        let k : has.frame ≡ row_of t has.line = named-row fs t names has.line has.frame has.inside has.identifier has.kind in
        let q : (row fs (row_of t has.line)).group ≡ j = ap (λ (i : ℕ). (row fs i).group) (sym k) ∙ has.group in
        let told = rw q at (shown-only valid few t names log starts h has.line has.listed) in
        told ∙ sym (rw has.group at (row_at has.frame has.inside));
    silent = λ j low high none. shown-at j low high ∙ untold fs t (last_end log) j log (not-of j low none);
  }
