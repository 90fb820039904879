-- What the search for the case that breaks a claim needs: the visit of a group's alignments, and the last scenario.
use Rattle.std.specs.Prelude.{ℕ, zero, suc, ◌+◌, ◌-◌, ◌≤◌, ◌<◌, ◌≡◌, refl, false, T, length, get_or, set, replicate, Option, Some, None}
use Rattle.std.proofs.Common.{sym, subst, ◌∙◌, arith}
use Rattle.std.proofs.Math.Path.{ap}
use mathlib.Core.List.{List, [], ◌∷◌, map, Memᴰ as Mem}
use Rattle.arith.specs.Lists.{range}
use Rattle.arith.specs.Least.{least, or_zero}
use Rattle.arith.specs.Laws.Members.{mem-range}
use Rattle.arith.specs.Laws.Walks.{walk-less}
use Rattle.bus_model.specs.declared.Frame.{Frame}
use Rattle.bus_model.specs.declared.Faults.{Faults}
use Rattle.bus_model.specs.declared.Choice.{Choice}
use Rattle.bus_model.specs.declared.Choice.TheVariants.{Fixed, Any}
use Rattle.bus_model.specs.Frame.{row}
use Rattle.bus_model.specs.Valid.{ValidFrame, Valid}
use Rattle.bus_model.specs.Bounds.{groups, alignments, or_empty, choice_of, busy_window}
use Rattle.bus_model.specs.Judgement.{lacks_window}
use Rattle.bus_model.specs.Case.{shown, exceeding_instance, case_in, first_among, first_case}
use Rattle.bus_model.proofs.Theory.Frames.{group-listed}
use Rattle.bus_model.specs.Theory.Work.{RefinedBy}
use Rattle.bus_model.proofs.Theory.Judged.{has-windows}
use Rattle.bus_model.specs.Theory.Visits.{is_alignment}
use Rattle.bus_model.specs.Theory.Refine.{free}
use Rattle.bus_model.specs.Theory.OpenGroups.{fixing_more}
use Rattle.bus_model.proofs.Theory.OpenGroups.{free-refined, more-refined, more-window}
use Rattle.bus_model.specs.Theory.Turns.{turn}
use Rattle.bus_model.proofs.Theory.Cases.{in-at, in-none}
use Rattle.bus_model.specs.Theory.FirstCase.{completions}
use Rattle.bus_model.proofs.Theory.FirstCase.{prefix-start, prefix-more, case-start, case-last, Trying, try-first, try-take, try-last, try-next}
use Rattle.workload.specs.Prepared.{FineTable, InTable}
use Rattle.response_time.specs.Load.{OwnFixed}
use Rattle.bounds.specs.Case.{LeadsTo}

-- ---- the own group where it is fixed

-- What a place holds is put there once more, and nothing changes.
set-again : {A : Type 0} (d x : A) (xs : List A) (i : ℕ) → i < length xs → get_or xs i d ≡ x → set xs i x ≡ xs
set-again d x [] i inside e = absurd (omega arith)
set-again {A = A} d x (y ∷ ys) zero inside e = ap (λ (z : A). z ∷ ys) (sym e)
set-again {A = A} d x (y ∷ ys) (suc i) inside e = ap (λ (zs : List A). y ∷ zs) (set-again d x ys i (omega arith) e)

-- So the own group may take the alignment at which it stands.
pub own-again : (k : Frame) (cs : List Choice) → (1 ≤ k.group) × (k.group ≤ length cs) → {a : ℕ} → choice_of cs k.group ≡ Fixed a → set cs (k.group - 1) (Fixed a) ≡ cs
own-again k cs (low, high) {a} e = set-again Any (Fixed a) cs (k.group - 1) (omega arith) e

-- ---- a visit of a group's alignments

-- It stands at a: with none before a does a response exceed the claim.
abbrev pub Tries : Faults → List Frame → Frame → ℕ → List Choice → ℕ → ℕ → Type 0
Tries faults fs k claim cs j a = (valid : Valid fs) (table : InTable fs k) → Trying faults valid table.inside claim cs j a

pub tries-first : {faults : Faults} {fs : List Frame} {k : Frame} {claim : ℕ} {cs : List Choice} {j : ℕ} → LeadsTo faults fs k claim j cs → (1 ≤ j) × (j ≤ 16) → {a : ℕ} (first : Option ℕ)
    → first ≡ least (is_alignment fs k j) (turn fs k j - 0) 0 → a ≡ or_zero first → Tries faults fs k claim cs j a
tries-first {faults = faults} {claim = claim} {cs} {j} l (low, high) first is start valid table =
    rw start (try-first faults valid table.inside claim cs l.prefix (mem-range 1 groups j low (omega arith)) first (rw table.is at is))

-- At the start nothing is fixed.
pub leads-start : (faults : Faults) (fs : List Frame) (k : Frame) (claim : ℕ) → LeadsTo faults fs k claim 1 free
leads-start faults fs k claim = record { prefix = prefix-start; refines = free-refined fs k; first = case-start faults fs k claim }

module _ {faults : Faults} {fs : List Frame} (accepted : FineTable fs) {k : Frame} (table : InTable fs k) {claim : ℕ} {cs : List Choice} {j : ℕ} (l : LeadsTo faults fs k claim j cs) (bounds : (1 ≤ j) × (j ≤ 16)) where
  listed : Mem j (range 1 groups)
  listed = mem-range 1 groups j bounds.0 (omega (arith, bounds.1))

  module _ {a : ℕ} (tries : Tries faults fs k claim cs j a) where
    tried : Trying faults accepted.valid table.inside claim cs j a
    tried = tries accepted.valid table

    pub tries-inside : a < turn fs k j
    tries-inside = rw table.is tried.walk.inside

    tries-listed : Mem a (or_empty (alignments fs k j))
    tries-listed = rw table.is tried.listed

    -- The scenario with the alignment is one that the search may start from.
    pub tries-refined : {cs' : List Choice} → cs' ≡ set cs (j - 1) (Fixed a) → RefinedBy fs k free cs'
    tries-refined is = rw is (more-refined fs k cs l.refines l.prefix.long listed tries-listed)

    leads-on : first_among faults fs k claim (completions fs k cs) ≡ first_among faults fs k claim (completions fs k (set cs (j - 1) (Fixed a))) → LeadsTo faults fs k claim (j + 1) (set cs (j - 1) (Fixed a))
    leads-on same =
        record {
          prefix = prefix-more l.prefix listed a;
          refines = tries-refined refl;
          first = sym same ∙ l.first;
        }

    -- It ends where a response exceeds the claim,
    pub tries-take : claim < fixing_more faults fs k 16 (set cs (j - 1) (Fixed a)) → LeadsTo faults fs k claim (j + 1) (set cs (j - 1) (Fixed a))
    tries-take over =
        leads-on (subst (λ (f : Frame). claim < fixing_more faults fs f 16 (set cs (j - 1) (Fixed a)) → first_among faults fs f claim (completions fs f cs) ≡ first_among faults fs f claim (completions fs f (set cs (j - 1) (Fixed a))))
        (sym table.is) (λ more. try-take faults accepted.valid table.inside claim cs l.prefix.long tried more) over)

    -- or at the last;
    pub tries-last : least (is_alignment fs k j) (turn fs k j - (a + 1)) (a + 1) ≡ None → LeadsTo faults fs k claim (j + 1) (set cs (j - 1) (Fixed a))
    tries-last none =
        leads-on (subst (λ (f : Frame). least (is_alignment fs f j) (turn fs f j - (a + 1)) (a + 1) ≡ None → first_among faults fs f claim (completions fs f cs) ≡ first_among faults fs f claim (completions fs f (set cs (j - 1) (Fixed a))))
        (sym table.is) (λ over. try-last faults accepted.valid table.inside claim cs l.prefix.long tried over) none)

    -- otherwise it goes on to the next.
    module _ {b : ℕ} (found : least (is_alignment fs k j) (turn fs k j - (a + 1)) (a + 1) ≡ Some b) where
      pub tries-next : fixing_more faults fs k 16 (set cs (j - 1) (Fixed a)) ≤ claim → Tries faults fs k claim cs j b
      tries-next within valid t =
          try-next faults valid t.inside claim cs l.prefix.long (tries valid t)
          (subst (λ (f : Frame). fixing_more faults fs f 16 (set cs (j - 1) (Fixed a)) ≤ claim) t.is within)
          (subst (λ (f : Frame). least (is_alignment fs f j) (turn fs f j - (a + 1)) (a + 1) ≡ Some b) t.is found)

      pub tries-less : turn fs k j - b < turn fs k j - a
      tries-less =
          subst (λ (f : Frame). least (is_alignment fs f j) (turn fs f j - (a + 1)) (a + 1) ≡ Some b → turn fs f j - b < turn fs f j - a)
          (sym table.is) (λ is. walk-less _ _ _ _ _ tried.walk is) found

-- ---- the scenario that is found

map-set : (cs : List Choice) (i : ℕ) (c : Choice) → map shown (set cs i c) ≡ set (map shown cs) i (shown c)
map-set [] i c = refl
map-set (x ∷ xs) zero c = refl
map-set (x ∷ xs) (suc i) c = ap (λ (shows : List ℕ). shown x ∷ shows) (map-set xs i c)

-- The alignments are shown as they are taken.
pub shown-set : (cs : List Choice) (i a : ℕ) {shows : List ℕ} → shows ≡ map shown cs → set shows i a ≡ map shown (set cs i (Fixed a))
unfolding shown
shown-set cs i a same = rw same (sym (map-set cs i (Fixed a)))

pub shown-free : replicate 16 0 ≡ map shown free
unfolding shown
shown-free = refl

-- The groups count from 1.
pub leads-at : {faults : Faults} {fs : List Frame} {k : Frame} {claim : ℕ} (cs : List Choice) (i a : ℕ) → LeadsTo faults fs k claim (i + 1 + 1) (set cs (i + 1 - 1) (Fixed a)) → LeadsTo faults fs k claim (i + 1 + 1) (set cs i (Fixed a))
leads-at {faults} {fs} {k} {claim} cs i a = let same : i + 1 - 1 ≡ i = omega arith in subst (λ (n : ℕ). LeadsTo faults fs k claim (i + 1 + 1) (set cs n (Fixed a))) same

module _ {fs : List Frame} (accepted : FineTable fs) {k : Frame} (table : InTable fs k) where
  self-valid : ValidFrame k
  self-valid = subst ValidFrame (sym table.is) (accepted.valid.frame table.at table.inside)

  -- Where the own group is fixed, there is a window, if none lacks.
  pub refined-window : (faults : Faults) (cs : List Choice) → length cs ≡ groups → RefinedBy fs k free cs → lacks_window faults fs k ≡ false → OwnFixed k cs → (w : ℕ) × (busy_window faults fs k cs ≡ Some w)
  refined-window faults cs long refines has (a, own) =
      subst (λ (f : Frame). lacks_window faults fs f ≡ false → RefinedBy fs f free cs → choice_of cs f.group ≡ Fixed a → (w : ℕ) × (busy_window faults fs f cs ≡ Some w))
      (sym table.is) (λ windows r fixed. more-window accepted.valid table.inside cs long faults (has-windows faults fs (row fs table.at) (λ t. subst T windows t)) r fixed) has refines own

  module _ {faults : Faults} {claim : ℕ} {cs : List Choice} (l : LeadsTo faults fs k claim 17 cs) where
    -- All groups are fixed, k's own too,
    pub leads-own : OwnFixed k cs
    leads-own = l.prefix.fixed k.group (group-listed self-valid) (omega (arith, self-valid.group-high))

    pub leads-window : lacks_window faults fs k ≡ false → {found : Option ℕ} {window : ℕ} → found ≡ busy_window faults fs k cs → window ≡ or_zero found → busy_window faults fs k cs ≡ Some window
    leads-window has {found} {window} is start = let (w, e) = refined-window faults cs l.prefix.long l.refines has leads-own in let same : window ≡ w = start ∙ ap or_zero (is ∙ e) in e ∙ ap Some (sym same)

    -- and its case is the first.
    pub leads-case : case_in faults fs k claim cs ≡ first_case faults fs k claim
    leads-case = sym (case-last faults fs k claim cs l.prefix) ∙ l.first

    pub leads-none : None ≡ exceeding_instance faults fs k claim cs → None ≡ first_case faults fs k claim
    leads-none is = sym (in-none faults fs k claim cs (sym is)) ∙ leads-case

    pub leads-some : {q : ℕ} {shows : List ℕ} → Some q ≡ exceeding_instance faults fs k claim cs → shows ≡ map shown cs → Some (record { instance = q; alignments = shows }) ≡ first_case faults fs k claim
    leads-some {q} is same = rw same (sym (in-at faults fs k claim cs q (sym is)) ∙ leads-case)
