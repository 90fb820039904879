-- A log's lines as entries: a log is a beginning just where its entries follow the bus rule.
use Prim.Native.Nat.{ℕ, ◌+◌, ◌/◌, ◌≤◌, ◌<◌}
use Rattle.std.proofs.Math.Path.{◌≡◌, refl, sym, ap, subst}
use Rattle.std.proofs.Common.{◌∙◌}
use mathlib.Core.List.{List, [], ◌∷◌}
use Rattle.std.proofs.Math.Bool.{true}
use Rattle.std.specs.Prelude.{◌↔◌, Option, Some, None}
use native.Mathlib.Omega.{arith}
use borrow.Author.Tests.{eqb-true, eq-eqb}
use Rattle.std.proofs.Math.Dec.{T}
use Rattle.std.proofs.Math.ListN.{length}
use Rattle.arith.specs.Least.{least}
use Rattle.arith.specs.Laws.Tests.{and_both}
use Rattle.arith.specs.Laws.Least.{least_at, least-finds}
use Rattle.bus_model.specs.Frame.{row}
use Rattle.bus_model.specs.Release.{release}
use Rattle.bus_model.specs.Bus.{Transmission, one_more, Waiting, Idle, Next}
use Rattle.bus_model.proofs.Theory.Uncut.{PlainRuns, never-plain}
use Rattle.bus_model.specs.declared.Frame.{Frame}
use Rattle.table_checks.specs.Columns.{field, columns, identifier_column, kind_column}
use Rattle.bus_log.specs.declared.Line.{Line}
use Rattle.bus_log.specs.declared.Entry.{Entry}
use Rattle.bus_log.specs.Log.{Shows, ShowsAll, end_from, last_end, IsBeginning, is_named, found_or, row_of}
use Rattle.bus_log.specs.Beginning.{sending, Follows}
use Rattle.bus_log.specs.Follow.{entry_of, entries_of}
use Rattle.bus_log.proofs.Theory.Step.{of_T}

-- the frames stand in the table's rows, of which no two have one identifier and kind
pub record Names (fs : List Frame) (t : List ℕ) : Type 0 where
  pub count : length fs ≡ length t / columns
  pub distinct : (i j : ℕ) → i < length fs → j < length fs → field t i identifier_column ≡ field t j identifier_column → field t i kind_column ≡ field t j kind_column → i ≡ j

module _ (fs : List Frame) (t : List ℕ) (names : Names fs t) where
  -- ---- the row of a line

  named : (l : Line) (i : ℕ) → T (is_named t l i) → (field t i identifier_column ≡ l.identifier) × (field t i kind_column ≡ l.kind)
  unfolding is_named
  named l i y = let (a, b) = and_both _ _ (of_T _ y) in (eqb-true _ _ a, eqb-true _ _ b)

  -- It is named so.
  pub row_named : (l : Line) → row_of t l < length fs → (field t (row_of t l) identifier_column ≡ l.identifier) × (field t (row_of t l) kind_column ≡ l.kind)
  unfolding row_of found_or
  row_named l h = go (least (is_named t l) (length t / columns) 0) refl h
    where
      go : (r : Option ℕ) → least (is_named t l) (length t / columns) 0 ≡ r → let k : ℕ = found_or (length t / columns) r in k < length fs
          → (field t k identifier_column ≡ l.identifier) × (field t k kind_column ≡ l.kind)
      go (Some i) e h = named l i (least_at (is_named t l) (length t / columns) 0 i e).2
      go None e h = absurd (omega (arith, names.count))

  -- A row that is named so is the one.
  pub named-row : (l : Line) (i : ℕ) → i < length fs → field t i identifier_column ≡ l.identifier → field t i kind_column ≡ l.kind → i ≡ row_of t l
  unfolding row_of is_named found_or
  named-row l i h a b =
      let c = names.count in
      let y : is_named t l i ≡ true = rw (eq-eqb _ _ a, eq-eqb _ _ b) in
      let (k, e, le) = least-finds (is_named t l) (length t / columns) 0 i (omega arith) (omega arith) (rw y tt) in
      let (low, high, z) = least_at (is_named t l) (length t / columns) 0 k e in
      let (p, q) = named l k z in
      rw e (names.distinct i k h (omega arith) (a ∙ sym p) (b ∙ sym q))

  module _ (starts : ℕ → ℕ) where
    -- ---- from a schedule to entries

    -- the transmission that a line shows is its entry's
    shown : (sent : ℕ → ℕ) (free : ℕ) (l : Line) (x : Transmission) → Shows fs t starts l x → Next fs starts sent free x → x.fault ≡ None → x ≡ sending sent (entry_of t l)
    unfolding entry_of Waiting
    shown sent free l x s next whole =
        let a : x.frame ≡ row_of t l = named-row l x.frame next.waiting.0 s.identifier s.kind in
        fields x.frame x.instance x.start x.length x.fault a (next.oldest ∙ ap sent a) s.start s.length whole
      where
        fields : (f n u c : ℕ) (r : Option ℕ) {f' n' u' c' : ℕ} → f ≡ f' → n ≡ n' → u ≡ u' → c ≡ c' → r ≡ None
            → ◌≡◌ {A = Transmission} (record { frame = f; instance = n; start = u; length = c; fault = r }) (record { frame = f'; instance = n'; start = u'; length = c'; fault = None })
        fields f n u c r a b d e g = cc

    to-entries : (T : ℕ) (sent : ℕ → ℕ) (free : ℕ) (log : List Line) (xs : List Transmission) → ShowsAll fs t starts log xs → PlainRuns fs starts T sent free xs
        → Follows fs starts sent free (entries_of t log)
    unfolding ShowsAll PlainRuns Follows entry_of
    to-entries T sent free [] xs all runs = tt
    to-entries T sent free (l ∷ ls) [] all runs = absurd all
    to-entries T sent free (l ∷ ls) (x ∷ xs) (shows, all) (next, whole, before, runs) =
        let same : x ≡ sending sent (entry_of t l) = shown sent free l x shows next whole in
        let queueing : release starts (row fs (row_of t l)) (sent (row_of t l)) ≡ l.release = subst (λ (y : Transmission). release starts (row fs y.frame) y.instance ≡ l.release) same shows.queueing in (
          (subst (Next fs starts sent free) same next, queueing),
          subst (λ (y : Transmission). Follows fs starts (one_more sent y.frame) (y.start + y.length) (entries_of t ls)) same
              (to-entries T (one_more sent x.frame) (x.start + x.length) ls xs all runs),
        )

  -- ---- from entries to a schedule

  module _ (starts : ℕ → ℕ) where
    sendings : (ℕ → ℕ) → List Entry → List Transmission
    sendings sent [] = []
    sendings sent (e ∷ es) = sending sent e ∷ sendings (one_more sent e.frame) es

    -- an end is not before the tick from which the bus was free
    end_after : (sent : ℕ → ℕ) (free : ℕ) (log : List Line) → Follows fs starts sent free (entries_of t log) → free ≤ end_from free log
    unfolding Follows end_from entry_of
    end_after sent free [] h = omega arith
    end_after sent free (l ∷ ls) (sends, h) = omega (arith, end_after (one_more sent (row_of t l)) (l.start + l.length) ls h, sends.0.after)

    from_entries : (sent : ℕ → ℕ) (free : ℕ) (log : List Line) → Follows fs starts sent free (entries_of t log)
        → ShowsAll fs t starts log (sendings sent (entries_of t log)) × PlainRuns fs starts (end_from free log) sent free (sendings sent (entries_of t log))
    unfolding Follows end_from entry_of sendings ShowsAll PlainRuns Idle Waiting
    from_entries sent free [] h = (tt, λ u i from to waits. omega arith)
    from_entries sent free (l ∷ ls) (sends, h) =
        let (all, runs) = from_entries (one_more sent (row_of t l)) (l.start + l.length) ls h in
        let (a, b) = row_named l sends.0.waiting.0 in (
          (record { identifier = a; kind = b; queueing = sends.1; start = refl; length = refl }, all),
          (sends.0, refl, omega (arith, end_after (one_more sent (row_of t l)) (l.start + l.length) ls h, sends.0.positive), runs),
        )

-- With these starts a log is a beginning just where its entries follow the bus rule.
pub beginning-entries : (fs : List Frame) (t : List ℕ) → Names fs t → (starts : ℕ → ℕ) (log : List Line)
    → IsBeginning fs t starts log ↔ Follows fs starts (λ i. 0) 0 (entries_of t log)
unfolding IsBeginning
beginning-entries fs t names starts log = (
  λ (xs, all, schedule). to-entries fs t names starts (last_end log) (λ i. 0) 0 log xs all ((never-plain fs starts (last_end log) xs).0 schedule),
  λ h.
      let (all, runs) = from_entries fs t names starts (λ i. 0) 0 log h in
      let xs = sendings fs t names starts (λ i. 0) (entries_of t log) in
      (xs, all, (never-plain fs starts (last_end log) xs).1 runs),
)
