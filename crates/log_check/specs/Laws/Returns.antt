-- What is returned in numbers: it settles the answer, and comes in the documents' order.
use Rattle.std.specs.Prelude.{ℕ, ◌+◌, ◌≡◌, false, List, eqb, length, Option, Some, None, Result, Ok, Err}
use Rattle.std.proofs.Math.Path.{refl}
use Rattle.std.proofs.Common.{sym, ap, arith}
use borrow.Author.Tests.{ne_eqb}
use Rattle.table_checks.specs.declared.Refusal.{Refusal as TableRefusal}
use Rattle.arith.specs.Laws.Tests.{by-test}
use Rattle.table_checks.specs.Frames.{frames_of}
use Rattle.table_checks.specs.Refusal.{Returned, returned, check_returns}
use Rattle.table_checks.proofs.Laws.Returns.{number-some as table-number-some, number-settles as table-number-settles, number-range}
use Rattle.bus_log.specs.Follow.{follow_log}
use Rattle.log_check.specs.declared.Refusal.{Refusal}
use Rattle.log_check.specs.declared.Cause.{Cause}
use Rattle.log_check.specs.declared.Cause.TheVariants.{Table, Notation, Contradiction}
use Rattle.log_check.specs.Refusal.{number_of}
use Rattle.log_check.specs.Check.{is_missized, first_broken, lines_of, followed_answer, line_answer, text_answer, checked_answer}
use Rattle.log_check.specs.Returns.{LogReturned, log_returns, log_returns_for}

-- No cause has the number 0.
pub number-some : (cause : Cause) → number_of cause ≡ 0 → ⊥
unfolding number_of
number-some (Table cause) e = table-number-some cause e
number-some Notation e = omega arith
number-some Contradiction e = omega arith

-- No two causes have one number.
number-settles : (a b : Cause) → number_of a ≡ number_of b → a ≡ b
unfolding number_of
number-settles (Table a) (Table b) e = ap Table (table-number-settles a b e)
number-settles (Table a) Notation e = absurd (omega (arith, (number-range a).1))
number-settles (Table a) Contradiction e = absurd (omega (arith, (number-range a).1))
number-settles Notation (Table b) e = absurd (omega (arith, (number-range b).1))
number-settles Notation Notation e = refl
number-settles Notation Contradiction e = absurd (omega arith)
number-settles Contradiction (Table b) e = absurd (omega (arith, (number-range b).1))
number-settles Contradiction Notation e = absurd (omega arith)
number-settles Contradiction Contradiction e = refl

-- whether a log is accepted, and the refusal where it is not
abbrev pub outcome_of : Result (List ℕ) Refusal → Result (Unit {0}) Refusal
outcome_of (Ok s) = Ok tt
outcome_of (Err f) = Err f

-- Number and place alone settle that.
pub outcome-settles : (a b : Result (List ℕ) Refusal) → returned (log_returns a).number (log_returns a).place ≡ returned (log_returns b).number (log_returns b).place
    → outcome_of a ≡ outcome_of b
unfolding log_returns
outcome-settles (Ok s) (Ok t) e = refl
outcome-settles (Ok s) (Err g) e = absurd (number-some g.cause (sym (ap (λ (r : Returned). r.number) e)))
outcome-settles (Err f) (Ok t) e = absurd (number-some f.cause (ap (λ (r : Returned). r.number) e))
outcome-settles (Err f) (Err g) e =
    let cause : f.cause ≡ g.cause = number-settles f.cause g.cause (ap (λ (r : Returned). r.number) e) in
    let place : f.place ≡ g.place = ap (λ (r : Returned). r.place) e in
    ap Err (both f.cause f.place cause place)
  where
    both : (c : Cause) (p : ℕ) {c' : Cause} {p' : ℕ} → c ≡ c' → p ≡ p' → ◌≡◌ {A = Refusal} (record { cause = c; place = p }) (record { cause = c'; place = p' })
    both c p x y = cc

-- Answers that return the same are the same.
pub log-settles : (a b : Result (List ℕ) Refusal) → log_returns a ≡ log_returns b → a ≡ b
unfolding log_returns
log-settles a b e = whole a b (outcome-settles a b (ap (λ (r : LogReturned). returned r.number r.place) e)) (ap (λ (r : LogReturned). r.starts) e)
  where
    whole : (a b : Result (List ℕ) Refusal) → outcome_of a ≡ outcome_of b → (log_returns a).starts ≡ (log_returns b).starts → a ≡ b
    whole (Ok s) (Ok t) o e = ap Ok e
    whole (Ok s) (Err g) o e = cc
    whole (Err f) (Ok t) o e = cc
    whole (Err f) (Err g) o e = cc

module _ (ls : List (List ℕ)) (rows text : List ℕ) where
  line-returns : (found : Option ℕ) → first_broken text ≡ found → is_missized (length text) ≡ false
      → log_returns (text_answer ls rows text) ≡ log_returns_for (check_returns (Ok tt)) ls rows text
  unfolding text_answer line_answer followed_answer log_returns log_returns_for number_of check_returns
  line-returns (Some i) e f = rw (f, e, ne_eqb (i + 1) 0 (λ z. omega arith))
  line-returns None e f =
      by-test (eqb (follow_log (frames_of ls rows) rows (lines_of text)).place 0) (λ t. rw (f, e, t)) (λ n. rw (f, e, n))

  text-returns : log_returns (text_answer ls rows text) ≡ log_returns_for (check_returns (Ok tt)) ls rows text
  unfolding text_answer log_returns log_returns_for number_of check_returns
  text-returns = by-test (is_missized (length text)) (λ t. rw t) (λ f. line-returns (first_broken text) refl f)

  pub checked-returns : (checked : Result (Unit {0}) TableRefusal) → log_returns (checked_answer checked ls rows text) ≡ log_returns_for (check_returns checked) ls rows text
  unfolding checked_answer log_returns log_returns_for number_of check_returns
  checked-returns (Ok tt) = text-returns
  checked-returns (Err r) = rw (ne_eqb _ 0 (table-number-some r.cause))
