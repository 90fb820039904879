-- The text: how long it is, and that it goes by the outcome.
use Rattle.std.specs.Prelude.{ℕ, ◌≡◌, refl, List, length, Ok, Err}
use Rattle.std.proofs.Common.{ne_eqb}
use Rattle.decimal.specs.Laws.{length-numbered}
use Rattle.log_check.specs.declared.Refusal.{Refusal}
use Rattle.log_check.specs.Refusal.{number_of}
use Rattle.log_check.specs.Returns.{log_returns}
use Rattle.log_check.specs.Laws.Returns.{number-some}
use Rattle.certifier.specs.Listing.{refusal_line}
use Rattle.log_command.specs.Command.{starts_text, text_of}

pub length-text : (starts : List ℕ) → length (starts_text starts) ≡ 240
unfolding starts_text
length-text starts = length-numbered 11 starts 16

pub text-accepted : (starts : List ℕ) → text_of (log_returns (Ok starts)) ≡ starts_text starts
unfolding text_of log_returns
text-accepted starts = refl

pub text-refused : (f : Refusal) → text_of (log_returns (Err f)) ≡ refusal_line (number_of f.cause) f.place
unfolding text_of log_returns
text-refused f = rw (ne_eqb (number_of f.cause) 0 (number-some f.cause))
