-- The text goes by the answer.
use Rattle.std.specs.Prelude.{ℕ, ◌≡◌, List, length, Result, Ok, Err}
use Rattle.std.proofs.Common.{sym, ◌∙◌, arith}
use Rattle.std.proofs.Math.Path.{ap}
use borrow.Author.Tests.{ne_eqb, le-ltb}
use Rattle.frame_table.specs.Text.{fields_of}
use Rattle.frame_table.specs.Table as table
use Rattle.log_check.specs.Check.{lines_of}
use Rattle.log_load.specs.declared.Refusal.{Refusal}
use Rattle.log_load.specs.Refusal.{number_of}
use Rattle.log_load.specs.Sheet.{sheet_of}
use Rattle.log_load.specs.Answer.{file_answer, area_after}
use Rattle.log_load.specs.Returns.{answer_returns, file_returns}
use Rattle.log_load.specs.Theory.Meaning.{answer-room}
use Rattle.log_load.specs.Theory.Returns.{cause-some}
use Rattle.certifier.specs.Listing.{refusal_line}
use Rattle.busiest_command.specs.Command.{text_of, text_for}

module _ (lengths file log : List ℕ) (w : ℕ) (old : List ℕ) (a : Result ℕ Refusal)
    (is : a ≡ file_answer lengths file log w old) (numbers : answer_returns a ≡ file_returns lengths file log w old) where
  -- A refusal's is its line.
  pub text-refused : (f : Refusal) → a ≡ Err f → refusal_line (number_of f.cause) f.place ≡ text_for lengths file log w old
  unfolding text_for text_of answer_returns
  text-refused f e =
      let r = ap answer_returns (sym e) ∙ numbers in
      rw (← r, ne_eqb _ 0 (cause-some f.cause))

  -- Otherwise it is the sheet, which has room.
  pub text-done : (n : ℕ) (new : List ℕ) → a ≡ Ok n → new ≡ area_after a (sheet_of (fields_of file) (lines_of log) w) old
      → (Ok n ≡ table.answer_for (Ok tt) (text_for lengths file log w old) old) × (new ≡ table.area_after (Ok n) (text_for lengths file log w old) old)
  unfolding text_for text_of answer_returns
  text-done n new e left =
      let r = ap answer_returns (sym e) ∙ numbers in
      let (same, room) = answer-room _ (fields_of file) (lines_of log) w old n (sym is ∙ e) in
      rw (← r) (rw (← same, le-ltb (length old) n (omega arith)), rw e at left)
