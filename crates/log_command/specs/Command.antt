-- What the command check-log prints (document 02, request 10: "the starts of groups 1 to 16 are shown").
use Rattle.std.specs.Prelude.{ℕ, cond, List, eqb}
use Rattle.decimal.specs.Numbered.{numbered_lines}
use Rattle.log_check.specs.Returns.{LogReturned}
use Rattle.certifier.specs.Listing.{refusal_line}

-- group (3) and start (11) for each of the sixteen groups
unfoldable pub starts_text : List ℕ → List ℕ
starts_text starts = numbered_lines 11 starts 16 0

-- the starts, or number and place of a refusal
unfoldable pub text_of : LogReturned → List ℕ
text_of r = cond (eqb r.number 0) (starts_text r.starts) (refusal_line r.number r.place)
