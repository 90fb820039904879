-- The three parts are written where they have room, and else the area is left.
use Rattle.std.specs.Prelude.{Ok}
use Prim.Native.Nat.{ℕ, ◌+◌}
use mathlib.Core.Path.{◌≡◌, refl, sym, ap, ◌∙◌}
use mathlib.Core.List.{◌++◌}
use native.Mathlib.Omega.{arith}
use borrow.Author.Rules.{rules}
use Rattle.decimal.specs.Numbered.{numbered_lines}
use lib.ListN.{length}
use Rattle.frame_table.specs.Laws.Areas.{area-short, area-written}
use Rattle.certifier.specs.Listing.{listing_line}
use Rattle.explain_command.specs.Command.{instance_width, instance_line}
use Rattle.explain_command.specs.Laws.Text.{length-case, case-written}
use Rattle.explain_command.proofs.write_case.Goals as goal
use Rattle.explain_command.proofs.write_case.Goals.{Start}

-- the alignments are as many as the groups
long : (s : Start) → length s.args.alignments ≡ 16
long s = search rules

pub returns-then-out-end : goal.returns-then-out-end
returns-then-out-end c =
    let answer = area-short (Ok tt) _ _ _ _ (length-case c.args.identifier c.args.judgement c.args.alignments c.args.q) refl (omega (arith, c.instance_width.ensures.value, c.if-out-end.true)) c.no_room.ensures in record { value = answer.0; out_after = answer.1 }

pub returns : goal.returns
returns c =
    let wide : 31 + 192 + c.instance_width.result + 1 ≡ 31 + 192 + instance_width c.args.q + 1 = ap (λ (w : ℕ). 31 + 192 + w + 1) c.instance_width.ensures.value in
    let answer = area-written (Ok tt) (listing_line c.args.identifier c.args.judgement ++ (numbered_lines 8 c.args.alignments 16 0 ++ instance_line c.args.q)) c.args.out.now _ _ (length-case c.args.identifier c.args.judgement c.args.alignments c.args.q ∙ sym wide) refl c.if-out-end.false
    (case-written c.args.identifier c.args.judgement c.args.alignments c.args.q c.args.out.now _ _ _ _ wide c.write_line.ensures (c.write_numbered.ensures ∙ ap (λ (n : ℕ). numbered_lines 8 c.args.alignments n 0) (long (goal.at.returns c).Start)) c.write_instance.ensures) in record { value = answer.0; out_after = answer.1 }
