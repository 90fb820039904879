use borrow.Author.Rules.{rules}
use Prim.Native.Nat.{ℕ, ◌+◌, ◌*◌}
use mathlib.Core.Path.{◌≡◌, refl, sym, ap₂, ◌∙◌}
use native.Mathlib.Omega.{arith}
use Rattle.arith.specs.Laws.Overwriting.{over-element, over-all}
use Rattle.frame_length_command.specs.Command.{byte_at}
use Rattle.frame_length_command.specs.Steps.{Digits}
use Rattle.frame_length_command.specs.Laws.Digits.{length-payload, payload-at}
use Rattle.frame_length_command.proofs.decode.Goals as goal

pub loop-i-init : goal.loop-i-init
loop-i-init c = (refl, refl)

pub overflow_mul-bytes : goal.overflow_mul-bytes
unfolding Digits
overflow_mul-bytes c =
    omega (arith, c.hex_value.ensures, c.requires.digits (2 * c.loop-i.i) (omega arith))

pub overflow_add-bytes : goal.overflow_add-bytes
unfolding Digits
overflow_add-bytes c =
    let digits = c.requires.digits in
    let i = c.loop-i.i in
    omega (arith, c.hex_value.ensures, digits (2 * i) (omega arith), c.hex_value-in-loop-i.ensures, digits (2 * i + 1) (omega arith))

pub loop-i-preserved : goal.loop-i-preserved
unfolding byte_at
loop-i-preserved c =
    let l = c.loop-i in
    let hex = c.args.hex.now in
    let byte : 16 * c.hex_value.result + c.hex_value-in-loop-i.result ≡ byte_at hex l.i = ap₂ (λ (h k : ℕ). 16 * h + k) c.hex_value.ensures c.hex_value-in-loop-i.ensures in (
      over-element _ _ _ _ (length-payload hex) _ _ l.invariant.0 c.loop-i-test.true (search rules) (byte ∙ sym (payload-at hex l.i c.loop-i-test.true)),
      search rules,
    )

pub returns : goal.returns
returns c =
    let l = c.loop-i in
    over-all _ _ _ _ (length-payload _) _ l.invariant.0 (search rules) c.loop-i-test.false
