use Prim.Native.Nat.{◌≤◌, ◌<◌}
use mathlib.Core.Path.{refl, sym, ◌∙◌}
use native.Mathlib.Omega.{arith}
use borrow.Author.Tests.{le-leb, lt-leb}
use lib.ListN.{get_or}
use Rattle.frame_length_command.specs.Command.{hex_value}
use Rattle.frame_length_command.specs.Laws.Digits.{hex-more, hex-stop, hex-end}
use Rattle.frame_length_command.proofs.is_hex.Goals as goal

pub loop-byte-init : goal.loop-byte-init
loop-byte-init c = refl

pub returns-then-hex_value-gt15 : goal.returns-then-hex_value-gt15
returns-then-hex_value-gt15 c =
    let l = c.loop-byte in
    let s = c.args.s.now in
    let other : 16 ≤ hex_value (get_or s l.byte-index 0) = omega (arith, c.hex_value.ensures) in
    sym (hex-stop s l.byte-index c.loop-byte-test.true (le-leb _ _ other)) ∙ l.invariant

pub loop-byte-preserved : goal.loop-byte-preserved
loop-byte-preserved c =
    let l = c.loop-byte in
    let s = c.args.s.now in
    let digit : hex_value (get_or s l.byte-index 0) < 16 = omega (arith, c.hex_value.ensures) in
    hex-more s l.byte-index c.loop-byte-test.true (lt-leb _ _ digit) ∙ l.invariant

pub returns : goal.returns
returns c =
    let l = c.loop-byte in
    sym (hex-end _ l.byte-index c.loop-byte-test.false) ∙ l.invariant
