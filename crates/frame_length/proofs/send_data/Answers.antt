use Prim.Native.Nat.{ℕ, ◌+◌, ◌≤◌, ◌<◌}
use mathlib.Core.Path.{◌≡◌, refl, sym, ◌∙◌}
use mathlib.Core.List.{List, flat_map}
use native.Mathlib.Omega.{arith}
use lib.ListN.{length, get_or, drop, drop_of_length-le}
use Rattle.frame_length.specs.declared.Sent.{Sent}
use Rattle.frame_length.specs.DataFrame.{bits, data_field}
use Rattle.frame_length.specs.Steps.{send_all}
use Rattle.frame_length.proofs.Laws.Sending.{send-append, data-more}
use Rattle.frame_length.proofs.send_data.Goals as goal

turn : (xs : List ℕ) (i : ℕ) (s r : Sent) → i < length xs → r ≡ send_all s (bits 8 (get_or xs i 0))
    → send_all r (data_field (drop (i + 1) xs)) ≡ send_all s (data_field (drop i xs))
turn xs i s r h e = rw (e, data-more xs i h) (sym (send-append s (bits 8 (get_or xs i 0)) (data_field (drop (i + 1) xs))))

done : (xs : List ℕ) (i : ℕ) (s : Sent) → length xs ≤ i → send_all s (data_field (drop i xs)) ≡ s
unfolding send_all data_field flat_map
done xs i s h = rw (drop_of_length-le xs h)

pub loop-byte-init : goal.loop-byte-init
loop-byte-init c = (refl, omega arith, omega arith)

pub loop-byte-preserved : goal.loop-byte-preserved
loop-byte-preserved c =
    let l = c.loop-byte in
    let sent = c.send_bits-s.ensures in (
      turn _ l.byte-index l.s _ c.loop-byte-test.true (rw c.from.ensures at sent.value) ∙ l.invariant.0,
      sent.within.0,
      omega (arith, sent.within),
    )

pub returns : goal.returns
returns c =
    let l = c.loop-byte in
    record { value = sym (done _ l.byte-index l.s c.loop-byte-test.false) ∙ l.invariant.0; within = (l.invariant.1, omega arith) }
