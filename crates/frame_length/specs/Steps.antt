-- What one step of the code hands to the next: the bits sent so far, as the next bit needs them.
use Rattle.std.specs.Prelude.{ℕ, ◌+◌, ◌≤◌, Bool, cond, not, List, [], ◌∷◌, eqb}
use Rattle.frame_length.specs.declared.Sent.{Sent}
use Rattle.frame_length.specs.DataFrame.{dominant}
use Rattle.frame_length.specs.Crc.{crc_step}
use Rattle.frame_length.specs.Stuffing.{run_with}

-- one bit more, and a stuff bit where it is the fifth of its run
unfoldable pub send_bit : Sent → Bool → Sent
send_bit s b =
    cond (eqb (run_with s.last s.run b) 5)
    (record { last = not b; run = 1; length = s.length + 2; crc = crc_step s.crc b })
    (record { last = b; run = run_with s.last s.run b; length = s.length + 1; crc = crc_step s.crc b })

unfoldable pub send_all : Sent → List Bool → Sent
send_all s [] = s
send_all s (b ∷ bs) = send_all (send_bit s b) bs

-- nothing was sent
abbrev pub nothing_sent : Sent
nothing_sent = record { last = dominant; run = 0; length = 0; crc = 0 }

-- at most n bits were sent, stuff bits counted, and fewer than five equal ones end them
abbrev pub Within : ℕ → Sent → Type 0
Within n s = (s.run ≤ 4) × (s.length ≤ n)
