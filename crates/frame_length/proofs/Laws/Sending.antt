-- Sending bits one by one gives their CRC, and how many they are with their stuff bits.
use Rattle.std.specs.Prelude.{ℕ, zero, suc, ◌+◌, ◌-◌, ◌/◌, ◌^◌, ◌<◌, ◌≡◌, refl, Bool, eqb, length, get_or, drop}
use Rattle.std.proofs.Common.{ap, ◌∙◌, add-one, arith, drop-cons}
use Rattle.std.proofs.Math.Path.{sym}
use mathlib.Core.List.{List, [], ◌∷◌, ◌++◌, flat_map}
use Rattle.arith.specs.Laws.Tests.{by-test}
use Rattle.frame_length.specs.declared.Sent.{Sent}
use Rattle.frame_length.specs.DataFrame.{dominant, recessive, bit, bits, base_arbitration, extended_arbitration, arbitration, control, data_field, before_crc}
use Rattle.frame_length.specs.Crc.{crc_step, crc_from, crc_of}
use Rattle.frame_length.specs.Stuffing.{run_with, stuff_from, stuff}
use Rattle.frame_length.specs.FrameLength.{with_crc}
use Rattle.frame_length.specs.Steps.{send_bit, send_all, nothing_sent}

-- ---- a list

-- One list after the other.
pub send-append : (s : Sent) (xs ys : List Bool) → send_all s (xs ++ ys) ≡ send_all (send_all s xs) ys
unfolding send_all
send-append s [] ys = refl
send-append s (b ∷ xs) ys = send-append (send_bit s b) xs ys

-- The CRC is that of the bits.
step-crc : (s : Sent) (b : Bool) → (send_bit s b).crc ≡ crc_step s.crc b
unfolding send_bit
step-crc s b = by-test (eqb (run_with s.last s.run b) 5) (λ e. rw (e, send_bit)) (λ e. rw (e, send_bit))

pub sent-crc : (s : Sent) (bs : List Bool) → (send_all s bs).crc ≡ crc_from s.crc bs
unfolding send_all crc_from
sent-crc s [] = refl
sent-crc s (b ∷ bs) = sent-crc (send_bit s b) bs ∙ ap (λ (c : ℕ). crc_from c bs) (step-crc s b)

-- The length grows by the bits and their stuff bits.
step-length : (s : Sent) (b : Bool) (bs : List Bool)
    → (send_bit s b).length + length (stuff_from (send_bit s b).last (send_bit s b).run bs) ≡ s.length + length (stuff_from s.last s.run (b ∷ bs))
unfolding send_bit stuff_from
step-length s b bs =
    by-test (eqb (run_with s.last s.run b) 5)
    (λ e. rw (e, send_bit, stuff_from) (omega arith))
    (λ e. rw (e, send_bit, stuff_from) (omega arith))

pub sent-length : (s : Sent) (bs : List Bool) → (send_all s bs).length ≡ s.length + length (stuff_from s.last s.run bs)
unfolding send_all stuff_from
sent-length s [] = omega arith
sent-length s (b ∷ bs) = sent-length (send_bit s b) bs ∙ step-length s b bs

-- Bits and then their CRC.
pub sent-whole : (bs : List Bool) (before whole : Sent) → before ≡ send_all nothing_sent bs → whole ≡ send_all before (bits 15 before.crc)
    → whole.length ≡ length (stuff (with_crc bs))
unfolding with_crc crc_of stuff
sent-whole bs before whole p q =
    rw (q, p)
    (ap (λ (c : ℕ). (send_all (send_all nothing_sent bs) (bits 15 c)).length) (sent-crc nothing_sent bs)
    ∙ ap (λ (s : Sent). s.length) (sym (send-append nothing_sent bs (bits 15 (crc_from 0 bs))))
    ∙ sent-length nothing_sent (bs ++ bits 15 (crc_from 0 bs))
    ∙ omega arith)

-- ---- the fields

-- The next of a number's bits.
pub bits-more : (w n : ℕ) → 0 < w → bits w n ≡ bit n (w - 1) ∷ bits (w - 1) n
unfolding bits
bits-more zero n h = absurd (omega arith)
bits-more (suc w) n h = let e : suc w - 1 ≡ w = omega arith in rw e

-- The next of the payload's bytes.
pub data-more : (xs : List ℕ) (i : ℕ) → i < length xs → data_field (drop i xs) ≡ bits 8 (get_or xs i 0) ++ data_field (drop (i + 1) xs)
unfolding data_field flat_map
data-more xs i h = rw (add-one, drop-cons xs i 0 h)

module _ (s : Sent) (identifier : ℕ) where
  pub sent-base : send_bit (send_all s (bits 11 identifier)) dominant ≡ send_all s (base_arbitration identifier)
  unfolding base_arbitration send_all
  sent-base = sym (send-append s (bits 11 identifier) (dominant ∷ []))

  pub sent-extended : send_bit (send_all (send_bit (send_bit (send_all s (bits 11 (identifier / 2 ^ 18))) recessive) recessive) (bits 18 identifier)) dominant
      ≡ send_all s (extended_arbitration identifier)
  unfolding extended_arbitration send_all
  sent-extended =
      sym (send-append _ (bits 18 identifier) (dominant ∷ []))
      ∙ sym (send-append s (bits 11 (identifier / 2 ^ 18)) (recessive ∷ recessive ∷ bits 18 identifier ++ (dominant ∷ [])))

pub sent-before : (kind identifier : ℕ) (payload : List ℕ)
    → send_all (send_all (send_all (send_bit nothing_sent dominant) (arbitration kind identifier)) (control (length payload))) (data_field payload)
    ≡ send_all nothing_sent (before_crc kind identifier payload)
unfolding before_crc send_all
sent-before kind identifier payload =
    let a = arbitration kind identifier in
    let c = control (length payload) in
    let started = send_bit nothing_sent dominant in
    sym (send-append (send_all started a) c (data_field payload)) ∙ sym (send-append started a (c ++ data_field payload))
