-- No content exceeds the table of largest lengths.
--     stuffed-most      for any g, from the one fact about n bits
--     frame-most        for both kinds of frames
--     returned-most     for what is returned, refusals too
--     returns-settle    no two answers return the same
use Rattle.std.specs.Prelude.{ℕ, zero, suc, ◌+◌, ◌*◌, ◌≤◌, ◌<◌, ◌≡◌, refl, Bool, true, false, cond, ◌&&◌, leb, eqb, length, get_or, Option, Some, None}
use Rattle.std.proofs.Common.{ap, arith, leb-true, length-append}
use mathlib.Core.List.{List, [], ◌∷◌, flat_map}
use Rattle.std.proofs.lemmas.Bool.{lt-leb}
use Rattle.arith.specs.Laws.Tests.{by-test, and_both}
use Rattle.table_checks.specs.Columns.{is_identifier}
use Rattle.table_checks.specs.Frames.{kind_place, stuffable, length_rule, standard_lengths, largest_length}
use Rattle.table_checks.proofs.Laws.Lengths.{standard-follow, length-is}
use Rattle.frame_length.specs.DataFrame.{bits, base_arbitration, extended_arbitration, arbitration, control, data_field, before_crc}
use Rattle.frame_length.specs.Stuffing.{stuff}
use Rattle.frame_length.specs.FrameLength.{with_crc, stuffed_part, frame_length, is_data_frame, FrameReturned, frame_returns, measured_returns}
use Rattle.frame_length.proofs.Laws.Stuffing.{stuff-most}

-- For any g: g + 8s bits are within the rule once they are stuffed and 13 follow.
pub stuffed-most : (g s : ℕ) (bs : List Bool) → length bs ≡ g + 8 * s → length (stuff bs) + 13 ≤ length_rule g s
unfolding length_rule
stuffed-most g s bs e = omega (arith, stuff-most bs)

-- ---- how many bits a frame has

length-bits : (w n : ℕ) → length (bits w n) ≡ w
unfolding bits
length-bits zero n = refl
length-bits (suc w) n = ap suc (length-bits w n)

length-data : (payload : List ℕ) → length (data_field payload) ≡ 8 * length payload
unfolding data_field flat_map
length-data [] = refl
length-data (x ∷ xs) = let ih = length-data xs in omega (arith, length-append (bits 8 x) (data_field xs), length-bits 8 x)

-- g is the bits before the payload and the CRC
length-arbitration : (kind identifier : ℕ) → length (arbitration kind identifier) + 22 ≡ get_or stuffable (kind_place kind) 0
unfolding arbitration base_arbitration extended_arbitration
length-arbitration kind identifier = go (eqb kind 11)
  where
    go : (b : Bool) → length (cond b (base_arbitration identifier) (extended_arbitration identifier)) + 22 ≡ get_or stuffable (cond b 0 1) 0
    go true = simp (length-append, length-bits)
    go false = simp (length-append, length-bits)

frame-length : (kind identifier : ℕ) (payload : List ℕ)
    → length (with_crc (before_crc kind identifier payload)) ≡ get_or stuffable (kind_place kind) 0 + 8 * length payload
unfolding with_crc before_crc control
frame-length kind identifier payload =
    simp (length-append, length-bits, length-data) (omega (arith, length-arbitration kind identifier))

-- No content exceeds the table.
pub frame-most : (kind identifier : ℕ) (payload : List ℕ) → length payload ≤ 8 → frame_length kind identifier payload ≤ largest_length standard_lengths kind (length payload)
unfolding frame_length stuffed_part
frame-most kind identifier payload few =
    rw (length-is standard_lengths kind (length payload) few, standard-follow (kind_place kind) (length payload) (place (eqb kind 11)) (omega arith))
    (stuffed-most (get_or stuffable (kind_place kind) 0) (length payload) (with_crc (before_crc kind identifier payload)) (frame-length kind identifier payload))
  where
    place : (b : Bool) → cond b 0 1 < 2
    place true = omega arith
    place false = omega arith

-- The same of what is returned, for any input.
pub returned-most : (kind identifier : ℕ) (payload : List ℕ) → (frame_returns kind identifier payload).ticks ≤ largest_length standard_lengths kind (length payload)
unfolding frame_returns is_data_frame
returned-most kind identifier payload =
    by-test (is_identifier kind identifier && leb (length payload) 8)
    (λ e. rw e (frame-most kind identifier payload (leb-true _ _ (and_both (is_identifier kind identifier) _ e).1)))
    (λ e. rw e (omega arith))

-- A payload of more than 8 bytes is refused.
pub refused-long : (kind identifier : ℕ) (payload : List ℕ) → 8 < length payload → frame_returns kind identifier payload ≡ measured_returns None
unfolding frame_returns is_data_frame measured_returns
refused-long kind identifier payload long = by-test (is_identifier kind identifier) (λ e. rw (e, lt-leb _ _ long)) (λ e. rw e)

-- What is returned settles the answer.
pub returns-settle : (a b : Option ℕ) → measured_returns a ≡ measured_returns b → a ≡ b
unfolding measured_returns
returns-settle (Some m) (Some n) e = ap Some (ap (λ (r : FrameReturned). r.ticks) e)
returns-settle (Some m) None e = let z : ◌≡◌ {A = ℕ} 0 16 = ap (λ (r : FrameReturned). r.number) e in absurd (omega arith)
returns-settle None (Some n) e = let z : ◌≡◌ {A = ℕ} 16 0 = ap (λ (r : FrameReturned). r.number) e in absurd (omega arith)
returns-settle None None e = refl
