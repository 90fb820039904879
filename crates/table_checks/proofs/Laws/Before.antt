-- With document 01's lengths loaded every frame is as before: the definitions as they stood without loaded lengths, and the law that they are
-- the same.
use Rattle.std.specs.Prelude.{ℕ, ◌/◌, ◌<◌, ◌≡◌, Bool, true, false, cond, List, [], map, eqb, length, get_or}
use Rattle.std.proofs.Common.{sym, ◌∙◌, arith}
use Rattle.std.proofs.Math.Decide.{dec_lt}
use Rattle.arith.specs.Lists.{range}
use Rattle.arith.specs.Laws.Members.{get_d_beyond, map_same}
use Rattle.bus_model.specs.declared.Frame.{Frame}
use Rattle.table_checks.specs.Columns.{field, columns, group_column, identifier_column, kind_column, payload_column, period_column, offset_column}
use Rattle.table_checks.specs.Frames.{priority_of, standard_lengths, length_at, kind_place, largest_length, frame_at, frames_of}
use Rattle.table_checks.proofs.Laws.Lengths.{length-is, too_long}

-- ---- before

unfoldable pub length_before : ℕ → ℕ → ℕ
length_before kind payload = get_or (get_or standard_lengths (kind_place kind) []) payload 0

unfoldable pub frame_before : List ℕ → ℕ → Frame
frame_before t i =
    record {
      group = field t i group_column;
      priority = priority_of (field t i kind_column) (field t i identifier_column);
      length = length_before (field t i kind_column) (field t i payload_column);
      period = field t i period_column;
      offset = field t i offset_column;
    }

unfoldable pub frames_before : List ℕ → List Frame
frames_before t = map (frame_before t) (range 0 (length t / columns))

-- ---- the same

pub length-before : (kind payload : ℕ) → largest_length standard_lengths kind payload ≡ length_before kind payload
unfolding length_before
length-before kind payload =
    elim (dec_lt 8 payload) [
      | yes more ↦ too_long standard_lengths kind payload more ∙ sym (none (eqb kind 11) more)
      | no few ↦ length-is standard_lengths kind payload (omega arith)
    ]
  where
    none : (b : Bool) → 8 < payload → length_at standard_lengths (cond b 0 1) payload ≡ 0
    none true more = get_d_beyond (get_or standard_lengths 0 []) payload 0 more
    none false more = get_d_beyond (get_or standard_lengths 1 []) payload 0 more

pub frame-before : (t : List ℕ) (i : ℕ) → frame_at standard_lengths t i ≡ frame_before t i
unfolding frame_at frame_before
frame-before t i = rw (length-before (field t i kind_column) (field t i payload_column))

-- Every frame is as before.
pub frames-before : (t : List ℕ) → frames_of standard_lengths t ≡ frames_before t
unfolding frames_of frames_before
frames-before t = map_same (range 0 (length t / columns)) (λ i m. frame-before t i)
