-- A table without groups has the load sheet that it had, once it is widened by a group equal to its node.
use Prim.Native.Nat.{ℕ, ◌/◌, ◌%◌, max}
use Rattle.std.specs.Prelude.{◌≡◌, refl, Bool, length}
use Rattle.std.proofs.Common.{sym, ap₂, ◌∙◌, arith}
use Rattle.std.proofs.Math.Path.{ap, fun_ext}
use mathlib.Core.List.Memᴰ.{head as here}
use mathlib.Core.List.Memᴰ.{tail as there}
use mathlib.Core.List.{List, [], ◌∷◌, ◌++◌, Memᴰ as Mem}
use Rattle.std.proofs.Math.Dec.{eqb}
use Rattle.arith.specs.Lists.{greatest, keep, exists, range}
use Rattle.arith.specs.Laws.Members.{of-keep, map-keep}
use Rattle.arith.specs.Laws.Maps.{exists-map}
use Rattle.bus_model.specs.declared.Frame.{Frame}
use Rattle.bus_model.specs.Pattern.{of_group, hyperperiod}
use Rattle.table_checks.specs.Columns.{field, columns, node_column, group_column}
use Rattle.table_checks.specs.Frames.{frame_at, frames_of}
use Rattle.table_checks.proofs.Laws.Ungrouped.{plain_columns, plain_frames, widened, widened-field, widened-frames}
use Rattle.load_sheet.specs.declared.Load.{Load}
use Rattle.load_sheet.specs.Load.{load_of}
use Rattle.load_sheet.specs.Sheet.{is_of, has_frames, nodes_of, rows_of, node_frames, group_of, node_load, node_line, lines_of, greatest_quotient, sheet_with, sheet_of}
use Rattle.load_sheet.proofs.Laws.Loads.{is_true, first-row}

-- ---- a table without groups: a node's frames and their hyperperiod

unfoldable pub plain_load : List Frame → ℕ → Load
plain_load fs j = load_of (hyperperiod (of_group fs j)) (of_group fs j)

unfoldable pub plain_nodes : List Frame → List ℕ
plain_nodes fs = keep (λ j. exists (λ g. eqb g.group j) fs) (range 1 16)

unfoldable pub plain_sheet : List (List ℕ) → List ℕ → List ℕ
plain_sheet ls t = sheet_with (plain_load (plain_frames ls t)) (plain_nodes (plain_frames ls t))

-- ---- the same

-- Sheets with the same loads.
lines_same : (load other : ℕ → Load) (js : List ℕ) → ((j : ℕ) → Mem j js → load j ≡ other j) → lines_of load js ≡ lines_of other js
unfolding lines_of
lines_same load other [] same = refl
lines_same load other (j ∷ js) same = ap₂ (λ (l : Load) (rest : List ℕ). node_line j l ++ rest) (same j (here refl)) (lines_same load other js (λ i m. same i (there m)))

most-same : (load other : ℕ → Load) (js : List ℕ) → ((j : ℕ) → Mem j js → load j ≡ other j) → greatest_quotient load js ≡ greatest_quotient other js
unfolding greatest_quotient greatest
most-same load other [] same = refl
most-same load other (j ∷ js) same = ap₂ max (ap (λ (l : Load). l.quotient) (same j (here refl))) (most-same load other js (λ i m. same i (there m)))

-- Where the group on each row is the node, the frames of a node are those of the group.
module _ (ls : List (List ℕ)) (rows : List ℕ) (same : (i : ℕ) → field rows i group_column ≡ field rows i node_column) where
  is-of : (j : ℕ) → is_of rows j ≡ (λ i. eqb (frame_at ls rows i).group j)
  unfolding is_of frame_at
  is-of j = fun_ext (λ i. rw (same i))

  frames-same : (j : ℕ) → node_frames ls rows j ≡ of_group (frames_of ls rows) j
  unfolding node_frames rows_of of_group frames_of
  frames-same j = rw (is-of j) (map-keep (frame_at ls rows) (λ g. eqb g.group j) (range 0 (length rows / columns)))

  nodes-same : nodes_of rows ≡ plain_nodes (frames_of ls rows)
  unfolding nodes_of has_frames plain_nodes frames_of
  nodes-same =
      ap (λ (p : ℕ → Bool). keep p (range 1 16))
      (fun_ext (λ j. rw (is-of j) (sym (exists-map (frame_at ls rows) (λ g. eqb g.group j) (range 0 (length rows / columns))))))

  group-same : (j : ℕ) → Mem j (nodes_of rows) → group_of rows j ≡ j
  unfolding nodes_of
  group-same j m =
      let (i, l, node, group) = first-row rows j (is_true (has_frames rows j) (of-keep (has_frames rows) (range 1 16) m).1) in
      group ∙ same i ∙ node

  load_same : (j : ℕ) → Mem j (nodes_of rows) → node_load ls rows j ≡ plain_load (frames_of ls rows) j
  unfolding node_load plain_load
  load_same j m = rw (group-same j m, frames-same j)

  sheet-same : sheet_of ls rows ≡ sheet_with (plain_load (frames_of ls rows)) (plain_nodes (frames_of ls rows))
  unfolding sheet_of sheet_with
  sheet-same = rw (lines_same _ _ (nodes_of rows) load_same, most-same _ _ (nodes_of rows) load_same, nodes-same)

-- So the sheet is the one that it was.
pub sheet-as-before : (ls : List (List ℕ)) (t : List ℕ) → length t % plain_columns ≡ 0 → sheet_of ls (widened t) ≡ plain_sheet ls t
unfolding plain_sheet
sheet-as-before ls t whole =
    sheet-same ls (widened t) (λ i. widened-field t whole i group_column (omega arith) ∙ sym (widened-field t whole i node_column (omega arith)))
    ∙ rw (widened-frames t whole ls)
