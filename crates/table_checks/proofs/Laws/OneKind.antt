-- A table of one kind keeps its answers under any rank that rises with the identifiers of that kind:
-- under document 01's, where kind 11 went ahead of kind 29, as under ISO 11898-1's.
use Rattle.std.specs.Prelude.{ℕ, ◌+◌, ◌/◌, ◌<◌, ◌≡◌, refl, cond, ◌⊎◌, List, map, eqb, length, Result}
use Rattle.std.proofs.Common.{sym, ap, ◌∙◌, inl, inr, arith}
use Rattle.std.proofs.Math.Path.{fun_ext}
use Rattle.std.proofs.lemmas.Simd.{map-map}
use Rattle.table_checks.specs.declared.Refusal.{Refusal}
use Rattle.arith.specs.Lists.{range}
use Rattle.arith.specs.Laws.Members.{map_same, of_range}
use Rattle.bus_model.specs.declared.Frame.{Frame}
use Rattle.bus_model.proofs.Theory.Alike.{recast, KeepsOrder, keeps-rising}
use Rattle.bus_model.proofs.Theory.Answers.{SameAnswers, ranked-answers, answers-through}
use Rattle.table_checks.specs.Columns.{field, columns, identifier_column, kind_column}
use Rattle.table_checks.specs.Frames.{priority_of, frame_at, frames_of}
use Rattle.table_checks.specs.Checks.{first_of, group_check, groups_check}
use Rattle.table_checks.proofs.Laws.Rank.{shorts, longs}

-- the frames of a table under a rank, given by kind and identifier
abbrev pub frames_by : (ℕ → ℕ → ℕ) → List (List ℕ) → List ℕ → List Frame
frames_by rank ls t = map (λ i. recast (λ g. rank (field t i kind_column) (field t i identifier_column)) (λ g. g.offset) (frame_at ls t i)) (range 0 (length t / columns))

-- "Rank" as document 01 had it: kind 11 goes ahead of kind 29; within a kind the smaller identifier goes first
abbrev pub former_rank : ℕ → ℕ → ℕ
former_rank kind identifier = cond (eqb kind 11) identifier (2048 + identifier)

-- A table's frames are those under today's rank.
pub frames-ranked : (ls : List (List ℕ)) (t : List ℕ) → frames_of ls t ≡ frames_by priority_of ls t
unfolding frames_of frame_at
frames-ranked ls t = refl

-- The rank rises with the identifiers of a kind.
abbrev pub RisesIn : ℕ → (ℕ → ℕ → ℕ) → Type 0
RisesIn kind rank = (a b : ℕ) → a < b → rank kind a < rank kind b

module _ (ls : List (List ℕ)) (t : List ℕ) (kind : ℕ) (all : (i : ℕ) → i < length t / columns → field t i kind_column ≡ kind) where
  -- the frames with their identifiers for priorities
  abbrev plain : List Frame
  plain = frames_by (λ k i. i) ls t

  module _ (rank : ℕ → ℕ → ℕ) (rises : RisesIn kind rank) where
    abbrev ranks : Frame → ℕ
    ranks g = rank kind g.priority

    keeps : KeepsOrder ranks plain
    keeps = keeps-rising (rank kind) (λ f g m n less. rises f.priority g.priority less)

    by-plain : frames_by rank ls t ≡ map (recast ranks (λ g. g.offset)) plain
    by-plain = map_same (range 0 (length t / columns)) (λ i m. let (low, high) = of_range 0 (length t / columns) m in rw (all i (omega arith))) ∙ sym (map-map _ _ (range 0 (length t / columns)))

    as_plain : SameAnswers (frames_by rank ls t) plain
    as_plain = rw by-plain (ranked-answers ranks keeps)

  -- Two ranks that rise with the identifiers of the kind give the same answers.
  pub one-kind : (rank other : ℕ → ℕ → ℕ) → RisesIn kind rank → RisesIn kind other → SameAnswers (frames_by rank ls t) (frames_by other ls t)
  one-kind rank other rises rises' = answers-through (as_plain rank rises) (as_plain other rises')

-- Both ranks rise within each kind.
pub today-rises : (kind : ℕ) → (kind ≡ 11) ⊎ (kind ≡ 29) → RisesIn kind priority_of
today-rises kind (inl e) a b less = rw e ((shorts a b).1 less)
today-rises kind (inr e) a b less = rw e ((longs a b).1 less)

pub former-rises : (kind : ℕ) → (kind ≡ 11) ⊎ (kind ≡ 29) → RisesIn kind former_rank
former-rises kind (inl e) a b less = rw e (omega arith)
former-rises kind (inr e) a b less = rw e (omega arith)

-- So tables of one kind keep all the answers that document 01's rank gave,
pub answers-kept : (ls : List (List ℕ)) (t : List ℕ) (kind : ℕ) → (kind ≡ 11) ⊎ (kind ≡ 29) → ((i : ℕ) → i < length t / columns → field t i kind_column ≡ kind)
    → SameAnswers (frames_of ls t) (frames_by former_rank ls t)
answers-kept ls t kind is all = rw (frames-ranked ls t) (one-kind ls t kind all priority_of former_rank (today-rises kind is) (former-rises kind is))

-- and their groups pass the same checks.
pub checks-kept : {fs gs : List Frame} → SameAnswers fs gs → groups_check fs ≡ groups_check gs
unfolding groups_check group_check
checks-kept same = ap (λ (check : ℕ → Result (Unit {0}) Refusal). first_of check 16 1) (fun_ext (λ j. rw (same.hyper j, same.releases j)))
