-- The frames of a table are within the limits that keep the sums small, and loops through some rows add up such sums.
use Rattle.std.specs.Prelude.{◌≡◌, ℕ, ◌+◌, ◌*◌, ◌<◌, ◌≤◌, List, length, slice_index}
use Rattle.std.proofs.Common.{sym, ap, subst, ◌∙◌, arith, add-zero, zero-add, length-take}
use mathlib.Core.List.Memᴰ
use mathlib.Core.List.{Memᴰ as Mem}
use Rattle.std.proofs.Math.Nat.{mul-le-mul_left}
use Rattle.arith.specs.Lists.{sum}
use Rattle.arith.specs.Laws.Members.{place_of, of-keep, mem-get_d}
use Rattle.arith.specs.Laws.Walks.{Through, through-start, through-more, through-end, sum_more}
use Rattle.bus_model.specs.declared.Frame.{Frame}
use Rattle.bus_model.specs.Frame.{no_frame, row}
use Rattle.bus_model.specs.Valid.{ValidFrame}
use Rattle.bus_model.specs.Pattern.{of_group}
use Rattle.bus_model.specs.Bounds.{ahead}
use Rattle.workload.specs.Prepared.{Fine, FineTable, FinePart, frames_in, table_of, part_of, Prepared, InTable}

-- They are those that the definitions ask for.
pub of-fine : {g : Frame} → Fine g → ValidFrame g
of-fine fine = record { period = fine.period-low; length = fine.length-low; group-low = fine.group-low; group-high = fine.group-high }

module _ (fs : List Frame) (table : FineTable fs) where
  -- Each frame of the table is.
  pub member-fine : {g : Frame} → Mem g fs → Fine g
  member-fine m = let (i, l, e) = place_of no_frame m in subst Fine e (table.fine i l)

  pub in-table-fine : {k : Frame} → InTable fs k → Fine k
  in-table-fine t = subst Fine (sym t.is) (table.fine t.at t.inside)

-- So are those of a group.
pub group-fine : {rows p : List ℕ} {k : Frame} → Prepared rows p k → (i : ℕ) → i < 16 → FinePart rows p (part_of p i)
unfolding of_group ahead
group-fine {rows} {p} {k} g i less =
    record {
      filled = g.filled;
      few = simp length-take (omega (arith, g.by-group.inside i less));
      fine = λ x m. member-fine _ g.filled.table (of-keep _ (table_of rows p) (of-keep _ (ahead (table_of rows p) k) (rw (g.by-group.part i less) at m)).0).0;
    }

-- What stands at a place of the rows is one of their frames.
pub part-listed : (fs : List Frame) (part : List ℕ) {i : ℕ} → i < length part → Mem (row fs (slice_index part i)) (frames_in fs part)
part-listed fs part {i} inside = Memᴰ.map (row fs) (mem-get_d part i 0 inside)

-- ---- a loop through some rows

-- it has added up what f gives for the frames before place i, each at most `most`
pub record SumTo (f : Frame → ℕ) (most : ℕ) (fs : List Frame) (part : List ℕ) (done i : ℕ) : Type 0 where
  pub through : Through (λ ms. sum f (frames_in fs ms)) ◌+◌ part (sum f (frames_in fs part)) done i
  pub small : done ≤ most * i

module _ {f : Frame → ℕ} {most : ℕ} {fs : List Frame} {part : List ℕ} where
  pub sum-none : SumTo f most fs part 0 0
  sum-none = record { through = through-start _ _ _ _ (zero-add _); small = omega arith }

  pub sum-next : {done x i : ℕ} → SumTo f most fs part done i → i < length part → x ≡ f (row fs (slice_index part i)) → x ≤ most → SumTo f most fs part (done + x) (i + 1)
  sum-next {done} s less is high = record { through = through-more _ _ _ _ 0 s.through less (λ ms. sum_more f done _ (ap (λ (y : ℕ). done + y) is) (frames_in fs ms)); small = omega (arith, s.small) }

  pub sum-all : {done i : ℕ} → SumTo f most fs part done i → length part ≤ i → length part ≤ 64 → (done ≡ sum f (frames_in fs part)) × (done ≤ 64 * most)
  unfolding sum
  sum-all s over few = (sym (add-zero _) ∙ through-end _ _ _ _ s.through over, omega (arith, s.small, mul-le-mul_left most s.through.inside, mul-le-mul_left most few))
