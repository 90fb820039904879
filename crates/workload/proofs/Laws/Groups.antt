-- The rows of each group's frames ahead of k, as they are found and then read; and the lengths below k.
use Rattle.std.specs.Prelude.{◌≡◌, ℕ, zero, suc, ◌+◌, ◌-◌, ◌*◌, ◌<◌, ◌≤◌, max, Bool, true, false, cond, if◌then◌else◌, ◌&&◌, leb, ltb, List, [], ◌∷◌, ◌++◌, length, get_or, take, drop, ◌==◌, nat_eq, nat_le, slice_index, slice_index_or, slice_set}
use Rattle.std.specs.Bool.{beq}
use Rattle.std.proofs.Math.Path.{refl, ap}
use Rattle.std.proofs.Common.{sym, ap₂, subst, ◌∙◌, arith, le_refl, le_trans, le-leb, eq-eqb, ne_eqb, length-set, length-append, drop_of_length-le, get_or-set_same, get_or-set_other, get_or-take, drop-set-lt, length-take-le, take_at, drop_at, below_more}
use mathlib.Core.List.Memᴰ.{head as here}
use mathlib.Core.List.Memᴰ.{tail as there}
use mathlib.Core.List.{append-nil, Memᴰ as Mem}
use Rattle.std.proofs.Math.Nat.{sub-zero}
use Rattle.std.proofs.Math.Decide.{dec_le, ℕ_discrete}
use Rattle.std.proofs.lemmas.Bool.{lt-leb}
use Rattle.std.proofs.lemmas.List.{length-map}
use Rattle.std.proofs.Math.ListN.{get_or-append}
use borrow.Rule.Slice.PartMut.{mid_of, post_of, put_mid, mid_len, Post-is, same_len_mid}
use Rattle.arith.specs.Lists.{greatest, keep, range}
use Rattle.arith.specs.Least.{least}
use Rattle.arith.specs.Multiples.{lcm, lcm_of}
use Rattle.arith.specs.Laws.Members.{of-keep, fold-keep, map-keep, keep-keep, keep-le, list-places, part-before, part-written, part-start, mem-get_d}
use Rattle.arith.specs.Laws.Multiples.{lcm-ge-second}
use Rattle.arith.specs.Laws.Sums.{greatest-le}
use Rattle.arith.specs.Laws.Walks.{Down, down-start, down-more, down-end, Through, through-more, through-end}
use Rattle.arith.specs.Laws.Gathering.{Gathered, gathered-all}
use Rattle.bus_model.specs.declared.Frame.{Frame}
use Rattle.bus_model.specs.declared.Faults.{Faults}
use Rattle.bus_model.specs.declared.Faults.TheVariants.{Never, Apart}
use Rattle.bus_model.specs.declared.Choice.{Choice}
use Rattle.bus_model.specs.declared.Choice.TheVariants.{Any}
use Rattle.bus_model.specs.Frame.{no_frame, row}
use Rattle.bus_model.specs.Pattern.{of_group, hyperperiod}
use Rattle.bus_model.specs.Bounds.{is_ahead, is_below, ahead, below, blocking, alignments, choice_of, group_work, fault_time}
use Rattle.bus_model.specs.Theory.Visits.{is_alignment}
use Rattle.bus_model.specs.Theory.Turns.{turn}
use Rattle.bus_model.proofs.Theory.Turns.{first_turn, turn-pos, turn-le, group-work-turn}
use Rattle.table_checks.specs.Frames.{frames_of}
use Rattle.workload.specs.Prepared.{Fine, FineTable, frames_in, is_instant, instants_in, first_in, count_in, cycle_in, hyper_in, part_of, table_by, table_of, ByGroup, Prepared, InTable}
use Rattle.workload.proofs.Laws.Fine.{member-fine, in-table-fine}
use Rattle.workload.specs.declared.Target.{Target}
use Rattle.workload.specs.Faults.{cost_of, FineFaults, FineTarget}

-- ---- the longest of some frames

-- the greatest length of those that pass a test
abbrev pub longest_of : (Frame → Bool) → List Frame → ℕ
longest_of p gs = greatest (λ g. g.length) (keep p gs)

-- what a frame more makes of it
abbrev pub longer_of : (Frame → Bool) → Frame → ℕ → ℕ
longer_of p g n = max n (cond (p g) g.length 0)

longer-is : (b : Bool) (l n : ℕ) → cond b (max l n) n ≡ max n (cond b l 0)
longer-is true l n = omega arith
longer-is false l n = omega arith

pub longest-cons : (p : Frame → Bool) (g : Frame) (gs : List Frame) → longest_of p (g ∷ gs) ≡ longer_of p g (longest_of p gs)
longest-cons p g gs = fold-keep (greatest (λ (x : Frame). x.length)) (λ (x : Frame). max x.length) (λ x xs. unfold greatest in refl) p g gs ∙ longer-is (p g) _ _

-- the frames on one side of k
abbrev pub side : Bool → Frame → Frame → Bool
side true k = is_below k
side false k = is_ahead k

beq-true : (b : Bool) → beq b true ≡ b
beq-true true = refl
beq-true false = refl

-- It is on the lower side of k that its number is higher.
pub side-test : (lower : Bool) (k g : Frame) → beq (ltb k.priority g.priority) lower ≡ side lower k g
side-test true k g = beq-true _
side-test false k g =
    elim (dec_le g.priority k.priority) [
      | yes low ↦ rw (le-leb g.priority k.priority low, lt-leb (suc k.priority) g.priority (omega arith))
      | no high ↦ rw (lt-leb g.priority k.priority (omega arith), le-leb (suc k.priority) g.priority (omega arith))
    ]

pub side-is : (lower : Bool) (fs : List Frame) (k : Frame) → longest_of (side lower k) fs ≡ greatest (λ g. g.length) (if lower then below fs k else ahead fs k)
unfolding below ahead
side-is true fs k = refl
side-is false fs k = refl

-- A loop has found the greatest length of those of the first i frames that pass.
abbrev pub LongestTo : (Frame → Bool) → List Frame → ℕ → ℕ → Type 0
LongestTo p fs n i = Through (longest_of p) max fs (longest_of p fs) n i

module _ (fs : List Frame) (p : Frame → Bool) where
  -- It takes one frame more.
  pub longest-more : {i : ℕ} {g : Frame} {n r : ℕ} → LongestTo p fs n i → i < length fs → g ≡ row fs i → r ≡ longer_of p g n → LongestTo p fs r (i + 1)
  longest-more {i} {g} {n} {r} t less is e =
      through-more (longest_of p) max fs _ no_frame t less (λ gs. let one = longest-cons p (row fs i) gs in let same : r ≡ longer_of p (row fs i) n = rw is at e in omega arith)

  -- At the end it has that of all.
  pub longest-all : {i n : ℕ} → LongestTo p fs n i → length fs ≤ i → n ≡ longest_of p fs
  unfolding greatest keep
  longest-all t over = let e = through-end (longest_of p) max fs _ t over in omega arith

-- In an accepted table it is small.
pub longest-small : (fs : List Frame) → FineTable fs → (p : Frame → Bool) → longest_of p fs ≤ 400
longest-small fs accepted p = greatest-le {f = λ g. g.length} {n = 400} (keep p fs) (λ g m. (member-fine fs accepted (of-keep _ fs m).0).length_high)

-- So is what a fault costs,
cost-small : {fs : List Frame} → FineTable fs → (faults : Faults) (k : Frame) → cost_of faults fs k ≤ 431
unfolding cost_of fault_time ahead
cost-small accepted Never k = omega arith
cost-small {fs} accepted (Apart g) k = omega (arith, longest-small fs accepted (is_ahead k))

-- and what is judged is within its limits.
pub target-fine : {fs : List Frame} → FineTable fs → {t : Target} → InTable fs t.frame → FineFaults t.faults → t.cost ≡ cost_of t.faults fs t.frame → FineTarget t
target-fine {fs} accepted {t} listed premise cost =
    let f = in-table-fine fs accepted listed in
    record { long = f.length-low; short = f.length_high; premise = premise; cost = omega (arith, cost, cost-small accepted t.faults t.frame) }

-- Where faults never begin, there is no limit.
pub fine-never : FineFaults Never
unfolding FineFaults
fine-never = tt

-- In an accepted table blocking is at most a frame's length.
pub blocking-small : (fs : List Frame) → FineTable fs → (k : Frame) → blocking fs k ≤ 400
unfolding blocking below
blocking-small fs accepted k = omega (arith, longest-small fs accepted (is_below k))

-- ---- the rows of a group

-- whether a frame is of the group and ahead of k
abbrev pub is_member : Frame → ℕ → Frame → Bool
is_member k group g = g.group == group && nat_le g.priority k.priority

-- whether that in row i is
abbrev row_belongs : List Frame → Frame → ℕ → ℕ → Bool
row_belongs fs k group i = is_member k group (row fs i)

-- The rows that belong to the group have its frames ahead of k.
rows-frames : (fs : List Frame) (k : Frame) (group : ℕ) → frames_in fs (keep (row_belongs fs k group) (range 0 (length fs))) ≡ of_group (ahead fs k) group
unfolding of_group ahead
rows-frames fs k group =
    map-keep (row fs) (is_member k group) (range 0 (length fs))
    ∙ rw (list-places no_frame fs) (sym (keep-keep (is_ahead k) (λ g. nat_eq g.group group) fs))

-- There are as many.
pub rows_few : (fs : List Frame) (k : Frame) (group size : ℕ) → length (of_group (ahead fs k) group) ≤ size → length (keep (row_belongs fs k group) (range 0 (length fs - 0))) ≤ size
rows_few fs k group size few = rw sub-zero (rw (← rows-frames fs k group, length-map (keep (row_belongs fs k group) (range 0 (length fs))) (row fs)) at few)

-- those found before row i stand at the start of the area
abbrev pub RowsGathered : List Frame → Frame → ℕ → ℕ → List ℕ → ℕ → ℕ → Type 0
RowsGathered fs k group size area count i = Gathered (row_belongs fs k group) 0 (length fs) size area count i

-- At the end all are found.
pub rows-gathered : (fs : List Frame) (k : Frame) (group : ℕ) {size : ℕ} {area : List ℕ} {count i : ℕ} → RowsGathered fs k group size area count i → length fs ≤ i
    → (frames_in fs (take count area) ≡ of_group (ahead fs k) group) × (count ≡ length (of_group (ahead fs k) group))
rows-gathered fs k group g over =
    let (all, counted, few) = gathered-all g over in
    let frames = ap (frames_in fs) (rw sub-zero at all) ∙ rows-frames fs k group in
    (frames, (rw sub-zero at counted) ∙ sym (length-map (keep (row_belongs fs k group) (range 0 (length fs))) (row fs)) ∙ ap length (rows-frames fs k group))

-- ---- the hyperperiod of some frames, as a loop that goes down through them finds it

module _ (gs : List Frame) where
  -- The loop starts at 1.
  pub part_none : Down hyperperiod gs 1 (length gs)
  unfolding hyperperiod lcm_of
  part_none = down-start hyperperiod gs refl

  module _ (fine : (g : Frame) → Mem g gs → Fine g) where
    -- It takes one frame more, which never lowers the multiple.
    pub part-more : {i : ℕ} {g : Frame} {h r : ℕ} → Down hyperperiod gs h i → 0 < i → g ≡ row gs (i - 1) → r ≡ lcm g.period h
        → Down hyperperiod gs r (i - 1) × (h ≤ r)
    part-more {i} {h = h} t pos is e =
        let low = (fine _ (mem-get_d gs (i - 1) no_frame (omega (arith, t.inside)))).period-low in (
          down-more hyperperiod gs (λ (x : Frame) (n : ℕ). lcm x.period n) (λ x xs. unfold hyperperiod lcm_of in refl) no_frame t pos is e,
          rw (e, is) (lcm-ge-second (row gs (i - 1)).period h low),
        )

    -- So that of the frames read is at most that of all.
    pub part-le : (i h : ℕ) → Down hyperperiod gs h i → h ≤ hyperperiod gs
    part-le zero h t = omega (arith, down-end hyperperiod gs t (le_refl zero))
    part-le (suc i) h t =
        let s : suc i - 1 ≡ i = omega arith in
        let next = rw s at (part-more t (omega arith) refl refl) in
        le_trans next.1 (part-le i _ next.0)

-- That of a group's frames ahead is small.
pub turn_small : {fs : List Frame} → FineTable fs → (k : Frame) {j : ℕ} → 1 ≤ j → j ≤ 16 → turn fs k j ≤ 1000000
turn_small {fs} table k {j} low high = le_trans (turn-le table.valid k j) (table.hyper j low high)

ahead-fine : {fs : List Frame} → FineTable fs → (k : Frame) (j : ℕ) (g : Frame) → Mem g (of_group (ahead fs k) j) → Fine g
unfolding of_group ahead
ahead-fine {fs} table k j g m = member-fine fs table (of-keep _ fs (of-keep _ (ahead fs k) m).0).0

module _ (fs : List Frame) (k : Frame) (j : ℕ) {gs : List Frame} (is : gs ≡ of_group (ahead fs k) j) where
  -- So it may be computed,
  pub part-within : FineTable fs → 1 ≤ j → j ≤ 16 → ((g : Frame) → Mem g gs → Fine g) × (hyperperiod gs ≤ 1000000)
  unfolding turn
  part-within table low high = rw is (ahead-fine table k j, turn_small table k low high)

  -- and is the group's turn.
  pub part-turn : hyperperiod gs ≡ turn fs k j
  unfolding turn
  part-turn = ap hyperperiod is

-- ---- the groups one after the other

-- how many frames ahead of k the first m groups have
abbrev pub before : List Frame → Frame → ℕ → ℕ
before fs k m = length (keep (λ (g : Frame). leb g.group m) (ahead fs k))

count-more : (m : ℕ) (gs : List Frame)
    → length (keep (λ (g : Frame). leb g.group m) gs) + length (keep (λ (g : Frame). nat_eq g.group (m + 1)) gs) ≡ length (keep (λ (g : Frame). leb g.group (m + 1)) gs)
unfolding keep
count-more m [] = refl
count-more m (g ∷ gs) =
    let rest = count-more m gs in
    elim (dec_le g.group m) [
      | yes low ↦ rw (le-leb g.group m low, ne_eqb g.group (m + 1) (omega arith), le-leb g.group (m + 1) (omega arith)) (omega arith)
      | no high ↦ elim (ℕ_discrete g.group (m + 1)) [
        | yes is ↦ rw (lt-leb g.group m (omega arith), eq-eqb g.group (m + 1) is, le-leb g.group (m + 1) (omega arith)) (omega arith)
        | no other ↦ rw (lt-leb g.group m (omega arith), ne_eqb g.group (m + 1) other, lt-leb g.group (m + 1) (omega arith)) rest
      ]
    ]

-- One group more.
pub before_more : (fs : List Frame) (k : Frame) (m : ℕ) → before fs k m + length (of_group (ahead fs k) (m + 1)) ≡ before fs k (m + 1)
unfolding of_group
before_more fs k m = count-more m (ahead fs k)

-- They are no more than the frames of the table.
pub before-few : (fs : List Frame) (k : Frame) (m : ℕ) → before fs k m ≤ length fs
unfolding ahead
before-few fs k m = le_trans (keep-le _ (ahead fs k)) (keep-le _ fs)

none-low : (gs : List Frame) → ((g : Frame) → Mem g gs → 1 ≤ g.group) → length (keep (λ (g : Frame). leb g.group 0) gs) ≡ 0
unfolding keep
none-low [] low = refl
none-low (g ∷ gs) low = rw (lt-leb g.group 0 (low g (here refl))) (none-low gs (λ x m. low x (there m)))

-- At first there are none.
pub before-none : {fs : List Frame} → FineTable fs → (k : Frame) → before fs k 0 ≡ 0
unfolding ahead
before-none {fs} table k = none-low (ahead fs k) (λ g m. (member-fine fs table (of-keep _ fs m).0).group-low)

-- group i + 1 is listed, among the first `listed` rows
pub record Done (fs : List Frame) (k : Frame) (lists : List ℕ) (listed i : ℕ) : Type 0 where
  pub inside : first_in lists i + count_in lists i ≤ listed
  pub part : frames_in fs (part_of lists i) ≡ of_group (ahead fs k) (i + 1)
  pub cycle : cycle_in lists i ≡ turn fs k (i + 1)
  pub hyper : hyper_in lists i ≡ hyperperiod (of_group fs (i + 1))

-- the first m groups are
pub record ListedTo (fs : List Frame) (k : Frame) (lists : List ℕ) (listed m : ℕ) : Type 0 where
  pub size : length lists ≡ 128
  pub count : listed ≡ before fs k m
  pub each : (i : ℕ) → i < m → Done fs k lists listed i

-- The numbers of group i + 1 are put there:
module _ (t : List ℕ) (i a b c d : ℕ) where
  abbrev t1 : List ℕ
  t1 = slice_set t (4 * i) a

  abbrev t2 : List ℕ
  t2 = slice_set t1 (4 * i + 1) b

  abbrev t3 : List ℕ
  t3 = slice_set t2 (4 * i + 2) c

  abbrev pub numbered : List ℕ
  numbered = slice_set t3 (4 * i + 3) d

  size1 : length t1 ≡ length t
  size1 = length-set t (4 * i) a

  size2 : length t2 ≡ length t
  size2 = length-set t1 (4 * i + 1) b ∙ size1

  size3 : length t3 ≡ length t
  size3 = length-set t2 (4 * i + 2) c ∙ size2

  numbered-size : length numbered ≡ length t
  numbered-size = length-set t3 (4 * i + 3) d ∙ size3

  -- what is not theirs stays,
  numbered-other : (n : ℕ) → n < 4 * i → slice_index numbered n ≡ slice_index t n
  numbered-other n less =
      get_or-set_other t3 (4 * i + 3) n d 0 (omega arith) ∙ get_or-set_other t2 (4 * i + 2) n c 0 (omega arith)
      ∙ get_or-set_other t1 (4 * i + 1) n b 0 (omega arith) ∙ get_or-set_other t (4 * i) n a 0 (omega arith)

  numbered-drop : (n : ℕ) → 4 * i + 4 ≤ n → drop n numbered ≡ drop n t
  numbered-drop n over =
      drop-set-lt n t3 (4 * i + 3) d (omega arith) ∙ drop-set-lt n t2 (4 * i + 2) c (omega arith)
      ∙ drop-set-lt n t1 (4 * i + 1) b (omega arith) ∙ drop-set-lt n t (4 * i) a (omega arith)

  -- and they stand there.
  module _ (room : 4 * i + 4 ≤ length t) where
    numbered-first : get_or numbered (4 * i) 0 ≡ a
    numbered-first =
        get_or-set_other t3 (4 * i + 3) (4 * i) d 0 (omega arith) ∙ get_or-set_other t2 (4 * i + 2) (4 * i) c 0 (omega arith)
        ∙ get_or-set_other t1 (4 * i + 1) (4 * i) b 0 (omega arith) ∙ get_or-set_same t (4 * i) a 0 (omega arith)

    numbered-count : get_or numbered (4 * i + 1) 0 ≡ b
    numbered-count =
        get_or-set_other t3 (4 * i + 3) (4 * i + 1) d 0 (omega arith) ∙ get_or-set_other t2 (4 * i + 2) (4 * i + 1) c 0 (omega arith)
        ∙ get_or-set_same t1 (4 * i + 1) b 0 (omega (arith, size1))

    numbered-cycle : get_or numbered (4 * i + 2) 0 ≡ c
    numbered-cycle = get_or-set_other t3 (4 * i + 3) (4 * i + 2) d 0 (omega arith) ∙ get_or-set_same t2 (4 * i + 2) c 0 (omega (arith, size2))

    numbered-hyper : get_or numbered (4 * i + 3) 0 ≡ d
    numbered-hyper = get_or-set_same t3 (4 * i + 3) d 0 (omega (arith, size3))

-- What stands before a place stays where something is written from there on.
before-written : (a : ℕ) (xs ys : List ℕ) → a ≤ length xs → (n : ℕ) → n < a → slice_index (take a xs ++ ys) n ≡ slice_index xs n
before-written a xs ys inside n less = get_or-append (take a xs) ys 0 n (omega (arith, length-take-le a xs inside)) ∙ get_or-take a xs n 0 less

-- The rows that were put there are read.
pub part-read : (fs : List Frame) (c from : ℕ) (lists area : List ℕ) → from ≤ length lists → c ≤ length area
    → frames_in fs (mid_of from (from + c - from) (put_mid from (128 - from) lists area)) ≡ frames_in fs (take c area)
part-read fs c from lists area inside room =
    let same : from + c - from ≡ c = omega arith in
    rw same (ap (frames_in fs) (part-written c from lists area (post_of from (128 - from) lists) inside room))

module _ {fs : List Frame} {k : Frame} {lists : List ℕ} {listed : ℕ} where
  -- There is room for the next group's.
  pub listed-room : FineTable fs → (m : ℕ) → ListedTo fs k lists listed m → listed + length (of_group (ahead fs k) (m + 1)) ≤ 64
  listed-room table m f = omega (arith, f.count, before_more fs k m, before-few fs k (m + 1), table.few)

  -- One group more is listed, from an area behind the others.
  pub listed_more : FineTable fs → (m c cycle hyper from : ℕ) (area : List ℕ) → ListedTo fs k lists listed m → m < 16 → from ≡ 64 + listed
      → length area ≡ length (mid_of from (128 - from) lists)
      → frames_in fs (take c area) ≡ of_group (ahead fs k) (m + 1) → c ≡ length (of_group (ahead fs k) (m + 1))
      → cycle ≡ turn fs k (m + 1) → hyper ≡ hyperperiod (of_group fs (m + 1))
      → ListedTo fs k (numbered (put_mid from (128 - from) lists area) m listed c cycle hyper) (listed + c) (m + 1)
  listed_more table m c cycle hyper from area f l at size frames counted turns hypers = record {
    size = numbered-size written m listed c cycle hyper ∙ same;
    count = omega (arith, f.count, counted, before_more fs k m);
    each = below_more _ _ old new;
  }
    where
      written : List ℕ
      written = put_mid from (128 - from) lists area

      room : listed + c ≤ 64
      room = omega (arith, listed-room table m f, counted)

      inside : from ≤ length lists
      inside = omega (arith, f.size, room)

      same : length written ≡ 128
      same = same_len_mid from (128 - from) lists area size ∙ f.size

      whole : length area ≡ 128 - from
      whole = size ∙ mid_len from 128 lists (omega (arith, f.size))

      old : (i : ℕ) → i < m → Done fs k (numbered written m listed c cycle hyper) (listed + c) i
      old i less =
          let g = f.each i less in
          let stays : (n : ℕ) → n < 4 * m → slice_index (numbered written m listed c cycle hyper) n ≡ get_or lists n 0 =
          λ n low. numbered-other written m listed c cycle hyper n low ∙ before-written from lists (area ++ post_of from (128 - from) lists) inside n (omega arith) in
          record {
            inside = rw (stays (4 * i) (omega arith), stays (4 * i + 1) (omega arith)) (omega (arith, g.inside));
            part = rw (stays (4 * i) (omega arith), stays (4 * i + 1) (omega arith), numbered-drop written m listed c cycle hyper (64 + first_in lists i) (omega arith), part-before (count_in lists i) (64 + first_in lists i) from lists (area ++ post_of from (128 - from) lists) (omega (arith, g.inside)) inside) g.part;
            cycle = stays (4 * i + 2) (omega arith) ∙ g.cycle;
            hyper = stays (4 * i + 3) (omega arith) ∙ g.hyper;
          }

      new : Done fs k (numbered written m listed c cycle hyper) (listed + c) m
      new =
          let fits : 4 * m + 4 ≤ length written = omega (arith, same) in
          record {
            inside = rw (numbered-first written m listed c cycle hyper fits, numbered-count written m listed c cycle hyper fits) (omega arith);
            part = rw (numbered-first written m listed c cycle hyper fits, numbered-count written m listed c cycle hyper fits, numbered-drop written m listed c cycle hyper (64 + listed) (omega arith), ← at, part-written c from lists area (post_of from (128 - from) lists) inside (omega (arith, whole, room))) frames;
            cycle = numbered-cycle written m listed c cycle hyper fits ∙ turns;
            hyper = numbered-hyper written m listed c cycle hyper fits ∙ hypers;
          }

  -- At the end all are.
  pub listed-all : FineTable fs → (m : ℕ) → ListedTo fs k lists listed m → 16 ≤ m → ByGroup fs k lists
  listed-all table m f over = record {
    inside = λ i less. omega (arith, (f.each i (omega arith)).inside, f.count, before-few fs k m, table.few);
    part = λ i less. (f.each i (omega arith)).part;
    cycle = λ i less. (f.each i (omega arith)).cycle;
    hyper = λ i less. (f.each i (omega arith)).hyper;
  }

-- What is put behind the lists changes nothing.
pub by-group-more : {fs : List Frame} {k : Frame} {lists : List ℕ} → ByGroup fs k lists → length lists ≡ 128 → (numbers : List ℕ) → ByGroup fs k (lists ++ numbers)
by-group-more {lists = lists} g size numbers =
    let stays : (n : ℕ) → n < 128 → slice_index (lists ++ numbers) n ≡ get_or lists n 0 = λ n less. get_or-append lists numbers 0 n (omega arith) in
    record {
      inside = λ i less. rw (stays (4 * i) (omega arith), stays (4 * i + 1) (omega arith)) (g.inside i less);
      part = λ i less. rw (stays (4 * i) (omega arith), stays (4 * i + 1) (omega arith), part-start (count_in lists i) (64 + first_in lists i) lists numbers (omega (arith, g.inside i less))) (g.part i less);
      cycle = λ i less. stays (4 * i + 2) (omega arith) ∙ g.cycle i less;
      hyper = λ i less. stays (4 * i + 3) (omega arith) ∙ g.hyper i less;
    }

-- ---- the whole area

-- The lists are written first, and the numbers of the rows behind them.
both-parts : (area lists numbers : List ℕ) → length area ≡ 320 → length lists ≡ 128 → length numbers ≡ 192
    → put_mid 128 (320 - 128) (put_mid 0 (128 - 0) area lists) numbers ≡ lists ++ numbers
both-parts area lists numbers whole size size' =
    let first = put_mid 0 (128 - 0) area lists in
    let long : length first ≡ 320 = same_len_mid 0 (128 - 0) area lists (size ∙ sym (mid_len 0 128 area (omega arith))) ∙ whole in
    let front : take 128 first ≡ lists = take_at lists (post_of 0 (128 - 0) area) 128 size in
    let rest : post_of 128 (320 - 128) first ≡ [] = Post-is 128 320 first (omega arith) ∙ drop_of_length-le first {i = 320} (omega arith) in
    ap₂ (λ (x y : List ℕ). x ++ y) front (ap (λ (y : List ℕ). numbers ++ y) rest ∙ append-nil numbers)

-- So the area is prepared.
pub prepared-all : (ls : List (List ℕ)) {rows : List ℕ} {k : Frame} (area lists numbers : List ℕ) → length area ≡ 320 → length lists ≡ 128 → length numbers ≡ 192
    → FineTable (frames_of ls rows) → ByGroup (frames_of ls rows) k lists → table_by rows numbers ≡ frames_of ls rows
    → let all = put_mid 128 (320 - 128) (put_mid 0 (128 - 0) area lists) numbers in (table_of rows all ≡ frames_of ls rows) × Prepared rows all k
unfolding table_of
prepared-all ls {rows} {k} area lists numbers whole size size' table groups filled =
    let is : table_of rows (lists ++ numbers) ≡ frames_of ls rows = ap (table_by rows) (drop_at lists numbers 128 size) ∙ filled in
    rw (both-parts area lists numbers whole size size') (
      is,
      record {
        filled = record { size = length-append lists numbers ∙ omega arith; table = subst FineTable (sym is) table };
        by-group = subst (λ (fs : List Frame). ByGroup fs k (lists ++ numbers)) (sym is) (by-group-more groups size numbers);
      },
    )

-- ---- group i + 1, as it is read

-- The choice that is read is the group's.
pub read-choice : (i : ℕ) (cs : List Choice) → slice_index_or cs i Any ≡ choice_of cs (i + 1)
read-choice i cs = let place : i + 1 - 1 ≡ i = omega arith in rw place

module _ {rows p : List ℕ} {k : Frame} (g : Prepared rows p k) (i : ℕ) (l : i < 16) where
  abbrev fs : List Frame
  fs = table_of rows p

  pub read-frames : frames_in fs (part_of p i) ≡ of_group (ahead fs k) (i + 1)
  read-frames = g.by-group.part i l

  pub read-cycle : cycle_in p i ≡ turn fs k (i + 1)
  read-cycle = g.by-group.cycle i l

  -- The cycle is within its limits.
  pub cycle-small : cycle_in p i ≤ 1000000
  cycle-small = rw read-cycle (turn_small g.filled.table k (omega arith) (omega arith))

  pub cycle-pos : 1 ≤ cycle_in p i
  cycle-pos = rw read-cycle (turn-pos g.filled.table.valid k (i + 1))

  -- The instants are the group's alignments in the first cycle,
  pub read-alignments : instants_in (frames_in fs (part_of p i)) (cycle_in p i) ≡ first_turn fs k (i + 1)
  unfolding first_turn
  read-alignments = rw (read-frames, read-cycle)

  -- also for a search.
  pub read-search : (after : ℕ) → least (is_instant (frames_in fs (part_of p i))) (cycle_in p i - after) after ≡ least (is_alignment fs k (i + 1)) (turn fs k (i + 1) - after) after
  read-search after = rw (read-frames, read-cycle)

  -- They give the group's work by a choice.
  pub read-group : (choice : Choice) (n : ℕ) {r : ℕ}
      → r ≡ group_work (frames_in fs (part_of p i)) (instants_in (frames_in fs (part_of p i)) (cycle_in p i)) choice n
      → r ≡ group_work (of_group (ahead fs k) (i + 1)) (alignments fs k (i + 1)) choice n
  read-group choice n e = rw (read-alignments, read-frames) at e ∙ group-work-turn g.filled.table.valid k (i + 1) choice n
