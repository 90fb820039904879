use Rattle.std.proofs.Common.{◌≡◌, ℕ, ◌+◌, ◌-◌, ◌≤◌, length, sym, refl, ◌∙◌, arith}
use borrow.Rule.Slice.PartMut.{mid_of, put_mid, mid_len, same_len_mid}
use Rattle.bus_model.specs.Pattern.{of_group}
use Rattle.bus_model.specs.Bounds.{ahead}
use Rattle.table_checks.specs.Frames.{frames_of}
use Rattle.workload.specs.Prepared.{frames_in}
use Rattle.workload.proofs.Laws.Groups.{before-none, part-within, part-turn, part-read, listed-room, listed_more, listed-all}
use Rattle.workload.proofs.groups.by_group.Goals as goal
use Rattle.workload.proofs.groups.by_group.Goals.{After-gather-count, In-loop-j}

pub loop-j-init : goal.loop-j-init
loop-j-init c = record { size = c.requires.lists_len; count = sym (before-none c.requires.fine_table c.args.k); each = λ i l. absurd (omega arith) }

-- the next group's rows find room
room : (c : In-loop-j) → c.loop-j.listed + length (of_group (ahead (frames_of c.args.lengths c.args.rows.now) c.args.k) (c.loop-j.j + 1)) ≤ 64
room c = listed-room c.requires.fine_table _ c.loop-j.invariant

pub overflow_add-from : goal.overflow_add-from
overflow_add-from c = omega (arith, room c)

pub offset_bounds-lists-from : goal.offset_bounds-lists-from
offset_bounds-lists-from c = omega (arith, room (c))

pub slice_bounds-gather-count : goal.slice_bounds-gather-count
slice_bounds-gather-count c = omega (arith, room (c))

pub slice_bounds-gather-start : goal.slice_bounds-gather-start
slice_bounds-gather-start c = omega (arith, room (c))

pub gather-count-requires : goal.gather-count-requires
gather-count-requires c =
    let r = room (goal.at.gather-count-requires c).In-loop-j in
    let n : ℕ = 64 + c.loop-j.listed in
    record { rows_len_bound = c.requires.fine_table.few; group_in_bounds = omega (arith, r, mid_len n 128 c.loop-j.lists (omega (arith, c.loop-j.invariant.size, r))) }

-- the area stays as long as it is
size : (c : After-gather-count) → let n : ℕ = 64 + c.loop-j.listed in length (put_mid n (128 - n) c.loop-j.lists c.gather-count.new.area) ≡ 128
size c = let n : ℕ = 64 + c.loop-j.listed in same_len_mid n (128 - n) c.loop-j.lists c.gather-count.new.area c.gather-count.auto.area ∙ c.loop-j.invariant.size

-- what is read has the group's frames
read : (c : After-gather-count) → let n : ℕ = 64 + c.loop-j.listed in frames_in (frames_of c.args.lengths c.args.rows.now) (mid_of n (n + c.gather-count.result - n) (put_mid n (128 - n) c.loop-j.lists c.gather-count.new.area)) ≡ of_group (ahead (frames_of c.args.lengths c.args.rows.now) c.args.k) (c.loop-j.j + 1)
read c =
    let n : ℕ = 64 + c.loop-j.listed in
    let r = listed-room c.requires.fine_table _ c.loop-j.invariant in
    part-read (frames_of c.args.lengths c.args.rows.now) c.gather-count.result n c.loop-j.lists c.gather-count.new.area (omega (arith, r, c.loop-j.invariant.size))
    (omega (arith, r, c.gather-count.ensures.count, c.gather-count.auto.area, mid_len n 128 c.loop-j.lists (omega (arith, c.loop-j.invariant.size, r))))
    ∙ c.gather-count.ensures.area_after

pub overflow_add-to : goal.overflow_add-to
overflow_add-to c = omega (arith, room (goal.at.overflow_add-to c).In-loop-j, c.gather-count.ensures.count)

pub offset_bounds-lists-from-in-loop-j : goal.offset_bounds-lists-from-in-loop-j
offset_bounds-lists-from-in-loop-j c = omega (arith, room (goal.at.offset_bounds-lists-from-in-loop-j c).In-loop-j, c.gather-count.ensures.count)

pub slice_bounds-part_hyperperiod-end : goal.slice_bounds-part_hyperperiod-end
slice_bounds-part_hyperperiod-end c = omega (arith, room (goal.at.slice_bounds-part_hyperperiod-end c).In-loop-j, c.gather-count.ensures.count, size (goal.at.slice_bounds-part_hyperperiod-end c).After-gather-count)

pub part_hyperperiod-cycle-requires : goal.part_hyperperiod-cycle-requires
part_hyperperiod-cycle-requires c = let answer = part-within _ c.args.k _ (read (goal.at.part_hyperperiod-cycle-requires c).After-gather-count) c.requires.fine_table (omega arith) (omega (arith, c.loop-j-test.true)) in record { fine = answer.0; part_bound = answer.1 }

pub overflow_cast-lists : goal.overflow_cast-lists
overflow_cast-lists c = omega (arith, room (goal.at.overflow_cast-lists c).In-loop-j)

pub loop-j-preserved : goal.loop-j-preserved
loop-j-preserved c =
    let g = c.gather-count in
    listed_more c.requires.fine_table _ g.result c.part_hyperperiod-cycle.result c.group_hyperperiod-hyperperiod.result _ g.new.area c.loop-j.invariant c.loop-j-test.true refl
    g.auto.area g.ensures.area_after g.ensures.count (c.part_hyperperiod-cycle.ensures ∙ part-turn _ c.args.k _ (read (goal.at.loop-j-preserved c).After-gather-count)) c.group_hyperperiod-hyperperiod.ensures

pub returns : goal.returns
returns c = listed-all c.requires.fine_table _ c.loop-j.invariant c.loop-j-test.false
