-- Whether a frame is that of a row, as a test: so a setting says it of its frame and names no row.
use Rattle.std.specs.Prelude.{ℕ, ◌≡◌, ◌<◌, Bool, true, false, ◌&&◌, eqb, List, length}
use Rattle.std.proofs.Common.{arith, eqb-true, eq-eqb}
use Rattle.std.proofs.Math.Path.{refl}
use Rattle.std.proofs.Math.Dec.{T}
use Rattle.arith.specs.Lists.{exists, range}
use Rattle.arith.specs.Laws.Members.{exists-mem, of-exists, mem-range, of_range}
use Rattle.arith.specs.Laws.Tests.{and_both}
use Rattle.bus_model.specs.declared.Frame.{Frame}
use Rattle.bus_model.specs.Frame.{row}
use Rattle.workload.specs.Prepared.{InTable}

-- two frames are the same
abbrev pub is_same : Frame → Frame → Bool
is_same f g = eqb f.group g.group && (eqb f.priority g.priority && (eqb f.length g.length && (eqb f.period g.period && eqb f.offset g.offset)))

-- k is the frame of a row
abbrev pub is_listed : List Frame → Frame → Bool
is_listed fs k = exists (λ i. is_same k (row fs i)) (range 0 (length fs))

pub same-is : (f g : Frame) → is_same f g ≡ true → f ≡ g
same-is f g same =
    let (group, more) = and_both _ _ same in
    let (priority, more) = and_both _ _ more in
    let (length, more) = and_both _ _ more in
    let (period, offset) = and_both _ _ more in
    let parts : ◌≡◌ {A = Frame} (record { group = f.group; priority = f.priority; length = f.length; period = f.period; offset = f.offset }) g =
    rw (eqb-true f.group g.group group, eqb-true f.priority g.priority priority, eqb-true f.length g.length length, eqb-true f.period g.period period, eqb-true f.offset g.offset offset) refl in
    parts

pub is-same : (f : Frame) → is_same f f ≡ true
is-same f = rw (eq-eqb f.group f.group refl, eq-eqb f.priority f.priority refl, eq-eqb f.length f.length refl, eq-eqb f.period f.period refl, eq-eqb f.offset f.offset refl) refl

of_T : (b : Bool) → T b → b ≡ true
of_T true t = refl
of_T false t = elim t [ ]

-- It is what `InTable` says.
pub listed-row : {fs : List Frame} {k : Frame} → T (is_listed fs k) → InTable fs k
listed-row {fs} {k} t =
    let (i, m, same) = of-exists (λ (i : ℕ). is_same k (row fs i)) (range 0 (length fs)) t in
    record { at = i; inside = omega (arith, (of_range 0 (length fs) m).1); is = same-is k (row fs i) (of_T _ same) }

pub row-listed : {fs : List Frame} {k : Frame} → InTable fs k → T (is_listed fs k)
row-listed {fs} {k} l = exists-mem (λ (i : ℕ). is_same k (row fs i)) (mem-range 0 (length fs) l.at (omega arith) (omega (arith, l.inside))) (rw (← l.is, is-same k) tt)
