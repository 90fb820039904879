use Prim.Native.Nat.{◌≤◌}
use Rattle.std.specs.Prelude.{ℕ, Option, None, Some, true, false, is_some, not}
use mathlib.Core.Path.{◌≡◌, refl, sym, ap, ◌∙◌}
use Rattle.bus_model.specs.Bounds.{busy_window}
use native.Mathlib.Omega.{arith}
use Rattle.arith.specs.Laws.Walks.{walk-less}
use Rattle.bus_model.proofs.Theory.Turns.{turn-le}
use Rattle.greatest_work.specs.Setting.{frames, ready, listed}
use Rattle.bounds.specs.Laws.Search.{own_at, own-group, lacks-none, missing-first, missing-here, missing-more, missing-end}
use Rattle.bounds.proofs.windows.lacks_window.Goals as goal
use Rattle.bounds.proofs.windows.lacks_window.Goals.{Start, Else-is_none}

-- what is found, or that nothing is
some_of : (o : Option ℕ) → is_some o ≡ true → (l : ℕ) × (o ≡ Some l)
some_of None t = let z : ◌≡◌ {A = ℕ} 0 1 = cc in absurd (omega arith)
some_of (Some l) t = (l, refl)

none_of : (o : Option ℕ) → is_some o ≡ false → o ≡ None
none_of None t = refl
none_of (Some l) t = let z : ◌≡◌ {A = ℕ} 0 1 = cc in absurd (omega arith)

pub returns-then-is_some : goal.returns-then-is_some
returns-then-is_some c =
    let p = (ready c.args.setting.now c.requires.remembered) in
    let (l, is) = some_of _ (sym c.is_some.ensures ∙ c.if-is_some.true) in
    record { value = sym (lacks-none p.prepared.filled.table p.listed _ (sym c.requires.limit_value ∙ is)); remembered = p.remembered }

-- k's group is one of the groups
group : (s : Start) → let k = s.args.setting.now.target.frame in (1 ≤ k.group) × (k.group ≤ 16)
group s = own-group s.args.setting.now.posed.prepared.filled.table (listed s.args.setting.now)

pub next_of-requires : goal.next_of-requires
next_of-requires c = let n = group (goal.at.next_of-requires c).Start in record { prepared = c.args.setting.now.posed.prepared; le_group = (n.0, n.1, omega arith) }

pub alignments-init : goal.alignments-init
alignments-init c = let p = (ready c.args.setting.now c.requires.remembered) in (missing-first p.prepared.filled.table p.listed c.next_of.result c.next_of.ensures c.unwrap_or-a.ensures, c.requires.remembered)

pub with_choice-choices-requires : goal.with_choice-choices-requires
with_choice-choices-requires c = group (goal.at.with_choice-choices-requires c).Start

pub busy_window-requires : goal.busy_window-requires
busy_window-requires c = c.alignments.invariant.1

pub shape_of-memory-then-is_none : goal.shape_of-memory-then-is_none
shape_of-memory-then-is_none c = c.busy_window.ensures.remembered.size ∙ sym c.requires.remembered.size

pub returns-then-is_none : goal.returns-then-is_none
returns-then-is_none c =
    let p = (ready c.args.setting.now c.requires.remembered) in record { value = missing-here p.prepared.filled.table p.listed c.alignments.invariant.0 (sym (rw c.with_choice-choices.ensures at c.busy_window.ensures.value) ∙ none_of _ (c.is_none.ensures ∙ ap not c.if-is_none.true)); remembered = c.busy_window.ensures.remembered }

-- the scenario has a window
windowed : (c : Else-is_none) → let a = c.args in (l : ℕ) × (busy_window a.setting.now.target.faults (frames a.setting.now) a.setting.now.target.frame (own_at a.setting.now.target.frame c.alignments.a) ≡ Some l)
windowed c =
    let (l, is) = some_of _ (c.is_none.ensures ∙ ap not c.if-is_none.false) in
    (l, sym (rw c.with_choice-choices.ensures at c.busy_window.ensures.value) ∙ is)

pub overflow_add-a : goal.overflow_add-a
overflow_add-a c =
    let n = group (goal.at.overflow_add-a c).Start in
    let t = c.args.setting.now.posed.prepared.filled.table in
    omega (arith, c.alignments.invariant.0.walk.inside, t.hyper _ n.0 n.1, turn-le t.valid c.args.setting.now.target.frame c.args.setting.now.target.frame.group)

pub next_of-requires-in-alignments : goal.next_of-requires-in-alignments
next_of-requires-in-alignments c = let n = group (goal.at.next_of-requires-in-alignments c).Start in record { prepared = c.args.setting.now.posed.prepared; le_group = (n.0, n.1, omega (arith, c.alignments.invariant.0.walk.inside)) }

pub shape_of-memory-in_default : goal.shape_of-memory-in_default
shape_of-memory-in_default c = c.busy_window.ensures.remembered.size ∙ sym c.requires.remembered.size

pub returns-in_default : goal.returns-in_default
returns-in_default c =
    let p = (ready c.args.setting.now c.requires.remembered) in record { value = missing-end p.prepared.filled.table p.listed c.alignments.invariant.0 (windowed (goal.at.returns-in_default c).Else-is_none).1 (sym c.next_of-in-alignments.ensures ∙ c.in_default.is); remembered = c.busy_window.ensures.remembered }

pub alignments-smaller : goal.alignments-smaller
alignments-smaller c = walk-less _ _ _ _ _ c.alignments.invariant.0.walk (sym c.next_of-in-alignments.ensures ∙ c.in-Some.is)

pub alignments-preserved : goal.alignments-preserved
alignments-preserved c =
    let p = (ready c.args.setting.now c.requires.remembered) in (missing-more p.prepared.filled.table p.listed c.alignments.invariant.0 (windowed (goal.at.alignments-preserved c).Else-is_none).1 (sym c.next_of-in-alignments.ensures ∙ c.in-Some.is), c.busy_window.ensures.remembered)
