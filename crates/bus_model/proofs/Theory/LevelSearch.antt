-- How code finds the bound of a level, and which level is the deepest that is looked at.
use Rattle.std.specs.Prelude.{ℕ, suc, ◌+◌, ◌-◌, ◌*◌, ◌≤◌, ◌<◌, min, ◌≡◌, Bool, true, false, cond, ◌&&◌, T, eqb, ltb, length, get_or}
use Rattle.std.proofs.Math.Path.{sym, ap}
use Rattle.std.proofs.Common.{◌∙◌, add-one, eqb→eq, ltb→lt}
use mathlib.Core.List.{List, [], ◌∷◌, ◌++◌, Memᴰ as Mem}
use native.Mathlib.Omega.{arith}
use Rattle.std.proofs.Math.Decide.{dec_le}
use Rattle.std.proofs.Math.ListN.{take}
use Rattle.std.proofs.Math.Seq.{take-suc}
use Rattle.arith.specs.Lists.{product, keep, range}
use Rattle.arith.specs.Laws.Below.{all_below, below}
use Rattle.arith.specs.Laws.Members.{of-take}
use Rattle.arith.specs.Laws.Sums.{product-last, cut-mul}
use Rattle.bus_model.specs.Valid.{ValidFrame}
use Rattle.bus_model.specs.Bounds.{groups, alignments, or_empty}
use Rattle.bus_model.specs.Levels.{fixing_order, fixed_at, fixes, level_bound, level_count}
use Rattle.bus_model.specs.Judgement.{scenario_limit, deepest_level}
use Rattle.bus_model.proofs.Theory.Levels.{last_level, deepest-is, deepest-none}
use Rattle.bus_model.proofs.Theory.Order.{order-group}
use Rattle.bus_model.specs.Theory.Refine.{refined, free}
use Rattle.bus_model.proofs.Theory.Refine.{listed-named, refined-bound}
use Rattle.bus_model.specs.Theory.OpenGroups.{fixing_more}
use Rattle.bus_model.proofs.Theory.OpenGroups.{all-open}
use Rattle.bus_model.specs.declared.Frame.{Frame}
use Rattle.bus_model.specs.declared.Faults.{Faults}
use Rattle.bus_model.specs.Theory.LevelSearch.{group_at}

module _ (fs : List Frame) {k : Frame} (valid : ValidFrame k) where
  -- what a level fixes are groups
  level-groups : (m j : ℕ) → Mem j (fixed_at k m) → Mem j (range 1 groups)
  unfolding fixed_at
  level-groups m j l = order-group valid (of-take (suc m) (fixing_order k) l)

  -- The bound of level m is found where m + 1 groups are fixed.
  pub level-found : (faults : Faults) (m : ℕ) → fixing_more faults fs k (suc m) free ≡ level_bound faults fs k m
  unfolding fixing_more level_bound fixed_at
  level-found faults m =
      ap (λ (js : List ℕ). refined faults fs k (take (suc m) js) free) (all-open valid)
      ∙ refined-bound fs k (fixes k m) (fixed_at k m) (listed-named (fixed_at k m) (level-groups m)) faults

-- it stands in the order
is_ordered : Frame → ℕ → Bool
is_ordered k m = ltb (suc m) (length (fixing_order k)) && eqb (get_or (fixing_order k) (suc m) 0) (group_at k (suc m))

order-at : {k : Frame} → ValidFrame k → (m : ℕ) → m < last_level → (suc m < length (fixing_order k)) × (get_or (fixing_order k) (suc m) 0 ≡ group_at k (suc m))
unfolding fixing_order keep range is_ordered
order-at {k} valid m less =
    let own : suc (k.group - 1) ≡ k.group = omega (arith, valid.group-low) in
    let tested = below (is_ordered (of (suc (k.group - 1)))) last_level (below (λ n. all_below (is_ordered (of (suc n))) last_level) groups tt (k.group - 1) (omega (arith, valid.group-high))) m less in
    let (inside, is) = both (ltb (suc m) (length (fixing_order (of k.group)))) _ (rw own at tested) in
    (ltb→lt _ _ inside, eqb→eq _ _ is)
  where
    of : ℕ → Frame
    of n = record { group = n; priority = 0; length = 0; period = 0; offset = 0 }

    both : (a b : Bool) → T (a && b) → T a × T b
    both true b t = (tt, t)
    both false b t = absurd t

-- ---- the deepest level, one group after the other

-- A search for it stands at level m, the first or one within the limit, and has its product, cut at one more than the limit.
pub record AtLevel (fs : List Frame) (k : Frame) (done m : ℕ) : Type 0 where
  pub level : m ≤ last_level
  pub cut : done ≡ min 65537 (level_count fs k m)
  pub fits : 0 < m → level_count fs k m ≤ scenario_limit

module _ (fs : List Frame) {k : Frame} (valid : ValidFrame k) where
  -- the number of a group's alignments
  abbrev number : ℕ → ℕ
  number j = length (or_empty (alignments fs k j))

  -- The product of the first level is that of k's own group,
  count-first : level_count fs k 0 ≡ number k.group
  unfolding level_count fixed_at fixing_order product
  count-first = omega arith

  -- and each level after it has one factor more, that of its group.
  count-more : (m : ℕ) → m < last_level → level_count fs k (suc m) ≡ level_count fs k m * number (group_at k (suc m))
  unfolding level_count fixed_at
  count-more m less =
      let (inside, last) = order-at valid m less in
      let more = take-suc (fixing_order k) (suc m) 0 inside in
      ap (product number) (more ∙ ap (λ (j : ℕ). take (suc m) (fixing_order k) ++ (j ∷ [])) last) ∙ product-last number (take (suc m) (fixing_order k)) (group_at k (suc m))

  -- That begins at the first,
  pub level-start : {done : ℕ} → done ≡ min 65537 (number k.group) → AtLevel fs k done 0
  level-start e = record { level = omega arith; cut = rw count-first e; fits = λ some. absurd (omega arith) }

  module _ {done m next : ℕ} (stands : AtLevel fs k done m) (less : m < last_level) (more : next ≡ min 65537 (done * number (group_at k (suc m)))) where
    next-is : next ≡ min 65537 (level_count fs k (suc m))
    next-is = more ∙ ap (λ (n : ℕ). min 65537 (n * number (group_at k (suc m)))) stands.cut ∙ cut-mul 65537 (level_count fs k m) (number (group_at k (suc m))) ∙ ap (min 65537) (sym (count-more m less))

    -- goes on while the next one is within the limit,
    pub level-next : next ≤ 65536 → AtLevel fs k next (m + 1)
    unfolding scenario_limit
    level-next fits = rw (add-one m) (record { level = less; cut = next-is; fits = λ some. omega (arith, next-is) })

    -- and has found it where that is not:
    pub level-over : 65536 < next → m ≡ deepest_level fs k
    unfolding scenario_limit
    level-over over =
        elim (dec_le (level_count fs k m) scenario_limit) [
          | yes within ↦ sym (deepest-is fs k {m = m} stands.level within (λ l. omega (arith, next-is)))
          | no beyond ↦
              let first : m ≡ 0 = elim (dec_le m 0) [ yes z ↦ omega arith | no some ↦ absurd (beyond (stands.fits (omega arith))) ] in
              first ∙ sym (deepest-none fs k (rw first at (not_within m beyond)))
        ]
      where
        not_within : (m : ℕ) → ¬ (level_count fs k m ≤ 65536) → 65536 < level_count fs k m
        not_within m h = omega arith

  -- it is the last, where no other is left.
  pub level_all : {done m : ℕ} → AtLevel fs k done m → last_level ≤ m → m ≡ deepest_level fs k
  level_all {done} {m} stands last = sym (deepest-is fs k {m = m} stands.level (stands.fits (omega arith)) (λ less. absurd (omega (arith, stands.level))))
