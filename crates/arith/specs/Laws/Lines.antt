-- Lines of one width, one after the other: `lines n i` is n of them from line i on.
use Rattle.std.specs.Prelude.{ℕ, zero, suc, ◌+◌, ◌-◌, ◌*◌, ◌≤◌, ◌<◌, ◌≡◌, refl, List, [], ◌++◌, length, take, drop}
use Rattle.std.proofs.Common.{sym, ap, ◌∙◌, add-zero, mul-zero, mul-le-mul_left, arith, length-append, drop-drop, drop_at, take_at}
use borrow.Rule.Slice.PartMut.{put_mid}
use Rattle.arith.specs.Laws.Overwriting.{over, over-part, over-all}

pub record Lines (w : ℕ) (line : ℕ → List ℕ) (lines : ℕ → ℕ → List ℕ) : Type 0 where
  pub wide : (i : ℕ) → length (line i) ≡ w
  pub none : (i : ℕ) → lines 0 i ≡ []
  pub more : (n i : ℕ) → lines (suc n) i ≡ line i ++ lines n (i + 1)

module _ {w : ℕ} {line : ℕ → List ℕ} {lines : ℕ → ℕ → List ℕ} (of : Lines w line lines) where
  pub length-lines : (n i : ℕ) → length (lines n i) ≡ w * n
  length-lines zero i = ap length (of.none i) ∙ sym (mul-zero w)
  length-lines (suc n) i =
      ap length (of.more n i) ∙ length-append (line i) (lines n (i + 1)) ∙ omega (arith, of.wide i, length-lines n (i + 1))

  lines_from : (i m s : ℕ) → drop (w * i) (lines (i + m) s) ≡ lines m (s + i)
  lines_from zero m s = let e : 0 + m ≡ m = omega arith in rw (e, add-zero, mul-zero)
  lines_from (suc i) m s =
      let e : suc i + m ≡ suc (i + m) = omega arith in
      let d : w * suc i ≡ w + w * i = omega arith in
      let a : s + suc i ≡ s + 1 + i = omega arith in
      rw (e, d, a, of.more)
      (sym (drop-drop (w * i) w (line s ++ lines (i + m) (s + 1)))
      ∙ ap (drop (w * i)) (drop_at (line s) (lines (i + m) (s + 1)) w (of.wide s))
      ∙ lines_from i m (s + 1))

  -- The lines from line i on.
  pub lines_at : (n i : ℕ) → i < n → drop (w * i) (lines n 0) ≡ line i ++ lines (n - (i + 1)) (i + 1)
  lines_at n i l =
      let e : n ≡ i + suc (n - (i + 1)) = omega arith in
      let z : 0 + i ≡ i = omega arith in
      ap (λ (x : ℕ). drop (w * i) (lines x 0)) e ∙ lines_from i (suc (n - (i + 1))) 0
      ∙ ap (lines (suc (n - (i + 1)))) z ∙ of.more (n - (i + 1)) i

  -- Line i.
  line_at : (n i : ℕ) → i < n → take w (drop (w * i) (lines n 0)) ≡ line i
  line_at n i l = ap (take w) (lines_at n i l) ∙ take_at (line i) (lines (n - (i + 1)) (i + 1)) w (of.wide i)

  -- ---- written over a list d by a loop

  module _ (d l : List ℕ) (n i : ℕ) (is : l ≡ over (lines n 0) (w * i) d) where
    -- A line more.
    pub line-over : (p : List ℕ) → i < n → p ≡ line i → put_mid (w * i) (w * i + w - w * i) l p ≡ over (lines n 0) (w * (i + 1)) d
    line-over p h e =
        let m : w * suc i ≤ w * n = mul-le-mul_left w h in
        over-part (lines n 0) d l (w * n) (length-lines n 0) p (w * i) (w * (i + 1)) w (w * i) (w * i + w) is refl (omega arith) (omega arith) (omega arith) (e ∙ sym (line_at n i h))

    -- All lines.
    pub lines-over : i ≤ n → n ≤ i → l ≡ lines n 0 ++ drop (w * n) d
    lines-over low high = let e : i ≡ n = omega arith in over-all (lines n 0) d l (w * n) (length-lines n 0) (w * n) (rw e at is) (omega arith) (omega arith)
