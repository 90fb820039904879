-- Reading and writing lengths undo each other.
use Prim.Native.Nat.{ℕ, zero, suc, ◌+◌, ◌*◌, ◌≤◌, ◌<◌}
use Rattle.std.specs.Prelude.{◌≡◌, Bool, ◌&&◌, eqb, Option, Some, None, Ok}
use Rattle.std.proofs.Math.Path.{refl, sym, ap, ap₂, subst}
use Rattle.std.proofs.Common.{◌∙◌, arith, eq-eqb, eqb-true, length-take, drop-drop, take_all, take-add, take-suc}
use Rattle.std.proofs.Math.Bool.{true, false, not}
use mathlib.Core.List.{List, [], ◌∷◌, ◌++◌, flat_map}
use Rattle.std.proofs.Math.Dec.{T}
use Rattle.std.proofs.Math.ListN.{length, get_or, take, drop, length-drop}
use Rattle.std.proofs.Math.Seq.{get_or-drop, ext_get_or}
use Rattle.arith.specs.Lists.{exists, range}
use Rattle.arith.specs.Laws.Members.{exists-mem, of-exists, mem-range, of_range}
use Rattle.arith.specs.Laws.Tests.{by-test, and_both}
use Rattle.decimal.specs.Decimal.{read_column}
use Rattle.decimal.specs.Laws.{read-write, write_read}
use Rattle.table_checks.specs.Frames.{length_at}
use Rattle.table_checks.specs.Checks.{Loadable, lengths_check}
use Rattle.table_checks.proofs.Laws.First.{first-passed}
use Rattle.table_checks.proofs.Laws.Lengths.{loaded-limits}
use Rattle.lengths_file.specs.Lengths.{column_at, number_in, line_of, lengths_of, is_unreadable, is_broken, is_line, is_text, text_check, lengths_file_check, column_text, line_text, text_of}
use Rattle.lengths_file.proofs.Laws.Layout.{joined, length-text, text-column, text-feed}
use Rattle.lengths_file.proofs.Laws.Reading.{length-numbers, number_at, text-is, text-size}

-- ---- the file of lengths within their limits

module _ (ls : List (List ℕ)) (loadable : Loadable ls) where
  -- A column is read back.
  column-back : (k s : ℕ) → k < 2 → s < 9 → read_column (column_at (text_of ls) k s) ≡ Some (length_at ls k s)
  unfolding column_text
  column-back k s h l =
      let most = (loaded-limits ls loadable k s h l).1 in
      ap read_column (text-column ls k h s l) ∙ read-write 5 (length_at ls k s) (omega arith) (omega arith) (omega arith)

  -- None is broken.
  none-broken : (k : ℕ) → k < 2 → exists (is_broken (text_of ls) k) (range 0 9) ≡ false
  unfolding is_broken is_unreadable
  none-broken k h =
      by-test (exists (is_broken (text_of ls) k) (range 0 9))
      (λ e. let some = of-exists (is_broken (text_of ls) k) (range 0 9) (rw e tt) in
      let l = (of_range 0 9 some.1).1 in
      absurd (rw (column-back k some.0 h l) at some.2))
      (λ e. e)

  line-written : (k : ℕ) → k < 2 → is_line (text_of ls) k ≡ true
  unfolding is_line
  line-written k h = rw (eq-eqb _ _ (text-feed ls k h), none-broken k h)

  -- It has the notation.
  text-holds : is_text (text_of ls) ≡ true
  unfolding is_text
  text-holds = rw (eq-eqb _ _ (length-text ls), line-written 0 (omega arith), line-written 1 (omega arith))

  line-back : (k : ℕ) → k < 2 → length (get_or ls k []) ≡ 9 → line_of (text_of ls) k ≡ get_or ls k []
  unfolding number_in
  line-back k h size =
      ext_get_or 0 (line_of (text_of ls) k) (get_or ls k []) (length-numbers (text_of ls) k ∙ sym size)
      (λ s below. let l : s < 9 = rw (length-numbers (text_of ls) k) at below in number_at (text_of ls) k s l ∙ ap number_in (column-back k s h l))

-- ---- the lengths of a file that has the notation

-- Parts of one width, one after the other, are the list.
parts : (w : ℕ) (xs : List ℕ) (n i : ℕ) → joined (λ k. take w (drop (w * k) xs)) n i ≡ take (w * n) (drop (w * i) xs)
unfolding flat_map range
parts w xs zero i = let z : w * 0 ≡ 0 = omega arith in rw z
parts w xs (suc n) i =
    let m : w * suc n ≡ w + w * n = omega arith in
    let d : w * suc i ≡ w * i + w = omega arith in
    rw (parts w xs n (suc i), m, d, ← drop-drop w (w * i) xs) (sym (take-add w (w * n) (drop (w * i) xs)))

-- Texts that are equal one by one are equal joined.
joined_same : (f g : ℕ → List ℕ) (n i : ℕ) → ((k : ℕ) → i ≤ k → k < i + n → f k ≡ g k) → joined f n i ≡ joined g n i
unfolding flat_map range
joined_same f g zero i same = refl
joined_same f g (suc n) i same =
    ap₂ (λ (x y : List ℕ). x ++ y) (same i (omega arith) (omega arith))
    (joined_same f g n (suc i) (λ k low high. same k (omega arith) (omega arith)))

-- The lengths of a file by line and place.
length-at : (file : List ℕ) (k s : ℕ) → k < 2 → s < 9 → length_at (lengths_of file) k s ≡ number_in (read_column (column_at file k s))
length-at file zero s h l = number_at file 0 s l
length-at file (suc zero) s h l = number_at file 1 s l
length-at file (suc (suc k)) s h l = absurd (omega arith)

module _ (file : List ℕ) (text : is_text file ≡ true) where
  size : length file ≡ 92
  size = text-size file text

  both-lines : (is_line file 0 ≡ true) × (is_line file 1 ≡ true)
  unfolding is_text
  both-lines = and_both (is_line file 0) (is_line file 1) (and_both (eqb (length file) 92) (is_line file 0 && is_line file 1) text).1

  line-is : (k : ℕ) → k < 2 → is_line file k ≡ true
  line-is zero h = both-lines.0
  line-is (suc zero) h = both-lines.1
  line-is (suc (suc k)) h = absurd (omega arith)

  -- A line ends in a line feed, and none of its columns is broken.
  line-holds : (k : ℕ) → k < 2 → (get_or file (46 * k + 45) 0 ≡ 10) × (exists (is_broken file k) (range 0 9) ≡ false)
  unfolding is_line
  line-holds k h = let held = and_both _ _ (line-is k h) in (eqb-true _ _ held.0, not-true _ held.1)
    where
      not-true : (b : Bool) → not b ≡ true → b ≡ false
      not-true true e = sym e
      not-true false e = refl

  -- A column is a number of the file's lengths.
  column-holds : (k s : ℕ) → k < 2 → s < 9 → read_column (column_at file k s) ≡ Some (length_at (lengths_of file) k s)
  unfolding is_broken is_unreadable number_in
  column-holds k s h l =
      rw (length-at file k s h l)
      (value (read_column (column_at file k s))
      (λ t. subst T (line-holds k h).1 (exists-mem (is_broken file k) (mem-range 0 9 s (omega arith) (omega arith)) t)))
    where
      value : (c : Option ℕ) → ¬ T (is_unreadable c) → c ≡ Some (number_in c)
      value (Some n) whole = refl
      value None whole = absurd (whole tt)

  column-text : (k s : ℕ) → k < 2 → s < 9 → column_text (lengths_of file) k s ≡ take 5 (drop (5 * s) (drop (46 * k) file))
  unfolding column_text column_at
  column-text k s h l =
      let w : length (column_at file k s) ≡ 5 = simp (length-take, length-drop) (omega (arith, size)) in
      (rw w at (write_read (column_at file k s) _ (column-holds k s h l))) ∙ ap (take 5) (sym (drop-drop (5 * s) (46 * k) file))

  line-text : (k : ℕ) → k < 2 → line_text (lengths_of file) k ≡ take 46 (drop (46 * k) file)
  unfolding line_text
  line-text k h =
      let part : List ℕ = drop (46 * k) file in
      let room : 45 < length part = simp length-drop (omega (arith, size)) in
      let cells : joined (column_text (lengths_of file) k) 9 0 ≡ take 45 part
      = joined_same (column_text (lengths_of file) k) (λ s. take 5 (drop (5 * s) part)) 9 0 (λ s low high. column-text k s h (omega arith)) ∙ parts 5 part 9 0 in
      let feed : get_or part 45 0 ≡ 10 = get_or-drop (46 * k) file 45 0 ∙ (line-holds k h).0 in
      ap₂ (λ (x : List ℕ) (n : ℕ). x ++ (n ∷ [])) cells (sym feed) ∙ sym (take-suc part 45 0 room)

-- ---- lengths that passed, as arrays of two lines of nine

-- The file of lengths reads back as them.
pub read-text : (short long : List ℕ) → length short ≡ 9 → length long ≡ 9 → Loadable (short ∷ long ∷ [])
    → (lengths_file_check (text_of (short ∷ long ∷ [])) ≡ Ok tt) × (lengths_of (text_of (short ∷ long ∷ [])) ≡ short ∷ long ∷ [])
unfolding lengths_file_check text_check
read-text short long few many loadable =
    let ls : List (List ℕ) = short ∷ long ∷ [] in
    let back : lengths_of (text_of ls) ≡ ls = ap₂ (λ (x y : List ℕ). x ∷ y ∷ []) (line-back ls loadable 0 (omega arith) few) (line-back ls loadable 1 (omega arith) many) in
    (rw (text-holds ls loadable, back) loadable, back)

-- The lengths of a file are written back as the file.
pub text-read : (file : List ℕ) → lengths_file_check file ≡ Ok tt → Loadable (lengths_of file) × (text_of (lengths_of file) ≡ file)
unfolding lengths_file_check text_of
text-read file e =
    let both = first-passed (text_check file) (lengths_check (lengths_of file)) e in
    let text = text-is file both.0 in (
      both.1,
      joined_same (line_text (lengths_of file)) (λ k. take 46 (drop (46 * k) file)) 2 0 (λ k low high. line-text file text k (omega arith))
          ∙ parts 46 file 2 0 ∙ take_all 92 file (omega (arith, size file text)),
    )
