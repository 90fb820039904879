-- What is read at a place is the line that stands there.
use Prim.Native.Nat.{ℕ, ◌+◌, ◌≤◌, ◌<◌, ◌^◌}
use Rattle.std.proofs.Math.Path.{◌≡◌}
use Rattle.std.specs.Prelude.{refl, true, ◌&&◌, List, ◌↔◌, eqb, leb, ltb, get_or, Option, Some, None, Result, Ok, Err}
use Rattle.std.proofs.Common.{sym, ap, subst, arith, length-take, length-drop}
use borrow.Author.Tests.{leb-true, le-leb, ltb-false, le-ltb, eqb-true, eq-eqb}
use Rattle.std.proofs.Math.ListN.{length}
use Rattle.arith.specs.Laws.Tests.{by-test, and_both}
use Rattle.decimal.specs.Decimal.{read_column}
use Rattle.decimal.specs.Laws.{read_below}
use Rattle.bus_log.specs.declared.Line.{Line}
use Rattle.log_reader.specs.declared.Unread.{Unread}
use Rattle.log_reader.specs.declared.Unread.TheVariants.{Broken, End}
use Rattle.log_reader.specs.Text.{greatest, column_at, Stands, number_of, number_at, line_at, is_within, read_at}

-- ---- a line that was read stands there

-- A column whose number is within the limit is in the notation.
held : (c : Option ℕ) → number_of c ≤ greatest → c ≡ Some (number_of c)
unfolding number_of
held (Some n) h = refl
held None h = absurd (omega arith)

module _ (text : List ℕ) (at : ℕ) where
  -- What was read is the line, and the tests passed.
  read-tests : (l : Line) → read_at text at ≡ Ok l
      → (at + 40 ≤ length text) × (get_or text (at + 39) 0 ≡ 10) × (is_within (line_at text at) ≡ true) × (line_at text at ≡ l)
  unfolding read_at
  read-tests l e =
      by-test (ltb (length text) (at + 40))
      (λ t. let q : ◌≡◌ {A = Result Line Unread} (Err End) (Ok l) = rw t at e in let z : ◌≡◌ {A = ℕ} 0 1 = cc in absurd (omega arith))
      (λ f. by-test (eqb (get_or text (at + 39) 0) 10 && is_within (line_at text at))
      (λ t.
      let q : ◌≡◌ {A = Result Line Unread} (Ok (line_at text at)) (Ok l) = rw (f, t) at e in
      let (a, b) = and_both (eqb (get_or text (at + 39) 0) 10) (is_within (line_at text at)) t in
      (ltb-false _ _ f, eqb-true _ _ a, b, cc))
      (λ g. let q : ◌≡◌ {A = Result Line Unread} (Err Broken) (Ok l) = rw (f, g) at e in let z : ◌≡◌ {A = ℕ} 0 1 = cc in absurd (omega arith)))

  line-stands : at + 40 ≤ length text → get_or text (at + 39) 0 ≡ 10 → is_within (line_at text at) ≡ true → Stands text at (line_at text at)
  unfolding is_within line_at number_at
  line-stands room feed t =
      let n : ℕ → ℕ → ℕ = λ k w. number_of (read_column (column_at text k w)) in
      let (a, t1) = and_both (leb (n at 11) greatest) _ t in
      let (b, t2) = and_both (leb (n (at + 11) 10) greatest) _ t1 in
      let (c, t3) = and_both (leb (n (at + 21) 3) greatest) _ t2 in
      let (d, e) = and_both (leb (n (at + 24) 11) greatest) (leb (n (at + 35) 4) greatest) t3 in
      record {
        whole = room;
        start = held (read_column (column_at text at 11)) (leb-true _ _ a);
        identifier = held (read_column (column_at text (at + 11) 10)) (leb-true _ _ b);
        kind = held (read_column (column_at text (at + 21) 3)) (leb-true _ _ c);
        queueing = held (read_column (column_at text (at + 24) 11)) (leb-true _ _ d);
        length = held (read_column (column_at text (at + 35) 4)) (leb-true _ _ e);
        feed = feed;
        start-most = leb-true _ _ a;
        queueing-most = leb-true _ _ d;
      }

  pub read-stands : (l : Line) → read_at text at ≡ Ok l → Stands text at l
  read-stands l e = let (a, b, c, same) = read-tests l e in subst (Stands text at) same (line-stands a b c)

  -- ---- a line that stands there is read

  -- A column holds no more than its digits can say.
  column-most : (k w n : ℕ) → k + w ≤ length text → read_column (column_at text k w) ≡ Some n → n < 10 ^ w
  column-most k w n room e =
      let size : length (column_at text k w) ≡ w = simp (length-take, length-drop) (omega arith) in
      rw size at (read_below (column_at text k w) n e)

  fields : {a a' b b' c c' d d' e e' : ℕ} → a ≡ a' → b ≡ b' → c ≡ c' → d ≡ d' → e ≡ e'
      → ◌≡◌ {A = Line} (record { start = a; identifier = b; kind = c; release = d; length = e }) (record { start = a'; identifier = b'; kind = c'; release = d'; length = e' })
  fields a b c d e = cc

  stands-line : (l : Line) → Stands text at l → line_at text at ≡ l
  unfolding line_at number_at number_of
  stands-line l s = fields (ap number_of s.start) (ap number_of s.identifier) (ap number_of s.kind) (ap number_of s.queueing) (ap number_of s.length)

  pub stands_read : (l : Line) → Stands text at l → read_at text at ≡ Ok l
  unfolding read_at is_within
  stands_read l s =
      let room = s.whole in
      let a = column-most (at + 11) 10 l.identifier (omega arith) s.identifier in
      let b = column-most (at + 21) 3 l.kind (omega arith) s.kind in
      let c = column-most (at + 35) 4 l.length (omega arith) s.length in
      rw (
        stands-line l s,
        le-ltb _ _ room,
        eq-eqb _ _ s.feed,
        le-leb _ _ s.start-most,
        le-leb l.identifier greatest (omega arith),
        le-leb l.kind greatest (omega arith),
        le-leb _ _ s.queueing-most,
        le-leb l.length greatest (omega arith),
      )

-- Read is what stands there, and nothing else.
pub read-iff : (text : List ℕ) (at : ℕ) (l : Line) → (read_at text at ≡ Ok l) ↔ Stands text at l
read-iff text at l = (read-stands text at l, stands_read text at l)

-- ---- the numbers of a line that was read are small

-- A length has four digits.
pub length_most : (text : List ℕ) (at : ℕ) (l : Line) → Stands text at l → l.length < 10 ^ 4
length_most text at l s = let room = s.whole in column-most text at (at + 35) 4 l.length (omega arith) s.length

pub record Small (l : Line) : Type 0 where
  pub start : l.start < 2 ^ 40
  pub release : l.release < 2 ^ 40
  pub length : l.length < 2 ^ 40

pub read-line : (text : List ℕ) (at : ℕ) (l : Line) → read_at text at ≡ Ok l → (l ≡ line_at text at) × Small l
read-line text at l e =
    let s = read-stands text at l e in
    let room = s.whole in
    let c = column-most text at (at + 35) 4 l.length (omega arith) s.length in (
      sym (stands-line text at l s),
      record { start = omega (arith, s.start-most); release = omega (arith, s.queueing-most); length = omega arith },
    )
