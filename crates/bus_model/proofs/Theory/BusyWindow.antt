-- The busy window of an instance: a tick t1 from which the bus is kept busy until the instance is released, and from which
-- the work that goes before the instance bounds its start. One induction along a schedule finds it for every instance.
use Prim.Native.Nat.{ℕ, zero, suc, ◌+◌, ◌-◌, ◌*◌, ◌≤◌, ◌<◌, max}
use Rattle.std.specs.Prelude.{◌≡◌, refl, ◌≢◌, ◌↔◌, ◌⊎◌, eqb, length, Option, Some, None}
use Rattle.std.proofs.Math.Logic.{inl, inr}
use mathlib.Core.List.Memᴰ.{head as here}
use mathlib.Core.List.Memᴰ.{tail as there}
use mathlib.Core.List.{List, [], ◌∷◌, Memᴰ as Mem}
use Rattle.std.proofs.Math.Nat.{le_refl, le_trans, le_of_suc-le-suc, mul-le-mul_right, suc-mul, zero-mul}
use Rattle.std.proofs.Common.{le_of_eq, lt_of_not-le, mul-le-mul_left, leb→le, le→leb, ltb→lt, lt→ltb, eqb→eq}
use Rattle.std.proofs.Math.Decide.{ℕ_discrete, dec_le, dec_lt}
use native.Mathlib.Omega.{arith}
use Rattle.std.proofs.Math.Dec.{eqb_refl}
use Rattle.arith.specs.Lists.{sum}
use Rattle.arith.specs.Laws.Members.{mem-keep, mem-get_d}
use Rattle.arith.specs.Laws.Tests.{cond_yes, cond_no}
use Rattle.arith.specs.Laws.Sums.{le-greatest}
use Rattle.arith.specs.Laws.Releases.{counted, count-mono}
use Rattle.bus_model.specs.Frame.{no_frame, row}
use Rattle.bus_model.specs.Valid.{Valid, ValidFaults}
use Rattle.bus_model.specs.Release.{release}
use Rattle.bus_model.specs.Bus.{Transmission, one_more, Waiting, Idle, Next, signalling, free_after, sent_after, Runs, FaultIn, Keeps, Schedule}
use Rattle.bus_model.specs.Bounds.{is_ahead, is_better, is_below, ahead, better, below, blocking, fault_time, fault_load}
use Rattle.bus_model.proofs.Theory.Rows.{over_rows, sum_rows, rows-le, rows_more, rows_split}
use Rattle.bus_model.proofs.Theory.Arrivals.{released_by, arrived}
use Rattle.bus_model.specs.declared.Frame.{Frame}
use Rattle.bus_model.specs.declared.Faults.{Faults}
use Rattle.bus_model.specs.declared.Faults.TheVariants.{Never, Apart}

-- x ticks from t1 on are not enough for what is released in them at the priority of f or better, for what blocks it, and for the faults
abbrev pub Busy : Faults → List Frame → (ℕ → ℕ) → Frame → ℕ → ℕ → Type 0
Busy faults fs starts f t1 x = x < blocking fs f + sum (λ g. g.length * arrived starts g t1 x) (ahead fs f) + fault_load faults fs f x

-- w ticks from t1 on are enough for what goes before instance m of f: what blocks it, the earlier instances, the better frames,
-- the faults, also those that may cut it
abbrev pub Enough : Faults → List Frame → (ℕ → ℕ) → Frame → ℕ → ℕ → ℕ → Type 0
Enough faults fs starts f t1 m w =
    blocking fs f + (m - released_by starts f t1) * f.length + sum (λ g. g.length * arrived starts g t1 (suc w)) (better fs f) + fault_load faults fs f (w + f.length) ≤ w

-- instance n of row k, listed, not cut, and started by tick `limit`
pub record Started (fs : List Frame) (xs : List Transmission) (k n limit : ℕ) : Type 0 where
  pub sent : Transmission
  pub listed : Mem sent xs
  pub frame : sent.frame ≡ k
  pub instance : sent.instance ≡ n
  pub whole : sent.fault ≡ None
  pub start : sent.start ≤ limit
  pub fits : sent.length ≤ (row fs k).length

-- The busy window of instance n of row k, in a schedule up to tick T: it opens at t1.
-- Until the release the bus is kept busy, and once w ticks are enough for what goes before the instance, it has started.
pub record Window (faults : Faults) (fs : List Frame) (starts : ℕ → ℕ) (T : ℕ) (xs : List Transmission) (k n : ℕ) : Type 0 where
  pub t1 : ℕ
  pub early : t1 ≤ release starts (row fs k) n
  pub busy : (x : ℕ) → 1 ≤ x → t1 + x ≤ release starts (row fs k) n → Busy faults fs starts (row fs k) t1 x
  pub begins : (w : ℕ) → Enough faults fs starts (row fs k) t1 n w → release starts (row fs k) n ≤ t1 + w → t1 + w < T → Started fs xs k n (t1 + w)

-- one number is at most another if it is not more
not_more : {a b : ℕ} → ¬ (b < a) → a ≤ b
not_more h = omega arith

-- a transmission is whole, or cut
pub whole-or-cut : (fault : Option ℕ) → (fault ≡ None) ⊎ ((e : ℕ) × (fault ≡ Some e))
whole-or-cut None = inl refl
whole-or-cut (Some e) = inr (e, refl)

-- sending an instance of row i counts at row i alone
pub one-more : (sent : ℕ → ℕ) (i j : ℕ) → ((i ≢ j) × (one_more sent i j ≡ sent j)) ⊎ ((i ≡ j) × (one_more sent i j ≡ suc (sent j)))
unfolding one_more
one-more sent i j =
    elim (ℕ_discrete i j) [
      | yes e ↦ inr (e, cond_yes (eqb i j) _ _ (rw e (eqb_refl j)))
      | no ne ↦ inl (ne, cond_no (eqb i j) _ _ (λ t. ne (eqb→eq i j t)))
    ]

-- and counts there
pub one-more-same : (sent : ℕ → ℕ) (i : ℕ) → one_more sent i i ≡ suc (sent i)
one-more-same sent i = elim (one-more sent i i) [ inl e ↦ absurd (e.0 refl) | inr e ↦ e.1 ]

module _ (faults : Faults) (fs : List Frame) (starts : ℕ → ℕ) (k : ℕ) (all : List Transmission) where
  -- the frame in question
  abbrev f : Frame
  f = row fs k

  -- row i is ahead of row k, or is row k
  abbrev Ahead : ℕ → Type 0
  Ahead i = (i < length fs) × ((row fs i).priority ≤ f.priority)

  -- each row ahead counts no more in a than in b
  infix 20 ◌≼◌
  abbrev ◌≼◌ : (ℕ → ℕ) → (ℕ → ℕ) → Type 0
  a ≼ b = (i : ℕ) → Ahead i → a i ≤ b i

  -- how many instances of row i are released before tick t
  abbrev due : ℕ → ℕ → ℕ
  due t i = released_by starts (row fs i) t

  -- the length of a i instances of row i, less those released before t1
  abbrev length_of : ℕ → (ℕ → ℕ) → ℕ → ℕ
  length_of t1 a i = (row fs i).length * (a i - due t1 i)

  -- that of all the rows ahead
  abbrev load : ℕ → (ℕ → ℕ) → ℕ
  load t1 a = over_rows fs (is_ahead f) (length_of t1 a)

  -- what a fault costs at most
  abbrev cost : ℕ
  cost = fault_time fs f

  -- m faults begin in the ticks t1 .. u - 1
  unfoldable Lost : ℕ → ℕ → ℕ → Type 0
  Lost zero t1 u = Unit {0}
  Lost (suc m) t1 u = (e : ℕ) × FaultIn all e × (t1 ≤ e) × (e < u) × Lost m t1 e

  -- With the first `sent i` instances of each row i sent: from t1 on the bus is kept busy until u, and the next instance of k begins by s.
  record Span (sent : ℕ → ℕ) (t1 u s : ℕ) : Type 0 where
    served : due t1 ≼ sent
    busy : (x : ℕ) → 1 ≤ x → t1 + x < u → Busy faults fs starts f t1 x
    begins : (w : ℕ) → Enough faults fs starts f t1 (sent k) w → s ≤ t1 + w

  -- What holds where the bus becomes free: a window, the work and the faults that filled it, and all that is sent was released.
  record Invariant (sent : ℕ → ℕ) (t1 free : ℕ) : Type 0 where
    span : Span sent t1 free free
    faulty : ℕ
    lost : Lost faulty t1 free
    loaded : free ≤ t1 + blocking fs f + load t1 sent + faulty * cost
    released : sent ≼ due free

  -- What holds where a transmission starts: a window, the work that fills it until the transmission ends, and, if a fault of the
  -- window cuts it, until the signalling is over.
  record Begun (sent : ℕ → ℕ) (x : Transmission) : Type 0 where
    t1 : ℕ
    span : Span sent t1 (suc x.start) x.start
    faulty : ℕ
    lost : Lost faulty t1 x.start
    loaded : x.start + x.length ≤ t1 + blocking fs f + load t1 (one_more sent x.frame) + faulty * cost
    cut : (e : ℕ) → t1 ≤ e → x.fault ≡ Some e → suc e + signalling ≤ t1 + blocking fs f + load t1 sent + suc faulty * cost

  module _ (valid : Valid fs) (inside : k < length fs) (fine : ValidFaults faults) (keeps : Keeps faults all) where
    -- ---- faults

    -- A frame ahead and the signalling take no more than a fault costs.
    cost-ahead : (i : ℕ) → Ahead i → (row fs i).length + signalling ≤ cost
    unfolding fault_time ahead
    cost-ahead i h = omega (arith, le-greatest (λ g. g.length) (mem-keep (is_ahead f) (mem-get_d fs i no_frame h.0) (le→leb _ _ h.1)))

    -- The signalling and a tick take no more.
    cost-own : suc signalling ≤ cost
    cost-own = omega (arith, cost-ahead k (inside, le_refl _), (valid.frame k inside).length)

    -- Faults that begin before a tick begin before a later one.
    lost-later : (m t1 u : ℕ) → Lost m t1 u → (u' : ℕ) → u ≤ u' → Lost m t1 u'
    unfolding Lost
    lost-later zero t1 u lost u' le = tt
    lost-later (suc m) t1 u (e, fault, from, to, more) u' le = (e, fault, from, omega arith, more)

    -- With a gap g between faults, the last of m + 1 begins after m gaps.
    lost-apart : (g : ℕ) → Keeps (Apart g) all → (m t1 e : ℕ) → FaultIn all e → t1 ≤ e → Lost m t1 e → t1 + m * g ≤ e
    unfolding Lost Keeps
    lost-apart g apart zero t1 e fault from lost = omega (arith, zero-mul g)
    lost-apart g apart (suc m) t1 e fault from (e', fault', from', to, more) =
        omega (arith, suc-mul m g, apart e' e fault' fault to, lost-apart g apart m t1 e' fault' from' more)

    -- Those that begin in n ticks cost no more than the bounds count.
    lost-le : (m t1 u n : ℕ) → Lost m t1 u → u ≤ t1 + n → m * cost ≤ fault_load faults fs f n
    unfolding Lost ValidFaults Keeps fault_load
    lost-le zero t1 u n lost le = omega (arith, zero-mul cost)
    lost-le (suc m) t1 u n (e, fault, from, to, more) le = go faults fine keeps
      where
        go : (p : Faults) → ValidFaults p → Keeps p all → suc m * cost ≤ fault_load p fs f n
        go Never fine keeps = absurd (keeps e fault)
        go (Apart g) fine keeps =
            let late = lost-apart g keeps m t1 e fault from more in
            mul-le-mul_right cost ((counted 0 fine n m).1 (omega arith))

    -- ---- releases and work

    -- instance m of row i is released before t just where it is among those counted
    due-iff : (i m t : ℕ) → i < length fs → (m < due t i) ↔ (release starts (row fs i) m < t)
    unfolding released_by release
    due-iff i m t l = counted _ (valid.frame i l).period t m

    -- what is released before a tick is released before a later one
    due-mono : {a : ℕ → ℕ} {t u : ℕ} → a ≼ due t → t ≤ u → a ≼ due u
    unfolding released_by
    due-mono le l i h = le_trans (le i h) (count-mono _ (valid.frame i h.0).period l)

    -- the order of counts is that of their lengths
    length-le : (t1 : ℕ) {a b : ℕ → ℕ} → a ≼ b → (i : ℕ) → Ahead i → length_of t1 a i ≤ length_of t1 b i
    length-le t1 {a} {b} le i h = let more = le i h in mul-le-mul_left (row fs i).length (omega arith)

    -- more instances take more
    load-le : (t1 : ℕ) {a b : ℕ → ℕ} → a ≼ b → load t1 a ≤ load t1 b
    load-le t1 le = rows-le fs (is_ahead f) (λ i l t. length-le t1 le i (l, leb→le _ _ t))

    -- by a frame's length at least, where its row counts more
    load-more : (t1 : ℕ) {a b : ℕ → ℕ} → a ≼ b → (i : ℕ) → Ahead i → due t1 i ≤ a i → a i < b i → (row fs i).length + load t1 a ≤ load t1 b
    load-more t1 {a} {b} le i h served less =
        let one : suc (a i - due t1 i) ≤ b i - due t1 i = omega arith in
        rows_more fs (is_ahead f) (λ i l t. length-le t1 le i (l, leb→le _ _ t)) i (row fs i).length h.0 (le→leb _ _ h.1)
        (omega (arith, mul-le-mul_left (row fs i).length one))

    -- x ticks are not enough where the instances released in them take more
    busy-by : (t1 x : ℕ) → x < blocking fs f + load t1 (due (t1 + x)) + fault_load faults fs f x → Busy faults fs starts f t1 x
    unfolding ahead arrived
    busy-by t1 x h = rw (sum_rows fs (is_ahead f) (λ g. g.length * arrived starts g t1 x)) h

    -- where w ticks are enough, the instances released by then take no more
    enough-for : (t1 w : ℕ) {a : ℕ → ℕ} → Enough faults fs starts f t1 (a k) w → a ≼ due (t1 + suc w) → blocking fs f + load t1 a + fault_load faults fs f (w + f.length) ≤ w
    unfolding better arrived
    enough-for t1 w {a} enough le =
        let split = rows_split valid inside (length_of t1 a) in
        let rest = rows-le fs (is_better f) (λ i l t. length-le t1 {b = due (t1 + suc w)} le i (l, omega (arith, ltb→lt))) in
        omega (arith, sum_rows fs (is_better f) (λ g. g.length * arrived starts g t1 (suc w)))

    -- what is enough for an instance is enough for an earlier one
    enough-less : (t1 w : ℕ) {m m' : ℕ} → m ≤ m' → Enough faults fs starts f t1 m' w → Enough faults fs starts f t1 m w
    enough-less t1 w {m} {m'} le enough =
        let less : m - due t1 k ≤ m' - due t1 k = omega arith in
        omega (arith, mul-le-mul_right f.length less)

    -- a later instance is released later
    release-mono : (i : ℕ) {m m' : ℕ} → m ≤ m' → release starts (row fs i) m ≤ release starts (row fs i) m'
    unfolding release
    release-mono i le = omega (arith, mul-le-mul_right (row fs i).period le)

    -- at tick 0 nothing is released before, and nothing is sent
    initial : Invariant (λ i. 0) 0 0
    unfolding Lost
    initial =
        record {
          span = record {
            served = λ i h. not_more (λ some. omega (arith, (due-iff i 0 0 h.0).0 some));
            busy = λ x one l. omega arith;
            begins = λ w e. omega arith;
          };
          faulty = 0;
          lost = tt;
          loaded = omega arith;
          released = λ i h. omega arith;
        }

    -- ---- one transmission, x
    module _ {sent : ℕ → ℕ} {free : ℕ} {x : Transmission} (next : Next fs starts sent free x) (listed : Mem x all) where
      -- sending takes no count down
      kept : sent ≼ one_more sent x.frame
      kept i h = elim (one-more sent x.frame i) [ inl e ↦ omega arith | inr e ↦ omega arith ]

      -- a frame ahead that is sent adds its length to the work
      load-sent : (t1 : ℕ) → due t1 ≼ sent → Ahead x.frame → (row fs x.frame).length + load t1 sent ≤ load t1 (one_more sent x.frame)
      load-sent t1 served h = load-more t1 kept x.frame h (served _ h) (omega (arith, one-more-same sent x.frame))

      -- all that is sent, x too, is released by the start
      due-sent : sent ≼ due free → one_more sent x.frame ≼ due (suc x.start)
      unfolding Waiting
      due-sent released i h =
          elim (one-more sent x.frame i) [
            | inl e ↦ omega (arith, due-mono {u = suc x.start} released (omega (arith, next.after)) i h)
            | inr e ↦ omega (arith, (due-iff i (sent i) (suc x.start) h.0).1 (omega (arith, rw e.0 at next.waiting.1)))
          ]

      -- a window may open at the start or after it, if all that is released before it opens is sent
      opens : (t1 : ℕ) → x.start ≤ t1 → due t1 ≼ sent → Span sent t1 (suc x.start) x.start
      opens t1 le served = record { served = served; busy = λ y one l. omega arith; begins = λ w e. omega arith }

      -- where a frame below is sent, no row ahead waits
      none-waits : f.priority < (row fs x.frame).priority → due (suc x.start) ≼ sent
      unfolding Waiting
      none-waits r i h = not_more (λ more. omega (arith, next.best i (h.0, le_of_suc-le-suc ((due-iff i (sent i) (suc x.start) h.0).0 more))))

      -- a frame below is sent: a window opens after the start
      sent-below : f.priority < (row fs x.frame).priority → Begun sent x
      unfolding Waiting blocking below Lost
      sent-below r =
          let long = le-greatest (λ g. g.length) (mem-keep (is_below f) (mem-get_d fs x.frame no_frame next.waiting.0) (lt→ltb _ _ r)) in
          record {
            t1 = suc x.start;
            span = opens (suc x.start) (omega arith) (none-waits r);
            faulty = 0;
            lost = tt;
            loaded = omega (arith, next.fits);
            cut = λ e from is. omega (arith, (next.hit e is).1, next.fits, cost-own);
          }

      -- a frame ahead is sent, and all that is released before the start is: a window opens at the start
      sent-quiet : Ahead x.frame → due x.start ≼ sent → Begun sent x
      unfolding Lost
      sent-quiet h quiet =
          record {
            t1 = x.start;
            span = opens x.start (omega arith) quiet;
            faulty = 0;
            lost = tt;
            loaded = omega (arith, next.fits, load-sent x.start quiet h);
            cut = λ e from is. omega (arith, (next.hit e is).1, next.fits, cost-ahead x.frame h);
          }

      -- all that is released before the start is sent, if the bus was idle
      idle-quiet : free < x.start → due x.start ≼ sent
      unfolding Idle Waiting
      idle-quiet gap i h =
          not_more (λ more.
          let released = (due-iff i (sent i) x.start h.0).0 more in
          next.idle (x.start - 1) i (omega arith) (omega arith) (h.0, omega arith))

      module _ {t1 : ℕ} (inv : Invariant sent t1 free) where
        -- and if it is no more work than what is sent
        all_quiet : load t1 (due x.start) ≤ load t1 sent → due x.start ≼ sent
        all_quiet le i h =
            not_more (λ more. omega (arith, (valid.frame i h.0).length, load-more t1 (due-mono inv.released next.after) i h (inv.span.served i h) more))

        -- if it is more, the bus was not idle
        no_gap : load t1 sent < load t1 (due x.start) → x.start ≤ free
        no_gap less = not_more (λ gap. omega (arith, load-le t1 (idle-quiet gap)))

        -- a frame ahead is sent, and not all that is released before the start is: the window goes on
        sent-on : Ahead x.frame → load t1 sent < load t1 (due x.start) → Begun sent x
        sent-on h less =
            let on : x.start ≤ free = no_gap less in
            let same : free ≡ x.start = omega (arith, next.after) in
            record {
              t1 = t1;
              span = record {
                served = inv.span.served;
                busy = λ y one l. elim (dec_lt (t1 + y) free) [
                  | yes early ↦ inv.span.busy y one early
                  | no late ↦ let end : t1 + y ≡ x.start = omega arith in busy-by t1 y (rw end (omega (arith, inv.loaded, lost-le inv.faulty t1 free y inv.lost (omega arith))))
                ];
                begins = λ w e. omega (arith, inv.span.begins w e);
              };
              faulty = inv.faulty;
              lost = rw same at inv.lost;
              loaded = omega (arith, inv.loaded, next.fits, load-sent t1 inv.span.served h);
              cut = λ e from is. omega (arith, inv.loaded, (next.hit e is).1, next.fits, cost-ahead x.frame h);
            }

        -- so there is a window where x starts
        sent-at : Begun sent x
        unfolding Waiting
        sent-at =
            elim (dec_le (row fs x.frame).priority f.priority) [
              | no r ↦ sent-below (omega arith)
              | yes r ↦ elim (dec_le (load t1 (due x.start)) (load t1 sent)) [
                | yes le ↦ sent-quiet (next.waiting.0, r) (all_quiet le)
                | no more ↦ sent-on (next.waiting.0, r) (lt_of_not-le more)
              ]
            ]

        module _ (at : Begun sent x) where
          -- it is busy as long as x lasts
          busy-while : (y : ℕ) → 1 ≤ y → at.t1 + y < x.start + x.length → Busy faults fs starts f at.t1 y
          busy-while y one l =
              elim (dec_lt x.start (at.t1 + y)) [
                | no early ↦ at.span.busy y one (omega arith)
                | yes late ↦ busy-by at.t1 y (omega (arith, at.loaded, load-le at.t1 (due-mono (due-sent inv.released) late), lost-le at.faulty at.t1 x.start y at.lost (omega arith)))
              ]

          -- once w ticks are enough for what follows x, x is over
          ends : (w : ℕ) → Enough faults fs starts f at.t1 (one_more sent x.frame k) w → x.start + x.length ≤ at.t1 + w
          ends w e =
              let started = at.span.begins w (enough-less at.t1 w (kept k (inside, le_refl _)) e) in
              let few = lost-le at.faulty at.t1 x.start (w + f.length) at.lost (omega arith) in
              omega (arith, at.loaded, enough-for at.t1 w e (due-mono (due-sent inv.released) (omega arith)))

          -- x is not cut: the window lasts until it ends
          whole-inv : Invariant (one_more sent x.frame) at.t1 (x.start + x.length)
          whole-inv =
              record {
                span = record { served = λ i h. le_trans (at.span.served i h) (kept i h); busy = busy-while; begins = ends };
                faulty = at.faulty;
                lost = lost-later at.faulty at.t1 x.start at.lost (x.start + x.length) (omega arith);
                loaded = at.loaded;
                released = due-mono (due-sent inv.released) (omega (arith, next.positive));
              }

          -- ---- x is cut in tick e

          module _ {e : ℕ} (is : x.fault ≡ Some e) where
            -- all that is sent is released by the start
            sent-due : (u : ℕ) → x.start ≤ u → sent ≼ due u
            sent-due u le = due-mono inv.released (omega (arith, next.after))

            -- a window that lasts until the signalling is over
            abbrev CutWindow : ℕ → Type 0
            CutWindow t1 = Invariant sent t1 (suc e + signalling)

            -- the fault begins before the window: then a window opens with the fault
            cut-before : e < at.t1 → CutWindow e
            unfolding Lost
            cut-before before =
                let low = (next.hit e is).0 in
                let counts : (n : ℕ) → 1 ≤ n → cost ≤ fault_load faults fs f n = λ n one. omega (arith, lost-le 1 e (suc e) n (e, (x, listed, is), le_refl e, omega arith, tt) (omega arith)) in
                record {
                  span = record {
                    served = λ i h. le_trans (due-mono {a = due e} {t = e} {u = at.t1} (λ j g. le_refl _) (omega arith) i h) (at.span.served i h);
                    busy = λ y one l. omega (arith, counts y one, cost-own);
                    begins = λ w enough. omega (arith, counts (w + f.length) (omega (arith, (valid.frame k inside).length)), cost-own);
                  };
                  faulty = 1;
                  lost = (e, (x, listed, is), le_refl e, omega arith, tt);
                  loaded = omega (arith, cost-own);
                  released = sent-due (suc e + signalling) (omega arith);
                }

            -- the fault begins in the window: then it is one more
            module _ (from : at.t1 ≤ e) where
              lost-more : Lost (suc at.faulty) at.t1 (suc e)
              unfolding Lost
              lost-more = (e, (x, listed, is), from, omega arith, lost-later at.faulty at.t1 x.start at.lost e (next.hit e is).0)

              -- it begins before the next instance of k would end, if w ticks are enough for what goes before that: x is that instance, or goes before it
              soon : (w : ℕ) → Enough faults fs starts f at.t1 (sent k) w → suc e ≤ at.t1 + (w + f.length)
              soon w enough =
                  let high = (next.hit e is).1 in
                  elim (one-more sent x.frame k) [
                    | inl (other, same) ↦ omega (arith, ends w (rw same enough))
                    | inr (own, more) ↦ omega (arith, at.span.begins w enough, rw own at next.fits)
                  ]

              -- and the window lasts
              cut-within : CutWindow at.t1
              cut-within =
                  let (low, high) = next.hit e is in
                  let holds = at.cut e from is in
                  let costs = lost-le (suc at.faulty) at.t1 (suc e) in
                  record {
                    span = record {
                      served = at.span.served;
                      busy = λ y one l. elim (dec_le (at.t1 + y) e) [
                        | yes early ↦ busy-while y one (omega arith)
                        | no late ↦ busy-by at.t1 y (omega (arith, costs y lost-more (omega arith), load-le at.t1 (sent-due (at.t1 + y) (omega arith))))
                      ];
                      begins = λ w enough.
                          let started = at.span.begins w enough in
                          omega (arith, costs (w + f.length) lost-more (soon w enough), enough-for at.t1 w enough (sent-due (at.t1 + suc w) (omega arith)));
                    };
                    faulty = suc at.faulty;
                    lost = lost-later (suc at.faulty) at.t1 (suc e) lost-more (suc e + signalling) (omega arith);
                    loaded = holds;
                    released = sent-due (suc e + signalling) (omega arith);
                  }

            -- either way there is one
            cut-inv : (t1' : ℕ) × CutWindow t1'
            cut-inv = elim (dec_le at.t1 e) [ yes from ↦ (at.t1, cut-within from) | no before ↦ (e, cut-before (omega arith)) ]

    -- ---- the schedule `all`, for instance n
    module _ {T n : ℕ} where
      -- a span that reaches past the release of the instance is a window of it
      window : {sent : ℕ → ℕ} {t1 u s : ℕ} → Span sent t1 u s → sent k ≤ n → release starts (row fs k) n < u →
          ((w : ℕ) → s ≤ t1 + w → t1 + w < T → Started fs all k n (t1 + w)) → Window faults fs starts T all k n
      window {t1 = t1} span le past start =
          record {
            t1 = t1;
            early = not_more (λ late. omega (arith, (due-iff k n t1 inside).1 late, span.served k (inside, le_refl _)));
            busy = λ x one l. span.busy x one (omega arith);
            begins = λ w e released inT. start w (span.begins w (enough-less t1 w le e)) inT;
          }

      -- the schedule is over and the instance is not sent: it is released at T or later, or the bus is not free before T
      ended : {sent : ℕ → ℕ} {t1 free : ℕ} → Invariant sent t1 free → sent k ≤ n → Idle fs starts sent free T → Window faults fs starts T all k n
      unfolding Idle Waiting
      ended {free = free} inv le idle =
          elim (dec_le T (release starts (row fs k) n)) [
            | yes after ↦
                record {
                  t1 = release starts (row fs k) n;
                  early = le_refl _;
                  busy = λ x one l. omega arith;
                  begins = λ w e released inT. absurd (omega arith);
                }
            | no soon ↦
                let waits = release-mono k le in
                let full : T ≤ free = not_more (λ gap. idle (max free (release starts (row fs k) n)) k (omega arith) (omega arith) (inside, omega arith)) in
                window inv.span le (omega arith) (λ w l inT. absurd (omega arith))
          ]

      -- the instance is sent
      begun : {x : Transmission} {sent : ℕ → ℕ} {free : ℕ} → Mem x all → Next fs starts sent free x → Begun sent x →
          x.frame ≡ k → sent k ≡ n → x.fault ≡ None → Window faults fs starts T all k n
      unfolding Waiting
      begun {x} listed next at e now whole =
          window at.span (le_of_eq now) (omega (arith, rw (e, now) at next.waiting.1))
          (λ w l inT. record { sent = x; listed = listed; frame = e; instance = rw (e, now) at next.oldest; whole = whole; start = l; fits = rw e at next.fits })

      -- along what is left of the schedule, until the instance is sent or the list is over
      follow : (xs : List Transmission) {sent : ℕ → ℕ} {t1 free : ℕ} → ((x : Transmission) → Mem x xs → Mem x all) →
          Invariant sent t1 free → sent k ≤ n → Runs fs starts T sent free xs → Window faults fs starts T all k n
      unfolding Runs free_after sent_after
      follow [] listed inv le idle = ended inv le idle
      follow (x ∷ xs) {sent} listed inv le (next, before, runs) =
          let in_all = listed x (here refl) in
          let at = sent-at next in_all inv in
          elim (whole-or-cut x.fault) [
            | inr (e, cut) ↦ follow xs (λ y m. listed y (there m)) (cut-inv next in_all inv at cut).1 le (rw cut at runs)
            | inl whole ↦ elim (dec_le (one_more sent x.frame k) n) [
              | yes more ↦ follow xs (λ y m. listed y (there m)) (whole-inv next in_all inv at) more (rw whole at runs)
              | no done ↦ elim (one-more sent x.frame k) [
                | inl other ↦ absurd (omega arith)
                | inr same ↦ begun in_all next at same.0 (omega arith) whole
              ]
            ]
          ]

-- Every instance of every row has a window, in every schedule.
pub busy-window : {faults : Faults} {fs : List Frame} {starts : ℕ → ℕ} {T : ℕ} {xs : List Transmission} {k : ℕ} →
    Valid fs → k < length fs → ValidFaults faults → Schedule faults fs starts T xs → (n : ℕ) → Window faults fs starts T xs k n
unfolding Schedule
busy-window {faults} {fs} {starts} {xs = xs} {k} valid inside fine (run, keeps) n =
    follow faults fs starts k xs valid inside fine keeps xs (λ x m. m) (initial faults fs starts k xs valid inside fine keeps) (omega arith) run
