-- `console::fill` meets its contract: what a turn reads comes behind what was read before.
use Rattle.std.proofs.Common.{◌≡◌, ℕ, ◌+◌, ◌≤◌, List, ◌++◌, rules, arith, length, take, sym, ap, ◌∙◌, subst, le_refl, drop_at, length-take-le, take-add}
use Rattle.std.proofs.lemmas.List.{take-append-le}
use Rattle.std.proofs.lemmas.Slice.{take-put_mid_below}
use Rattle.std.specs.Io.KnownBytes.{Consumes}
use Rattle.std.proofs.KnownBytes.{Consumes-trans}
use borrow.Rule.Slice.PartMut.{put_mid, post_of}
use Rattle.console.proofs.fill.Goals as goal

-- A part is written at place a: the start up to its first n elements is the start before it, and those.
start_written : (a k n : ℕ) (xs ys : List ℕ) → a ≤ length xs → n ≤ length ys → take (a + n) (put_mid a k xs ys) ≡ take a xs ++ take n ys
start_written a k n xs ys within fits =
    take-add a n (put_mid a k xs ys) ∙ rw (take-put_mid_below a k xs ys a (le_refl a) within, drop_at (take a xs) (ys ++ post_of a k xs) a (length-take-le a xs within))
    (ap (λ l. take a xs ++ l) (take-append-le n ys (post_of a k xs) fits))

pub loop-done-preserved : goal.loop-done-preserved
loop-done-preserved g c =
    let l = c.loop-done in
    let part = c.read.new.buf in
    let within : l.done ≤ length l.buffer = omega arith in
    record {
      size = search rules;
      within = search rules;
      taken = subst (Consumes _ _) (sym (start_written l.done _ c.in-Ok.count l.buffer part within c.in-Ok.ensures.bound.0))
          (Consumes-trans _ _ _ _ _ l.invariant.taken c.in-Ok.ensures.bytes.0);
    }
