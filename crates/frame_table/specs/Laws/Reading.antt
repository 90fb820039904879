-- A file that is read into numbers of its own, as many as the longest table has: an accepted table has room there.
use Rattle.std.specs.Prelude.{ℕ, ◌≤◌, ◌≡◌, refl, List, ◌++◌, length, take, drop, Result, Ok, Err}
use Rattle.std.proofs.Common.{sym, ap, ◌∙◌, arith, le-ltb, length-take, take_at}
use Rattle.table_checks.specs.declared.Refusal.{Refusal}
use Rattle.table_checks.specs.Columns.{most_numbers}
use Rattle.table_checks.specs.Checks.{Accepted}
use Rattle.table_checks.proofs.Laws.Accepted.{accepted-size}
use Rattle.frame_table.specs.Text.{fields_of}
use Rattle.frame_table.specs.Table.{read_check, answer_for, area_after}
use Rattle.frame_table.specs.Laws.RoundTrip.{text-read}

-- the first n numbers of the area are the accepted table of the file
pub record ReadRows (file area : List ℕ) (n : ℕ) : Type 0 where
  pub passed : read_check file ≡ Ok tt
  pub room : n ≤ length area
  pub size : n ≡ length (take n area)
  pub rows : take n area ≡ fields_of file
  pub accepted : Accepted (take n area)

module _ (file old : List ℕ) (answer : Result ℕ Refusal) (size : length old ≡ most_numbers) (is : answer ≡ answer_for (read_check file) (fields_of file) old) where
  -- A table that passed is read.
  passed-done : read_check file ≡ Ok tt → answer ≡ Ok (length (fields_of file))
  passed-done e =
      let few = (accepted-size (fields_of file) (text-read file e).0).most in
      is ∙ rw (e, le-ltb (length old) (length (fields_of file)) (omega arith))

  failed-refused : (r : Refusal) → read_check file ≡ Err r → answer ≡ Err r
  failed-refused r e = is ∙ rw e

  -- A refusal is that of the file's check.
  pub read-refused : (f : Refusal) → answer ≡ Err f → read_check file ≡ Err f
  read-refused f e = by-check (read_check file) refl
    where
      by-check : (c : Result (Unit {0}) Refusal) → read_check file ≡ c → read_check file ≡ Err f
      by-check (Ok tt) q = let z : ◌≡◌ {A = ℕ} 0 1 = cc (passed-done q) in absurd (omega arith)
      by-check (Err r) q = let z : r ≡ f = cc (failed-refused r q) in q ∙ ap Err z

  -- What is read is the table of the file.
  pub read-rows : (area : List ℕ) (n : ℕ) → area ≡ area_after answer (fields_of file) old → answer ≡ Ok n → ReadRows file area n
  read-rows area n left e = by-check (read_check file) refl
    where
      by-check : (c : Result (Unit {0}) Refusal) → read_check file ≡ c → ReadRows file area n
      by-check (Err r) q = let z : ◌≡◌ {A = ℕ} 0 1 = cc (failed-refused r q) in absurd (omega arith)
      by-check (Ok tt) q =
          let z : length (fields_of file) ≡ n = cc (passed-done q) in
          let whole : area ≡ fields_of file ++ drop (length (fields_of file)) old = rw e at left in
          let rows : take n area ≡ fields_of file = rw whole (take_at (fields_of file) (drop (length (fields_of file)) old) n z) in
          let many : length (take n area) ≡ n = ap length rows ∙ z in
          record {
            passed = q;
            room = omega (arith, length-take n area);
            size = sym many;
            rows = rows;
            accepted = rw rows (text-read file q).0;
          }
