-- `lengths_file::input::check_size` meets its contract: the lengths come first, and then the table's size.
use Prim.Native.Nat.{◌-◌}
use mathlib.Core.Path.{◌≡◌, ap, ◌∙◌}
use native.Mathlib.Omega.{arith}
use Rattle.std.proofs.lemmas.Result.{err_from_is_err_and}
use Rattle.table_checks.specs.Checks.{file_size_check}
use Rattle.lengths_file.specs.Input.{size_check}
use Rattle.lengths_file.proofs.Laws.Input.{first_part, size-told}
use Rattle.lengths_file.proofs.input.check_size.Goals as goal

pub returns-in_err-load : goal.returns-in_err-load
unfolding size_check
returns-in_err-load c =
    let a = c.args in
    let p = err_from_is_err_and c.from_residual.result c.from_residual.ensures.1 in
    let answer = size-told a.start.now a.size (rw (p.1, p.2, ← first_part _ _ c.lengths_end-end.ensures, c.in_err-load.ensures)) in
    record { value = answer.0; in_numbers = answer.1 }

pub returns : goal.returns
unfolding size_check
returns c =
    let a = c.args in
    let rest : a.size - c.lengths_end.result ≡ a.size - 92 = omega (arith, c.lengths_end.ensures) in
    let answer = size-told a.start.now a.size (rw (← first_part _ _ c.lengths_end-end.ensures, c.in_ok-load.ensures.0) (c.check_length.ensures.value ∙ ap file_size_check rest)) in
    record { value = answer.0; in_numbers = answer.1 }
