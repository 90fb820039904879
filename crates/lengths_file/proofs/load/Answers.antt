-- `lengths_file::load` meets its contract: where nothing is found against the file, the lengths stand beside that.
use mathlib.Core.Path.{sym, ap, ◌∙◌}
use mathlib.Core.List.{[], ◌∷◌}
use Rattle.std.proofs.lemmas.Result.{err_from_is_err_and}
use Rattle.lengths_file.proofs.Laws.Reading.{loaded-checked, loaded-lengths}
use Rattle.lengths_file.proofs.load.Goals as goal

pub returns-in_err-loaded : goal.returns-in_err-loaded
returns-in_err-loaded c =
    let p = err_from_is_err_and c.from_residual.result c.from_residual.ensures.1 in
    rw (p.1, p.2) (sym (loaded-checked c.args.file.now) ∙ sym (ap (λ x. x.checked) c.read-loaded.ensures.value) ∙ c.in_err-loaded.was)

pub returns : goal.returns
returns c =
    let fine = sym (loaded-checked c.args.file.now) ∙ sym (ap (λ x. x.checked) c.read-loaded.ensures.value) ∙ c.in_ok-loaded.was in
    let all = loaded-lengths c.args.file.now fine in
    let same = c.lengths_of.ensures ∙ ap (λ x. x.short ∷ x.long ∷ []) c.read-loaded.ensures.value ∙ all.0 in
    (fine, same, rw same all.1)
