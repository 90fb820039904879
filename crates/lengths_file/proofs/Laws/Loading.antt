-- Lengths that were loaded, and the check of a call's files.
use Rattle.std.specs.Prelude.{ℕ, ◌≡◌, List, [], ◌∷◌, Ok, Err}
use Rattle.std.proofs.Math.Path.{sym, ap}
use Rattle.std.proofs.Common.{◌∙◌}
use Rattle.table_checks.specs.declared.Refusal.{Refusal}
use Rattle.table_checks.specs.Checks.{Loadable}
use Rattle.frame_table.specs.Table.{read_check}
use Rattle.lengths_file.specs.declared.Loaded.{Loaded}
use Rattle.lengths_file.specs.Lengths.{lengths_of, loaded}
use Rattle.lengths_file.specs.Input.{input_check}
use Rattle.lengths_file.proofs.Laws.Reading.{loaded-checked, loaded-lengths}

-- they are those of the file, and the table's check decides
pub record ReadLengths (lengths file : List ℕ) (ls : List (List ℕ)) : Type 0 where
  pub passed : input_check lengths file ≡ read_check file
  pub is : ls ≡ lengths_of lengths
  pub loadable : Loadable ls

module _ (lengths file : List ℕ) {l : Loaded} (is : l ≡ loaded lengths) where
  -- Lengths that are turned back are answered with their refusal,
  pub lengths-refused : {f : Refusal} → l.checked ≡ Err f → input_check lengths file ≡ Err f
  unfolding input_check
  lengths-refused e = rw (sym (loaded-checked lengths) ∙ sym (ap (λ x. x.checked) is) ∙ e)

  -- and otherwise loaded.
  pub lengths_read : {ls : List (List ℕ)} → l.checked ≡ Ok tt → ls ≡ l.short ∷ l.long ∷ [] → ReadLengths lengths file ls
  unfolding input_check
  lengths_read e from =
      let fine = sym (loaded-checked lengths) ∙ sym (ap (λ x. x.checked) is) ∙ e in
      let all = loaded-lengths lengths fine in
      let same = from ∙ ap (λ x. x.short ∷ x.long ∷ []) is ∙ all.0 in
      record { passed = rw fine; is = same; loadable = rw same all.1 }
