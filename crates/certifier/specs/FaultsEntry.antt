-- The tool's call under the premise that faults begin at least g ticks apart (document 02, request 9).
use Rattle.std.specs.Prelude.{ℕ, List, Result, Ok, Err}
use Rattle.bus_model.specs.declared.Judgement.{Judgement}
use Rattle.row_judgement.specs.declared.Refusal.{Refusal}
use Rattle.table_checks.specs.declared.Refusal.{Refusal as TableRefusal}
use Rattle.frame_table.specs.Text.{fields_of}
use Rattle.lengths_file.specs.Lengths.{lengths_of}
use Rattle.lengths_file.specs.Input.{input_check}
use Rattle.row_judgement.specs.declared.Explained.{Explained}
use Rattle.row_judgement.specs.Refusal.{of_table}
use Rattle.row_judgement.specs.Judge.{judge_faults}
use Rattle.row_judgement.specs.Explain.{explain_faults}
use Rattle.certifier.specs.ExplainEntry.{turned_back}

-- lengths and table as bytes: the checks on files, then those on lengths and rows, 9, 17
unfoldable pub judge_faults_read : Result (Unit {0}) TableRefusal → List (List ℕ) → List ℕ → ℕ → ℕ → Result Judgement Refusal
judge_faults_read (Err f) ls file r g = Err (of_table f)
judge_faults_read (Ok _) ls file r g = judge_faults ls (fields_of file) r g

unfoldable pub judge_faults_file : List ℕ → List ℕ → ℕ → ℕ → Result Judgement Refusal
judge_faults_file lengths file r g = judge_faults_read (input_check lengths file) (lengths_of lengths) file r g

-- the same with the case
unfoldable pub explain_faults_read : Result (Unit {0}) TableRefusal → List (List ℕ) → List ℕ → ℕ → ℕ → Explained
explain_faults_read (Err f) ls file r g = turned_back (of_table f)
explain_faults_read (Ok _) ls file r g = explain_faults ls (fields_of file) r g

unfoldable pub explain_faults_file : List ℕ → List ℕ → ℕ → ℕ → Explained
explain_faults_file lengths file r g = explain_faults_read (input_check lengths file) (lengths_of lengths) file r g
