-- `log_load::files::write_table` meets its contract: the file is read, and into its table.
use Prim.Native.Nat.{ℕ}
use mathlib.Core.Path.{◌≡◌, refl, sym, ◌∙◌}
use native.Mathlib.Omega.{arith}
use Rattle.std.specs.Prelude.{Result, Ok, Err}
use Rattle.std.specs.Result.{IsOk}
use Rattle.table_checks.specs.declared.Refusal.{Refusal}
use Rattle.frame_table.specs.Laws.Reading.{ReadRows, read-rows, read-refused}
use Rattle.log_load.proofs.files.write_table.Goals as goal
use Rattle.log_load.proofs.files.write_table.Goals.{After-unwrap-n}

pub unwrap-n-requires : goal.unwrap-n-requires
unwrap-n-requires c = go c.read.result refl
  where
    go : (r : Result ℕ Refusal) → c.read.result ≡ r → IsOk r
    go (Ok n) e = refl
    go (Err f) e =
        let failed = read-refused _ _ _ refl c.read.ensures.value _ e in
        let z : ◌≡◌ {A = ℕ} 0 1 = cc (sym c.requires ∙ failed) in
        absurd (omega arith)

-- the table of the file
table : (c : After-unwrap-n) → ReadRows c.args.table.now c.read.new.rows c.unwrap-n.result
table c = read-rows _ _ _ refl c.read.ensures.value _ _ c.read.ensures.rows_after c.unwrap-n.ensures

pub write_accepted-requires : goal.write_accepted-requires
write_accepted-requires c = (table (goal.at.write_accepted-requires c).After-unwrap-n).accepted
