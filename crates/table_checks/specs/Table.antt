-- An accepted table.
use Rattle.std.specs.Prelude.{List}
use Rattle.bus_model.specs.declared.Frame.{Frame}
use Rattle.table_checks.specs.declared.Table.{Table}
use Rattle.table_checks.specs.Frames.{frames_of}

-- its frames, by its lengths
abbrev pub frames : Table → List Frame
frames table = frames_of table.lengths table.rows.now
