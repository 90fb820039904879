-- An accepted log.
use Rattle.std.specs.Prelude.{List}
use Rattle.bus_log.specs.declared.Line.{Line}
use Rattle.log_check.specs.Check.{lines_of}
use Rattle.log_load.specs.declared.Log.{Log}

-- its lines
abbrev pub lines : Log → List Line
lines log = lines_of log.text.now
