-- `frame_length_command::write_measured` meets its contract: the line goes by what was measured.
use Rattle.frame_length.specs.FrameLength.{measured_returns}
use Rattle.frame_length_command.specs.Command.{line_of}
use Rattle.frame_length_command.proofs.write_measured.Goals as goal

pub returns-in-Some : goal.returns-in-Some
unfolding line_of measured_returns
returns-in-Some c = record {
  value = rw c.in-Some.is c.write_length.ensures.value;
  out_after = rw c.in-Some.is c.write_length.ensures.out_after;
}

pub returns-in-None : goal.returns-in-None
unfolding line_of measured_returns
returns-in-None c = record {
  value = rw c.in-None.is c.write_refusal_line.ensures.value;
  out_after = rw c.in-None.is c.write_refusal_line.ensures.out_after;
}
