-- By the case.
use Rattle.explain_command.specs.Laws.Text.{text-none, text-case}
use Rattle.explain_command.proofs.write_judged.Goals as goal

pub returns-in-None : goal.returns-in-None
returns-in-None c = record {
  value = rw (text-none c.args.breaking _ c.in-None.is) c.write_one.ensures.value;
  out_after = rw (text-none c.args.breaking _ c.in-None.is) c.write_one.ensures.out_after;
}

pub returns-in-Some : goal.returns-in-Some
returns-in-Some c = record {
  value = rw (text-case c.args.breaking _ c.in-Some.is) c.write_case.ensures.value;
  out_after = rw (text-case c.args.breaking _ c.in-Some.is) c.write_case.ensures.out_after;
}
