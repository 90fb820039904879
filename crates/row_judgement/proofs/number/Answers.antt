-- Each cause has its own arm.
use Rattle.row_judgement.specs.Refusal.{number_of}
use Rattle.row_judgement.proofs.number.Goals as goal

pub returns-in-Table : goal.returns-in-Table
unfolding number_of
returns-in-Table c = rw c.in-Table.is c.number.ensures

pub returns-in-NoSuchRow : goal.returns-in-NoSuchRow
unfolding number_of
returns-in-NoSuchRow c = rw c.in-NoSuchRow.is

pub returns-in-NoWindow : goal.returns-in-NoWindow
unfolding number_of
returns-in-NoWindow c = rw c.in-NoWindow.is

pub returns-in-TooManyScenarios : goal.returns-in-TooManyScenarios
unfolding number_of
returns-in-TooManyScenarios c = rw c.in-TooManyScenarios.is

pub returns-in-GapOutside : goal.returns-in-GapOutside
unfolding number_of
returns-in-GapOutside c = rw c.in-GapOutside.is
