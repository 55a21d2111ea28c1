-- `board_events::new_cells`.
use borrow.Author.Tests.{not-true, not-false}
use Rattle.board_events.specs.Events.{new_cells}
use Rattle.board_events.proofs.new_cells.Goals as goal

pub returns-then-not-is_parameter_store : goal.returns-then-not-is_parameter_store
unfolding new_cells
returns-then-not-is_parameter_store c = let x = c.is_parameter_store in simp (← x.ensures, not-true x.result c.if-not-is_parameter_store.true-raw)

pub returns : goal.returns
unfolding new_cells
returns c = let x = c.is_parameter_store in simp (← x.ensures, not-false x.result c.if-not-is_parameter_store.false-raw, c.reset_cells.ensures)
