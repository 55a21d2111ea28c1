-- `machine::deeds::apply`.
use mathlib.Core.Path.{refl}
use borrow.Author.Tests.{lt-ltb}
use Rattle.machine.proofs.Keeps.{same, by}
use Rattle.cmd_turns.specs.Deed.{doing}
use Rattle.machine.proofs.deeds.apply.Goals as goal

pub returns-in-Number : goal.returns-in-Number
unfolding doing
returns-in-Number c = record { makes = simp (c.goes.ensures, c.in-Number.is, lt-ltb _ _ c.requires); kept = same _; stays = λ t. t }

pub returns-in-Numbers : goal.returns-in-Numbers
unfolding doing
returns-in-Numbers c = record { makes = simp (c.goes-in-Numbers.ensures, c.in-Numbers.is, lt-ltb _ _ c.requires, c.set.ensures.makes); kept = by _ _ _ (λ r. refl) (λ r. refl) c.set.ensures; stays = c.set.ensures.stays }

pub returns-in-Jump : goal.returns-in-Jump
unfolding doing
returns-in-Jump c = record { makes = simp (c.goes-in-Jump.ensures, c.in-Jump.is); kept = same _; stays = λ t. t }

pub returns-in-Call : goal.returns-in-Call
unfolding doing
returns-in-Call c = record { makes = simp (c.goes-in-Call.ensures, c.in-Call.is, lt-ltb _ _ c.requires, c.push.ensures.makes); kept = by _ _ _ (λ r. refl) (λ r. refl) c.push.ensures; stays = c.push.ensures.stays }

pub returns-in-Back : goal.returns-in-Back
unfolding doing
returns-in-Back c = record { makes = simp (c.goes-in-Back.ensures, c.in-Back.is, c.pop-back.ensures.address, c.pop-back.ensures.leaves.makes); kept = by _ _ _ (λ r. refl) (λ r. refl) c.pop-back.ensures.leaves; stays = c.pop-back.ensures.leaves.stays }

pub returns-in-Set : goal.returns-in-Set
unfolding doing
returns-in-Set c = record { makes = simp (c.goes-in-Set.ensures, c.in-Set.is, lt-ltb _ _ c.requires, c.set_at.ensures.makes); kept = by _ _ _ (λ r. refl) (λ r. refl) c.set_at.ensures; stays = c.set_at.ensures.stays }

pub returns-in-Output : goal.returns-in-Output
unfolding doing
returns-in-Output c = record { makes = simp (c.goes-in-Output.ensures, c.in-Output.is, lt-ltb _ _ c.requires, c.set_at-in-Output.ensures.makes); kept = by _ _ _ (λ r. refl) (λ r. refl) c.set_at-in-Output.ensures; stays = c.set_at-in-Output.ensures.stays }

pub returns-in-Last : goal.returns-in-Last
unfolding doing
returns-in-Last c = record { makes = simp (c.goes-in-Last.ensures, c.in-Last.is, lt-ltb _ _ c.requires, c.set-in-Last.ensures.makes); kept = by _ _ _ (λ r. refl) (λ r. refl) c.set-in-Last.ensures; stays = c.set-in-Last.ensures.stays }

pub returns-in-Clear : goal.returns-in-Clear
unfolding doing
returns-in-Clear c = record { makes = simp (c.goes-in-Clear.ensures, c.in-Clear.is, lt-ltb _ _ c.requires, c.clear.ensures.makes); kept = by _ _ _ (λ r. refl) (λ r. refl) c.clear.ensures; stays = c.clear.ensures.stays }

pub returns-in-Order : goal.returns-in-Order
unfolding doing
returns-in-Order c = record { makes = simp (c.goes-in-Order.ensures, c.in-Order.is, lt-ltb _ _ c.requires, c.set_motion.ensures.makes); kept = by _ _ _ (λ r. refl) (λ r. refl) c.set_motion.ensures; stays = c.set_motion.ensures.stays }

pub returns-in-Move : goal.returns-in-Move
unfolding doing
returns-in-Move c = record { makes = simp (c.goes-in-Move.ensures, c.in-Move.is, lt-ltb _ _ c.requires, c.move_to.ensures.makes); kept = by _ _ _ (λ r. refl) (λ r. refl) c.move_to.ensures; stays = c.move_to.ensures.stays }

pub returns-in-Store : goal.returns-in-Store
unfolding doing
returns-in-Store c = record { makes = simp (c.goes-in-Store.ensures, c.in-Store.is, lt-ltb _ _ c.requires, c.put_cell.ensures); kept = same _; stays = λ t. t }

pub returns-in-Global : goal.returns-in-Global
unfolding doing
returns-in-Global c = record { makes = simp (c.goes-in-Global.ensures, c.in-Global.is, lt-ltb _ _ c.requires, c.put_cell-in-Global.ensures, c.cell_of.ensures, c.set_at-in-Global.ensures.makes); kept = by _ _ _ (λ r. refl) (λ r. refl) c.set_at-in-Global.ensures; stays = c.set_at-in-Global.ensures.stays }

pub returns-in-Held : goal.returns-in-Held
unfolding doing
returns-in-Held c = record { makes = simp (c.holds.ensures, c.in-Held.is, c.set_wait.ensures.makes, c.armed_with.ensures); kept = by _ _ _ (λ r. refl) (λ r. refl) c.set_wait.ensures; stays = c.set_wait.ensures.stays }

pub returns-in-Waits : goal.returns-in-Waits
unfolding doing
returns-in-Waits c = record { makes = simp (c.holds-in-Waits.ensures, c.in-Waits.is); kept = same _; stays = λ t. t }

pub returns-in-Passed : goal.returns-in-Passed
unfolding doing
returns-in-Passed c = record { makes = simp (c.goes-in-Passed.ensures, c.in-Passed.is, lt-ltb _ _ c.requires, c.drop_wait.ensures.makes); kept = by _ _ _ (λ r. refl) (λ r. refl) c.drop_wait.ensures; stays = c.drop_wait.ensures.stays }

pub returns-in-TimedOut : goal.returns-in-TimedOut
unfolding doing
returns-in-TimedOut c = record { makes = simp (c.goes-in-TimedOut.ensures, c.in-TimedOut.is, lt-ltb _ _ c.requires, c.time_out.ensures.makes); kept = by _ _ _ (λ r. refl) (λ r. refl) c.time_out.ensures; stays = c.time_out.ensures.stays }

pub returns-in-Dropped : goal.returns-in-Dropped
unfolding doing
returns-in-Dropped c = record { makes = simp (c.goes-in-Dropped.ensures, c.in-Dropped.is, c.from.ensures, lt-ltb _ _ c.requires, c.drop_wait-in-Dropped.ensures.makes); kept = by _ _ _ (λ r. refl) (λ r. refl) c.drop_wait-in-Dropped.ensures; stays = c.drop_wait-in-Dropped.ensures.stays }

pub returns-in-Halt : goal.returns-in-Halt
unfolding doing
returns-in-Halt c = record { makes = simp (c.stops.ensures, c.in-Halt.is, c.empty_stack.ensures.makes); kept = by _ _ _ (λ r. refl) (λ r. refl) c.empty_stack.ensures; stays = c.empty_stack.ensures.stays }

pub returns-in-Nothing : goal.returns-in-Nothing
unfolding doing
returns-in-Nothing c = record { makes = simp (c.stops-in-Nothing.ensures, c.in-Nothing.is); kept = same _; stays = λ t. t }

pub returns-in-User : goal.returns-in-User
unfolding doing
returns-in-User c = record { makes = simp (c.goes-in-User.ensures, c.in-User.is, lt-ltb _ _ c.requires, c.set_at-in-User.ensures.makes); kept = by _ _ _ (λ r. refl) (λ r. refl) c.set_at-in-User.ensures; stays = c.set_at-in-User.ensures.stays }
