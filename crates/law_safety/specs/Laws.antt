-- Demand 3 of the product over rows of events of the C door: a program whose check answers 100, begun at 0, while its records are not
-- written and no command runs it from another named address, under all other commands, samples and ticks never meets an unknown
-- command, never leaves program memory, never has a jump, call or return ignored; its only refusals are those on 01's list.
use Rattle.std.specs.Prelude.{ℕ, ◌<◌, ◌≡◌, true, List, length}
use Rattle.rules.specs.Step.{State}
use Rattle.rules.specs.Steps.{pins_of}
use Rattle.safety.specs.Safety.{Fine}
use Rattle.reg_image.specs.Image.{registers_of}
use Rattle.reg_range.specs.Range.{stands}
use Rattle.numbered.specs.Check.{Checks}
use Rattle.numbered.specs.declared.Checked.{Checked}
use Rattle.law_safety.specs.Events.{Event, Happens, begins, Quiet, MakesStep}

-- these records passed the check, an event began them from some image of 137 numbers, in whatever state, and a quiet row came after it:
-- now the image is j, and the records are o
pub record Begun (program j o : List ℕ) : Type 0 where
  pub verdict : Checked
  pub checked : Checks program verdict
  pub passed : verdict.status ≡ 100
  pub event : Event
  pub image : List ℕ
  pub size : length image ≡ 137
  pub answered : ℕ
  pub left : List ℕ
  pub records : List ℕ
  pub happened : Happens event image program answered left records
  pub began : begins event image answered ≡ true
  pub quiet : Quiet left records j o

pub record Laws : Type 0 where
  -- every step that the next event makes is fine
  pub steps : (program j o : List ℕ) → Begun program j o → (x : State) → MakesStep j o x → Fine program (pins_of (registers_of j)) x
  -- between the events the program address stays within program memory
  pub inside : (program j o : List ℕ) → Begun program j o → (registers_of j).core.address < 1024
  -- the records are those that were checked, and the registers are in range, so that no event answers 23
  pub records : (program j o : List ℕ) → Begun program j o → o ≡ program
  pub in-range : (program j o : List ℕ) → Begun program j o → stands j ≡ true
