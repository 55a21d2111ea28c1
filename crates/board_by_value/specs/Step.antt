-- One step by value: "20, then 23", then the step, whether or not the program runs.
use Rattle.std.specs.Prelude.{ℕ, ◌≡◌, true, false, ◌&&◌, List, Result, Ok, Err}
use Rattle.words.specs.Word.{pick}
use Rattle.status.specs.Status.{number_of}
use Rattle.status.specs.declared.Status.{Status}
use Rattle.status.specs.Misfit.{misfit_number}
use Rattle.status.specs.declared.Misfit.{Misfit}
use Rattle.board.specs.declared.Registers.{Registers}
use Rattle.rules.specs.Steps.{Turn, step_once}
use Rattle.rules.specs.RunEvent.{lent}
use Rattle.reg_image.specs.Image.{registers_of, shaped}
use Rattle.reg_range.specs.Range.{stands}

-- registers and parameter store, and the number that is answered
pub record After : Type 0 where
  pub registers : Registers
  pub store : List ℕ
  pub status : ℕ

abbrev pub after_turn : Turn → After
after_turn t = record { registers = t.registers; store = t.store; status = number_of t.status }

-- nothing changes
abbrev pub refused : ℕ → Registers → List ℕ → After
refused n r m = record { registers = r; store = m; status = n }

unfoldable pub stepped : List ℕ → List ℕ → List ℕ → After
stepped program l m =
    pick (lent program m)
    (pick (stands l) (after_turn (step_once program (registers_of l) m)) (refused 23 (registers_of l) m))
    (refused 20 (registers_of l) m)

-- the number that a step answers
abbrev pub number_stepped : Result Status Misfit → ℕ
number_stepped (Ok status) = number_of status
number_stepped (Err misfit) = misfit_number misfit

pub record Turns (program l m : List ℕ) (s : ℕ) (k n : List ℕ) : Type 0 where
  pub status : s ≡ (stepped program l m).status
  pub makes : registers_of k ≡ (stepped program l m).registers
  pub store : n ≡ (stepped program l m).store
  pub stays : shaped l ≡ true → shaped k ≡ true
  pub kept : lent program m && stands l ≡ false → k ≡ l
