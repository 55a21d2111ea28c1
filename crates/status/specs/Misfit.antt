-- What of an event does not fit, and the number that the event answers.
use Rattle.std.specs.Prelude.{ℕ, Result, Ok, Err}
use Rattle.status.specs.declared.Misfit.{Misfit}
use Rattle.status.specs.declared.Misfit.TheVariants.{Length, Sample, Budget, Registers}

abbrev pub misfit_number : Misfit → ℕ
misfit_number Length = 20
misfit_number Sample = 21
misfit_number Budget = 22
misfit_number Registers = 23

-- "100" where the event was carried out
abbrev pub told : Result Unit Misfit → ℕ
told (Ok _) = 100
told (Err misfit) = misfit_number misfit
