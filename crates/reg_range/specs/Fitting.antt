-- "20, then 23": stores of another length, then registers out of range.
use Rattle.std.specs.Prelude.{List, ℕ, Result, Ok, Err, ◌&&◌}
use Rattle.words.specs.Word.{pick}
use Rattle.status.specs.declared.Misfit.{Misfit}
use Rattle.status.specs.declared.Misfit.TheVariants.{Length, Registers}
use Rattle.store.specs.Store.{is_program_store, is_parameter_store}
use Rattle.reg_range.specs.Range.{stands}

abbrev pub fitting : List ℕ → List ℕ → List ℕ → Result Unit Misfit
fitting image program cells =
    pick (is_program_store program && is_parameter_store cells) (pick (stands image) (Ok tt) (Err Registers)) (Err Length)
