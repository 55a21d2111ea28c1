-- What a user of the walk relies on.
use Rattle.std.specs.Prelude.{ℕ, ◌≡◌, List, Option}
use Rattle.leading.specs.Leading.{way_at}
use Rattle.walking.specs.Found.{FoundIn}
use Rattle.walking.specs.declared.found.Found.{Found}

pub record Laws : Type 0 where
  -- two answers that meet the walk's promise are one
  pub one_found : (program : List ℕ) (f g : Option Found) → FoundIn (way_at program) f → FoundIn (way_at program) g → f ≡ g
