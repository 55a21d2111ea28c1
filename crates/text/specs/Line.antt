-- "Words are separated by single spaces."
use Rattle.std.specs.Prelude.{ℕ, List, [], ◌∷◌, eqb, Option, Some, None}
use Rattle.words.specs.Word.{pick}

-- what stands behind the space that a text begins with, if one is there
abbrev pub behind_space : List ℕ → Option (List ℕ)
behind_space [] = None
behind_space (b ∷ l) = pick (eqb b 32) (Some l) None
