-- The places of a group of numbers.
use Rattle.std.specs.Prelude.{ℕ, Bool, ◌&&◌, leb, ltb}
use Rattle.words.specs.Word.{pick}
use Rattle.sheet.specs.Places.{axis_place}

-- a number of a group's span: from low on, and below the next group's first
abbrev pub in_span : ℕ → ℕ → ℕ → Bool
in_span low next n = leb low n && ltb n next

-- the place of an axis parameter of the group; 43, as where the sheet has none of that number, for a number outside it
abbrev pub place_in_span : ℕ → ℕ → ℕ → ℕ
place_in_span low next n = pick (in_span low next n) (axis_place n) 43
