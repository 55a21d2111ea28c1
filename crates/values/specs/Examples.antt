-- Power-up on the default cells, on cells that are all out of range, and on a mix of good and bad ones, computed.
use Rattle.std.specs.Prelude.{ℕ, ◌≡◌, List, [], ◌∷◌, ◌++◌, map, ℤ, pos, negsuc, length, replicate}
use Rattle.words.specs.Word.{word}
use Rattle.sheet.specs.Rows.{rows, cells}
use Rattle.sheet.specs.Places.{axis_place, global_place}
use Rattle.rows.specs.declared.Row.{Row}
use Rattle.store.specs.Store.{parameter_length, cell_bytes, put_cell}
use Rattle.values.specs.Values.{value_at, powered_values}

abbrev pub defaults_of : List Row → List ℤ
defaults_of t = map (λ (x : Row). x.standard.v) t

-- a store that has these words in its cells
abbrev pub store_of : List ℤ → List ℕ
store_of [] = []
store_of (z ∷ zs) = cell_bytes z ++ store_of zs

unfoldable pub default_cells : List ℕ
unfolding rows
default_cells = store_of (defaults_of (cells rows))

-- -2147483648 is out of the range of every parameter that has a cell; a user variable is never out of range
abbrev pub bad_cells : List ℕ
bad_cells = store_of (replicate 35 (negsuc 2147483647) ++ replicate 56 (pos 0))

-- the default cells with those of 10, 11, 14, 56, 93, 102, 105, 66, 73, 76 and of user variable 55 changed
abbrev pub mixed_cells : List ℕ
mixed_cells =
    put_cell (put_cell (put_cell (put_cell (put_cell (put_cell (put_cell (put_cell (put_cell (put_cell (put_cell default_cells
    0 (pos 255)) 1 (pos 18001)) 2 (pos 2)) 9 (pos 5)) 18 (negsuc 32767)) 21 (pos 1)) 23 (negsuc 200000)) 31 (pos 0)) 32 (pos 2)) 33 (pos 255))
    90 (negsuc 0)

-- after power-up, the axis parameter and the global of a number
abbrev pub axis_after : List ℕ → ℕ → ℤ
axis_after s n = (value_at (powered_values rows s) (axis_place n)).v

abbrev pub global_after : List ℕ → ℕ → ℤ
global_after s n = (value_at (powered_values rows s) (global_place n)).v

pub record Examples : Type 0 where
  pub default_length : length default_cells ≡ parameter_length
  pub default-cells : powered_values rows default_cells ≡ defaults_of rows
  pub bad_length : length bad_cells ≡ parameter_length
  pub bad-cells : powered_values rows bad_cells ≡ defaults_of rows
  -- good: 10 is 255, 93 is -32768, 76 is 255, user variable 55 is -1
  pub good_10 : axis_after mixed_cells 10 ≡ pos 255
  pub good_93 : axis_after mixed_cells 93 ≡ negsuc 32767
  pub good_76 : global_after mixed_cells 76 ≡ pos 255
  pub good_user : value_at (powered_values rows mixed_cells) 102 ≡ word (negsuc 0)
  -- bad: 18001 in 11, 2 in 14, 5 in 56, 1 in 102, -200001 in 105, 0 in 66, 2 in 73
  pub bad_11 : axis_after mixed_cells 11 ≡ pos 2000
  pub bad_14 : axis_after mixed_cells 14 ≡ pos 3
  pub bad_56 : axis_after mixed_cells 56 ≡ pos 65536
  pub bad_102 : axis_after mixed_cells 102 ≡ pos 0
  pub bad_105 : axis_after mixed_cells 105 ≡ pos 100
  pub bad_66 : global_after mixed_cells 66 ≡ pos 1
  pub bad_73 : global_after mixed_cells 73 ≡ pos 0
  -- 220, which has no cell, is 240
  pub unstored : axis_after mixed_cells 220 ≡ pos 240
