-- A passed program begun by power-up, ticked and stepped, over events of the C door: the premises of demand 3 there are not empty.
use Rattle.std.specs.Prelude.{ℕ, ◌≡◌, false, List, [], ◌∷◌, ◌++◌, replicate, set}
use Rattle.values.specs.Examples.{default_cells}
use Rattle.rules.specs.Steps.{state_of}
use Rattle.reg_image.specs.Image.{registers_of}
use Rattle.reg_range.specs.Range.{stands}
use Rattle.board_datagrams.specs.Datagram.{Answers}
use Rattle.law_safety.specs.Events.{MakesStep}
use Rattle.law_safety.specs.Laws.{Begun}
use Rattle.witnesses.specs.Programs.{working}

-- ---- images: of zeros, after power-up with default cells, and after the first step of `working`, CSUB 4
abbrev pub zeros : List ℕ
zeros = replicate 137 0

-- the defaults of the axis parameters, by rising number
abbrev pub axis : List ℕ
axis =
    4 ∷ 2000 ∷ 3 ∷ 0 ∷ 4000 ∷ 2000 ∷ 10 ∷ 0 ∷ 0 ∷ 0 ∷ 50 ∷ 500 ∷ 0 ∷ 65536 ∷ 300 ∷ 300 ∷ 300 ∷ 100 ∷ 50 ∷ 0 ∷ 0 ∷ 0 ∷ 0
    ∷ 4096 ∷ 0 ∷ 0 ∷ 1000 ∷ 100 ∷ 0 ∷ 0 ∷ 0 ∷ 25000 ∷ 0 ∷ 300 ∷ 5 ∷ 0 ∷ 0 ∷ 0 ∷ 0 ∷ 0 ∷ 240 ∷ 0 ∷ 0 ∷ []

abbrev pub powered : List ℕ
powered = replicate 34 0 ++ (1 ∷ 0 ∷ 2 ∷ 0 ∷ []) ++ replicate 56 0 ++ axis

-- at address 4, with one return address, 1
abbrev pub called : List ℕ
called = set (set (set powered 7 4) 25 1) 26 1

-- 130, and the reply to it
abbrev pub one_step : List ℕ
one_step = 1 ∷ 130 ∷ 0 ∷ 0 ∷ 0 ∷ 0 ∷ 0 ∷ 0 ∷ 131 ∷ []

abbrev pub stepped : List ℕ
stepped = 2 ∷ 1 ∷ 100 ∷ 130 ∷ 0 ∷ 0 ∷ 0 ∷ 0 ∷ 233 ∷ []

pub record Rows : Type 0 where
  -- zeros stand for no registers in range, as 66 is not 0; power-up takes them
  pub not_in_range : stands zeros ≡ false
  pub begun : Begun working powered working
  -- 130 is answered 100, and makes a step
  pub answers : Answers one_step powered working default_cells (replicate 9 0) 100 called working default_cells stepped
  pub steps : MakesStep powered working (state_of (registers_of powered) default_cells)
