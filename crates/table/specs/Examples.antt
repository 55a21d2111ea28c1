-- Commands, steps and runs on concrete boards, computed: 01's bench traps among them. `negsuc n` is -(n + 1).
use Rattle.std.specs.Prelude.{ℕ, ◌≡◌, true, false, List, [], ◌∷◌, pos, negsuc}
use Rattle.words.specs.Word.{word}
use Rattle.store.specs.Store.{cell_at}
use Rattle.values.specs.Examples.{default_cells}
use Rattle.rules.specs.Run.{Progress, run}
use Rattle.rules.specs.Run as running
use Rattle.rules.specs.Steps.{state_of, pins_of}
use Rattle.board.specs.Registers.{powered}
use Rattle.status.specs.Status.{number_of}
use Rattle.table.specs.Begun.{command, first, more, status_of}

-- a run from address 0 of a short program, the rest of the store being out of reach
abbrev pub ran : List ℕ → ℕ → Progress
ran program n =
    run false program (pins_of (powered default_cells)) n (running.begun (state_of (more (command 129 0 0 (pos 0)) (first (command 131 0 0 (pos 0)))).registers default_cells))

-- CSUB 2; STOP; CALC LOAD 7; SGP 0, 2, 515; STGP 0, 2; RSUB
abbrev pub calling : List ℕ
calling =
    23 ∷ 0 ∷ 0 ∷ 0 ∷ 0 ∷ 0 ∷ 2 ∷
    28 ∷ 0 ∷ 0 ∷ 0 ∷ 0 ∷ 0 ∷ 0 ∷
    19 ∷ 9 ∷ 0 ∷ 0 ∷ 0 ∷ 0 ∷ 7 ∷
    9 ∷ 0 ∷ 2 ∷ 0 ∷ 0 ∷ 2 ∷ 3 ∷
    11 ∷ 0 ∷ 2 ∷ 0 ∷ 0 ∷ 0 ∷ 0 ∷
    24 ∷ 0 ∷ 0 ∷ 0 ∷ 0 ∷ 0 ∷ 0 ∷ []

-- CALC LOAD 1; WAIT TICKS 0, -1; JA 1
abbrev pub waiting : List ℕ
waiting =
    19 ∷ 9 ∷ 0 ∷ 0 ∷ 0 ∷ 0 ∷ 1 ∷
    27 ∷ 0 ∷ 0 ∷ 255 ∷ 255 ∷ 255 ∷ 255 ∷
    22 ∷ 0 ∷ 0 ∷ 0 ∷ 0 ∷ 0 ∷ 1 ∷ []

pub record Examples : Type 0 where
  -- SAP 10 of 7 leaves the cells; GAP then answers 7, and after RSAP, which takes the cell, 4
  pub set_store : (first (command 5 10 0 (pos 7))).store ≡ default_cells
  pub set_get : (more (command 6 10 0 (pos 0)) (first (command 5 10 0 (pos 7)))).value ≡ word (pos 7)
  pub restored : (more (command 6 10 0 (pos 0)) (more (command 8 10 0 (pos 0)) (first (command 5 10 0 (pos 7))))).value ≡ word (pos 4)
  -- ROL of -2147483648, which has no negative, is out of range; ROL of 4000, the limit, turns at -4000, and ROR of 4001 is refused
  pub least_left : status_of (first (command 2 0 0 (negsuc 2147483647))) ≡ 4
  pub left_limit : (first (command 2 0 0 (pos 4000))).registers.core.motion.velocity ≡ word (negsuc 3999)
  pub right_beyond : status_of (first (command 1 0 0 (pos 4001))) ≡ 4
  -- SGP 73 of 1234 locks; then setting 66 to 0 is 4, the value's, before 5, the lock's; setting it to 9 is 5
  pub locks : status_of (first (command 9 73 0 (pos 1234))) ≡ 100
  pub value_first : status_of (more (command 9 66 0 (pos 0)) (first (command 9 73 0 (pos 1234)))) ≡ 4
  pub then_lock : status_of (more (command 9 66 0 (pos 9)) (first (command 9 73 0 (pos 1234)))) ≡ 5
  -- 132 at 5 and a command stored there with 101; 134 reads it back from the store
  pub stored : status_of (more (command 3 1 2 (pos 258)) (first (command 132 0 0 (pos 5)))) ≡ 101
  pub shown_value : (more (command 134 0 0 (pos 5)) (more (command 3 1 2 (pos 258)) (first (command 132 0 0 (pos 5))))).value ≡ word (pos 258)
  pub shown_bytes : (more (command 134 1 0 (pos 5)) (more (command 3 1 2 (pos 258)) (first (command 132 0 0 (pos 5))))).value ≡ word (pos 196866)
  -- a program called and returned from in six steps, its variable in its cell; one step short it still runs
  pub called_steps : (ran calling 1000).steps ≡ 6
  pub called_status : number_of (ran calling 1000).status ≡ 100
  pub called_stopped : (ran calling 1000).state.core.running ≡ false
  pub called_cell : cell_at (ran calling 1000).state.store 35 ≡ word (pos 515)
  pub called_accumulator : (ran calling 1000).state.core.accumulator ≡ word (pos 7)
  pub called_short : (ran calling 5).state.core.running ≡ true
  -- a WAIT of one tick holds: two steps, the second counted, status 100, still running at address 1
  pub held_steps : (ran waiting 1000).steps ≡ 2
  pub held_status : number_of (ran waiting 1000).status ≡ 100
  pub held_address : (ran waiting 1000).state.core.address ≡ 1
  pub held_running : (ran waiting 1000).state.core.running ≡ true
  pub held_count : (ran waiting 1000).state.core.wait.count ≡ 1
  -- no step: 100
  pub no_step : number_of (ran waiting 0).status ≡ 100
  -- an unknown record stops the program at its address with 2
  pub unknown_status : number_of (ran (0 ∷ 0 ∷ 0 ∷ 0 ∷ 0 ∷ 0 ∷ 0 ∷ []) 9).status ≡ 2
  pub unknown_steps : (ran (0 ∷ 0 ∷ 0 ∷ 0 ∷ 0 ∷ 0 ∷ 0 ∷ []) 9).steps ≡ 1
  pub unknown_address : (ran (0 ∷ 0 ∷ 0 ∷ 0 ∷ 0 ∷ 0 ∷ 0 ∷ []) 9).state.core.address ≡ 0
  pub unknown_stopped : (ran (0 ∷ 0 ∷ 0 ∷ 0 ∷ 0 ∷ 0 ∷ 0 ∷ []) 9).state.core.running ≡ false
