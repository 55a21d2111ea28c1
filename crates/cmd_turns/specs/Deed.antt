-- What each deed does.
use Rattle.std.specs.Prelude.{ℕ, ◌+◌, List, pos, Result, Ok, Err}
use Rattle.words.specs.Word.{word}
use Rattle.words.specs.declared.Word.{Word}
use Rattle.status.specs.declared.Status.TheVariants.{Done}
use Rattle.status.specs.declared.Refusal.{Refusal}
use Rattle.status.specs.Refusal.{status_of}
use Rattle.store.specs.Store.{put_cell}
use Rattle.sheet.specs.Rows.{rows, cell_of}
use Rattle.sheet.specs.Places.{axis_place}
use Rattle.stack.specs.Stack.{pushed, popped}
use Rattle.registers.specs.Registers.{with_numbers, with_last, with_flags, with_wait, next_address}
use Rattle.registers.specs.declared.Core.{Core}
use Rattle.registers.specs.declared.Order.TheVariants.{Position}
use Rattle.status.specs.declared.Status.TheVariants.{Unknown}
use Rattle.rules.specs.Numbers.{cleared}
use Rattle.waiting.specs.Waiting.{armed_with}
use Rattle.board.specs.declared.Registers.{Registers}
use Rattle.reg_image.specs.With.{in_core, with_accumulator, with_address, with_eto, ordered}
use Rattle.reg_image.specs.Rows.{set_output, set_value_at}
use Rattle.cmd_turns.specs.declared.Left.TheVariants.{Holds, Stops}
use Rattle.cmd_turns.specs.declared.Deed.{Deed}
use Rattle.cmd_turns.specs.declared.Deed.TheVariants.{
  Number,
  Numbers,
  Jump,
  Call,
  Back,
  Set,
  Output,
  Last,
  Clear,
  Order,
  Move,
  Store,
  Global,
  Held,
  Waits,
  Passed,
  TimedOut,
  Dropped,
  Halt,
  Nothing,
  User,
}
use Rattle.cmd_turns.specs.Turn.{Turn, turn, to, on, dropped, with_stack, halted}

abbrev pub cleared_flags : ℕ → Core → Core
cleared_flags kind c =
    with_flags
    (record {
      eto = cleared kind 1 c.flags.eto;
      eal = cleared kind 2 c.flags.eal;
      edv = cleared kind 3 c.flags.edv;
      epo = cleared kind 4 c.flags.epo;
    })
    c

unfoldable pub doing : Deed → Registers → List ℕ → Turn
doing (Number w) r m = on Done (in_core (with_accumulator w) r) m
doing (Numbers w x) r m = on Done (in_core (with_numbers w x) r) m
doing (Jump a) r m = to a Done r m
doing (Call a) r m = to a Done (with_stack (pushed r.entries r.core.depth (next_address r.core.address)) r) m
doing Back r m =
    to (popped r.entries r.core.depth).back Done (with_stack (popped r.entries r.core.depth).stack r) m
doing (Set place w) r m = on Done (set_value_at place w.v r) m
doing (Output port bit) r m = on Done (set_output port bit r) m
doing (Last l) r m = on Done (in_core (with_last l) r) m
doing (Clear kind) r m = on Done (in_core (cleared_flags kind) r) m
doing (Order o w) r m = on Done (in_core (ordered o w) r) m
doing (Move w) r m = on Done (in_core (ordered Position (word (pos 0))) (set_value_at (axis_place 50) w.v r)) m
doing (Store cell w) r m = on Done r (put_cell m cell w.v)
doing (Global place w) r m = on Done (set_value_at place w.v r) (put_cell m (cell_of rows place) w.v)
doing (Held w) r m = turn (in_core (with_wait (armed_with w.v)) r) m Done Holds
doing Waits r m = turn r m Done Holds
doing Passed r m = on Done (dropped r) m
doing TimedOut r m = on Done (dropped (in_core (with_eto 1) r)) m
doing (Dropped refusal) r m = on (status_of refusal) (dropped r) m
doing Halt r m = halted r m
doing Nothing r m = turn r m Unknown Stops
doing (User n w) r m = on Done (set_value_at (47 + n) w.v r) m

-- what is decided comes to: a deed is done, a refusal goes on with its status
abbrev pub comes_to : Result Deed Refusal → Registers → List ℕ → Turn
comes_to (Ok deed) r m = doing deed r m
comes_to (Err refusal) r m = on (status_of refusal) r m

-- ---- what a deed is decided from: the image's registers with the accumulator and the address that a run carries
abbrev pub seen : Word → ℕ → Registers → Registers
seen a n r = in_core (λ (c : Core). with_address n (with_accumulator a c)) r
