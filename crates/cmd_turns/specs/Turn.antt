-- One command carried out, as a run, 130 and direct mode share it. A wait is dropped by a WAIT alone: what a program drops before any
-- other step, and what stopping makes of the registers, is settled by the caller (Settled).
use Rattle.std.specs.Prelude.{ℕ, List, eqb, leb, ℤ}
use Rattle.words.specs.Word.{pick}
use Rattle.wire.specs.declared.Command.{Command}
use Rattle.waits.specs.Waits.{dropped_wait}
use Rattle.status.specs.Status.{is_done, is_unknown}
use Rattle.status.specs.declared.Status.{Status}
use Rattle.status.specs.declared.Status.TheVariants.{Done, Value, Unavailable}
use Rattle.registers.specs.Registers.{with_wait, with_depth, next_address}
use Rattle.stack.specs.Stack.{pushed, popped}
use Rattle.stack.specs.declared.Stack.{Stack}
use Rattle.jumping.specs.Jump.{jumps, address_of}
use Rattle.waiting.specs.Waiting.{waited, Waited, Refused, Passed, TimedOut, Holding}
use Rattle.judge.specs.Judge.{judged, is_flow, is_reading}
use Rattle.rules.specs.Reading.{read}
use Rattle.rules.specs.Effects.{Work}
use Rattle.rules.specs.Deciding.{worked}
use Rattle.board.specs.declared.Registers.{Registers}
use Rattle.reg_image.specs.With.{in_core, with_accumulator, with_address, with_eto, with_entries}
use Rattle.reg_image.specs.Rows.{empty_stack}
use Rattle.cmd_turns.specs.declared.Left.{Left}
use Rattle.cmd_turns.specs.declared.Left.TheVariants.{Goes, Holds, Stops}

-- registers and parameter store, the command's status, and what becomes of the program
pub record Turn : Type 0 where
  pub registers : Registers
  pub store : List ℕ
  pub status : Status
  pub left : Left

abbrev pub turn : Registers → List ℕ → Status → Left → Turn
turn r m s l = record { registers = r; store = m; status = s; left = l }

-- at an address; at the next one
abbrev pub to : ℕ → Status → Registers → List ℕ → Turn
to a s r m = turn (in_core (with_address a) r) m s Goes

abbrev pub on : Status → Registers → List ℕ → Turn
on s r m = to (next_address r.core.address) s r m

abbrev pub dropped : Registers → Registers
dropped r = in_core (with_wait dropped_wait) r

abbrev pub with_stack : Stack → Registers → Registers
with_stack k r = with_entries k.entries (in_core (with_depth k.depth) r)

-- ---- the commands that only a program has
abbrev pub called : ℤ → Registers → List ℕ → Turn
called z r m =
    pick (leb 8 r.core.depth) (on Unavailable r m)
    (to (address_of z) Done (with_stack (pushed r.entries r.core.depth (next_address r.core.address)) r) m)

abbrev pub returned : Registers → List ℕ → Turn
returned r m =
    pick (eqb r.core.depth 0) (on Unavailable r m)
    (to (popped r.entries r.core.depth).back Done (with_stack (popped r.entries r.core.depth).stack r) m)

abbrev pub after_wait : Waited → Registers → List ℕ → Turn
after_wait Refused r m = on Value (dropped r) m
after_wait Passed r m = on Done (dropped r) m
after_wait TimedOut r m = on Done (dropped (in_core (with_eto 1) r)) m
after_wait (Holding w) r m = turn (in_core (with_wait w) r) m Done Holds

abbrev pub halted : Registers → List ℕ → Turn
halted r m = turn (in_core (with_address 0) (empty_stack r)) m Done Stops

unfoldable pub flowed : Command → Registers → List ℕ → Turn
flowed c r m =
    pick (eqb c.number 21)
    (to (pick (jumps c.kind r.core.accumulator.v r.core.last r.core.flags) (address_of c.value.v) (next_address r.core.address)) Done r m)
    (pick (eqb c.number 22) (to (address_of c.value.v) Done r m)
    (pick (eqb c.number 23) (called c.value.v r m)
    (pick (eqb c.number 24) (returned r m)
    (pick (eqb c.number 27) (after_wait (waited c.kind c.value r.core.accumulator r.values r.core.wait) r m)
    -- 28
    (halted r m)))))

-- ---- the others: what is read is loaded, what is decided is done
abbrev pub with_work : Work → Registers → Registers
with_work w r =
    record {
      core = w.core;
      download = r.download;
      outputs = w.outputs;
      digital = r.digital;
      analog = r.analog;
      entries = r.entries;
      values = w.values;
    }

abbrev pub work : Work → Registers → Turn
work w r = on w.status (with_work w r) w.store

unfoldable pub through : Command → Registers → List ℕ → Turn
through c r m =
    pick (is_flow c.number) (flowed c r m)
    (pick (is_reading c.number)
    (on Done (in_core (with_accumulator (read c r.core r.values r.outputs r.digital r.analog)) r) m)
    (work (worked c r.core r.values r.outputs m) r))

-- refused by its bytes: a WAIT drops the wait
abbrev pub shut : Command → Status → Registers → List ℕ → Turn
shut c s r m = on s (pick (eqb c.number 27) (dropped r) r) m

-- ---- every command, by the one judge
unfoldable pub turned : Command → Registers → List ℕ → Turn
turned c r m =
    pick (is_unknown (judged c)) (turn r m (judged c) Stops)
    (pick (is_done (judged c)) (through c r m) (shut c (judged c) r m))
