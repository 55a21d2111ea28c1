-- The commands that only a program has, once the judge has let the record through.
use Rattle.std.specs.Prelude.{ℕ, Bool, true, List, eqb, leb, ℤ}
use Rattle.words.specs.Word.{pick}
use Rattle.words.specs.declared.Word.{Word}
use Rattle.wire.specs.declared.Command.{Command}
use Rattle.status.specs.declared.Status.{Status}
use Rattle.status.specs.declared.Status.TheVariants.{Done, Value, Unavailable}
use Rattle.registers.specs.Registers.{with_wait, with_flags, with_depth, moved, next, next_address}
use Rattle.registers.specs.declared.Core.{Core}
use Rattle.stack.specs.Stack.{pushed, popped}
use Rattle.rules.specs.Beginning.{reset}
use Rattle.jumping.specs.Jump.{jumps, address_of}
use Rattle.waiting.specs.Waiting.{waited, Waited, Refused, Passed, TimedOut, Holding}

-- what a step leaves of the scalars, and its status
pub record Flowed : Type 0 where
  pub core : Core
  pub status : Status

-- .. and of the stack
pub record Flow : Type 0 where
  pub core : Core
  pub entries : List ℕ
  pub status : Status

abbrev pub flow : Flowed → List ℕ → Flow
flow r e = record { core = r.core; entries = e; status = r.status }

abbrev pub at : Status → Core → Flowed
at s c = record { core = c; status = s }

-- "Other refused steps change only the address, by one, and drop a wait"
abbrev pub refused : Status → Core → Flowed
refused s c = at s (next c)

-- to the target, or to the next record
unfoldable pub jumped : Bool → ℤ → Core → Flowed
jumped taken z c = pick taken (at Done (moved (address_of z) c)) (at Done (next c))

-- "CSUB, after that test, with eight entries is 6"
unfoldable pub called : ℤ → Core → List ℕ → Flow
called z c e =
    pick (leb 8 c.depth) (flow (refused Unavailable c) e)
    (flow (at Done (with_depth (pushed e c.depth (next_address c.address)).depth (moved (address_of z) c)))
    (pushed e c.depth (next_address c.address)).entries)

-- "RSUB with none is 6"
unfoldable pub returned : Core → List ℕ → Flow
returned c e =
    pick (eqb c.depth 0) (flow (refused Unavailable c) e)
    (flow (at Done (with_depth (popped e c.depth).stack.depth (moved (popped e c.depth).back c)))
    (popped e c.depth).stack.entries)

-- "STOP stops, sets address 0 and empties the stack"
unfoldable pub halted : Core → Flow
halted c = flow (at Done (reset c).core) (reset c).entries

-- "then setting ETO"
abbrev pub timed_out : Core → Core
timed_out c = with_flags (record { eto = 1; eal = c.flags.eal; edv = c.flags.edv; epo = c.flags.epo }) c

-- "Passing drops the wait and raises the address by one"; "A holding WAIT has status 100"
abbrev pub after_wait : Waited → Core → Flowed
after_wait Refused c = refused Value c
after_wait Passed c = at Done (next c)
after_wait TimedOut c = at Done (next (timed_out c))
after_wait (Holding w) c = at Done (with_wait w c)

unfoldable pub waited_step : ℕ → Word → Core → List ℤ → Flowed
waited_step kind value c values = after_wait (waited kind value c.accumulator values c.wait) c

-- 21 JC, 22 JA, 23 CSUB, 24 RSUB, 27 WAIT, 28 STOP
unfoldable pub flowed : Command → Core → List ℕ → List ℤ → Flow
flowed r c e values =
    pick (eqb r.number 21) (flow (jumped (jumps r.kind c.accumulator.v c.last c.flags) r.value.v c) e)
    (pick (eqb r.number 22) (flow (jumped true r.value.v c) e)
    (pick (eqb r.number 23) (called r.value.v c e)
    (pick (eqb r.number 24) (returned c e)
    (pick (eqb r.number 27) (flow (waited_step r.kind r.value c values) e)
    -- 28
    (halted c)))))
