-- "Known only while running: 4 from ROR, ROL, MVP REL, AAP, AGP, CALCX DIV or MOD, WAIT TICKS -1; 5 from the lock."
use Rattle.std.specs.Prelude.{◌≡◌, Bool, true, ◌&&◌, ◌||◌, eqb, negsuc}
use Rattle.order.specs.Order.{same_w}
use Rattle.wire.specs.declared.Command.{Command}
use Rattle.status.specs.declared.Status.{Status}
use Rattle.status.specs.declared.Status.TheVariants.{Done, Value, Locked}

-- 1 ROR, 2 ROL, 4 MVP type 1, 34 AAP, 35 AGP, 33 CALCX types 3 and 4, 27 WAIT type 0 with -1, which is negsuc 0
unfoldable pub by_value : Command → Bool
by_value r =
    eqb r.number 1
    || eqb r.number 2
    || (eqb r.number 4 && eqb r.kind 1)
    || eqb r.number 34
    || eqb r.number 35
    || (eqb r.number 33 && (eqb r.kind 3 || eqb r.kind 4))
    || (eqb r.number 27 && (eqb r.kind 0 && same_w r.value.v (negsuc 0)))

-- "While locked, 5 goes to STAP, STGP, setting 66, 76 or 77": 7, 11, and 9 SGP and 35 AGP of these in bank 0
unfoldable pub by_lock : Command → Bool
by_lock r =
    eqb r.number 7
    || eqb r.number 11
    || ((eqb r.number 9 || eqb r.number 35) && (eqb r.motor 0 && (eqb r.kind 66 || eqb r.kind 76 || eqb r.kind 77)))

-- what a step of a passed program may answer
pub data Listed (r : Command) : Status → Type 0 where
  carried-out : Listed r Done
  by-value : by_value r ≡ true → Listed r Value
  by-lock : by_lock r ≡ true → Listed r Locked
