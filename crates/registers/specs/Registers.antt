-- The scalar registers, and what power-up makes of them: "Registers: accumulator, X, last
-- comparison, flags ETO EAL EDV EPO, program address 0 to 1,024, running or not, armed wait, download mode and write address,
-- motion order (stopped, velocity, position) .. A dropped wait and freed stack entries become 0; what no rule names stays."
use Rattle.std.specs.Prelude.{ℕ, ◌+◌, Bool, false, ltb, pos}
use Rattle.words.specs.Word.{pick, word}
use Rattle.words.specs.declared.Word.{Word}
use Rattle.std.specs.declared.cmp.Ordering.{Ordering}
use Rattle.std.specs.declared.cmp.Ordering.TheVariants.{Equal}
use Rattle.flags.specs.declared.Flags.{Flags}
use Rattle.waits.specs.Waits.{dropped_wait}
use Rattle.waits.specs.declared.Wait.{Wait}
use Rattle.registers.specs.declared.Motion.{Motion}
use Rattle.registers.specs.declared.Download.{Download}
use Rattle.registers.specs.declared.Core.{Core}
use Rattle.registers.specs.declared.Order.TheVariants.{Stopped}

-- ---- one part changed, and nothing else
abbrev pub with_wait : Wait → Core → Core
with_wait w c =
    record {
      accumulator = c.accumulator;
      x = c.x;
      last = c.last;
      flags = c.flags;
      address = c.address;
      running = c.running;
      wait = w;
      motion = c.motion;
      depth = c.depth;
    }

abbrev pub with_flags : Flags → Core → Core
with_flags f c =
    record {
      accumulator = c.accumulator;
      x = c.x;
      last = c.last;
      flags = f;
      address = c.address;
      running = c.running;
      wait = c.wait;
      motion = c.motion;
      depth = c.depth;
    }

abbrev pub with_numbers : Word → Word → Core → Core
with_numbers a x c =
    record {
      accumulator = a;
      x = x;
      last = c.last;
      flags = c.flags;
      address = c.address;
      running = c.running;
      wait = c.wait;
      motion = c.motion;
      depth = c.depth;
    }

abbrev pub with_last : Ordering → Core → Core
with_last l c =
    record {
      accumulator = c.accumulator;
      x = c.x;
      last = l;
      flags = c.flags;
      address = c.address;
      running = c.running;
      wait = c.wait;
      motion = c.motion;
      depth = c.depth;
    }

abbrev pub with_motion : Motion → Core → Core
with_motion m c =
    record {
      accumulator = c.accumulator;
      x = c.x;
      last = c.last;
      flags = c.flags;
      address = c.address;
      running = c.running;
      wait = c.wait;
      motion = m;
      depth = c.depth;
    }

abbrev pub with_depth : ℕ → Core → Core
with_depth d c =
    record {
      accumulator = c.accumulator;
      x = c.x;
      last = c.last;
      flags = c.flags;
      address = c.address;
      running = c.running;
      wait = c.wait;
      motion = c.motion;
      depth = d;
    }

abbrev pub with_running : Bool → Core → Core
with_running b c =
    record {
      accumulator = c.accumulator;
      x = c.x;
      last = c.last;
      flags = c.flags;
      address = c.address;
      running = b;
      wait = c.wait;
      motion = c.motion;
      depth = c.depth;
    }

-- at another address, with no wait: "any step that is not a WAIT" drops it
abbrev pub moved : ℕ → Core → Core
moved a c =
    record {
      accumulator = c.accumulator;
      x = c.x;
      last = c.last;
      flags = c.flags;
      address = a;
      running = c.running;
      wait = dropped_wait;
      motion = c.motion;
      depth = c.depth;
    }

-- "raises the address by one"; there is none above 1,024
abbrev pub next_address : ℕ → ℕ
next_address a = pick (ltb a 1024) (a + 1) a

abbrev pub next : Core → Core
next c = moved (next_address c.address) c

-- not running, with no wait
abbrev pub stopped : Core → Core
stopped c = with_running false (with_wait dropped_wait c)

-- ---- power-up
abbrev pub no_download : Download
no_download = record { on = false; address = 0 }

-- "registers are 0, last comparison "equal", the stack empty, order stopped. Running exactly if global 77 is 1"
abbrev pub powered_core : Bool → Core
powered_core running =
    record {
      accumulator = word (pos 0);
      x = word (pos 0);
      last = Equal;
      flags = record { eto = 0; eal = 0; edv = 0; epo = 0 };
      address = 0;
      running = running;
      wait = dropped_wait;
      motion = record { order = Stopped; velocity = word (pos 0) };
      depth = 0;
    }
