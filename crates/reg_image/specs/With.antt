-- Registers with one part changed, and nothing else.
use Rattle.std.specs.Prelude.{ℕ, List, ℤ, Bool}
use Rattle.words.specs.declared.Word.{Word}
use Rattle.registers.specs.declared.Order.{Order}
use Rattle.registers.specs.Registers.{with_flags, with_wait, with_motion}
use Rattle.registers.specs.declared.Core.{Core}
use Rattle.registers.specs.declared.Download.{Download}
use Rattle.board.specs.declared.Registers.{Registers}

abbrev pub in_core : (Core → Core) → Registers → Registers
in_core f r =
    record {
      core = f r.core;
      download = r.download;
      outputs = r.outputs;
      digital = r.digital;
      analog = r.analog;
      entries = r.entries;
      values = r.values;
    }

abbrev pub with_download : Download → Registers → Registers
with_download d r =
    record {
      core = r.core;
      download = d;
      outputs = r.outputs;
      digital = r.digital;
      analog = r.analog;
      entries = r.entries;
      values = r.values;
    }

abbrev pub with_outputs : List ℕ → Registers → Registers
with_outputs o r =
    record {
      core = r.core;
      download = r.download;
      outputs = o;
      digital = r.digital;
      analog = r.analog;
      entries = r.entries;
      values = r.values;
    }

abbrev pub with_digital : List ℕ → Registers → Registers
with_digital d r =
    record {
      core = r.core;
      download = r.download;
      outputs = r.outputs;
      digital = d;
      analog = r.analog;
      entries = r.entries;
      values = r.values;
    }

abbrev pub with_analog : List ℤ → Registers → Registers
with_analog a r =
    record {
      core = r.core;
      download = r.download;
      outputs = r.outputs;
      digital = r.digital;
      analog = a;
      entries = r.entries;
      values = r.values;
    }

abbrev pub with_entries : List ℕ → Registers → Registers
with_entries e r =
    record {
      core = r.core;
      download = r.download;
      outputs = r.outputs;
      digital = r.digital;
      analog = r.analog;
      entries = e;
      values = r.values;
    }

abbrev pub with_values : List ℤ → Registers → Registers
with_values v r =
    record {
      core = r.core;
      download = r.download;
      outputs = r.outputs;
      digital = r.digital;
      analog = r.analog;
      entries = r.entries;
      values = v;
    }

-- ---- of the scalars
abbrev pub with_accumulator : Word → Core → Core
with_accumulator w c =
    record {
      accumulator = w;
      x = c.x;
      last = c.last;
      flags = c.flags;
      address = c.address;
      running = c.running;
      wait = c.wait;
      motion = c.motion;
      depth = c.depth;
    }

abbrev pub with_x : Word → Core → Core
with_x w c =
    record {
      accumulator = c.accumulator;
      x = w;
      last = c.last;
      flags = c.flags;
      address = c.address;
      running = c.running;
      wait = c.wait;
      motion = c.motion;
      depth = c.depth;
    }

-- at another address, a wait kept
abbrev pub with_address : ℕ → Core → Core
with_address a c =
    record {
      accumulator = c.accumulator;
      x = c.x;
      last = c.last;
      flags = c.flags;
      address = a;
      running = c.running;
      wait = c.wait;
      motion = c.motion;
      depth = c.depth;
    }

abbrev pub with_eto : ℕ → Core → Core
with_eto n c = with_flags (record { eto = n; eal = c.flags.eal; edv = c.flags.edv; epo = c.flags.epo }) c

abbrev pub with_eal : ℕ → Core → Core
with_eal n c = with_flags (record { eto = c.flags.eto; eal = n; edv = c.flags.edv; epo = c.flags.epo }) c

abbrev pub with_edv : ℕ → Core → Core
with_edv n c = with_flags (record { eto = c.flags.eto; eal = c.flags.eal; edv = n; epo = c.flags.epo }) c

abbrev pub with_epo : ℕ → Core → Core
with_epo n c = with_flags (record { eto = c.flags.eto; eal = c.flags.eal; edv = c.flags.edv; epo = n }) c

abbrev pub with_armed : Bool → Core → Core
with_armed b c = with_wait (record { armed = b; count = c.wait.count; timed = c.wait.timed }) c

abbrev pub with_count : ℕ → Core → Core
with_count n c = with_wait (record { armed = c.wait.armed; count = n; timed = c.wait.timed }) c

abbrev pub with_timed : Bool → Core → Core
with_timed b c = with_wait (record { armed = c.wait.armed; count = c.wait.count; timed = b }) c

abbrev pub with_order : Order → Core → Core
with_order o c = with_motion (record { order = o; velocity = c.motion.velocity }) c

abbrev pub with_velocity : Word → Core → Core
with_velocity w c = with_motion (record { order = c.motion.order; velocity = w }) c

abbrev pub ordered : Order → Word → Core → Core
ordered o w c = with_motion (record { order = o; velocity = w }) c

abbrev pub downloading : Bool → Registers → Registers
downloading b r = with_download (record { on = b; address = r.download.address }) r

abbrev pub writing_at : ℕ → Registers → Registers
writing_at a r = with_download (record { on = r.download.on; address = a }) r
