-- The events on concrete registers, computed.
use Rattle.std.specs.Prelude.{ℕ, ◌≡◌, Bool, true, false, List, [], ◌∷◌, ℤ, pos, negsuc, take, replicate, set}
use Rattle.words.specs.Word.{word}
use Rattle.sheet.specs.Rows.{rows}
use Rattle.sheet.specs.Places.{axis_place, global_place}
use Rattle.store.specs.Store.{put_cell}
use Rattle.values.specs.Values.{value_at}
use Rattle.values.specs.Examples.{defaults_of, default_cells, bad_cells}
use Rattle.registers.specs.Registers.{powered_core, no_download}
use Rattle.waits.specs.declared.Wait.{Wait}
use Rattle.flags.specs.declared.Flags.{Flags}
use Rattle.sampling.specs.declared.Sample.{Sample}
use Rattle.board.specs.Registers.{unpowered, powered}
use Rattle.rules.specs.Events.{outcome, powered_up, sampled, ticked}
use Rattle.board.specs.declared.Registers.{Registers}

-- ---- registers: power-up's on the default cells, with some parts changed
unfoldable pub begun : Registers
begun =
    record {
      core = powered_core false;
      download = no_download;
      outputs = replicate 4 0;
      digital = replicate 2 0;
      analog = replicate 3 (pos 0);
      entries = replicate 8 0;
      values = defaults_of rows;
    }

-- a wait, a depth, flags, outputs, the last return address and the write address handed in
abbrev pub handed_in : Wait → ℕ → Flags → List ℕ → ℕ → ℕ → Registers
handed_in w d f o e a =
    record {
      core =
          record {
            accumulator = begun.core.accumulator;
            x = begun.core.x;
            last = begun.core.last;
            flags = f;
            address = begun.core.address;
            running = true;
            wait = w;
            motion = begun.core.motion;
            depth = d;
          };
      download = record { on = false; address = a };
      outputs = o;
      digital = begun.digital;
      analog = begun.analog;
      entries = set begun.entries 7 e;
      values = begun.values;
    }

-- a program address, digital and analog inputs and values handed in
abbrev pub strange : ℕ → List ℕ → List ℤ → List ℤ → Registers
strange a d i v =
    record {
      core =
          record {
            accumulator = begun.core.accumulator;
            x = begun.core.x;
            last = begun.core.last;
            flags = begun.core.flags;
            address = a;
            running = true;
            wait = begun.core.wait;
            motion = begun.core.motion;
            depth = 0;
          };
      download = begun.download;
      outputs = begun.outputs;
      digital = d;
      analog = i;
      entries = begun.entries;
      values = v;
    }

abbrev pub wait : Bool → ℕ → Wait
wait armed n = record { armed = armed; count = n; timed = armed }

abbrev pub flags : ℕ → ℕ → ℕ → ℕ → Flags
flags eto eal edv epo = record { eto = eto; eal = eal; edv = edv; epo = epo }

-- waiting, at rest otherwise
abbrev pub waiting : Bool → ℕ → Registers
waiting armed n = handed_in (wait armed n) 0 (flags 0 0 0 0) (replicate 4 0) 0 0

-- ---- samples: reached, supply voltage, the second digital and the last analog input, EAL and EDV
abbrev pub sample : ℤ → ℤ → ℤ → ℤ → ℤ → ℤ → Sample
sample reached supply digital analog eal edv =
    record {
      readings =
          record {
            ramp_position = negsuc 2147483647;
            actual_position = pos 2147483647;
            reached = reached;
            right = pos 0;
            left = pos 1;
            home = pos 0;
            supply_voltage = supply;
            temperature = negsuc 19;
          };
      inputs =
          record {
            digital_0 = word (pos 1);
            digital_1 = word digital;
            analog_0 = pos 0;
            analog_1 = pos 7;
            analog_2 = analog;
          };
      signals = record { eal = word eal; edv = word edv; epo = word (pos 0) };
    }

abbrev pub calm : Sample
calm = sample (pos 1) (pos 240) (pos 0) (pos 65535) (pos 0) (pos 0)

abbrev pub alarmed : Sample
alarmed = sample (pos 1) (pos 240) (pos 0) (pos 65535) (pos 1) (pos 0)

-- an axis parameter
abbrev pub axis_of : Registers → ℕ → ℤ
axis_of r n = (value_at r.values (axis_place n)).v

pub record Examples : Type 0 where
  -- ---- power-up: the default cells give the defaults, and so do cells that are all out of range
  pub default-cells : powered default_cells ≡ begun
  pub bad-cells : powered bad_cells ≡ begun
  -- 77 of 1 runs the program; 2 is out of range, and its default does not
  pub autostart : (powered (put_cell default_cells 34 (pos 1))).core.running ≡ true
  pub no_autostart : (powered (put_cell default_cells 34 (pos 2))).core.running ≡ false
  -- a store of another length is refused
  pub short_store : powered_up (take 363 default_cells) (waiting true 5) ≡ outcome 20 (waiting true 5)
  pub long_store : powered_up (0 ∷ default_cells) (waiting true 5) ≡ outcome 20 (waiting true 5)
  -- and registers out of range are not, at power-up
  pub any_registers : powered_up default_cells (handed_in (wait false 0) 9 (flags 2 2 2 2) (replicate 4 2) 1025 1025) ≡ outcome 100 begun
  -- ---- a sample sets its eight parameters, the inputs and the flags of its alarms
  pub sample_51 : axis_of (sampled calm begun).registers 51 ≡ negsuc 2147483647
  pub sample_52 : axis_of (sampled calm begun).registers 52 ≡ pos 2147483647
  pub sample_55 : axis_of (sampled calm begun).registers 55 ≡ pos 1
  pub sample_211 : axis_of (sampled calm begun).registers 211 ≡ pos 0
  pub sample_212 : axis_of (sampled calm begun).registers 212 ≡ pos 1
  pub sample_213 : axis_of (sampled calm begun).registers 213 ≡ pos 0
  pub sample_220 : axis_of (sampled calm begun).registers 220 ≡ pos 240
  pub sample_221 : axis_of (sampled calm begun).registers 221 ≡ negsuc 19
  pub sample_50 : axis_of (sampled calm begun).registers 50 ≡ pos 0
  pub sample_digital : (sampled calm begun).registers.digital ≡ 1 ∷ 0 ∷ []
  pub sample_analog : (sampled calm begun).registers.analog ≡ pos 0 ∷ pos 7 ∷ pos 65535 ∷ []
  pub alarm_on : (sampled alarmed begun).registers.core.flags ≡ flags 0 1 0 0
  pub alarm_off : (sampled calm (sampled alarmed begun).registers).registers.core.flags ≡ flags 0 1 0 0
  -- ---- a field out of range is refused
  pub reached_2 : sampled (sample (pos 2) (pos 240) (pos 0) (pos 0) (pos 0) (pos 0)) begun ≡ outcome 21 begun
  pub supply_1001 : sampled (sample (pos 0) (pos 1001) (pos 0) (pos 0) (pos 0) (pos 0)) begun ≡ outcome 21 begun
  pub digital_2 : sampled (sample (pos 0) (pos 240) (pos 2) (pos 0) (pos 0) (pos 0)) begun ≡ outcome 21 begun
  pub analog_65536 : sampled (sample (pos 0) (pos 240) (pos 0) (pos 65536) (pos 0) (pos 0)) begun ≡ outcome 21 begun
  pub alarm_2 : sampled (sample (pos 0) (pos 240) (pos 0) (pos 0) (pos 0) (pos 2)) begun ≡ outcome 21 begun
  -- ---- a tick
  pub tick_5 : ticked (waiting true 5) ≡ outcome 100 (waiting true 4)
  pub tick_0 : ticked (waiting true 0) ≡ outcome 100 (waiting true 0)
  pub tick_unarmed : ticked (waiting false 5) ≡ outcome 100 (waiting false 5)
  -- ---- registers out of range are refused, before a sample's field; 1024 is in range, for an entry that is not in use too
  pub entry_1024 : (ticked (handed_in (wait false 0) 8 (flags 1 1 1 1) (replicate 4 1) 1024 1024)).status ≡ 100
  pub entry_1025 : (ticked (handed_in (wait false 0) 0 (flags 0 0 0 0) (replicate 4 0) 1025 0)).status ≡ 23
  pub write_1025 : (ticked (handed_in (wait false 0) 0 (flags 0 0 0 0) (replicate 4 0) 0 1025)).status ≡ 23
  pub depth_9 : (ticked (handed_in (wait false 0) 9 (flags 0 0 0 0) (replicate 4 0) 0 0)).status ≡ 23
  pub flag_2 : (ticked (handed_in (wait false 0) 0 (flags 0 0 2 0) (replicate 4 0) 0 0)).status ≡ 23
  pub output_2 : (ticked (handed_in (wait false 0) 0 (flags 0 0 0 0) (0 ∷ 0 ∷ 0 ∷ 2 ∷ []) 0 0)).status ≡ 23
  pub first_23 : (sampled (sample (pos 2) (pos 0) (pos 2) (pos 0) (pos 2) (pos 2)) (handed_in (wait false 0) 9 (flags 0 0 0 0) (replicate 4 0) 0 0)).status ≡ 23
  pub address_1024 : (ticked (strange 1024 (1 ∷ 1 ∷ []) (replicate 3 (pos 65535)) begun.values)).status ≡ 100
  pub address_1025 : (ticked (strange 1025 (0 ∷ 0 ∷ []) (replicate 3 (pos 0)) begun.values)).status ≡ 23
  pub input_2 : (ticked (strange 0 (0 ∷ 2 ∷ []) (replicate 3 (pos 0)) begun.values)).status ≡ 23
  pub input_65536 : (ticked (strange 0 (0 ∷ 0 ∷ []) (pos 0 ∷ pos 0 ∷ pos 65536 ∷ []) begun.values)).status ≡ 23
  pub input_below_0 : (ticked (strange 0 (0 ∷ 0 ∷ []) (negsuc 0 ∷ pos 0 ∷ pos 0 ∷ []) begun.values)).status ≡ 23
  pub parameter_102 : (ticked (strange 0 (0 ∷ 0 ∷ []) (replicate 3 (pos 0)) (set begun.values (axis_place 102) (pos 1)))).status ≡ 23
  pub global_66 : (ticked (strange 0 (0 ∷ 0 ∷ []) (replicate 3 (pos 0)) (set begun.values (global_place 66) (pos 0)))).status ≡ 23
  -- ---- a user variable and a count are never out of range
  pub user_any : (ticked (strange 0 (0 ∷ 0 ∷ []) (replicate 3 (pos 0)) (set begun.values 102 (negsuc 2147483647)))).status ≡ 100
  pub count_any : (ticked (waiting true 4294967295)).status ≡ 100
  -- ---- before the first power-up only power-up is taken
  pub unpowered_tick : (ticked unpowered).status ≡ 23
  pub unpowered_power_up : powered_up default_cells unpowered ≡ outcome 100 begun
