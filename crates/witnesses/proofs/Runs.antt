-- The runs, computed. Assumes nothing.
use mathlib.Core.Path.{◌≡◌, refl}
use mathlib.Core.Bool.{false}
use mathlib.Core.List.{[], ◌∷◌}
use Rattle.words.specs.Bytes as words-bytes
use Rattle.wrapping.specs.Wrap as wrapping-wrap
use Rattle.rows.specs.Row as rows_row
use Rattle.sheet.specs.Line as sheet-line
use Rattle.sheet.specs.Rows as sheet-rows
use Rattle.sheet.specs.Sheet as sheet-sheet
use Rattle.checksum.specs.Checksum as checksum-checksum
use Rattle.wire.specs.Frame as wire-frame
use Rattle.store.specs.Store as store-store
use Rattle.serial.specs.Serial as serial-serial
use Rattle.stack.specs.Stack as stack-stack
use Rattle.ranges.specs.Range as ranges-range
use Rattle.values.specs.Examples as values-examples
use Rattle.values.specs.Values as values-values
use Rattle.settings.specs.Settings as settings-settings
use Rattle.calculating.specs.Calculate as calculating-calculate
use Rattle.resetting.specs.Resetting as resetting-resetting
use Rattle.replying.specs.Reply as replying-reply
use Rattle.flags.specs.Flags as flags-flags
use Rattle.jumping.specs.Jump as jumping-jump
use Rattle.sampling.specs.Sample as sampling-sample
use Rattle.waits.specs.Waits as waits-waits
use Rattle.registers.specs.Range as registers-range
use Rattle.waiting.specs.Waiting as waiting-waiting
use Rattle.rules.specs.Flow as flow-flow
use Rattle.fields.specs.Fields as fields-fields
use Rattle.rules.specs.Effects as effects-effects
use Rattle.rules.specs.Motion as motion-motion
use Rattle.rules.specs.Assigning as assigning-assigning
use Rattle.rules.specs.Numbers as numbers-numbers
use Rattle.judge.specs.Judge as judge-judge
use Rattle.rules.specs.Reading as reading-reading
use Rattle.rules.specs.Deciding as deciding-deciding
use Rattle.rules.specs.Step as stepping-step
use Rattle.rules.specs.RunLaws as running-laws
use Rattle.rules.specs.Run as running-run
use Rattle.rules.specs.Direct as directing-direct
use Rattle.rules.specs.Control as control-control
use Rattle.board.specs.Range as board-range
use Rattle.board.specs.Registers as board-registers
use Rattle.rules.specs.Steps as board-step
use Rattle.rules.specs.Events as events-events
use Rattle.rules.specs.RunEvent as runs-run
use Rattle.rules.specs.Storing as storing-storing
use Rattle.rules.specs.Controlling as controlling-controlling
use Rattle.rules.specs.Obey as commands-obey
use Rattle.rules.specs.Datagram as datagrams-datagram
use Rattle.safety.specs.Events as safety-events
use Rattle.safety.specs.Listed as safety-listed
use Rattle.safety.specs.Events.{World, Event, after, runs_from_another, Quiet, MakesStep}
use Rattle.safety.proofs.Records.{records-kept}
use Rattle.witnesses.specs.Programs.{working}
use Rattle.witnesses.specs.Runs.{damaged, not_ours, one_step, run_from_zero, run, sample, tick, power_up, on_board, Runs}

-- ---- events that no datagram is among write no record and name no address, whatever the board
quiet-run : (w : World) → Quiet w (run ∷ tick ∷ tick ∷ run ∷ tick ∷ run ∷ [])
unfolding after runs_from_another
quiet-run w =
    Quiet.also refl refl (Quiet.also refl refl (Quiet.also refl refl (Quiet.also refl refl (Quiet.also refl refl (Quiet.also refl refl Quiet.none)))))

quiet-rest : (w : World) → Quiet w (run ∷ sample 1 ∷ sample 2 ∷ tick ∷ power_up ∷ run ∷ [])
unfolding after runs_from_another
quiet-rest w =
    Quiet.also refl refl (Quiet.also refl refl (Quiet.also refl refl (Quiet.also refl refl (Quiet.also refl refl (Quiet.also refl refl Quiet.none)))))

-- ---- the boards between the datagrams of a row: none is in download mode, and no datagram names another address
abbrev once : World
once = on_board working

abbrev twice : World
twice = after once damaged

abbrev thrice : World
thrice = after twice not_ours

abbrev stepped : World
stepped = after thrice one_step

record Still (w : World) (e : Event) : Type 0 where
  no-download : w.registers.download.on ≡ false
  no_address : runs_from_another w e ≡ false

record Row : Type 0 where
  first : Still once damaged
  second : Still twice not_ours
  third : Still thrice one_step
  fourth : Still stepped run_from_zero

quiet : Row → Quiet once (damaged ∷ not_ours ∷ one_step ∷ run_from_zero ∷ run ∷ sample 1 ∷ sample 2 ∷ tick ∷ power_up ∷ run ∷ [])
quiet row =
    Quiet.also (records-kept once damaged row.first.no-download) row.first.no_address
    (Quiet.also (records-kept twice not_ours row.second.no-download) row.second.no_address
    (Quiet.also (records-kept thrice one_step row.third.no-download) row.third.no_address
    (Quiet.also (records-kept stepped run_from_zero row.fourth.no-download) row.fourth.no_address (quiet-rest (after stepped run_from_zero)))))

pub runs : Runs
unfolding words-bytes.word_of words-bytes.put_word wrapping-wrap.wrap rows_row.allowed rows_row.taken sheet-line.lines sheet-rows.parameters sheet-rows.rows sheet-sheet.rwe_rows sheet-sheet.rw_rows sheet-sheet.r_rows sheet-sheet.axis sheet-sheet.globals sheet-sheet.read_only checksum-checksum.right_frame wire-frame.put_seven wire-frame.frame store-store.written store-store.cell_at store-store.put_cell store-store.record_at store-store.put_record serial-serial.taken_of stack-stack.pushed stack-stack.popped ranges-range.entries_in_range ranges-range.bits_in_range ranges-range.each_up_to values-examples.default_cells values-values.values_in_range values-values.powered_at values-values.powered_values settings-settings.bank_place settings-settings.settable settings-settings.kept settings-settings.is_global settings-settings.guarded settings-settings.locked calculating-calculate.calculated resetting-resetting.reset_values resetting-resetting.reset_cells replying-reply.byte_of replying-reply.addresses replying-reply.replied flags-flags.raised jumping-jump.jumps jumping-jump.address_of sampling-sample.settings_in_range sampling-sample.settled sampling-sample.sample_in_range waits-waits.ticked registers-range.core_in_range waiting-waiting.is_on waiting-waiting.happened waiting-waiting.tested waiting-waiting.waited flow-flow.jumped flow-flow.called flow-flow.returned flow-flow.halted flow-flow.waited_step flow-flow.flowed fields-fields.writable fields-fields.storable fields-fields.sap fields-fields.has fields-fields.takes fields-fields.sgp effects-effects.set_output motion-motion.within_limit motion-motion.right_within motion-motion.left_within motion-motion.move_by motion-motion.move_to assigning-assigning.assign assigning-assigning.take assigning-assigning.keep numbers-numbers.into_accumulator numbers-numbers.calc numbers-numbers.calcx numbers-numbers.clear judge-judge.judged judge-judge.is_flow judge-judge.is_reading reading-reading.global reading-reading.digital_at reading-reading.analog_at reading-reading.output_at reading-reading.port reading-reading.read deciding-deciding.decided_by deciding-deciding.worked stepping-step.carried stepping-step.obeyed stepping-step.step running-laws.walked running-run.run directing-direct.changed directing-direct.directed control-control.judged control-control.begun control-control.controlled control-control.shown control-control.answer board-range.registers_in_range board-registers.unpowered board-registers.powered board-step.steps board-step.step_once events-events.powered_up events-events.sampled events-events.ticked runs-run.run storing-storing.stored controlling-controlling.placed controlling-controlling.defaults controlling-controlling.controlled controlling-controlling.obeyed_control commands-obey.direct commands-obey.obeyed datagrams-datagram.obeyed_by datagrams-datagram.received datagrams-datagram.datagram safety-events.after safety-events.begins_program safety-events.runs_from_another safety-listed.by_value safety-listed.by_lock
runs =
    let row : Row =
    record {
      first = record { no-download = refl; no_address = refl };
      second = record { no-download = refl; no_address = refl };
      third = record { no-download = refl; no_address = refl };
      fourth = record { no-download = refl; no_address = refl };
    } in
    record {
      power_up_begins = refl;
      run_begins = refl;
      reset_begins = refl;
      restart_begins = refl;
      damaged_not = refl;
      alone = MakesStep.alone refl;
      quiet = quiet row;
      working_quiet = quiet-run (after once run_from_zero);
      working_1 = refl;
      working_2 = refl;
      working_3 = refl;
      working_runs = refl;
      working_ends = refl;
      refusing_runs = refl;
      refusing_met = refl;
      untaken_runs = refl;
      untaken_met = refl;
      deepening_runs = refl;
      deepening_met = refl;
    }
