-- The events of the C door, computed. Assumes nothing.
use mathlib.Core.Path.{◌≡◌, refl, sym, ◌∙◌}
use mathlib.Core.Bool.{true, false, true≢false, ◌&&◌}
use lib.Dec.{eqb}
use lib.ListN.{length, replicate}
use Rattle.words.specs.Bytes as words-bytes
use Rattle.wrapping.specs.Wrap as wrapping-wrap
use Rattle.rows.specs.Row as rows_row
use Rattle.sheet.specs.Line as sheet-line
use Rattle.sheet.specs.Rows as sheet-rows
use Rattle.sheet.specs.Sheet as sheet-sheet
use Rattle.checksum.specs.Checksum as checksum-checksum
use Rattle.wire.specs.Frame as wire-frame
use Rattle.store.specs.Store as store-store
use Rattle.serial.specs.Serial as serial-serial
use Rattle.stack.specs.Stack as stack-stack
use Rattle.ranges.specs.Range as ranges-range
use Rattle.values.specs.Examples as values-examples
use Rattle.values.specs.Values as values-values
use Rattle.settings.specs.Settings as settings-settings
use Rattle.calculating.specs.Calculate as calculating-calculate
use Rattle.resetting.specs.Resetting as resetting-resetting
use Rattle.replying.specs.Reply as replying-reply
use Rattle.flags.specs.Flags as flags-flags
use Rattle.jumping.specs.Jump as jumping-jump
use Rattle.sampling.specs.Sample as sampling-sample
use Rattle.waits.specs.Waits as waits-waits
use Rattle.registers.specs.Range as registers-range
use Rattle.waiting.specs.Waiting as waiting-waiting
use Rattle.rules.specs.Flow as flow-flow
use Rattle.fields.specs.Fields as fields-fields
use Rattle.rules.specs.Effects as effects-effects
use Rattle.rules.specs.Motion as motion-motion
use Rattle.rules.specs.Assigning as assigning-assigning
use Rattle.rules.specs.Numbers as numbers-numbers
use Rattle.judge.specs.Judge as judge-judge
use Rattle.rules.specs.Reading as reading-reading
use Rattle.rules.specs.Deciding as deciding-deciding
use Rattle.rules.specs.Step as stepping-step
use Rattle.rules.specs.RunLaws as running-laws
use Rattle.rules.specs.Run as running-run
use Rattle.rules.specs.Direct as directing-direct
use Rattle.rules.specs.Control as control-control
use Rattle.board.specs.Range as board-range
use Rattle.board.specs.Registers as board-registers
use Rattle.rules.specs.Steps as board-step
use Rattle.rules.specs.Events as events-events
use Rattle.rules.specs.RunEvent as runs-run
use Rattle.rules.specs.Storing as storing-storing
use Rattle.rules.specs.Controlling as controlling-controlling
use Rattle.rules.specs.Obey as commands-obey
use Rattle.rules.specs.Datagram as datagrams-datagram
use Rattle.safety.specs.Events as safety-events
use Rattle.safety.specs.Listed as safety-listed
use Rattle.reg_image.specs.Image as image
use Rattle.reg_image.specs.Image.{registers_of}
use Rattle.reg_range.specs.Range as range
use Rattle.reg_range.specs.Range.{stands}
use Rattle.board_events.specs.Events as board-events
use Rattle.board_datagrams.specs.Datagram as board-datagrams
use Rattle.board_datagrams.specs.Datagram.{Answers}
use Rattle.rules.specs.Datagram.{After, lent}
use Rattle.law_rows.specs.Rows.{PowersUp, Ticks}
use Rattle.law_safety.specs.Events as door
use Rattle.law_safety.specs.Laws.{Begun}
use Rattle.checking.specs.Check.{Passed}
use Rattle.checking.specs.Check as checking
use Rattle.numbered.specs.Check as numbered
use Rattle.values.specs.Examples.{default_cells}
use Rattle.witnesses.specs.Programs.{working}
use Rattle.witnesses.specs.Rows.{Rows, zeros, powered, called, one_step, stepped}
use Rattle.witnesses.proofs.Checks as checks

-- what 130 leaves
abbrev left : After
left = board-datagrams.answered one_step powered working default_cells (replicate 9 0)

record Computed : Type 0 where
  not_in_range : stands zeros ≡ false
  size : length powered ≡ 137
  in-range : lent working default_cells (replicate 9 0) && stands powered ≡ true
  up : PowersUp default_cells zeros powered 100
  ticked : Ticks powered powered 100
  status : 100 ≡ left.status
  makes : registers_of called ≡ left.board.registers
  program : working ≡ left.board.program
  cells : default_cells ≡ left.board.store
  reply : stepped ≡ left.board.reply
  shaped : image.shaped called ≡ true
  carries : door.obeys (λ c. eqb c.number 130) one_step powered 100 ≡ true

computed : Computed
unfolding words-bytes.word_of words-bytes.put_word wrapping-wrap.wrap rows_row.allowed rows_row.taken sheet-line.lines sheet-rows.parameters sheet-rows.rows sheet-sheet.rwe_rows sheet-sheet.rw_rows sheet-sheet.r_rows sheet-sheet.axis sheet-sheet.globals sheet-sheet.read_only checksum-checksum.right_frame wire-frame.put_seven wire-frame.frame store-store.written store-store.cell_at store-store.put_cell store-store.record_at store-store.put_record serial-serial.taken_of stack-stack.pushed stack-stack.popped ranges-range.entries_in_range ranges-range.bits_in_range ranges-range.each_up_to values-examples.default_cells values-values.values_in_range values-values.powered_at values-values.powered_values settings-settings.bank_place settings-settings.settable settings-settings.kept settings-settings.is_global settings-settings.guarded settings-settings.locked calculating-calculate.calculated resetting-resetting.reset_values resetting-resetting.reset_cells replying-reply.byte_of replying-reply.addresses replying-reply.replied flags-flags.raised jumping-jump.jumps jumping-jump.address_of sampling-sample.settings_in_range sampling-sample.settled sampling-sample.sample_in_range waits-waits.ticked registers-range.core_in_range waiting-waiting.is_on waiting-waiting.happened waiting-waiting.tested waiting-waiting.waited flow-flow.jumped flow-flow.called flow-flow.returned flow-flow.halted flow-flow.waited_step flow-flow.flowed fields-fields.writable fields-fields.storable fields-fields.sap fields-fields.has fields-fields.takes fields-fields.sgp effects-effects.set_output motion-motion.within_limit motion-motion.right_within motion-motion.left_within motion-motion.move_by motion-motion.move_to assigning-assigning.assign assigning-assigning.take assigning-assigning.keep numbers-numbers.into_accumulator numbers-numbers.calc numbers-numbers.calcx numbers-numbers.clear judge-judge.judged judge-judge.is_flow judge-judge.is_reading reading-reading.global reading-reading.digital_at reading-reading.analog_at reading-reading.output_at reading-reading.port reading-reading.read deciding-deciding.decided_by deciding-deciding.worked stepping-step.carried stepping-step.obeyed stepping-step.step running-laws.walked running-run.run directing-direct.changed directing-direct.directed control-control.judged control-control.begun control-control.controlled control-control.shown control-control.answer board-range.registers_in_range board-registers.unpowered board-registers.powered board-step.steps board-step.step_once events-events.powered_up events-events.sampled events-events.ticked runs-run.run storing-storing.stored controlling-controlling.placed controlling-controlling.defaults controlling-controlling.controlled controlling-controlling.obeyed_control commands-obey.direct commands-obey.obeyed datagrams-datagram.obeyed_by datagrams-datagram.received datagrams-datagram.datagram safety-events.after safety-events.begins_program safety-events.runs_from_another safety-listed.by_value safety-listed.by_lock image.registers_of image.part image.words image.shaped range.stands board-events.tick_status board-events.power_status board-datagrams.answered
computed =
    record {
      not_in_range = refl;
      size = refl;
      in-range = refl;
      up = record { answers = refl; leaves = record { of = refl; shape = refl } };
      ticked = record { answers = refl; leaves = record { of = refl; shape = refl } };
      status = refl;
      makes = refl;
      program = refl;
      cells = refl;
      reply = refl;
      shaped = refl;
      carries = refl;
    }

begun : Begun working powered working
unfolding door.begins door.runs_from_another
begun =
    record {
      verdict = numbered.numbers_of (checking.answer_of Passed);
      checked = record { verdict = Passed; right = (checks.checks).working_passed.0; numbers = refl };
      passed = refl;
      event = door.power-up default_cells;
      image = zeros;
      size = refl;
      answered = 100;
      left = powered;
      records = working;
      happened = door.powers_up computed.up;
      began = refl;
      quiet = door.also computed.size (door.ticks computed.ticked) refl refl door.none;
    }

answers : Answers one_step powered working default_cells (replicate 9 0) 100 called working default_cells stepped
answers =
    record {
      status = computed.status;
      makes = computed.makes;
      program = computed.program;
      cells = computed.cells;
      reply = computed.reply;
      stays = λ _. computed.shaped;
      kept = λ e. absurd (true≢false (sym computed.in-range ∙ e));
    }

pub rows : Rows
rows =
    record { not_in_range = computed.not_in_range; begun = begun; answers = answers; steps = door.alone answers computed.carries }
