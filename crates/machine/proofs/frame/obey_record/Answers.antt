-- `machine::frame::obey_record`.
use mathlib.Core.Path.{sym, ap, ◌∙◌}
use borrow.Author.Tests.{not-true, not-false}
use Rattle.wire.specs.declared.Command.{Command}
use Rattle.rules.specs.Outcome.{Changed}
use Rattle.reg_image.specs.Image.{registers_of}
use Rattle.machine.specs.Direct.{answer}
use Rattle.machine.proofs.Blind.{when-refused, when-read, when-worked}
use Rattle.machine.proofs.Framed.{behind, one-record}
use Rattle.machine.proofs.frame.obey_record.Goals as goal

pub returns-then-not-is_done : goal.returns-then-not-is_done
returns-then-not-is_done c =
    let x = c.args in
    let e = one-record x.frame.now (registers_of x.image.now) x.store.now c.get-from.result x.c c.get-from.ensures c.requires.1 c.go-gone.ensures.makes in
    let w = when-refused x.image.now _ c.go-gone.ensures.kept x.store.now _ x.c c.requires.2 c.requires.3 c.go-gone.result.accumulator c.go-gone.result.address c.go-gone.result.status c.go-gone.result.left e
    (sym c.is_done.ensures ∙ not-true c.is_done.result c.if-not-is_done.true-raw) in
    record {
      status = ap (λ (y : Changed). y.obeyed.status) (sym w.1);
      value = ap (λ (y : Changed). y.obeyed.value) (sym w.1);
      makes = w.0.0 ∙ ap (λ (y : Changed). y.obeyed.registers) (sym w.1);
      store = w.0.1 ∙ ap (λ (y : Changed). y.store) (sym w.1);
      stays = c.go-gone.ensures.stays;
    }

pub returns-then-is_reading : goal.returns-then-is_reading
returns-then-is_reading c =
    let x = c.args in
    let e = one-record x.frame.now (registers_of x.image.now) x.store.now c.get-from.result x.c c.get-from.ensures c.requires.1 c.go-gone.ensures.makes in
    let w = when-read x.image.now _ c.go-gone.ensures.kept x.store.now _ x.c c.requires.2 c.requires.3 c.go-gone.result.accumulator c.go-gone.result.address c.go-gone.result.status c.go-gone.result.left e
    (sym c.is_done.ensures ∙ not-false c.is_done.result c.if-not-is_done.false-raw) (sym c.is_reading.ensures ∙ c.if-is_reading.true) in
    record {
      status = ap (λ (y : Changed). y.obeyed.status) (sym w.1);
      value = ap (λ (y : Changed). y.obeyed.value) (sym w.1);
      makes = w.0.0 ∙ ap (λ (y : Changed). y.obeyed.registers) (sym w.1);
      store = ap (λ (y : Changed). y.store) (sym w.1);
      stays = c.go-gone.ensures.stays;
    }

pub returns : goal.returns
returns c =
    let x = c.args in
    let e = one-record x.frame.now (registers_of x.image.now) x.store.now c.get-from.result x.c c.get-from.ensures c.requires.1 c.go-gone.ensures.makes in
    let w = when-worked x.image.now _ c.go-gone.ensures.kept x.store.now _ x.c c.requires.2 c.requires.3 c.go-gone.result.accumulator c.go-gone.result.address c.go-gone.result.status c.go-gone.result.left e
    (sym c.is_done.ensures ∙ not-false c.is_done.result c.if-not-is_done.false-raw) (sym c.is_reading.ensures ∙ c.if-is_reading.false) in
    record {
      status = ap (λ (y : Changed). y.obeyed.status) (sym w);
      value =
          c.answer.ensures
          ∙ ap (λ (y : Command). answer y c.go-gone.result.accumulator) (behind x.frame.now _ c.command_in.ensures ∙ sym c.requires.1)
          ∙ ap (λ (y : Changed). y.obeyed.value) (sym w);
      makes = c.set.ensures.makes ∙ ap (λ (y : Changed). y.obeyed.registers) (sym w);
      store = ap (λ (y : Changed). y.store) (sym w);
      stays = λ t. c.set.ensures.stays (c.go-gone.ensures.stays t);
    }
