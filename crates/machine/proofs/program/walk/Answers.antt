-- `machine::program::walk`.
use Prim.Native.Nat.{ℕ}
use mathlib.Core.Path.{◌≡◌, ap, ◌∙◌}
use Rattle.words.specs.declared.Word.{Word}
use Rattle.status.specs.declared.Status.TheVariants.{Done}
use Rattle.board.specs.declared.Registers.{Registers}
use Rattle.reg_image.specs.Image.{registers_of}
use Rattle.cmd_turns.specs.declared.Left.TheVariants.{Goes}
use Rattle.cmd_turns.specs.Turn.{turn}
use Rattle.cmd_turns.specs.Deed.{seen}
use Rattle.machine.specs.Steps.{Walk, going}
use Rattle.machine.specs.Alone.{ended}
use Rattle.machine.proofs.program.walk.Goals as goal

as-it-is : (r : Registers) (w : Word) (n : ℕ) → w ≡ r.core.accumulator → n ≡ r.core.address → seen w n r ≡ r
as-it-is r w n p q = rw (p, q)

pub returns : goal.returns
returns c =
    let x = c.args in
    let p = x.program.now in
    let r1 = registers_of c.begin.new.image in
    let e =
    c.go-gone.ensures.makes
    ∙ ap (λ (q : Registers). going p 0 1024 x.budget (turn q x.store.now Done Goes))
    (as-it-is r1 c.get-from.result c.get-address.result c.get-from.ensures c.get-address.ensures ∙ c.begin.ensures.makes) in
    record {
      makes = c.finish.ensures.makes ∙ ap (λ (w : Walk). ended w.turn.left w.turn.registers) e;
      store = ap (λ (w : Walk). w.turn.store) e;
      status = ap (λ (w : Walk). w.turn.status) e;
      unused = ap (λ (w : Walk). w.unused) e;
      stays = λ t. c.finish.ensures.stays (c.go-gone.ensures.stays (c.begin.ensures.stays t));
    }
