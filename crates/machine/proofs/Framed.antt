-- A frame as a program of one record. Assumes nothing.
use Prim.Native.Nat.{ℕ}
use native.Mathlib.Omega.{arith}
use mathlib.Core.Path.{◌≡◌, sym, ap, ◌∙◌}
use mathlib.Core.List.{List}
use lib.ListN.{take, drop}
use Rattle.words.specs.declared.Word.{Word}
use Rattle.wire.specs.Frame.{command_at}
use Rattle.wire.specs.declared.Command.{Command}
use Rattle.wire.proofs.Parts.{command-part}
use Rattle.status.specs.declared.Status.TheVariants.{Done}
use Rattle.board.specs.declared.Registers.{Registers}
use Rattle.cmd_turns.specs.declared.Left.TheVariants.{Goes}
use Rattle.cmd_turns.specs.Turn.{turn, turned}
use Rattle.cmd_turns.specs.Deed.{seen}
use Rattle.machine.specs.Steps.{Walk, going}
use Rattle.machine.proofs.Blind.{at_zero, one-step}

-- the command in the seven bytes behind the first of a frame
pub behind : (frame : List ℕ) (c : Command) → c ≡ command_at (take 7 (drop 1 frame)) 0 → c ≡ command_at frame 1
behind frame c e = e ∙ command-part frame 1 7 (omega arith)

at_zero_lem : (r : Registers) (w : Word) → w ≡ r.core.accumulator → seen w 0 r ≡ at_zero r
at_zero_lem r w p = rw p

-- one step of the frame's record, begun with the accumulator, is the turn of its command
pub one-record :
    (frame : List ℕ) (r : Registers) (m : List ℕ) (w : Word) (c : Command) {x : Walk} → w ≡ r.core.accumulator → c ≡ command_at frame 1
    → x ≡ going frame 1 1 1 (turn (seen w 0 r) m Done Goes) → x.turn ≡ turned c (at_zero r) m
one-record frame r m w c a q g =
    ap (λ (y : Walk). y.turn) g
    ∙ ap (λ (s : Registers). (going frame 1 1 1 (turn s m Done Goes)).turn) (at_zero_lem r w a)
    ∙ one-step frame r m
    ∙ ap (λ (y : Command). turned y (at_zero r) m) (sym q)
