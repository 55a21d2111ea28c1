-- What a datagram leaves, by what is taken from it. Assumes nothing.
use Rattle.std.specs.Prelude.{Result, Ok, Err}
use Prim.Native.Nat.{ℕ}
use mathlib.Core.Path.{◌≡◌, refl}
use mathlib.Core.Bool.{false}
use mathlib.Core.List.{List}
use lib.Dec.{eqb}
use lib.IntN.{pos}
use Rattle.words.specs.Word.{word}
use Rattle.words.proofs.Bools.{picked}
use Rattle.wire.specs.declared.Command.{Command}
use Rattle.status.specs.Status.{number_of}
use Rattle.status.specs.declared.Status.TheVariants.{Checksum}
use Rattle.serial.specs.Serial.{taken_of}
use Rattle.serial.specs.declared.NotTaken.{NotTaken}
use Rattle.serial.specs.declared.NotTaken.TheVariants.{NotOurs, Damaged}
use Rattle.board.specs.Range.{registers_in_range}
use Rattle.replying.specs.Reply.{byte_of, addresses, replied}
use Rattle.rules.specs.Datagram.{Board, board, After, unchanged, obeyed_by, lent, received, datagram}

module _ (x : Board) (P : Result Command NotTaken → After → Type 0) where
  -- what holds of each, with what is taken: 20, 23 and no reply; 1; and the command obeyed
  pub record Each : Type 0 where
    pub nothing : (t : Result Command NotTaken) (n : ℕ) → eqb n 100 ≡ false → P t (unchanged n x)
    pub damaged : (n : ℕ) → P (Err (Damaged n))
        (record {
          board = board x.registers x.program x.store (replied x.reply (addresses x.registers.values) Checksum n (word (pos 0)));
          status = number_of Checksum;
        })
    pub whole : (c : Command) → P (Ok c) (obeyed_by c x)

  by-taken : Each → (t : Result Command NotTaken) → P t (received t x)
  unfolding received
  by-taken each (Err NotOurs) = each.nothing (Err NotOurs) 0 refl
  by-taken each (Err (Damaged n)) = each.damaged n
  by-taken each (Ok c) = each.whole c

  -- holds of what is left
  pub by-datagram : Each → (bytes : List ℕ) → P (taken_of (byte_of x.registers.values 66) bytes) (datagram bytes x)
  unfolding datagram
  by-datagram each bytes =
      let t = taken_of (byte_of x.registers.values 66) bytes in
      picked (P t) (lent x.program x.store x.reply) _ _
      (λ _. picked (P t) (registers_in_range x.registers) _ _ (λ _. by-taken each t) (each.nothing t 23 refl)) (each.nothing t 20 refl)
