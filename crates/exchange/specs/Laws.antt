-- What a user of both sides relies on: the board's frames (`taken_of`, `reply_frame`) and the display's (`command_frame`, `read_of`).
use Rattle.std.specs.Prelude.{ℕ, ◌≡◌, List, eqb, pos, get_or, set, Result, Ok, Err}
use Rattle.std.specs.Int.{w32}
use Rattle.std.proofs.Common.{SFits}
use Rattle.words.specs.Word.{pick}
use Rattle.words.specs.Laws.{AllBytes}
use Rattle.wire.specs.Frame.{command_frame, reply_frame}
use Rattle.wire.specs.Examples.{command}
use Rattle.wire.specs.Laws.{Changed}
use Rattle.wire.specs.declared.Command.{Command}
use Rattle.wire.specs.declared.Reply.{Reply}
use Rattle.serial.specs.Serial.{taken_of, taken_status}
use Rattle.serial.specs.declared.NotTaken.TheVariants.{NotOurs, Damaged}
use Rattle.display.specs.Display.{answer_of, read_of, done, refused}
use Rattle.display.specs.declared.Unread.{Unread}

pub record Laws : Type 0 where
  -- what the display builds, the board at that address takes as the same command, and no other board takes
  pub command_trip : (address : ℕ) (c : Command) → SFits w32 c.value.v → taken_of address (command_frame address c) ≡ Ok c
  pub command_other : (address ours : ℕ) (c : Command) → (address ≡ ours → ⊥) → taken_of ours (command_frame address c) ≡ Err NotOurs
  -- what the board answers, the display reads as the same reply
  pub reply_trip : (r : Reply) → SFits w32 r.value.v → read_of (reply_frame r) ≡ done r
  -- a frame that is taken, or read, is the one frame of what it gave: so a frame with any changed bytes never gives the same
  pub one_command : (ours : ℕ) (s : List ℕ) (c : Command) → AllBytes s → taken_of ours s ≡ Ok c → s ≡ command_frame ours c
  pub one_reply : (s : List ℕ) (r : Reply) → AllBytes s → read_of s ≡ done r → s ≡ reply_frame r
  -- one changed byte: the board refuses with 1, or is not meant any more; the display refuses with 1
  pub command_changed : (ours : ℕ) (s : List ℕ) (i b : ℕ) → Changed s i b
      → taken_of ours (set s i b) ≡ pick (eqb (get_or (set s i b) 0 0) ours) (Err (Damaged (get_or (set s i b) 1 0))) (Err NotOurs)
  pub changed_status : (own ours : ℕ) (s : List ℕ) (i b : ℕ) → Changed s i b
      → taken_status own (taken_of ours (set s i b)) ≡ pick (eqb (get_or (set s i b) 0 0) ours) 1 0
  pub reply_changed : (s : List ℕ) (i b : ℕ) → Changed s i b → read_of (set s i b) ≡ refused 1
  -- two changed bytes may pass: SAP 4, 0, 51200 with its first two bytes exchanged is a right frame of another command
  pub two_pass : taken_of 1 (set (set (command_frame 1 (command 5 4 0 (pos 51200))) 1 4) 2 5) ≡ Ok (command 4 5 0 (pos 51200))
  -- an answer is known by its numbers
  pub one_answer : (x y : Result Reply Unread) → answer_of x ≡ answer_of y → x ≡ y
