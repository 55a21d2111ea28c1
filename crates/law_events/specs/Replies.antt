-- What a reply says, read by the display's side.
use Rattle.std.specs.Prelude.{ℕ, ◌<◌, ◌≡◌, true, false, ◌&&◌, List, eqb, ℤ, pos, length, get_or, Ok, Err}
use Rattle.words.specs.Word.{word}
use Rattle.wire.specs.declared.Command.{Command}
use Rattle.serial.specs.Serial.{taken_of}
use Rattle.serial.specs.declared.NotTaken.TheVariants.{NotOurs, Damaged}
use Rattle.display.specs.Display.{Answer, read_of}
use Rattle.settings.specs.Settings.{bank_place}
use Rattle.values.specs.Values.{value_at}
use Rattle.rules.specs.Reading.{number}
use Rattle.rules.specs.Obey.{obeyed}
use Rattle.replying.specs.Reply.{byte_of}
use Rattle.rules.specs.Datagram.{lent}
use Rattle.reg_image.specs.Image.{registers_of}
use Rattle.reg_range.specs.Range.{stands}
use Rattle.board_datagrams.specs.Datagram.{Answers}
use Rattle.law_rows.specs.Rows.{Numbers}

-- "Reply: reply address (global 76), module address (global 66), status, command, value, checksum", read whole
abbrev pub says : List ℤ → ℕ → ℕ → ℤ → Answer
says values status command value =
    record {
      outcome = 100;
      reply-address = byte_of values 76;
      module-address = byte_of values 66;
      status = status;
      command = command;
      value = value;
    }

pub record Replies : Type 0 where
  -- "Both addresses are those before the command": the reply to a command, with the status answered, the command byte received and the
  -- value that the command answers
  pub reply_reads : (bytes l p m b : List ℕ) (n : ℕ) (k p' m' b' : List ℕ) (c : Command) → Answers bytes l p m b n k p' m' b'
      → lent p m b && stands l ≡ true → taken_of (byte_of (registers_of l).values 66) bytes ≡ Ok c
      → read_of b' ≡ says (registers_of l).values n (get_or bytes 1 0) (obeyed c (registers_of l) p m).value.v
  -- "1: checksum wrong: value 0"
  pub damaged_reads : (bytes l p m b : List ℕ) (n : ℕ) (k p' m' b' : List ℕ) (d : ℕ) → Answers bytes l p m b n k p' m' b'
      → lent p m b && stands l ≡ true → taken_of (byte_of (registers_of l).values 66) bytes ≡ Err (Damaged d)
      → (n ≡ 1) × (read_of b' ≡ says (registers_of l).values 1 (get_or bytes 1 0) (pos 0))
  -- "length not 9, or address not ours: no reply; nothing changes", and "only a reply writes" the reply buffer
  pub no_reply : (bytes l p m b : List ℕ) (n : ℕ) (k p' m' b' : List ℕ) → Numbers l → Numbers k → Answers bytes l p m b n k p' m' b'
      → taken_of (byte_of (registers_of l).values 66) bytes ≡ Err NotOurs → (k ≡ l) × (p' ≡ p) × (m' ≡ m) × (b' ≡ b)
  pub not_ours : (ours : ℕ) (bytes : List ℕ) → eqb (length bytes) 9 && eqb (get_or bytes 0 0) ours ≡ false → taken_of ours bytes ≡ Err NotOurs
  -- in range the two address bytes are the values of 76 and 66
  pub reply-address : (l : List ℕ) → stands l ≡ true
      → pos (byte_of (registers_of l).values 76) ≡ (value_at (registers_of l).values (bank_place 0 76)).v
  pub module-address : (l : List ℕ) → stands l ≡ true
      → pos (byte_of (registers_of l).values 66) ≡ (value_at (registers_of l).values (bank_place 0 66)).v
  -- the word that has the bits of a number is the number, below 2^31; so "130 (program address)", an input and an output in range are
  -- read as they are
  pub number_is : (n : ℕ) → n < 2147483648 → number n ≡ word (pos n)
  pub address_read : (l : List ℕ) → stands l ≡ true → number (registers_of l).core.address ≡ word (pos (registers_of l).core.address)
  pub input_read : (l : List ℕ) (i : ℕ) → stands l ≡ true
      → number (get_or (registers_of l).digital i 0) ≡ word (pos (get_or (registers_of l).digital i 0))
  pub output_read : (l : List ℕ) (i : ℕ) → stands l ≡ true
      → number (get_or (registers_of l).outputs i 0) ≡ word (pos (get_or (registers_of l).outputs i 0))
