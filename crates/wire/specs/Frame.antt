-- Commands and replies as bytes (01, "Datagrams and status").
use Rattle.std.specs.Prelude.{ℕ, ◌+◌, ◌≡◌, List, [], ◌∷◌, ◌++◌, eqb, ℤ, length, get_or, set, Result, Ok, Err}
use Rattle.words.specs.Word.{pick, word}
use Rattle.words.specs.Bytes.{four_of, word_at, put_word}
use Rattle.words.specs.declared.Four.{Four}
use Rattle.checksum.specs.Checksum.{checksum}
use Rattle.wire.specs.declared.Command.{Command}
use Rattle.wire.specs.declared.Reply.{Reply}
use Rattle.wire.specs.declared.WrongLength.{WrongLength}

-- seven bytes: three, and those of a value, most significant first
abbrev pub seven : ℕ → ℕ → ℕ → Four → List ℕ
seven b c d v = b ∷ c ∷ d ∷ v.b3 ∷ v.b2 ∷ v.b1 ∷ v.b0 ∷ []

-- the seven bytes written at a place
unfoldable pub put_seven : List ℕ → ℕ → ℕ → ℕ → ℕ → ℤ → List ℕ
put_seven s at b c d v = set (set (set (put_word s (at + 3) v) at b) (at + 1) c) (at + 2) d

abbrev pub summed : List ℕ → List ℕ
summed xs = xs ++ (checksum xs ∷ [])

-- a frame of a serial line: an address before the seven bytes, and the checksum after them
unfoldable pub frame : ℕ → ℕ → ℕ → ℕ → ℤ → List ℕ
frame address b c d v = summed (address ∷ seven b c d (four_of v))

-- "Command: address, command, type, motor or bank, value (4, signed, most significant first), checksum."
abbrev pub command_frame : ℕ → Command → List ℕ
command_frame address c = frame address c.number c.kind c.motor c.value.v

-- the command of the seven bytes at a place, 0 for each that is missing
abbrev pub command_at : List ℕ → ℕ → Command
command_at s at =
    record { number = get_or s at 0; kind = get_or s (at + 1) 0; motor = get_or s (at + 2) 0; value = word (word_at s (at + 3)) }

-- "Reply: reply address (global 76), module address (global 66), status, command, value, checksum."
abbrev pub reply_frame : Reply → List ℕ
reply_frame r = frame r.reply_address r.module_address r.status r.command r.value.v

-- the reply in a frame
abbrev pub reply_of : List ℕ → Reply
reply_of s =
    record {
      reply_address = get_or s 0 0;
      module_address = get_or s 1 0;
      status = get_or s 2 0;
      command = get_or s 3 0;
      value = word (word_at s 4);
    }

abbrev pub written_status : Result (Unit {0}) WrongLength → ℕ
written_status (Ok u) = 100
written_status (Err e) = 20

-- `bytes` into a lent buffer of n: "building a command refuses a buffer other than 9 bytes with 20, writing nothing", and so
-- "a lent store or buffer of another length"
pub record Wrote (n : ℕ) (before after bytes : List ℕ) (answer : Result (Unit {0}) WrongLength) : Type 0 where
  pub status : written_status answer ≡ pick (eqb (length before) n) 100 20
  pub left : after ≡ pick (eqb (length before) n) bytes before
