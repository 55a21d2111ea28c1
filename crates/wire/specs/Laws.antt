-- What a user of frames relies on: what is written is right and reads back, a right frame is the one of its fields, and
-- just how much an 8-bit sum finds.
use Rattle.std.specs.Prelude.{ℕ, ◌+◌, ◌%◌, ◌≤◌, ◌<◌, ◌≡◌, true, false, List, eqb, ℤ, get_or, set, take, drop, Result}
use Rattle.std.specs.Int.{w32}
use Rattle.std.proofs.Common.{SFits}
use Rattle.words.specs.Bytes.{word_at}
use Rattle.words.specs.Laws.{AllBytes}
use Rattle.checksum.specs.Checksum.{right_frame}
use Rattle.wire.specs.Frame.{frame, command_at, written_status}
use Rattle.wire.specs.declared.WrongLength.{WrongLength}

-- a right frame in which the byte at place i becomes another byte, b
pub record Changed (s : List ℕ) (i b : ℕ) : Type 0 where
  pub right : right_frame s ≡ true
  pub bytes : AllBytes s
  pub place : i < 9
  pub byte : b < 256
  pub other : get_or s i 0 ≡ b → ⊥

pub record Laws : Type 0 where
  -- the command at the start of a part of seven bytes or more is the one that stands at the part's place
  pub in_part : (s : List ℕ) (at n : ℕ) → 7 ≤ n → command_at (take n (drop at s)) 0 ≡ command_at s at
  pub made_right : (address b c d : ℕ) (v : ℤ) → right_frame (frame address b c d v) ≡ true
  pub made_value : (address b c d : ℕ) (v : ℤ) → SFits w32 v → word_at (frame address b c d v) 4 ≡ v
  pub right_made : (s : List ℕ) → AllBytes s → right_frame s ≡ true
      → frame (get_or s 0 0) (get_or s 1 0) (get_or s 2 0) (get_or s 3 0) (word_at s 4) ≡ s
  -- one changed byte is always found
  pub one_changed : (s : List ℕ) (i b : ℕ) → Changed s i b → right_frame (set s i b) ≡ false
  -- two changed bytes other than the checksum pass exactly when the new two have the sum of the old two, modulo 256
  pub two_changed : (s : List ℕ) (i j b c : ℕ) → right_frame s ≡ true → i < 8 → j < 8 → (j ≡ i → ⊥)
      → right_frame (set (set s i b) j c) ≡ eqb ((b + c) % 256) ((get_or s i 0 + get_or s j 0) % 256)
  -- a changed byte and a changed checksum pass exactly when the checksum changes as the byte does, modulo 256
  pub sum_changed : (s : List ℕ) (i b c : ℕ) → right_frame s ≡ true → i < 8 → c < 256
      → right_frame (set (set s i b) 8 c) ≡ eqb ((get_or s i 0 + c) % 256) ((b + get_or s 8 0) % 256)
  -- an answer is known by its number
  pub one_written : (x y : Result (Unit {0}) WrongLength) → written_status x ≡ written_status y → x ≡ y
