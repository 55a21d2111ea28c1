-- The frames of lines 1 to 5 of 01's "Proved table", byte by byte, and its bench trap of RSAP's checksum.
use Rattle.std.specs.Prelude.{ℕ, ◌≡◌, false, [], ◌∷◌, ℤ, pos, negsuc}
use Rattle.words.specs.Word.{word}
use Rattle.checksum.specs.Checksum.{right_frame}
use Rattle.wire.specs.Frame.{command_frame, reply_frame}
use Rattle.wire.specs.declared.Command.{Command}
use Rattle.wire.specs.declared.Reply.{Reply}

abbrev pub command : ℕ → ℕ → ℕ → ℤ → Command
command n k m v = record { number = n; kind = k; motor = m; value = word v }

-- a reply from module 1 to address 2
abbrev pub reply : ℕ → ℕ → ℤ → Reply
reply s c v = record { reply_address = 2; module_address = 1; status = s; command = c; value = word v }

pub record Examples : Type 0 where
  -- 01 05 04 00 00 00 C8 00 D2: 02 01 03 05 00 00 00 00 0B
  pub command_1 : command_frame 1 (command 5 4 0 (pos 51200)) ≡ 1 ∷ 5 ∷ 4 ∷ 0 ∷ 0 ∷ 0 ∷ 200 ∷ 0 ∷ 210 ∷ []
  pub reply_1 : reply_frame (reply 3 5 (pos 0)) ≡ 2 ∷ 1 ∷ 3 ∷ 5 ∷ 0 ∷ 0 ∷ 0 ∷ 0 ∷ 11 ∷ []
  -- 01 08 06 00 00 00 00 00 0A, which is wrong, and 0F, which is right: 02 01 01 08 00 00 00 00 0C
  pub command_2 : command_frame 1 (command 8 6 0 (pos 0)) ≡ 1 ∷ 8 ∷ 6 ∷ 0 ∷ 0 ∷ 0 ∷ 0 ∷ 0 ∷ 15 ∷ []
  pub wrong_2 : right_frame (1 ∷ 8 ∷ 6 ∷ 0 ∷ 0 ∷ 0 ∷ 0 ∷ 0 ∷ 10 ∷ []) ≡ false
  pub reply_2 : reply_frame (reply 1 8 (pos 0)) ≡ 2 ∷ 1 ∷ 1 ∷ 8 ∷ 0 ∷ 0 ∷ 0 ∷ 0 ∷ 12 ∷ []
  -- 01 06 38 00 00 00 00 00 3F: 02 01 64 06 00 01 00 00 6E
  pub command_3 : command_frame 1 (command 6 56 0 (pos 0)) ≡ 1 ∷ 6 ∷ 56 ∷ 0 ∷ 0 ∷ 0 ∷ 0 ∷ 0 ∷ 63 ∷ []
  pub reply_3 : reply_frame (reply 100 6 (pos 65536)) ≡ 2 ∷ 1 ∷ 100 ∷ 6 ∷ 0 ∷ 1 ∷ 0 ∷ 0 ∷ 110 ∷ []
  -- 01 16 00 00 00 00 00 0A 21: 02 01 06 16 00 00 00 00 1F
  pub command_4 : command_frame 1 (command 22 0 0 (pos 10)) ≡ 1 ∷ 22 ∷ 0 ∷ 0 ∷ 0 ∷ 0 ∷ 0 ∷ 10 ∷ 33 ∷ []
  pub reply_4 : reply_frame (reply 6 22 (pos 0)) ≡ 2 ∷ 1 ∷ 6 ∷ 22 ∷ 0 ∷ 0 ∷ 0 ∷ 0 ∷ 31 ∷ []
  -- 01 05 5D 00 FF FF 80 00 E1: 02 01 64 05 FF FF 80 00 EA, the value -32768
  pub command_5 : command_frame 1 (command 5 93 0 (negsuc 32767)) ≡ 1 ∷ 5 ∷ 93 ∷ 0 ∷ 255 ∷ 255 ∷ 128 ∷ 0 ∷ 225 ∷ []
  pub reply_5 : reply_frame (reply 100 5 (negsuc 32767)) ≡ 2 ∷ 1 ∷ 100 ∷ 5 ∷ 255 ∷ 255 ∷ 128 ∷ 0 ∷ 234 ∷ []
