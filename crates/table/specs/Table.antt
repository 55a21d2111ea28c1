-- 01's "Proved table", all its lines. `negsuc n` is -(n + 1).
use Rattle.std.specs.Prelude.{◌≡◌, [], ◌∷◌, pos, negsuc}
use Rattle.words.specs.Word.{word}
use Rattle.status.specs.declared.Status.TheVariants.{Unknown, Unavailable}
use Rattle.points.specs.Points.{point}
use Rattle.checking.specs.Check.{Passed, Refused, answer, Checked}
use Rattle.table.specs.Begun.{reply_to, command, first, more, status_of}
use Rattle.table.specs.Programs.{stopping, calling_itself, all_zero}

pub record Table : Type 0 where
  -- 1. 01 05 04 00 00 00 C8 00 D2: 02 01 03 05 00 00 00 00 0B
  pub line_1 : reply_to (1 ∷ 5 ∷ 4 ∷ 0 ∷ 0 ∷ 0 ∷ 200 ∷ 0 ∷ 210 ∷ []) ≡ 2 ∷ 1 ∷ 3 ∷ 5 ∷ 0 ∷ 0 ∷ 0 ∷ 0 ∷ 11 ∷ []
  -- 2. 01 08 06 00 00 00 00 00 0A: 02 01 01 08 00 00 00 00 0C
  pub line_2 : reply_to (1 ∷ 8 ∷ 6 ∷ 0 ∷ 0 ∷ 0 ∷ 0 ∷ 0 ∷ 10 ∷ []) ≡ 2 ∷ 1 ∷ 1 ∷ 8 ∷ 0 ∷ 0 ∷ 0 ∷ 0 ∷ 12 ∷ []
  -- 3. 01 06 38 00 00 00 00 00 3F: 02 01 64 06 00 01 00 00 6E
  pub line_3 : reply_to (1 ∷ 6 ∷ 56 ∷ 0 ∷ 0 ∷ 0 ∷ 0 ∷ 0 ∷ 63 ∷ []) ≡ 2 ∷ 1 ∷ 100 ∷ 6 ∷ 0 ∷ 1 ∷ 0 ∷ 0 ∷ 110 ∷ []
  -- 4. 01 16 00 00 00 00 00 0A 21: 02 01 06 16 00 00 00 00 1F
  pub line_4 : reply_to (1 ∷ 22 ∷ 0 ∷ 0 ∷ 0 ∷ 0 ∷ 0 ∷ 10 ∷ 33 ∷ []) ≡ 2 ∷ 1 ∷ 6 ∷ 22 ∷ 0 ∷ 0 ∷ 0 ∷ 0 ∷ 31 ∷ []
  -- 5. 01 05 5D 00 FF FF 80 00 E1: 02 01 64 05 FF FF 80 00 EA
  pub line_5 : reply_to (1 ∷ 5 ∷ 93 ∷ 0 ∷ 255 ∷ 255 ∷ 128 ∷ 0 ∷ 225 ∷ []) ≡ 2 ∷ 1 ∷ 100 ∷ 5 ∷ 255 ∷ 255 ∷ 128 ∷ 0 ∷ 234 ∷ []
  -- 6. SAP 93 of -32769: status 4.
  pub line_6 : status_of (first (command 5 93 0 (negsuc 32768))) ≡ 4
  -- 7. -7 DIV 2 is -3, MOD -1.
  pub line_7_div : (more (command 19 3 0 (pos 2)) (first (command 19 9 0 (negsuc 6)))).value ≡ word (negsuc 2)
  pub line_7_mod : (more (command 19 4 0 (pos 2)) (first (command 19 9 0 (negsuc 6)))).value ≡ word (negsuc 0)
  -- 8. 65536 MUL 65536 is 0; 2147483647 ADD 1 is -2147483648.
  pub line_8_mul : (more (command 19 2 0 (pos 65536)) (first (command 19 9 0 (pos 65536)))).value ≡ word (pos 0)
  pub line_8_add : (more (command 19 0 0 (pos 1)) (first (command 19 9 0 (pos 2147483647)))).value ≡ word (negsuc 2147483647)
  -- 9. STOP at 0: passed.
  pub line_9 : Checked stopping Passed (answer 100 (point 0 0))
  -- 10. CSUB 0, STOP: refused at address 0, depth 8, status 6.
  pub line_10 : Checked calling_itself (Refused (point 0 8) Unavailable) (answer 6 (point 0 8))
  -- 11. All zero: refused at (0, 0), status 2.
  pub line_11 : Checked all_zero (Refused (point 0 0) Unknown) (answer 2 (point 0 0))
