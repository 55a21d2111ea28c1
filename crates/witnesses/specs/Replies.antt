-- Whole replies, on a board with default cells: "Both addresses are those before the command", where the command changes them; and
-- the lock, set and opened again.
use Rattle.std.specs.Prelude.{ℕ, ◌≡◌, List, [], ◌∷◌, pos}
use Rattle.words.specs.Word.{word}
use Rattle.store.specs.Store.{cell_at}
use Rattle.replying.specs.Reply.{byte_of}
use Rattle.rules.specs.Datagram.{Board, board, datagram}
use Rattle.table.specs.Begun.{begun, empty_program}

-- ---- boards, each after one datagram more
abbrev pub after : List ℕ → Board → Board
after bytes x = (datagram bytes x).board

-- SGP 66, 0, 9; then, to address 9, SGP 76, 0, 7 and 137, value 1234
abbrev pub moved : Board
moved = after (1 ∷ 9 ∷ 66 ∷ 0 ∷ 0 ∷ 0 ∷ 0 ∷ 9 ∷ 85 ∷ []) begun

abbrev pub answering : Board
answering = after (9 ∷ 9 ∷ 76 ∷ 0 ∷ 0 ∷ 0 ∷ 0 ∷ 7 ∷ 101 ∷ []) moved

abbrev pub restored : Board
restored = after (9 ∷ 137 ∷ 0 ∷ 0 ∷ 0 ∷ 0 ∷ 4 ∷ 210 ∷ 104 ∷ []) answering

-- 255, value 1234, at address 1, lent cells in which 66 is 9
abbrev pub restarted : Board
restarted =
    after (1 ∷ 255 ∷ 0 ∷ 0 ∷ 0 ∷ 0 ∷ 4 ∷ 210 ∷ 214 ∷ [])
    (board begun.registers empty_program moved.store begun.reply)

-- SGP 73, 0, 1234; then SGP 66, 0, 9 while locked; SGP 73, 0, 4321; SGP 66, 0, 9 again
abbrev pub locked : Board
locked = after (1 ∷ 9 ∷ 73 ∷ 0 ∷ 0 ∷ 0 ∷ 4 ∷ 210 ∷ 41 ∷ []) begun

abbrev pub shut : Board
shut = after (1 ∷ 9 ∷ 66 ∷ 0 ∷ 0 ∷ 0 ∷ 0 ∷ 9 ∷ 85 ∷ []) locked

abbrev pub unlocked : Board
unlocked = after (1 ∷ 9 ∷ 73 ∷ 0 ∷ 0 ∷ 0 ∷ 16 ∷ 225 ∷ 68 ∷ []) shut

abbrev pub settable : Board
settable = after (1 ∷ 9 ∷ 66 ∷ 0 ∷ 0 ∷ 0 ∷ 0 ∷ 9 ∷ 85 ∷ []) unlocked

-- a board's own address
abbrev pub address_of : Board → ℕ
address_of x = byte_of x.registers.values 66

pub record Replies : Type 0 where
  -- SGP 66 is answered from 1, and then the board is at 9
  pub sgp_66 : moved.reply ≡ 2 ∷ 1 ∷ 100 ∷ 9 ∷ 0 ∷ 0 ∷ 0 ∷ 9 ∷ 121 ∷ []
  pub at_9 : address_of moved ≡ 9
  -- SGP 76 is answered to 2, and what comes next to 7
  pub sgp_76 : answering.reply ≡ 2 ∷ 9 ∷ 100 ∷ 9 ∷ 0 ∷ 0 ∷ 0 ∷ 7 ∷ 127 ∷ []
  -- 137 is answered to 7 from 9, and then the board is at 1, in its cell too
  pub by_137 : restored.reply ≡ 7 ∷ 9 ∷ 100 ∷ 137 ∷ 0 ∷ 0 ∷ 4 ∷ 210 ∷ 211 ∷ []
  pub at_1 : address_of restored ≡ 1
  pub cell_9 : cell_at answering.store 31 ≡ word (pos 9)
  pub cell_1 : cell_at restored.store 31 ≡ word (pos 1)
  -- 255 is answered from 1, and then the board is at the 9 of its cell
  pub by_255 : restarted.reply ≡ 2 ∷ 1 ∷ 100 ∷ 255 ∷ 0 ∷ 0 ∷ 4 ∷ 210 ∷ 60 ∷ []
  pub again_at_9 : address_of restarted ≡ 9
  -- SGP 73 of 1234 locks: 100, its cell 1; then SGP 66 is 5 with value 0
  pub locks : locked.reply ≡ 2 ∷ 1 ∷ 100 ∷ 9 ∷ 0 ∷ 0 ∷ 4 ∷ 210 ∷ 70 ∷ []
  pub cell_locked : cell_at locked.store 32 ≡ word (pos 1)
  pub shuts : shut.reply ≡ 2 ∷ 1 ∷ 5 ∷ 9 ∷ 0 ∷ 0 ∷ 0 ∷ 0 ∷ 17 ∷ []
  -- "4321 unlocks, written at once even when locked": 100, its cell 0; then SGP 66 is 100
  pub unlocks : unlocked.reply ≡ 2 ∷ 1 ∷ 100 ∷ 9 ∷ 0 ∷ 0 ∷ 16 ∷ 225 ∷ 97 ∷ []
  pub cell_unlocked : cell_at unlocked.store 32 ≡ word (pos 0)
  pub opens : settable.reply ≡ 2 ∷ 1 ∷ 100 ∷ 9 ∷ 0 ∷ 0 ∷ 0 ∷ 9 ∷ 121 ∷ []
  pub open_at_9 : address_of settable ≡ 9
