-- The table of "Datagrams and status": the numbers of a command's status.
use Rattle.std.specs.Prelude.{ℕ, Bool, true, false}
use Rattle.words.specs.Word.{pick}
use Rattle.status.specs.declared.Status.{Status}
use Rattle.status.specs.declared.Status.TheVariants.{Done, Stored, Checksum, Unknown, Kind, Value, Locked, Unavailable}

-- "1: checksum wrong; 2: command unknown or not built; 3: type wrong, or access not allowed; 4: motor or bank wrong; value wrong;
-- 5: stored settings or program locked; 6: not available now; 100: done; 101: put in program memory"
abbrev pub number_of : Status → ℕ
number_of Done = 100
number_of Stored = 101
number_of Checksum = 1
number_of Unknown = 2
number_of Kind = 3
number_of Value = 4
number_of Locked = 5
number_of Unavailable = 6

abbrev pub is_done : Status → Bool
is_done Done = true
is_done Stored = false
is_done Checksum = false
is_done Unknown = false
is_done Kind = false
is_done Value = false
is_done Locked = false
is_done Unavailable = false

abbrev pub is_unknown : Status → Bool
is_unknown Done = false
is_unknown Stored = false
is_unknown Checksum = false
is_unknown Unknown = true
is_unknown Kind = false
is_unknown Value = false
is_unknown Locked = false
is_unknown Unavailable = false

-- "Order: .. 6, motor or bank 4, type 3, value 4, lock 5", from what is right
abbrev pub in_order : Bool → Bool → Bool → Bool → Bool → Status
in_order available motor kind value unlocked =
    pick available (pick motor (pick kind (pick value (pick unlocked Done Locked) Value) Kind) Value) Unavailable
