-- The fields that a command does not use, by its number and, where only some types use one, by its type.
use Rattle.std.specs.Prelude.{ℕ, Bool, true, false, ◌&&◌, ◌||◌, List, [], ◌∷◌, eqb, pos}
use Rattle.words.specs.Word.{pick, word}
use Rattle.words.specs.declared.Word.{Word}
use Rattle.wire.specs.declared.Command.{Command}

abbrev pub among : ℕ → List ℕ → Bool
among n [] = false
among n (m ∷ ms) = pick (eqb n m) true (among n ms)

-- ---- in a step and in direct mode
-- ROR, ROL, MST, COMP, JA, CSUB, RSUB and STOP have no type
abbrev pub no_type : ℕ → Bool
no_type n = among n (1 ∷ 2 ∷ 3 ∷ 20 ∷ 22 ∷ 23 ∷ 24 ∷ 28 ∷ [])

-- CALC, COMP, JC, JA, CSUB, RSUB, STOP, CALCX, CLE and WAIT TICKS have no motor
abbrev pub no_motor : ℕ → ℕ → Bool
no_motor kind n = among n (19 ∷ 20 ∷ 21 ∷ 22 ∷ 23 ∷ 24 ∷ 28 ∷ 33 ∷ 36 ∷ []) || (eqb n 27 && eqb kind 0)

-- MST, GAP, STAP, RSAP, GGP, STGP, RSGP, GIO, RSUB, STOP, CALCX, AAP, AGP, CLE and CALC NOT have no value
abbrev pub no_value : ℕ → ℕ → Bool
no_value kind n =
    among n (3 ∷ 6 ∷ 7 ∷ 8 ∷ 10 ∷ 11 ∷ 12 ∷ 15 ∷ 24 ∷ 28 ∷ 33 ∷ 34 ∷ 35 ∷ 36 ∷ []) || (eqb n 19 && eqb kind 8)

-- ---- of the control commands none has a motor; but for 129 and 134 they have no type
abbrev pub no_control_type : ℕ → Bool
no_control_type n = among n (128 ∷ 130 ∷ 131 ∷ 132 ∷ 133 ∷ 135 ∷ 137 ∷ 255 ∷ [])

-- 128, 130, 131, 133, 135 and 129 from the present address have no value
abbrev pub no_control_value : ℕ → ℕ → Bool
no_control_value kind n = among n (128 ∷ 130 ∷ 131 ∷ 133 ∷ 135 ∷ []) || (eqb n 129 && eqb kind 0)

-- ---- the command with 0 in the fields that it does not use
unfoldable pub used_type : Bool → Command → ℕ
used_type unused c = pick unused 0 c.kind

unfoldable pub used_motor : Bool → Command → ℕ
used_motor unused c = pick unused 0 c.motor

unfoldable pub used_value : Bool → Command → Word
used_value unused c = pick unused (word (pos 0)) c.value

abbrev pub plain : Command → Command
plain c =
    record {
      number = c.number;
      kind = used_type (no_type c.number) c;
      motor = used_motor (no_motor c.kind c.number) c;
      value = used_value (no_value c.kind c.number) c;
    }

abbrev pub plain_control : Command → Command
plain_control c =
    record {
      number = c.number;
      kind = used_type (no_control_type c.number) c;
      motor = 0;
      value = used_value (no_control_value c.kind c.number) c;
    }

-- ---- the commands that answer something else than the value sent: GAP, GGP, GIO, CALC, CALCX; 134 and 135
abbrev pub answers : ℕ → Bool
answers n = among n (6 ∷ 10 ∷ 15 ∷ 19 ∷ 33 ∷ [])

abbrev pub control_answers : ℕ → Bool
control_answers n = among n (134 ∷ 135 ∷ [])
