-- The programs, as their commands from address 0 on: number, type, motor or bank, value. `negsuc n` is -(n + 1).
use Rattle.std.specs.Prelude.{ℕ, List, [], ◌∷◌, ◌++◌, pos, negsuc, replicate}
use Rattle.store.specs.Store.{record_bytes}
use Rattle.table.specs.Begun.{command}
use Rattle.table.specs.Programs.{program}

-- ---- nested calls, jumps and waits
abbrev pub working : List ℕ
working =
    program (
    -- 0: CSUB 4
    command 23 0 0 (pos 4)
    -- 1: JC ZE, 3
    ∷ command 21 0 0 (pos 3)
    -- 2: JA 0
    ∷ command 22 0 0 (pos 0)
    -- 3: STOP
    ∷ command 28 0 0 (pos 0)
    -- 4: CALC LOAD, 2
    ∷ command 19 9 0 (pos 2)
    -- 5: CSUB 9
    ∷ command 23 0 0 (pos 9)
    -- 6: CALC SUB, 2
    ∷ command 19 1 0 (pos 2)
    -- 7: WAIT TICKS, 0, 1
    ∷ command 27 0 0 (pos 1)
    -- 8: RSUB
    ∷ command 24 0 0 (pos 0)
    -- 9: WAIT TICKS, 0, -1
    ∷ command 27 0 0 (negsuc 0)
    -- 10: RSUB
    ∷ command 24 0 0 (pos 0)
    ∷ []
    )

-- ---- all that is known only while running
abbrev pub refusing : List ℕ
refusing =
    program (
    -- 0: ROR 4001, beyond parameter 43
    command 1 0 0 (pos 4001)
    -- 1: ROL 4001
    ∷ command 2 0 0 (pos 4001)
    -- 2: SAP 52, 1
    ∷ command 5 52 0 (pos 1)
    -- 3: MVP REL, 2147483647
    ∷ command 4 1 0 (pos 2147483647)
    -- 4: AAP 10, the accumulator being 0
    ∷ command 34 10 0 (pos 0)
    -- 5: AGP 66
    ∷ command 35 66 0 (pos 0)
    -- 6: CALCX DIV, X being 0
    ∷ command 33 3 0 (pos 0)
    -- 7: CALCX MOD
    ∷ command 33 4 0 (pos 0)
    -- 8: CALC LOAD, -1
    ∷ command 19 9 0 (negsuc 0)
    -- 9: WAIT TICKS, 0, -1
    ∷ command 27 0 0 (negsuc 0)
    -- 10: SGP 73, 0, 1234 locks
    ∷ command 9 73 0 (pos 1234)
    -- 11: STAP 10
    ∷ command 7 10 0 (pos 0)
    -- 12: STGP 0, 2
    ∷ command 11 0 2 (pos 0)
    -- 13, 14, 15: SGP 66, 76 and 77
    ∷ command 9 66 0 (pos 1)
    ∷ command 9 76 0 (pos 2)
    ∷ command 9 77 0 (pos 0)
    -- 16: CALC LOAD, 1
    ∷ command 19 9 0 (pos 1)
    -- 17, 18, 19: AGP 66, 76 and 77
    ∷ command 35 66 0 (pos 0)
    ∷ command 35 76 0 (pos 0)
    ∷ command 35 77 0 (pos 0)
    -- 20: STOP
    ∷ command 28 0 0 (pos 0)
    ∷ []
    )

-- ---- what a bench run does not meet
-- 0: JC NZ, 2, which is not taken while the accumulator is 0; 1: STOP; 2: a record of zeros
abbrev pub untaken : List ℕ
untaken = program (command 21 1 0 (pos 2) ∷ command 28 0 0 (pos 0) ∷ [])

-- 0: CSUB 2; 1: STOP; 2: JC ZE, 4; 3: CSUB 2; 4: RSUB: a subroutine that calls itself, unless the accumulator is 0
abbrev pub deepening : List ℕ
deepening =
    program (
    command 23 0 0 (pos 2)
    ∷ command 28 0 0 (pos 0)
    ∷ command 21 0 0 (pos 4)
    ∷ command 23 0 0 (pos 2)
    ∷ command 24 0 0 (pos 0)
    ∷ []
    )

-- ---- bad points of other kinds
-- 0: JC ZE, 4; 1: JA 3; 2: zeros, which nothing leads to; 3: RSUB, with no call; 4: SAP 93, -32769, which a walk meets first
abbrev pub twice : List ℕ
twice =
    program (
    command 21 0 0 (pos 4)
    ∷ command 22 0 0 (pos 3)
    ∷ command 0 0 0 (pos 0)
    ∷ command 24 0 0 (pos 0)
    ∷ command 5 93 0 (negsuc 32768)
    ∷ []
    )

-- 0: SAP 93, -32769, and no other
abbrev pub wrong_value : List ℕ
wrong_value = program (command 5 93 0 (negsuc 32768) ∷ [])

-- 0: MST with motor 1
abbrev pub wrong_motor : List ℕ
wrong_motor = program (command 3 0 1 (pos 0) ∷ [])

-- 0: GAP 4, which the sheet does not have
abbrev pub not_on_sheet : List ℕ
not_on_sheet = program (command 6 4 0 (pos 0) ∷ [])

-- 0: JA 1023; 1023: COMP 0, behind which the program memory ends
abbrev pub falling : List ℕ
falling = record_bytes (command 22 0 0 (pos 1023)) ++ replicate 7154 0 ++ record_bytes (command 20 0 0 (pos 0))
