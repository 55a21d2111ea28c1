-- JC's conditions and jump targets.
use Rattle.std.specs.Prelude.{ℕ, Bool, true, false, not, eqb, ltb, ℤ, pos}
use Rattle.words.specs.Word.{pick, bits_of}
use Rattle.order.specs.Order.{same_w, in_range}
use Rattle.std.specs.declared.cmp.Ordering.{Ordering}
use Rattle.std.specs.Ordering.{is_eq, is_gt, is_lt}
use Rattle.flags.specs.declared.Flags.{Flags}

-- "JC 0 ZE, 1 NZ look at the accumulator; 2 EQ, 3 NE, 4 GT, 5 GE, 6 LT, 7 LE at the last COMP, accumulator against value;
-- 8..11 at ETO EAL EDV EPO"
unfoldable pub jumps : ℕ → ℤ → Ordering → Flags → Bool
jumps kind accumulator last flags =
    pick (eqb kind 0) (same_w accumulator (pos 0))
    (pick (eqb kind 1) (not (same_w accumulator (pos 0)))
    (pick (eqb kind 2) (is_eq last)
    (pick (eqb kind 3) (not (is_eq last))
    (pick (eqb kind 4) (is_gt last)
    (pick (eqb kind 5) (not (is_lt last))
    (pick (eqb kind 6) (is_lt last)
    (pick (eqb kind 7) (not (is_gt last))
    (pick (eqb kind 8) (eqb flags.eto 1)
    (pick (eqb kind 9) (eqb flags.eal 1)
    (pick (eqb kind 10) (eqb flags.edv 1)
    (eqb flags.epo 1)))))))))))

-- "A jump or call target outside 0..1,023 is 4"; so an address in a value of 129, 132 and 134
abbrev pub is_address : ℤ → Bool
is_address z = in_range (pos 0) (pos 1023) z

-- the address that a value of 0 to 1,023 is
unfoldable pub address_of : ℤ → ℕ
address_of z = pick (ltb (bits_of z) 1024) (bits_of z) 0
