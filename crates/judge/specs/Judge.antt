-- What the seven bytes of a command decide by themselves: "Order: .. 2, .. motor or bank 4, type 3, value 4".
use Rattle.std.specs.Prelude.{ℕ, Bool, true, eqb}
use Rattle.words.specs.Word.{pick}
use Rattle.wire.specs.declared.Command.{Command}
use Rattle.status.specs.declared.Status.{Status}
use Rattle.status.specs.declared.Status.TheVariants.{Done, Unknown}
use Rattle.fields.specs.Fields.{
  motor_alone,
  mvp,
  sap,
  gap,
  stap,
  aap,
  sgp,
  ggp,
  agp,
  stgp,
  sio,
  gio,
  calc,
  calcx,
  cle,
  jc,
  ja,
  wait,
}

-- every command by its number; "Commands not listed above, and 128 up: status 2"
unfoldable pub judged : Command → Status
judged c =
    pick (eqb c.number 1) (motor_alone c)
    (pick (eqb c.number 2) (motor_alone c)
    (pick (eqb c.number 3) (motor_alone c)
    (pick (eqb c.number 4) (mvp c)
    (pick (eqb c.number 5) (sap c)
    (pick (eqb c.number 6) (gap c)
    (pick (eqb c.number 7) (stap c)
    (pick (eqb c.number 8) (stap c)
    (pick (eqb c.number 9) (sgp c)
    (pick (eqb c.number 10) (ggp c)
    (pick (eqb c.number 11) (stgp c)
    (pick (eqb c.number 12) (stgp c)
    (pick (eqb c.number 14) (sio c)
    (pick (eqb c.number 15) (gio c)
    (pick (eqb c.number 19) (calc c)
    (pick (eqb c.number 20) Done
    (pick (eqb c.number 21) (jc c)
    (pick (eqb c.number 22) (ja c)
    (pick (eqb c.number 23) (ja c)
    (pick (eqb c.number 24) Done
    (pick (eqb c.number 27) (wait c)
    (pick (eqb c.number 28) Done
    (pick (eqb c.number 33) (calcx c)
    (pick (eqb c.number 34) (aap c)
    (pick (eqb c.number 35) (agp c)
    (pick (eqb c.number 36) (cle c)
    Unknown)))))))))))))))))))))))))

-- the command of a number with these fields
abbrev pub numbered : ℕ → Command → Command
numbered n c = record { number = n; kind = c.kind; motor = c.motor; value = c.value }

-- "21 JC, 22 JA, 23 CSUB, 24 RSUB, 27 WAIT, 28 STOP"
unfoldable pub is_flow : ℕ → Bool
is_flow n =
    pick (eqb n 21) true (pick (eqb n 22) true (pick (eqb n 23) true (pick (eqb n 24) true (pick (eqb n 27) true (eqb n 28)))))

-- "GAP, GGP, GIO leave the accumulator in direct mode and load it in a program"
unfoldable pub is_reading : ℕ → Bool
is_reading n = pick (eqb n 6) true (pick (eqb n 10) true (eqb n 15))
