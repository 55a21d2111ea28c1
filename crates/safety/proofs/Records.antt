-- Outside download mode no event writes a record. Assumes nothing.
use Prim.Native.Nat.{ℕ}
use mathlib.Core.Path.{◌≡◌, refl, sym, ◌∙◌}
use mathlib.Core.Bool.{false, true≢false}
use mathlib.Core.List.{List}
use Rattle.wire.specs.declared.Command.{Command}
use Rattle.board.specs.declared.Registers.{Registers}
use Rattle.rules.specs.Obey.{obeyed}
use Rattle.rules.proofs.ObeyCases.{by_mode}
use Rattle.rules.specs.Datagram.{Board, board, obeyed_by, datagram}
use Rattle.rules.proofs.DatagramCases.{by-datagram}
use Rattle.safety.specs.Events.{World, Event, after}
use Rattle.safety.specs.Events as trace

obeyed-records : (c : Command) (r : Registers) (p m : List ℕ) → r.download.on ≡ false → (obeyed c r p m).program ≡ p
obeyed-records c r p m h =
    by_mode c r p m (λ o. o.program ≡ p) (record { control = refl; storing = λ e. absurd (true≢false (sym e ∙ h)); direct = refl })

told-records : (x : Board) (bytes : List ℕ) → x.registers.download.on ≡ false → (datagram bytes x).board.program ≡ x.program
unfolding obeyed_by
told-records x bytes h =
    by-datagram x (λ _ a. a.board.program ≡ x.program)
    (record { nothing = λ _ _ _. refl; damaged = λ _. refl; whole = λ c. obeyed-records c x.registers x.program x.store h }) bytes

pub records-kept : (w : World) (e : Event) → w.registers.download.on ≡ false → (after w e).program ≡ w.program
unfolding after
records-kept w (trace.datagram bytes store reply) h = told-records (board w.registers w.program store reply) bytes h
records-kept w (trace.sample s) h = refl
records-kept w trace.tick h = refl
records-kept w (trace.run budget store) h = refl
records-kept w (trace.power-up store) h = refl
