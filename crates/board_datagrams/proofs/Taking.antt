-- What a datagram that is a whole command says of its bytes, and where the addresses stand. Assumes nothing.
use Prim.Native.Nat.{ℕ}
use mathlib.Core.Path.{◌≡◌, refl}
use mathlib.Core.Bool.{true, ◌&&◌}
use mathlib.Core.List.{List}
use borrow.Author.Tests.{eqb-true}
use lib.Dec.{eqb}
use lib.ListN.{length, get_or}
use Rattle.std.specs.Prelude.{Result, Ok}
use Rattle.words.proofs.Bools.{each, either}
use Rattle.checksum.specs.Checksum.{right_frame}
use Rattle.wire.specs.Frame.{command_at}
use Rattle.wire.specs.declared.Command.{Command}
use Rattle.serial.specs.Serial.{taken_of}
use Rattle.serial.specs.declared.NotTaken.{NotTaken}
use Rattle.store.specs.Store.{is_program_store, is_parameter_store}
use Rattle.sheet.specs.Sheet.{axis, globals, read_only, rwe_rows, rw_rows, r_rows}
use Rattle.settings.specs.Settings.{bank_place}
use Rattle.rules.specs.Datagram.{lent}
use Rattle.board_datagrams.specs.Command.{Ready}

pub module_place : bank_place 0 66 ≡ 43
unfolding bank_place axis globals read_only rwe_rows rw_rows r_rows
module_place = refl

pub reply_place : bank_place 0 76 ≡ 45
unfolding bank_place axis globals read_only rwe_rows rw_rows r_rows
reply_place = refl

-- ---- a whole command
abbrev Framed : Command → List ℕ → Type 0
Framed c s = (length s ≡ 9) × (command_at s 1 ≡ c)

framed : (ours : ℕ) (s : List ℕ) (c : Command) → Ok c ≡ taken_of ours s → Framed c s
unfolding taken_of
framed ours s c =
    let P : Result Command NotTaken → Type 0 = λ t. Ok c ≡ t → Framed c s in
    either P (eqb (length s) 9) _ _
    (λ q. either P (eqb (get_or s 0 0) ours) _ _
    (λ _. either P (right_frame s) _ _ (λ _ e. (eqb-true (length s) 9 q, cc)) (λ _ e. absurd (cc)))
    (λ _ e. absurd (cc)))
    (λ _ e. absurd (cc))

-- ---- .. and the lent lengths
pub ready : (ours : ℕ) (s p m b : List ℕ) (c : Command) → Ok c ≡ taken_of ours s → lent p m b ≡ true → Ready c s p m
ready ours s p m b c e h =
    let f = framed ours s c e in
    let u = each (is_program_store p && is_parameter_store m) (eqb (length b) 9) h in
    let v = each (is_program_store p) (is_parameter_store m) u.0 in
    record { nine = f.0; command = f.1; program = eqb-true (length p) 7168 v.0; cells = v.1 }
