-- Each answer is made again from its number. Assumes nothing.
use Prim.Native.Nat.{ℕ}
use mathlib.Core.Path.{◌≡◌, refl, sym, ap, ◌∙◌}
use lib.Dec.{eqb}
use Rattle.std.specs.Prelude.{Option, Some, None, Result, Ok, Err, IfOk}
use Rattle.words.specs.Word.{pick}
use Rattle.status.specs.Status.{number_of}
use Rattle.status.specs.declared.Status.{Status}
use Rattle.status.specs.declared.Status.TheVariants as status
use Rattle.status.specs.declared.Refusal.{Refusal}
use Rattle.status.specs.declared.Refusal.TheVariants as refusal
use Rattle.status.specs.declared.Misfit.{Misfit}
use Rattle.status.specs.declared.Misfit.TheVariants.{Length, Sample, Budget, Registers}
use Rattle.status.specs.Refusal.{judged_as}
use Rattle.status.specs.Misfit.{told}
use Rattle.cmd_turns.specs.declared.Obeyed.{Obeyed}
use Rattle.cmd_turns.specs.Obeyed.{obeyed_as}
use Rattle.machine.specs.declared.Made.{Made}
use Rattle.board_runs.specs.Run.{Ran, numbers_of}
use Rattle.board_datagrams.specs.Datagram.{number_answered}
use Rattle.board_by_value.specs.Step.{number_stepped}
use Rattle.law_events.specs.Known.{Known}

-- two that are made from one thing are one
known : {A B : Type 0} → (to : A → B) (back : B → A) → ((x : A) → back (to x) ≡ x) → (x y : A) → to x ≡ to y → x ≡ y
known to back again x y e = sym (again x) ∙ ap back e ∙ again y

-- ---- a status
abbrev status_of : ℕ → Status
status_of n =
    pick (eqb n 100) status.Done
    (pick (eqb n 101) status.Stored
    (pick (eqb n 1) status.Checksum
    (pick (eqb n 2) status.Unknown
    (pick (eqb n 3) status.Kind
    (pick (eqb n 4) status.Value
    (pick (eqb n 5) status.Locked status.Unavailable))))))

-- ---- a judge's
abbrev judged : Status → Result Unit Refusal
judged status.Done = Ok tt
judged status.Stored = Ok tt
judged status.Checksum = Ok tt
judged status.Unknown = Err refusal.Unknown
judged status.Kind = Err refusal.Kind
judged status.Value = Err refusal.Value
judged status.Locked = Err refusal.Locked
judged status.Unavailable = Err refusal.Unavailable

judged_again : (x : Result Unit Refusal) → judged (judged_as x) ≡ x
judged_again (Ok u) = refl
judged_again (Err refusal.Unknown) = refl
judged_again (Err refusal.Kind) = refl
judged_again (Err refusal.Value) = refl
judged_again (Err refusal.Locked) = refl
judged_again (Err refusal.Unavailable) = refl

-- ---- what does not fit, or what else is answered
abbrev fitted : {A : Type 0} → ℕ → Result A Misfit → Result A Misfit
fitted n other =
    pick (eqb n 20) (Err Length) (pick (eqb n 21) (Err Sample) (pick (eqb n 22) (Err Budget) (pick (eqb n 23) (Err Registers) other)))

told_again : (x : Result Unit Misfit) → fitted (told x) (Ok tt) ≡ x
told_again (Ok u) = refl
told_again (Err Length) = refl
told_again (Err Sample) = refl
told_again (Err Budget) = refl
told_again (Err Registers) = refl

abbrev replied : ℕ → Result (Option Status) Misfit
replied n = fitted n (Ok (pick (eqb n 0) None (Some (status_of n))))

replied_again : (x : Result (Option Status) Misfit) → replied (number_answered x) ≡ x
replied_again (Ok None) = refl
replied_again (Ok (Some status.Done)) = refl
replied_again (Ok (Some status.Stored)) = refl
replied_again (Ok (Some status.Checksum)) = refl
replied_again (Ok (Some status.Unknown)) = refl
replied_again (Ok (Some status.Kind)) = refl
replied_again (Ok (Some status.Value)) = refl
replied_again (Ok (Some status.Locked)) = refl
replied_again (Ok (Some status.Unavailable)) = refl
replied_again (Err Length) = refl
replied_again (Err Sample) = refl
replied_again (Err Budget) = refl
replied_again (Err Registers) = refl

abbrev made : Ran → Result Made Misfit
made r = fitted r.status (Ok (record { status = status_of r.status; steps = r.steps }))

status_again : (s : Status) (n : ℕ) → made (numbers_of (Ok (record { status = s; steps = n }))) ≡ Ok (record { status = s; steps = n })
status_again status.Done n = refl
status_again status.Stored n = refl
status_again status.Checksum n = refl
status_again status.Unknown n = refl
status_again status.Kind n = refl
status_again status.Value n = refl
status_again status.Locked n = refl
status_again status.Unavailable n = refl

made_again : (x : Result Made Misfit) → made (numbers_of x) ≡ x
made_again (Ok m) = status_again m.status m.steps
made_again (Err Length) = refl
made_again (Err Sample) = refl
made_again (Err Budget) = refl
made_again (Err Registers) = refl

-- ---- a step by value
abbrev stepped : ℕ → Result Status Misfit
stepped n = fitted n (Ok (status_of n))

stepped_again : (x : Result Status Misfit) → stepped (number_stepped x) ≡ x
stepped_again (Ok status.Done) = refl
stepped_again (Ok status.Stored) = refl
stepped_again (Ok status.Checksum) = refl
stepped_again (Ok status.Unknown) = refl
stepped_again (Ok status.Kind) = refl
stepped_again (Ok status.Value) = refl
stepped_again (Ok status.Locked) = refl
stepped_again (Ok status.Unavailable) = refl
stepped_again (Err Length) = refl
stepped_again (Err Sample) = refl
stepped_again (Err Budget) = refl
stepped_again (Err Registers) = refl

-- ---- storing: what is not stored is refused
abbrev storing : Status → Obeyed → Result Obeyed Refusal
storing status.Done o = Ok o
storing status.Stored o = Ok o
storing status.Checksum o = Ok o
storing status.Unknown o = Err refusal.Unknown
storing status.Kind o = Err refusal.Kind
storing status.Value o = Err refusal.Value
storing status.Locked o = Err refusal.Locked
storing status.Unavailable o = Err refusal.Unavailable

storing_again : (x : Result Obeyed Refusal) → IfOk x (λ o. o.status ≡ status.Stored) → storing (obeyed_as x).status (obeyed_as x) ≡ x
storing_again (Ok o) e = rw e refl
storing_again (Err refusal.Unknown) e = refl
storing_again (Err refusal.Kind) e = refl
storing_again (Err refusal.Value) e = refl
storing_again (Err refusal.Locked) e = refl
storing_again (Err refusal.Unavailable) e = refl

one_stored : (x y : Result Obeyed Refusal) → IfOk x (λ o. o.status ≡ status.Stored) → IfOk y (λ o. o.status ≡ status.Stored) → obeyed_as x ≡ obeyed_as y → x ≡ y
one_stored x y s t e = sym (storing_again x s) ∙ ap (λ o. storing o.status o) e ∙ storing_again y t

pub laws : Known
laws =
    record {
      one_judged = known judged_as judged judged_again;
      one_told = known told (λ n. fitted n (Ok tt)) told_again;
      one_replied = known number_answered replied replied_again;
      one_made = known numbers_of made made_again;
      one_stepped = known number_stepped stepped stepped_again;
      one_stored = one_stored;
    }
