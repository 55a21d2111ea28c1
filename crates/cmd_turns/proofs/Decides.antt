-- A command refused by the judge, and one that it lets through. Assumes nothing.
use Prim.Native.Nat.{ℕ}
use mathlib.Core.Path.{◌≡◌, refl, sym, ap, ◌∙◌}
use mathlib.Core.Bool.{Bool, true, false}
use mathlib.Core.List.{List}
use lib.Dec.{eqb}
use Rattle.std.specs.Prelude.{Err}
use Rattle.words.proofs.Bools.{is_T}
use Rattle.wire.specs.declared.Command.{Command}
use Rattle.status.specs.Status.{is_done, is_unknown, in_order}
use Rattle.status.specs.Refusal.{status_of}
use Rattle.status.specs.declared.Status.{Status}
use Rattle.status.specs.declared.Status.TheVariants as status
use Rattle.status.specs.declared.Refusal.{Refusal}
use Rattle.status.specs.declared.Refusal.TheVariants as refusal
use Rattle.fields.specs.Fields.{by_bytes}
use Rattle.judge.specs.Judge.{judged, numbered}
use Rattle.board.specs.declared.Registers.{Registers}
use Rattle.cmd_turns.specs.declared.Deed.TheVariants.{Dropped}
use Rattle.cmd_turns.specs.Turn.{turned, through}
use Rattle.cmd_turns.specs.Deed.{doing, comes_to}

-- no order of refusals has 2 in it
pub known : (a b c d e : Bool) → is_unknown (in_order a b c d e) ≡ false
known false b c d e = refl
known true false c d e = refl
known true true false d e = refl
known true true true false e = refl
known true true true true false = refl
known true true true true true = refl

done-known : (s : Status) → is_done s ≡ true → is_unknown s ≡ false
done-known status.Done e = refl
done-known status.Stored e = absurd (is_T false e)
done-known status.Checksum e = absurd (is_T false e)
done-known status.Unknown e = absurd (is_T false e)
done-known status.Kind e = absurd (is_T false e)
done-known status.Value e = absurd (is_T false e)
done-known status.Locked e = absurd (is_T false e)
done-known status.Unavailable e = absurd (is_T false e)

-- nothing that is refused is done
pub refusal-not-done : (e : Refusal) → is_done (status_of e) ≡ false
refusal-not-done refusal.Unknown = refl
refusal-not-done refusal.Kind = refl
refusal-not-done refusal.Value = refl
refusal-not-done refusal.Locked = refl
refusal-not-done refusal.Unavailable = refl

module _ (k : ℕ) (c : Command) (r : Registers) (m : List ℕ) where
  -- what the judge refuses goes on with its status; a WAIT drops the wait
  module _ (motor kind value : Bool) (j : judged (numbered k c) ≡ by_bytes motor kind value) (refusal : Refusal)
      (e : status_of refusal ≡ by_bytes motor kind value) where
    not-unknown : is_unknown (status_of refusal) ≡ false
    not-unknown = ap is_unknown e ∙ known true motor kind value true

    pub refuses : eqb k 27 ≡ false → comes_to (Err refusal) r m ≡ turned (numbered k c) r m
    unfolding turned
    refuses n = rw (j ∙ sym e, not-unknown, refusal-not-done refusal, n)

    pub drops : eqb k 27 ≡ true → doing (Dropped refusal) r m ≡ turned (numbered k c) r m
    unfolding turned doing
    drops n = rw (j ∙ sym e, not-unknown, refusal-not-done refusal, n)

  -- what it lets through is carried out
  pub passes : judged (numbered k c) ≡ status.Done → turned (numbered k c) r m ≡ through (numbered k c) r m
  unfolding turned
  passes j = rw j
