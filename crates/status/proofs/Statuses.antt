-- A status is done or it is not, and what was right where it is. Assumes nothing.
use mathlib.Core.Path.{◌≡◌, refl, sym, ap, ◌∙◌}
use lib.Dec.{eqb}
use mathlib.Core.Bool.{Bool, true, false, true≢false, false≢true}
use Rattle.status.specs.Status.{number_of, is_done, in_order}
use Rattle.status.specs.declared.Status.{Status}
use Rattle.status.specs.declared.Status.TheVariants.{Done, Stored, Checksum, Unknown, Kind, Value, Locked, Unavailable}

-- what holds of each holds of every one
pub by-status : (P : Status → Type 0) → P Done → P Stored → P Checksum → P Unknown → P Kind → P Value → P Locked → P Unavailable → (s : Status) → P s
by-status P a b c d e f g h Done = a
by-status P a b c d e f g h Stored = b
by-status P a b c d e f g h Checksum = c
by-status P a b c d e f g h Unknown = d
by-status P a b c d e f g h Kind = e
by-status P a b c d e f g h Value = f
by-status P a b c d e f g h Locked = g
by-status P a b c d e f g h Unavailable = h

pub is-done : (s : Status) → is_done s ≡ true → s ≡ Done
is-done = by-status (λ s. is_done s ≡ true → s ≡ Done) (λ _. refl) no no no no no no no
  where
    no : {A : Type 0} → false ≡ true → A
    no e = absurd (false≢true e)

pub not_done : (s : Status) → is_done s ≡ false → s ≡ Done → ⊥
not_done s f e = true≢false (sym (ap is_done e) ∙ f)

pub number-done : (s : Status) → eqb (number_of s) 100 ≡ is_done s
number-done = by-status (λ s. eqb (number_of s) 100 ≡ is_done s) refl refl refl refl refl refl refl refl

-- the five tests of the order of refusals
pub all_right : (available motor kind value unlocked : Bool) → is_done (in_order available motor kind value unlocked) ≡ true
    → (available ≡ true) × (motor ≡ true) × (kind ≡ true) × (value ≡ true) × (unlocked ≡ true)
all_right true true true true true h = (refl, refl, refl, refl, refl)
all_right true true true true false h = absurd (false≢true h)
all_right true true true false unlocked h = absurd (false≢true h)
all_right true true false value unlocked h = absurd (false≢true h)
all_right true false kind value unlocked h = absurd (false≢true h)
all_right false motor kind value unlocked h = absurd (false≢true h)
