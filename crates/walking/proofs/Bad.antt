-- The lowest bad point of an address, by where it leads. Assumes nothing.
use Prim.Native.Nat.{ℕ, ◌+◌, ◌*◌, ◌%◌, ◌<◌, ◌≤◌}
use native.Mathlib.Omega.{arith}
use native.Mathlib.Decide.{dec_lt}
use mathlib.Core.Path.{◌≡◌, refl, sym, ap, ◌∙◌, subst}
use mathlib.Core.Logic.{◌⊎◌, inl, inr, ⊎_elim}
use mathlib.Core.Bool.{Bool, true, false}
use lib.Dec.{eqb, leb, ltb}
use borrow.Author.Tests.{eqb-true, leb-true, ltb-true, ltb-false}
use Rattle.std.proofs.Common.{Option, Some, None, Result, Ok, Err}
use Rattle.words.specs.Word.{pick}
use Rattle.words.proofs.Bools.{either}
use Rattle.status.specs.Refusal.{status_of}
use Rattle.status.specs.declared.Refusal.{Refusal}
use Rattle.status.specs.declared.Status.{Status}
use Rattle.status.specs.declared.Status.TheVariants.{Unavailable}
use Rattle.points.specs.Points.{point}
use Rattle.points.specs.declared.Way.{Way}
use Rattle.points.specs.declared.Way.TheVariants as way
use Rattle.leading.specs.Depths.{at_depth}
use Rattle.leading.specs.declared.Paths.{Paths}
use Rattle.leading.specs.declared.Paths.TheVariants.{Nowhere, Back, To, Both, Call}
use Rattle.walking.specs.Walk.{Has, found, lowered, FoundBy, Noted}
use Rattle.walking.specs.declared.found.Found.{Found}
use Rattle.walking.proofs.Depths.{Least, depth-zero, zero-depth, deepest, not-deepest}

-- what the lower of f and a bad point has
pub record Lower (f : Option Found) (i : ℕ) (t : Status) (g : Option Found) : Type 0 where
  pub kept : (j : ℕ) → FoundBy f j → FoundBy g j
  pub at : (j : ℕ) → i ≤ j → FoundBy g j
  pub one : (g ≡ f) ⊎ (g ≡ Some (found i t))

lower : (f : Option Found) (i : ℕ) (t : Status) → Lower f i t (lowered f i t)
lower None i t = record { kept = λ j h. absurd h; at = λ j h. h; one = inr refl }
lower (Some f) i t =
    either (Lower (Some f) i t) (ltb i f.number) (Some (found i t)) (Some f)
    (λ u. let l = ltb-true i f.number u in record { kept = λ j h. omega arith; at = λ j h. h; one = inr refl })
    (λ u. let l = ltb-false i f.number u in record { kept = λ j h. h; at = λ j h. omega arith; one = inl refl })

module _ (paths : Result Paths Refusal) (a m : ℕ) (f : Option Found) where
  -- no point there is bad
  noted-none : ((d : ℕ) (t : Status) → Has m d → at_depth paths d ≡ way.Bad t → ⊥) → Noted paths a m f f
  noted-none n = record { lower = λ i h. h; least = λ d t h e. absurd (n d t h e); real = inl refl }

  -- the one at d is, and none below
  noted-at : (d : ℕ) (s : Status) → Has m d → at_depth paths d ≡ way.Bad s → ((e : ℕ) (t : Status) → Has m e → at_depth paths e ≡ way.Bad t → d ≤ e)
      → Noted paths a m f (lowered f (a * 9 + d) s)
  noted-at d s h b n =
      let l = lower f (a * 9 + d) s in
      record {
        lower = l.kept;
        least = λ e t k g. l.at (a * 9 + e) (let q = n e t k g in omega arith);
        real = ⊎_elim inl (λ e. inr (d, s, e, h, b)) l.one;
      }

-- bad by the test b alone
bad-by : (b : Bool) (s t : Status) (w : Way) → (w ≡ way.Bad t → ⊥) → pick b (way.Bad s) w ≡ way.Bad t → b ≡ true
bad-by true s t w n e = refl
bad-by false s t w n e = absurd (n e)

nowhere : (t : Status) → way.Nowhere ≡ way.Bad t → ⊥
nowhere t e = let z : ◌≡◌ {A = ℕ} 0 1 = cc in omega arith

to : (b d : ℕ) (t : Status) → way.To (point b d) ≡ way.Bad t → ⊥
to b d t e = let z : ◌≡◌ {A = ℕ} 0 1 = cc in omega arith

both : (b d c e : ℕ) (t : Status) → way.Both (point b d) (point c e) ≡ way.Bad t → ⊥
both b d c e t g = let z : ◌≡◌ {A = ℕ} 0 1 = cc in omega arith

-- ---- by where the address leads
module _ (a m : ℕ) (f : Option Found) where
  pub noted-bad : (s : Refusal) (d : ℕ) → Least m d → Noted (Err s) a m f (lowered f (a * 9 + d) (status_of s))
  noted-bad s d l =
      noted-at (Err s) a m f d (status_of s) l.here refl (λ e t h _. elim (dec_lt e d) [ yes y ↦ absurd (l.none e y h) | no z ↦ omega arith ])

  pub noted-nowhere : Noted (Ok Nowhere) a m f f
  noted-nowhere = noted-none (Ok Nowhere) a m f (λ d t _. nowhere t)

  pub noted-to : (b : ℕ) → Noted (Ok (To b)) a m f f
  noted-to b = noted-none (Ok (To b)) a m f (λ d t _. to b d t)

  pub noted-both : (b c : ℕ) → Noted (Ok (Both b c)) a m f f
  noted-both b c = noted-none (Ok (Both b c)) a m f (λ d t _. both b d c d t)

  pub noted_back : m % 2 ≡ 1 → Noted (Ok Back) a m f (lowered f (a * 9) Unavailable)
  noted_back h =
      let e : a * 9 + 0 ≡ a * 9 = omega arith in
      subst (λ i. Noted (Ok Back) a m f (lowered f i Unavailable)) e
      (noted-at (Ok Back) a m f 0 Unavailable (depth-zero m h) refl (λ e t _ _. omega arith))

  pub back_none : (m % 2 ≡ 1 → ⊥) → Noted (Ok Back) a m f f
  back_none n =
      noted-none (Ok Back) a m f
      (λ d t h e. let z = eqb-true d 0 (bad-by (eqb d 0) Unavailable t way.Nowhere (nowhere t) e) in
      n (zero-depth m (subst (Has m) z h)))

  module _ (b c : ℕ) where
    call-bad : (d : ℕ) (t : Status) → at_depth (Ok (Call b c)) d ≡ way.Bad t → 8 ≤ d
    call-bad d t e =
        leb-true 8 d (bad-by (leb 8 d) Unavailable t (way.Both (point b (d + 1)) (point c d)) (both b (d + 1) c d t) e)

    pub noted_call : 256 ≤ m → m < 512 → Noted (Ok (Call b c)) a m f (lowered f (a * 9 + 8) Unavailable)
    noted_call h l = noted-at (Ok (Call b c)) a m f 8 Unavailable (deepest m h l) refl (λ d t _ e. call-bad d t e)

    pub call_none : m < 256 → Noted (Ok (Call b c)) a m f f
    call_none l = noted-none (Ok (Call b c)) a m f (λ d t h e. let q = call-bad d t e in omega (arith, not-deepest m d l h))

pub shown : {paths p : Result Paths Refusal} {a m : ℕ} {f g i : Option Found} → paths ≡ p → g ≡ i → Noted p a m f i → Noted paths a m f g
shown {paths} {p} {a} {m} {f} {g} e q n = subst (λ v. Noted v a m f g) (sym e) (subst (Noted p a m f) (sym q) n)

pub led : {paths : Result Paths Refusal} {p q : Paths} → paths ≡ Ok p → p ≡ q → paths ≡ Ok q
led e f = e ∙ ap Ok f
