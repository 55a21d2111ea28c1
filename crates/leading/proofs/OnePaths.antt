-- The depths 0 and 1 tell the six kinds of paths apart. Assumes nothing.
use Prim.Native.Nat.{ℕ}
use mathlib.Core.Path.{◌≡◌, refl, sym, ap, ◌∙◌}
use lib.Dec.{eqb}
use Rattle.std.proofs.Common.{Result, Ok, Err}
use Rattle.words.specs.Word.{pick}
use Rattle.status.specs.declared.Refusal.{Refusal}
use Rattle.status.specs.declared.Refusal.TheVariants.{Unknown, Kind, Value, Locked, Unavailable}
use Rattle.status.specs.declared.Status.{Status}
use Rattle.status.specs.declared.Status.TheVariants as status
use Rattle.points.specs.declared.Point.{Point}
use Rattle.points.specs.declared.Way.{Way}
use Rattle.points.specs.declared.Way.TheVariants as way
use Rattle.leading.specs.Depths.{at_depth, AtEach}
use Rattle.leading.specs.declared.Paths.{Paths}
use Rattle.leading.specs.declared.Paths.TheVariants.{Nowhere, Back, To, Both, Call}

-- the refusal that a status is, if it is one
abbrev refusal_of : Status → Refusal
refusal_of status.Done = Unknown
refusal_of status.Stored = Unknown
refusal_of status.Checksum = Unknown
refusal_of status.Unknown = Unknown
refusal_of status.Kind = Kind
refusal_of status.Value = Value
refusal_of status.Locked = Locked
refusal_of status.Unavailable = Unavailable

-- the paths that have these ways at the depths 0 and 1
abbrev from-two : Way → Way → Result Paths Refusal
from-two (way.Bad s) (way.Bad t) = Err (refusal_of s)
from-two (way.Bad s) way.Nowhere = Ok Back
from-two (way.Bad s) (way.To p) = Ok Back
from-two (way.Bad s) (way.Both p q) = Ok Back
from-two way.Nowhere w = Ok Nowhere
from-two (way.To p) w = Ok (To p.address)
from-two (way.Both p q) w = pick (eqb p.depth 0) (Ok (Both p.address q.address)) (Ok (Call p.address q.address))

told : (x : Result Paths Refusal) → from-two (at_depth x 0) (at_depth x 1) ≡ x
told (Err Unknown) = refl
told (Err Kind) = refl
told (Err Value) = refl
told (Err Locked) = refl
told (Err Unavailable) = refl
told (Ok Nowhere) = refl
told (Ok Back) = refl
told (Ok (To a)) = refl
told (Ok (Both a b)) = refl
told (Ok (Call a b)) = refl

pub one_paths : (f : Point → Way) (a : ℕ) (x y : Result Paths Refusal) → AtEach f a x → AtEach f a y → x ≡ y
one_paths f a x y h k =
    let p : at_depth x 0 ≡ at_depth y 0 = sym (h 0) ∙ k 0 in
    let q : at_depth x 1 ≡ at_depth y 1 = sym (h 1) ∙ k 1 in
    sym (told x) ∙ ap (λ (w : Way). from-two w (at_depth x 1)) p ∙ ap (from-two (at_depth y 0)) q ∙ told y
