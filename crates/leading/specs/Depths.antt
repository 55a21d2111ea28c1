-- Where the points of one address lead, all depths together.
use Rattle.std.specs.Prelude.{ℕ, ◌+◌, ◌≡◌, Result, Ok, Err, eqb, leb}
use Rattle.words.specs.Word.{pick}
use Rattle.wire.specs.declared.Command.{Command}
use Rattle.registers.specs.Registers.{next_address}
use Rattle.jumping.specs.Jump.{address_of}
use Rattle.status.specs.Refusal.{status_of}
use Rattle.status.specs.declared.Refusal.{Refusal}
use Rattle.status.specs.declared.Status.{Status}
use Rattle.status.specs.declared.Status.TheVariants.{Done, Unavailable}
use Rattle.judge.specs.Judge.{judged}
use Rattle.points.specs.Points.{point}
use Rattle.points.specs.declared.Point.{Point}
use Rattle.points.specs.declared.Way.{Way}
use Rattle.points.specs.declared.Way.TheVariants as way
use Rattle.leading.specs.declared.Paths.{Paths}
use Rattle.leading.specs.declared.Paths.TheVariants.{Nowhere, Back, To, Both, Call}

-- the way of one depth; what is refused is bad at every depth
abbrev pub at_depth : Result Paths Refusal → ℕ → Way
at_depth (Err refusal) d = way.Bad (status_of refusal)
at_depth (Ok Nowhere) d = way.Nowhere
at_depth (Ok Back) d = pick (eqb d 0) (way.Bad Unavailable) way.Nowhere
at_depth (Ok (To a)) d = way.To (point a d)
at_depth (Ok (Both a b)) d = way.Both (point a d) (point b d)
at_depth (Ok (Call a b)) d = pick (leb 8 d) (way.Bad Unavailable) (way.Both (point a (d + 1)) (point b d))

-- the points of the address a lead so
abbrev pub AtEach : (Point → Way) → ℕ → Result Paths Refusal → Type 0
AtEach way a paths = (d : ℕ) → way (point a d) ≡ at_depth paths d

-- ---- the paths of a record
-- a record of this status leads so, or is refused with it
abbrev pub Led : Status → Paths → Result Paths Refusal → Type 0
Led s onward (Ok paths) = (s ≡ Done) × (paths ≡ onward)
Led s onward (Err refusal) = s ≡ status_of refusal

-- a record that the judge lets through, at the address a
unfoldable pub paths_on : Command → ℕ → Paths
paths_on r a =
    pick (eqb r.number 22) (To (address_of r.value.v))
    (pick (eqb r.number 21) (Both (address_of r.value.v) (next_address a))
    (pick (eqb r.number 23) (Call (address_of r.value.v) (next_address a))
    (pick (eqb r.number 28) Nowhere
    (pick (eqb r.number 24) Back
    (To (next_address a))))))

abbrev pub PathsOf : Command → ℕ → Result Paths Refusal → Type 0
PathsOf r a = Led (judged r) (paths_on r a)
