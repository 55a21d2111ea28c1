-- Where a point leads: "JA leads to its target; JC to its target and the next; CSUB to its target one deeper and to the next at the
-- same depth; STOP and RSUB nowhere; all else to the next. .. A bad point leads nowhere."
use Rattle.std.specs.Prelude.{ℕ, ◌+◌, ◌&&◌, List, eqb}
use Rattle.words.specs.Word.{pick}
use Rattle.wire.specs.declared.Command.{Command}
use Rattle.store.specs.Store.{record_at}
use Rattle.registers.specs.Registers.{next_address}
use Rattle.jumping.specs.Jump.{address_of}
use Rattle.status.specs.Status.{is_done}
use Rattle.status.specs.declared.Status.{Status}
use Rattle.status.specs.declared.Status.TheVariants.{Done, Value, Unavailable}
use Rattle.judge.specs.Judge.{judged}
use Rattle.points.specs.Points.{point, is_end, is_deepest}
use Rattle.points.specs.declared.Point.{Point}
use Rattle.points.specs.declared.Way.{Way}
use Rattle.points.specs.declared.Way.TheVariants.{Bad, Nowhere, To, Both}

-- ---- bad points
-- "Bad: .. CSUB at depth 8; RSUB at depth 0"
unfoldable pub by_depth : Command → Point → Status
by_depth r p =
    pick (eqb r.number 23 && is_deepest p) Unavailable (pick (eqb r.number 24 && eqb p.depth 0) Unavailable Done)

-- "Bad: .. a record that would get 2 or 3; a wrong motor or bank; a value wrong by itself": what the judge refuses
unfoldable pub record_status : Command → Point → Status
record_status r p = pick (is_done (judged r)) (by_depth r p) (judged r)

-- "Bad: address 1,024": the status of a point, which is bad exactly if that is not 100
unfoldable pub status_at : List ℕ → Point → Status
status_at program p = pick (is_end p) Value (record_status (record_at program p.address) p)

-- ---- the points that one leads to
abbrev pub next : Point → Point
next p = point (next_address p.address) p.depth

abbrev pub target : Command → ℕ → Point
target r depth = point (address_of r.value.v) depth

unfoldable pub onward : Command → Point → Way
onward r p =
    pick (eqb r.number 22) (To (target r p.depth))
    (pick (eqb r.number 21) (Both (target r p.depth) (next p))
    (pick (eqb r.number 23) (Both (target r (p.depth + 1)) (next p))
    (pick (eqb r.number 28) Nowhere
    (pick (eqb r.number 24) Nowhere
    (To (next p))))))

abbrev pub unless_bad : Status → Way → Way
unless_bad s w = pick (is_done s) w (Bad s)

unfoldable pub way_at : List ℕ → Point → Way
way_at program p = unless_bad (status_at program p) (onward (record_at program p.address) p)
