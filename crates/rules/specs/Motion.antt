-- "1 ROR v, 2 ROL v (order velocity v or -v; v within plus or minus parameter 43), 3 MST, 4 MVP (type 0 ABS; 1 REL adds to
-- parameter 52 and must fit 32 bits; both set parameter 50)"
use Rattle.std.specs.Prelude.{ℕ, Bool, List, eqb, ℤ, pos, negsuc, neg_ℤ, ◌+ℤ◌}
use Rattle.words.specs.Word.{pick, word}
use Rattle.words.specs.declared.Word.{Word}
use Rattle.order.specs.Order.{in_range}
use Rattle.sheet.specs.Places.{axis_place}
use Rattle.values.specs.Values.{value_at}
use Rattle.registers.specs.declared.Order.TheVariants.{Stopped, Velocity}
use Rattle.status.specs.declared.Status.TheVariants.{Value}
use Rattle.rules.specs.Effects.{Effect, Refused, Turn, Move}

-- an axis parameter
abbrev pub parameter : ℕ → List ℤ → Word
parameter n values = value_at values (axis_place n)

-- "within plus or minus": both ends belong to it
unfoldable pub within_limit : ℤ → ℤ → Bool
within_limit limit v = in_range (neg_ℤ limit) limit v

abbrev pub turn : ℤ → Effect
turn v = Turn Velocity (word v)

unfoldable pub right_within : ℤ → ℤ → Effect
right_within limit v = pick (within_limit limit v) (turn v) (Refused Value)

unfoldable pub left_within : ℤ → ℤ → Effect
left_within limit v = pick (within_limit limit v) (turn (neg_ℤ v)) (Refused Value)

abbrev pub stop : Effect
stop = Turn Stopped (word (pos 0))

-- "must fit 32 bits"
abbrev pub is_word : ℤ → Bool
is_word z = in_range (negsuc 2147483647) (pos 2147483647) z

unfoldable pub move_by : ℤ → ℤ → Effect
move_by a v = pick (is_word (a +ℤ v)) (Move (word (a +ℤ v))) (Refused Value)

unfoldable pub move_to : ℕ → Word → List ℤ → Effect
move_to kind w values = pick (eqb kind 0) (Move w) (move_by (parameter 52 values).v w.v)
