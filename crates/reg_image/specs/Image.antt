-- The image: the registers as 137 numbers of 32 bits, each at its place. A word stands there by its bits. Registers that requests add
-- come before the globals; the axis parameters are the last, so that more of them can follow.
use Rattle.std.specs.Prelude.{ℕ, ◌≡◌, Bool, true, false, ◌&&◌, ◌||◌, List, [], ◌∷◌, ◌++◌, map, eqb, leb, ℤ, get_or, take, drop}
use Rattle.words.specs.Word.{word, of_bits, pick}
use Rattle.words.specs.declared.Word.{Word}
use Rattle.std.specs.declared.cmp.Ordering.{Ordering}
use Rattle.std.specs.declared.cmp.Ordering.TheVariants.{Less, Equal, Greater}
use Rattle.registers.specs.declared.Order.{Order}
use Rattle.registers.specs.declared.Order.TheVariants.{Stopped, Velocity, Position}
use Rattle.board.specs.declared.Registers.{Registers}

-- ---- what a number stands for
abbrev pub word_at : List ℕ → ℕ → Word
word_at l p = word (of_bits (get_or l p 0))

-- 0 equal, 1 greater, 4294967295 (-1) less
abbrev pub comparison_of : ℕ → Ordering
comparison_of n = pick (eqb n 0) Equal (pick (eqb n 1) Greater Less)

-- 0 stopped, 1 velocity, 2 position
abbrev pub order_of : ℕ → Order
order_of n = pick (eqb n 0) Stopped (pick (eqb n 1) Velocity Position)

abbrev pub is_on : ℕ → Bool
is_on n = eqb n 1

-- so many numbers from a place on
unfoldable pub part : List ℕ → ℕ → ℕ → List ℕ
part l from n = take n (drop from l)

unfoldable pub words : List ℕ → ℕ → ℕ → List ℤ
words l from n = map of_bits (part l from n)

-- ---- the registers that an image stands for, place by place
unfoldable pub registers_of : List ℕ → Registers
registers_of l =
    record {
      core =
          record {
            accumulator = word_at l 0;
            x = word_at l 1;
            last = comparison_of (get_or l 2 0);
            flags = record { eto = get_or l 3 0; eal = get_or l 4 0; edv = get_or l 5 0; epo = get_or l 6 0 };
            address = get_or l 7 0;
            running = is_on (get_or l 8 0);
            wait = record { armed = is_on (get_or l 9 0); count = get_or l 10 0; timed = is_on (get_or l 11 0) };
            motion = record { order = order_of (get_or l 14 0); velocity = word_at l 15 };
            depth = get_or l 25 0;
          };
      download = record { on = is_on (get_or l 12 0); address = get_or l 13 0 };
      outputs = part l 16 4;
      digital = part l 20 2;
      analog = words l 22 3;
      entries = part l 26 8;
      -- the axis parameters; globals and user variables
      values = words l 94 43 ++ words l 34 60;
    }

-- ---- which numbers a place takes, by its kind
pub data Kind : Type 0 where
  number : Kind
  bit : Kind
  comparison : Kind
  order : Kind

abbrev pub takes : Kind → ℕ → Bool
takes number n = true
takes bit n = leb n 1
takes comparison n = leb n 1 || eqb n 4294967295
takes order n = leb n 2

-- of places 0 to 14: last comparison; running; armed, timed; download mode; order. A place behind them takes every number, and 23
-- looks at the register.
abbrev pub kinds : List Kind
kinds =
    number
    ∷ number
    ∷ comparison
    ∷ number
    ∷ number
    ∷ number
    ∷ number
    ∷ number
    ∷ bit
    ∷ bit
    ∷ number
    ∷ bit
    ∷ bit
    ∷ number
    ∷ order
    ∷ []

abbrev pub all : List Kind → List ℕ → Bool
all [] l = true
all (k ∷ ks) [] = false
all (k ∷ ks) (n ∷ l) = takes k n && all ks l

-- each place has a number of its kind
unfoldable pub shaped : List ℕ → Bool
shaped l = all kinds l

-- what the image left stands for is f of what it stood for, and its places keep their kinds
pub record Leaves (f : Registers → Registers) (l m : List ℕ) : Type 0 where
  pub makes : registers_of m ≡ f (registers_of l)
  pub stays : shaped l ≡ true → shaped m ≡ true
