-- The walk's state, and what one look at an address does to it.
use Rattle.std.specs.Prelude.{ℕ, ◌+◌, ◌-◌, ◌*◌, ◌/◌, ◌%◌, ◌<◌, ◌≤◌, ◌≡◌, ◌⊎◌, List, [], ◌∷◌, Option, Some, None, Result, Ok, Err, eqb, ltb, length, get_or, set}
use Rattle.std.specs.Int.{bit_at}
use Rattle.std.specs.Int.Bits.{bit_or}
use Rattle.words.specs.Word.{pick}
use Rattle.status.specs.declared.Refusal.{Refusal}
use Rattle.status.specs.declared.Status.{Status}
use Rattle.points.specs.declared.Way.TheVariants as way
use Rattle.leading.specs.Depths.{at_depth}
use Rattle.leading.specs.declared.Paths.{Paths}
use Rattle.leading.specs.declared.Paths.TheVariants.{Nowhere, Back, To, Both, Call}
use Rattle.walking.specs.declared.found.Found.{Found}
use Rattle.walking.specs.declared.walk.Site.{Site}

-- ---- depths: a number with bit d for the depth d
-- depth d is one of those
abbrev pub Has : ℕ → ℕ → Type 0
Has m d = bit_at m d ≡ 1

-- the first point is at address 0 and depth 0
abbrev pub IsFirst : Site → Type 0
IsFirst s = (s.address ≡ 0) × (s.depths ≡ 1)

-- ---- a mask for each of the 1,025 addresses: the depths at which it was reached, and 512 more while it waits to be looked at; a
-- stack of the addresses that wait; and how many stand there
pub record Walk : Type 0 where
  pub masks : List ℕ
  pub stack : List ℕ
  pub n : ℕ

abbrev pub walk : List ℕ → List ℕ → ℕ → Walk
walk v s n = record { masks = v; stack = s; n = n }

abbrev pub mask_at : Walk → ℕ → ℕ
mask_at x a = get_or x.masks a 0

abbrev pub depths_at : Walk → ℕ → ℕ
depths_at x a = mask_at x a % 512

-- .. with the address in hand, to be looked at next, and its depths, unless nothing is left
pub record Hand : Type 0 where
  pub address : ℕ
  pub depths : ℕ

pub record Held : Type 0 where
  pub walk : Walk
  pub hand : Option Hand

abbrev pub held : Walk → ℕ → ℕ → Held
held x a m = record { walk = x; hand = Some (record { address = a; depths = m }) }

abbrev pub idle : Walk → Held
idle x = record { walk = x; hand = None }

abbrev pub in_hand : Walk → Option Site → Held
in_hand x None = idle x
in_hand x (Some s) = held x s.address s.depths

-- ---- what the walk does
-- the depths of an address with those at which it is reached
abbrev pub joined : Walk → ℕ → ℕ → ℕ
joined x a m = bit_or (depths_at x a) m

-- it waits then, unless none of them is new
unfoldable pub reached : Walk → ℕ → ℕ → Walk
reached x a m =
    pick (eqb (joined x a m) (depths_at x a)) x
    (pick (ltb (mask_at x a) 512) (walk (set x.masks a (joined x a m + 512)) (set x.stack x.n a) (x.n + 1))
    (walk (set x.masks a (joined x a m + 512)) x.stack x.n))

abbrev pub top : Walk → ℕ
top x = get_or x.stack (x.n - 1) 0

-- the last address of the stack in hand
unfoldable pub taken : Walk → Held
taken x =
    pick (eqb x.n 0) (idle x)
    (held (walk (set x.masks (top x) (depths_at x (top x))) x.stack (x.n - 1)) (top x) (depths_at x (top x)))

-- an address reached, and in hand at once if one of its depths is new and it does not wait
unfoldable pub gone : Walk → ℕ → ℕ → Held
gone x a m =
    pick (ltb (mask_at x a) 512)
    (pick (eqb (joined x a m) (depths_at x a)) (taken (reached x a m)) (held (walk (set x.masks a (joined x a m)) x.stack x.n) a (joined x a m)))
    (taken (reached x a m))

-- the depths of an address that leads so
abbrev pub spread_over : Walk → ℕ → Result Paths Refusal → Held
spread_over x m (Err s) = taken x
spread_over x m (Ok Nowhere) = taken x
spread_over x m (Ok Back) = taken x
spread_over x m (Ok (To a)) = gone x a m
spread_over x m (Ok (Both a b)) = gone (reached x a m) b m
spread_over x m (Ok (Call a b)) = gone (reached x a (m % 256 * 2)) b (m % 256)

-- ---- what was found
abbrev pub found : ℕ → Status → Found
found i s = record { number = i; status = s }

-- the lower one
abbrev pub lowered : Option Found → ℕ → Status → Option Found
lowered None i s = Some (found i s)
lowered (Some f) i s = pick (ltb i f.number) (Some (found i s)) (Some f)

-- a bad point was found, and its number is not after i
abbrev pub FoundBy : Option Found → ℕ → Type 0
FoundBy None i = ⊥
FoundBy (Some f) i = f.number ≤ i

-- g is the lowest of f and the bad points at the address a and the depths m
pub record Noted (paths : Result Paths Refusal) (a m : ℕ) (f g : Option Found) : Type 0 where
  pub lower : (i : ℕ) → FoundBy f i → FoundBy g i
  pub least : (d : ℕ) (t : Status) → Has m d → at_depth paths d ≡ way.Bad t → FoundBy g (a * 9 + d)
  pub real : (g ≡ f) ⊎ ((d : ℕ) × (t : Status) × (g ≡ Some (found (a * 9 + d) t)) × Has m d × (at_depth paths d ≡ way.Bad t))

-- ---- what is true of every state
unfoldable pub total : (ℕ → ℕ) → List ℕ → ℕ
total g [] = 0
total g (v ∷ vs) = g v + total g vs

-- there is room for every address that does not wait: no more are on the stack than wait
pub record Room (x : Walk) : Type 0 where
  pub masks : length x.masks ≡ 1025
  pub slots : length x.stack ≡ 1025
  pub small : (a : ℕ) → mask_at x a < 1024
  pub counted : x.n ≤ total (λ v. v / 512) x.masks
  pub filled : (k : ℕ) → k < x.n → 0 < depths_at x (get_or x.stack k 0)

-- an address leads to addresses only
abbrev pub EndsIn : Result Paths Refusal → Type 0
EndsIn (Err s) = Unit {0}
EndsIn (Ok Nowhere) = Unit {0}
EndsIn (Ok Back) = Unit {0}
EndsIn (Ok (To a)) = a ≤ 1024
EndsIn (Ok (Both a b)) = (a ≤ 1024) × (b ≤ 1024)
EndsIn (Ok (Call a b)) = (a ≤ 1024) × (b ≤ 1024)

-- nothing reached yet
pub record Blank (x : Walk) : Type 0 where
  pub masks : length x.masks ≡ 1025
  pub slots : length x.stack ≡ 1025
  pub empty : x.n ≡ 0
  pub clear : (a : ℕ) → mask_at x a ≡ 0
