-- The events of the C door in a row: each is handed the image as the one before left it.
use Rattle.std.specs.Prelude.{ℕ, ◌<◌, ◌≡◌, List, ℤ, length, get_or}
use Rattle.words.specs.Laws.{AllBytes}
use Rattle.board.specs.Registers.{powered}
use Rattle.rules.specs.Events.{with_tick, with_sample}
use Rattle.reg_image.specs.Image.{registers_of}
use Rattle.board_events.specs.Standing.{Told}
use Rattle.board_events.specs.Events.{tick_status, power_status, sample_of, sample_status}
use Rattle.board_datagrams.specs.Datagram.{Answers}
use Rattle.board_runs.specs.Run.{Runs, Ran}

-- ---- the contracts of power-up, sample and tick: the image before and after, and the number answered
abbrev pub PowersUp : List ℕ → List ℕ → List ℕ → ℕ → Type 0
PowersUp cells l k n = Told (power_status cells) (powered cells) l k n

abbrev pub Samples : List ℤ → List ℕ → List ℕ → ℕ → Type 0
Samples fields l k n = Told (sample_status fields l) (with_sample (sample_of fields) (registers_of l)) l k n

abbrev pub Ticks : List ℕ → List ℕ → ℕ → Type 0
Ticks l k n = Told (tick_status l) (with_tick (registers_of l)) l k n

-- ---- one event, by the image before it and the image after it; the memory that is lent may be any, and bytes are below 256
pub data Happens : List ℕ → List ℕ → Type 0 where
  power-up : {l k : List ℕ} {n : ℕ} (cells : List ℕ) → PowersUp cells l k n → Happens l k
  sample : {l k : List ℕ} {n : ℕ} (fields : List ℤ) → Samples fields l k n → Happens l k
  tick : {l k : List ℕ} {n : ℕ} → Ticks l k n → Happens l k
  datagram : {bytes l p m b k p' m' b' : List ℕ} {n : ℕ} → AllBytes bytes → AllBytes p → Answers bytes l p m b n k p' m' b' → Happens l k
  run : {program l m k m' : List ℕ} {budget : ℕ} {r : Ran} → AllBytes program → Runs program budget l m r k m' → Happens l k

-- ---- events in a row; an image that is handed in has 137 numbers, as its type holds
pub data Row : List ℕ → List ℕ → Type 0 where
  none : {l : List ℕ} → Row l l
  also : {l k j : List ℕ} → length l ≡ 137 → Happens l k → Row k j → Row l j

-- an image that a power-up which was carried out leaves, or any row of events after it
pub data SincePowerUp : List ℕ → Type 0 where
  since : {l k j : List ℕ} {n : ℕ} (cells : List ℕ) → PowersUp cells l k n → n ≡ 100 → Row k j → SincePowerUp j

-- what the type of an image holds
pub record Numbers (l : List ℕ) : Type 0 where
  pub size : length l ≡ 137
  pub below : (i : ℕ) → get_or l i 0 < 4294967296
