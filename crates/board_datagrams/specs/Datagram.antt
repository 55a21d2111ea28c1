-- What a datagram comes to over an image, in document 01's order: 20, 23, length, address, 1, the command.
use Rattle.std.specs.Prelude.{ℕ, ◌≡◌, true, false, ◌&&◌, List, pos, Option, None, Some, Result, Ok, Err}
use Rattle.words.specs.Word.{pick, word}
use Rattle.status.specs.Status.{number_of}
use Rattle.status.specs.declared.Status.{Status}
use Rattle.status.specs.Misfit.{misfit_number}
use Rattle.status.specs.declared.Misfit.{Misfit}
use Rattle.status.specs.declared.Status.TheVariants.{Checksum}
use Rattle.serial.specs.Serial.{taken_of}
use Rattle.replying.specs.Reply.{byte_of, addresses, Replies}
use Rattle.rules.specs.Datagram.{After, board, unchanged, received, lent}
use Rattle.reg_image.specs.Image.{registers_of, shaped}
use Rattle.reg_range.specs.Range.{stands}

unfoldable pub answered : List ℕ → List ℕ → List ℕ → List ℕ → List ℕ → After
answered bytes l p m b =
    pick (lent p m b)
    (pick (stands l) (received (taken_of (byte_of (registers_of l).values 66) bytes) (board (registers_of l) p m b)) (unchanged 23 (board (registers_of l) p m b)))
    (unchanged 20 (board (registers_of l) p m b))

-- the number answered: the reply's status, or 0 where there is none; .. or what does not fit
abbrev pub number_replied : Option Status → ℕ
number_replied None = 0
number_replied (Some status) = number_of status

abbrev pub number_answered : Result (Option Status) Misfit → ℕ
number_answered (Ok replied) = number_replied replied
number_answered (Err misfit) = misfit_number misfit

-- a number answered, and what is left of the image and the lent memory
pub record Gives (x : After) (l : List ℕ) (n : ℕ) (k p m b : List ℕ) : Type 0 where
  pub status : n ≡ x.status
  pub makes : registers_of k ≡ x.board.registers
  pub program : p ≡ x.board.program
  pub cells : m ≡ x.board.store
  pub reply : b ≡ x.board.reply
  pub stays : shaped l ≡ true → shaped k ≡ true

-- .. of a datagram; 20 and 23 leave the image as it was, whether or not it stands for registers
pub record Answers (bytes l p m b : List ℕ) (n : ℕ) (k p' m' b' : List ℕ) : Type 0 where
  pub status : n ≡ (answered bytes l p m b).status
  pub makes : registers_of k ≡ (answered bytes l p m b).board.registers
  pub program : p' ≡ (answered bytes l p m b).board.program
  pub cells : m' ≡ (answered bytes l p m b).board.store
  pub reply : b' ≡ (answered bytes l p m b).board.reply
  pub stays : shaped l ≡ true → shaped k ≡ true
  pub kept : (lent p m b && stands l) ≡ false → k ≡ l

-- a damaged frame's reply
abbrev pub Refuses : List ℕ → List ℕ → ℕ → ℕ → List ℕ → Type 0
Refuses l b number n b' = Replies (addresses (registers_of l).values) Checksum number (word (pos 0)) b n b'
