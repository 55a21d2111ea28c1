-- The nine bytes of a reply to a command, and the two addresses that it is sent from and to.
use Rattle.std.specs.Prelude.{ℕ, ◌≡◌, List, eqb, ℤ, length}
use Rattle.words.specs.Word.{pick}
use Rattle.words.specs.Bytes.{four_of}
use Rattle.words.specs.declared.Word.{Word}
use Rattle.wire.specs.Frame.{reply_frame}
use Rattle.values.specs.Values.{value_at}
use Rattle.settings.specs.Settings.{bank_place}
use Rattle.status.specs.Status.{number_of}
use Rattle.status.specs.declared.Status.{Status}
use Rattle.replying.specs.declared.Addresses.{Addresses}

-- "reply address (global 76), module address (global 66)": of 0 to 255, so that the lowest byte is the value
unfoldable pub byte_of : List ℤ → ℕ → ℕ
byte_of values n = (four_of (value_at values (bank_place 0 n)).v).b0

unfoldable pub addresses : List ℤ → Addresses
addresses values = record { reply_address = byte_of values 76; module_address = byte_of values 66 }

-- the nine bytes; a buffer of another length stays, whoever calls
abbrev pub frame_of : Addresses → Status → ℕ → Word → List ℕ
frame_of a s n w =
    reply_frame (record { reply_address = a.reply_address; module_address = a.module_address; status = number_of s; command = n; value = w })

unfoldable pub replied : List ℕ → Addresses → Status → ℕ → Word → List ℕ
replied b a s n w = pick (eqb (length b) 9) (frame_of a s n w) b

-- what answering a command leaves in the lent buffer, and the number it is answered with
pub record Replies (a : Addresses) (s : Status) (n : ℕ) (w : Word) (b : List ℕ) (r : ℕ) (e : List ℕ) : Type 0 where
  pub status : r ≡ number_of s
  pub reply : e ≡ replied b a s n w
