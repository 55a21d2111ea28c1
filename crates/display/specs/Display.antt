-- The display's side: what reading a reply answers, in 01's numbers.
use Rattle.std.specs.Prelude.{ℕ, List, eqb, ℤ, pos, length, Result, Ok, Err}
use Rattle.words.specs.Word.{pick}
use Rattle.checksum.specs.Checksum.{right_frame}
use Rattle.wire.specs.Frame.{reply_of}
use Rattle.wire.specs.declared.Reply.{Reply}
use Rattle.display.specs.declared.Unread.{Unread}
use Rattle.display.specs.declared.Unread.TheVariants.{Length, Checksum}

-- the numbers answered: how the reading went, and what stands in the reply
pub record Answer : Type 0 where
  pub outcome : ℕ
  pub reply-address : ℕ
  pub module-address : ℕ
  pub status : ℕ
  pub command : ℕ
  pub value : ℤ

abbrev pub done : Reply → Answer
done r =
    record {
      outcome = 100;
      reply-address = r.reply_address;
      module-address = r.module_address;
      status = r.status;
      command = r.command;
      value = r.value.v;
    }

-- "every other number answered is 0"
abbrev pub refused : ℕ → Answer
refused n = record { outcome = n; reply-address = 0; module-address = 0; status = 0; command = 0; value = pos 0 }

-- the numbers of each answer
abbrev pub answer_of : Result Reply Unread → Answer
answer_of (Ok r) = done r
answer_of (Err Length) = refused 20
answer_of (Err Checksum) = refused 1

-- "Reading a reply refuses a length other than 9 with 20, then a wrong checksum with 1"
unfoldable pub read_of : List ℕ → Answer
read_of s = pick (eqb (length s) 9) (pick (right_frame s) (done (reply_of s)) (refused 1)) (refused 20)
