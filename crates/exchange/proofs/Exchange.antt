-- The laws of both sides. Assumes nothing.
use Prim.Native.Nat.{ℕ}
use mathlib.Core.Path.{◌≡◌, refl, sym, ap, ◌∙◌}
use mathlib.Core.Bool.{Bool, true, false}
use mathlib.Core.List.{List}
use native.Mathlib.Omega.{arith}
use borrow.Author.Tests.{eq-eqb, ne_eqb, eqb-true}
use lib.Dec.{eqb}
use lib.IntN.{ℤ, pos}
use lib.ListN.{length, get_or, set, length-set}
use mir.Syntax.{w32}
use mir.Val.{SFits}
use Rattle.words.specs.Word.{pick, word}
use Rattle.words.specs.Bytes.{word_of}
use Rattle.words.specs.Laws.{AllBytes}
use Rattle.checksum.specs.Checksum.{right_frame}
use Rattle.wire.specs.Frame.{frame, command_at, command_frame, reply_frame, reply_of}
use Rattle.wire.specs.Examples.{command}
use Rattle.wire.specs.Laws.{Changed}
use Rattle.wire.specs.declared.Command.{Command}
use Rattle.wire.specs.declared.Reply.{Reply}
use Rattle.serial.specs.Serial.{taken_of, taken_status}
use Rattle.std.specs.Prelude.{Result, Ok, Err}
use Rattle.serial.specs.declared.NotTaken.{NotTaken}
use Rattle.serial.specs.declared.NotTaken.TheVariants.{NotOurs, Damaged}
use Rattle.wire.proofs.Frames.{made_right, made_value, right-parts, right_made, one_changed}
use Rattle.display.specs.Display.{Answer, read_of, answer_of, done, refused}
use Rattle.exchange.specs.Laws.{Laws}
use Rattle.display.specs.declared.Unread.{Unread}
use Rattle.display.specs.declared.Unread.TheVariants.{Length, Checksum}

pub command_trip : (address : ℕ) (c : Command) → SFits w32 c.value.v → taken_of address (command_frame address c) ≡ Ok c
unfolding taken_of frame
command_trip a c f =
    simp (eq-eqb a a refl, made_right a c.number c.kind c.motor c.value.v)
    (ap (λ (z : ℤ). Ok (record { number = c.number; kind = c.kind; motor = c.motor; value = word z })) (made_value a c.number c.kind c.motor c.value.v f))

pub command_other : (address ours : ℕ) (c : Command) → (address ≡ ours → ⊥) → taken_of ours (command_frame address c) ≡ Err NotOurs
unfolding taken_of frame
command_other a o c n = simp (ne_eqb a o n)

pub reply_trip : (r : Reply) → SFits w32 r.value.v → read_of (reply_frame r) ≡ done r
unfolding read_of frame
reply_trip r f =
    let a = r.reply_address in let b = r.module_address in let c = r.status in let d = r.command in
    simp (made_right a b c d r.value.v)
    (ap (λ (z : ℤ). done (record { reply_address = a; module_address = b; status = c; command = d; value = word z })) (made_value a b c d r.value.v f))

-- ---- a frame that is taken, or read, is the frame of what it gave
taken-whole : (x y z : Bool) (k c : Command) (n : ℕ) → pick {A = Result Command NotTaken} x (pick y (pick z (Ok k) (Err (Damaged n))) (Err NotOurs)) (Err NotOurs) ≡ Ok c → (y ≡ true) × ((z ≡ true) × (k ≡ c))
taken-whole true true true k c n e = (refl, (refl, cc))
taken-whole true true false k c n e = cc
taken-whole true false z k c n e = cc
taken-whole false y z k c n e = cc

pub one_command : (ours : ℕ) (s : List ℕ) (c : Command) → AllBytes s → taken_of ours s ≡ Ok c → s ≡ command_frame ours c
unfolding taken_of
one_command o s c g h =
    let p = taken-whole (eqb (length s) 9) (eqb (get_or s 0 0) o) (right_frame s) (command_at s 1) c (get_or s 1 0) h in
    sym (right_made s g p.1.0)
    ∙ ap (λ (a : ℕ). command_frame a (command_at s 1)) (eqb-true (get_or s 0 0) o p.0)
    ∙ ap (command_frame o) p.1.1

-- the reply that was answered
abbrev back : Answer → Reply
back a =
    record { reply_address = a.reply-address; module_address = a.module-address; status = a.status; command = a.command; value = word a.value }

clash : {A : Type 0} (x y : Answer) → x ≡ y → (x.outcome ≡ y.outcome → ⊥) → A
clash x y e n = absurd (n (ap (λ (a : Answer). a.outcome) e))

read_whole : (x y : Bool) (q r : Reply) → pick x (pick y (done q) (refused 1)) (refused 20) ≡ done r → (y ≡ true) × (q ≡ r)
read_whole true true q r e = (refl, ap back e)
read_whole true false q r e = clash (refused 1) (done r) e (λ n. omega arith)
read_whole false y q r e = clash (refused 20) (done r) e (λ n. omega arith)

pub one_reply : (s : List ℕ) (r : Reply) → AllBytes s → read_of s ≡ done r → s ≡ reply_frame r
unfolding read_of
one_reply s r g h =
    let p = read_whole (eqb (length s) 9) (right_frame s) (reply_of s) r h in
    sym (right_made s g p.0) ∙ ap reply_frame p.1

-- ---- one changed byte
length-changed : (s : List ℕ) (i b : ℕ) → Changed s i b → length (set s i b) ≡ 9
length-changed s i b k = length-set s i b ∙ (right-parts s k.right).0

pub command_changed : (ours : ℕ) (s : List ℕ) (i b : ℕ) → Changed s i b → taken_of ours (set s i b) ≡ pick (eqb (get_or (set s i b) 0 0) ours) (Err (Damaged (get_or (set s i b) 1 0))) (Err NotOurs)
unfolding taken_of
command_changed o s i b k = simp (eq-eqb (length (set s i b)) 9 (length-changed s i b k), one_changed s i b k)

status : (own n : ℕ) (t : Bool) → taken_status own (pick t (Err (Damaged n)) (Err NotOurs)) ≡ pick t 1 0
status own n true = refl
status own n false = refl

pub changed_status : (own ours : ℕ) (s : List ℕ) (i b : ℕ) → Changed s i b → taken_status own (taken_of ours (set s i b)) ≡ pick (eqb (get_or (set s i b) 0 0) ours) 1 0
changed_status own o s i b k =
    ap (taken_status own) (command_changed o s i b k) ∙ status own (get_or (set s i b) 1 0) (eqb (get_or (set s i b) 0 0) o)

pub reply_changed : (s : List ℕ) (i b : ℕ) → Changed s i b → read_of (set s i b) ≡ refused 1
unfolding read_of
reply_changed s i b k = simp (eq-eqb (length (set s i b)) 9 (length-changed s i b k), one_changed s i b k)

two_pass : taken_of 1 (set (set (command_frame 1 (command 5 4 0 (pos 51200))) 1 4) 2 5) ≡ Ok (command 4 5 0 (pos 51200))
unfolding taken_of frame right_frame word_of
two_pass = refl

pub one_answer : (x y : Result Reply Unread) → answer_of x ≡ answer_of y → x ≡ y
one_answer (Ok q) (Ok r) h = ap Ok (ap back h)
one_answer (Ok q) (Err Length) h = clash (done q) (refused 20) h (λ n. omega arith)
one_answer (Ok q) (Err Checksum) h = clash (done q) (refused 1) h (λ n. omega arith)
one_answer (Err Length) (Ok r) h = clash (refused 20) (done r) h (λ n. omega arith)
one_answer (Err Length) (Err Length) h = refl
one_answer (Err Length) (Err Checksum) h = clash (refused 20) (refused 1) h (λ n. omega arith)
one_answer (Err Checksum) (Ok r) h = clash (refused 1) (done r) h (λ n. omega arith)
one_answer (Err Checksum) (Err Length) h = clash (refused 1) (refused 20) h (λ n. omega arith)
one_answer (Err Checksum) (Err Checksum) h = refl

pub laws : Laws
laws =
    record {
      command_trip = command_trip;
      command_other = command_other;
      reply_trip = reply_trip;
      one_command = one_command;
      one_reply = one_reply;
      command_changed = command_changed;
      changed_status = changed_status;
      reply_changed = reply_changed;
      two_pass = two_pass;
      one_answer = one_answer;
    }
