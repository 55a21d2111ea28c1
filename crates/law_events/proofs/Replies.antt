-- The laws of replies. Assumes nothing.
use Rattle.std.specs.Prelude.{Result, Ok, Err}
use Prim.Native.Nat.{ℕ, ◌<◌, ◌≤◌, ◌%◌}
use native.Mathlib.Omega.{arith}
use mathlib.Core.Path.{◌≡◌, refl, sym, ap, subst, ◌∙◌}
use mathlib.Core.Bool.{Bool, true, false, false≢true, ◌&&◌}
use mathlib.Core.List.{List}
use lib.Dec.{eqb, leb}
use lib.IntN.{ℤ, pos, negsuc}
use lib.ListN.{length, get_or}
use borrow.Author.Tests.{leb-true}
use mir.Syntax.{w32}
use mir.Val.{SFits}
use mir.ValLaws.{to_z_pos}
use Rattle.words.specs.Word.{pick, word}
use Rattle.words.specs.Bytes.{four_of}
use Rattle.words.specs.declared.Word.{Word}
use Rattle.words.proofs.Bools.{each}
use Rattle.wire.specs.Frame.{command_at}
use Rattle.wire.specs.declared.Command.{Command}
use Rattle.checksum.specs.Checksum.{right_frame}
use Rattle.store.specs.Store.{is_program_store, is_parameter_store}
use Rattle.status.specs.Status.{number_of}
use Rattle.status.specs.declared.Status.{Status}
use Rattle.status.specs.declared.Status.TheVariants.{Checksum}
use Rattle.serial.specs.Serial.{taken_of}
use Rattle.serial.specs.declared.NotTaken.{NotTaken}
use Rattle.serial.specs.declared.NotTaken.TheVariants.{NotOurs, Damaged}
use Rattle.display.specs.Display.{read_of}
use Rattle.exchange.specs.Laws as exchange-laws
use Rattle.exchange.proofs.Exchange as exchange
use Rattle.order.specs.Order.{in_range}
use Rattle.rows.specs.Row.{allowed}
use Rattle.sheet.specs.Rows.{parameters}
use Rattle.sheet.specs.Rows as sheet-rows
use Rattle.sheet.specs.Sheet as sheet
use Rattle.sheet.specs.Line as sheet-line
use Rattle.settings.specs.Settings.{bank_place}
use Rattle.values.specs.Values.{value_at, values_in_range}
use Rattle.values.proofs.Rules.{at_place}
use Rattle.ranges.specs.Range.{bit_in_range, bits_in_range, analog_in_range, pins_in_range, entries_in_range, address_in_range}
use Rattle.ranges.proofs.Every.{every_get}
use Rattle.registers.specs.Range.{core_in_range, download_in_range}
use Rattle.flags.specs.Flags.{flags_in_range}
use Rattle.rules.specs.Reading.{number}
use Rattle.board.specs.Range.{registers_in_range, addresses_in_range}
use Rattle.board.specs.declared.Registers.{Registers}
use Rattle.rules.specs.Obey as commands
use Rattle.replying.specs.Reply.{byte_of, addresses, replied}
use Rattle.rules.specs.Datagram as datagrams
use Rattle.rules.specs.Datagram.{Board, board, lent, received, obeyed_by}
use Rattle.reg_image.specs.Image.{registers_of}
use Rattle.reg_range.specs.Range.{stands}
use Rattle.board_datagrams.specs.Datagram.{Answers, answered}
use Rattle.law_rows.specs.Rows.{Numbers}
use Rattle.law_rows.proofs.Places.{one_image}
use Rattle.law_rows.proofs.Rules.{parts}
use Rattle.law_rows.proofs.Rules as row-rules
use Rattle.law_events.specs.Replies.{Replies, says}
use Rattle.law_events.proofs.Words.{answer_word}

the-exchange : exchange-laws.Laws
the-exchange = exchange.laws

-- ---- the command byte received
no : {A : Type 0} → ◌≡◌ {A = ℕ} 0 1 → A
no e = absurd (omega arith)

whole-command : (x y z : Bool) (k c : Command) (n : ℕ) → pick x (pick y (pick z (Ok k) (Err (Damaged n))) (Err NotOurs)) (Err NotOurs) ≡ Ok c
    → c ≡ k
whole-command true true true k c n e = cc
whole-command true true false k c n e = no cc
whole-command true false z k c n e = no cc
whole-command false y z k c n e = no cc

damaged-number : (x y z : Bool) (k : Command) (n d : ℕ) → pick x (pick y (pick z (Ok k) (Err (Damaged n))) (Err NotOurs)) (Err NotOurs) ≡ Err (Damaged d) → d ≡ n
damaged-number true true true k n d e = no cc
damaged-number true true false k n d e = cc
damaged-number true false z k n d e = no cc
damaged-number false y z k n d e = no cc

module _ (ours : ℕ) (s : List ℕ) where
  whole-record : (c : Command) → taken_of ours s ≡ Ok c → c ≡ command_at s 1
  unfolding taken_of
  whole-record c e = whole-command (eqb (length s) 9) (eqb (get_or s 0 0) ours) (right_frame s) (command_at s 1) c (get_or s 1 0) e

  damaged-byte : (d : ℕ) → taken_of ours s ≡ Err (Damaged d) → d ≡ get_or s 1 0
  unfolding taken_of
  damaged-byte d e = damaged-number (eqb (length s) 9) (eqb (get_or s 0 0) ours) (right_frame s) (command_at s 1) (get_or s 1 0) d e

-- ---- a reply reads back
reads : (b : List ℕ) (values : List ℤ) (s : Status) (n : ℕ) (w : Word) → eqb (length b) 9 ≡ true → SFits w32 w.v
    → read_of (replied b (addresses values) s n w) ≡ says values (number_of s) n w.v
unfolding replied addresses
reads b values s n w e f =
    rw e
    (the-exchange.reply_trip
    (record { reply_address = byte_of values 76; module_address = byte_of values 66; status = number_of s; command = n; value = w }) f)

module _ (bytes l p m b : List ℕ) (n : ℕ) (k p' m' b' : List ℕ) (a : Answers bytes l p m b n k p' m' b') (h : lent p m b && stands l ≡ true) where
  abbrev x : Board
  x = board (registers_of l) p m b

  abbrev values : List ℤ
  values = (registers_of l).values

  nine : eqb (length b) 9 ≡ true
  nine = (each (is_program_store p && is_parameter_store m) (eqb (length b) 9) (each (lent p m b) (stands l) h).0).1

  opened : answered bytes l p m b ≡ received (taken_of (byte_of values 66) bytes) x
  unfolding answered
  opened = let t = each (lent p m b) (stands l) h in rw (t.0, t.1) refl

  reply_reads : (c : Command) → taken_of (byte_of values 66) bytes ≡ Ok c
      → read_of b' ≡ says values n (get_or bytes 1 0) (commands.obeyed c (registers_of l) p m).value.v
  unfolding received obeyed_by
  reply_reads c w =
      let q = whole-record (byte_of values 66) bytes c w in
      let f = subst (λ (d : Command). SFits w32 (commands.obeyed d (registers_of l) p m).value.v) (sym q) (answer_word bytes 1 l p m) in
      let o = commands.obeyed c (registers_of l) p m in
      let y = opened ∙ ap (λ (t : Result Command NotTaken). received t x) w in
      ap read_of (a.reply ∙ ap (λ (z : datagrams.After). z.board.reply) y)
      ∙ reads b values o.status c.number o.value nine f
      ∙ (λ i. says values (sym (a.status ∙ ap (λ (z : datagrams.After). z.status) y) i) (q i).number o.value.v)

  damaged_reads : (d : ℕ) → taken_of (byte_of values 66) bytes ≡ Err (Damaged d)
      → (n ≡ 1) × (read_of b' ≡ says values 1 (get_or bytes 1 0) (pos 0))
  unfolding received
  damaged_reads d w =
      let y = opened ∙ ap (λ (t : Result Command NotTaken). received t x) w in (
        a.status ∙ ap (λ (z : datagrams.After). z.status) y,
        ap read_of (a.reply ∙ ap (λ (z : datagrams.After). z.board.reply) y)
            ∙ reads b values Checksum d (word (pos 0)) nine (record { sfits = omega arith })
            ∙ ap (λ (c : ℕ). says values 1 c (pos 0)) (damaged-byte (byte_of values 66) bytes d w),
      )

-- ---- no reply
no_reply : (bytes l p m b : List ℕ) (n : ℕ) (k p' m' b' : List ℕ) → Numbers l → Numbers k → Answers bytes l p m b n k p' m' b'
    → taken_of (byte_of (registers_of l).values 66) bytes ≡ Err NotOurs → (k ≡ l) × (p' ≡ p) × (m' ≡ m) × (b' ≡ b)
unfolding received
no_reply bytes l p m b n k p' m' b' i j a w = by (lent p m b && stands l) refl
  where
    by : (t : Bool) → lent p m b && stands l ≡ t → (k ≡ l) × (p' ≡ p) × (m' ≡ m) × (b' ≡ b)
    by true h =
        let y = opened bytes l p m b n k p' m' b' a h ∙ ap (λ (t : Result Command NotTaken). received t (board (registers_of l) p m b)) w in
        let s = (parts l (each (lent p m b) (stands l) h).1).0 in (
          one_image k l j i (a.stays s) s (a.makes ∙ ap (λ (z : datagrams.After). z.board.registers) y),
          a.program ∙ ap (λ (z : datagrams.After). z.board.program) y,
          a.cells ∙ ap (λ (z : datagrams.After). z.board.store) y,
          a.reply ∙ ap (λ (z : datagrams.After). z.board.reply) y,
        )
    by false h = row-rules.datagram_shut bytes l p m b n k p' m' b' a h

neither : (x y : Bool) (t : Result Command NotTaken) → x && y ≡ false → pick x (pick y t (Err NotOurs)) (Err NotOurs) ≡ Err NotOurs
neither true true t e = absurd (false≢true (sym e))
neither true false t e = refl
neither false y t e = refl

not_ours : (ours : ℕ) (bytes : List ℕ) → eqb (length bytes) 9 && eqb (get_or bytes 0 0) ours ≡ false → taken_of ours bytes ≡ Err NotOurs
unfolding taken_of
not_ours ours bytes e = neither (eqb (length bytes) 9) (eqb (get_or bytes 0 0) ours) _ e

-- ---- registers in range, by their parts
module _ (r : Registers) (h : registers_in_range r ≡ true) where
  abbrev around : Bool
  around = addresses_in_range r.core r.download r.entries

  abbrev pins : Bool
  pins = pins_in_range r.outputs r.digital r.analog

  halves : (around ≡ true) × (pins ≡ true) × (values_in_range parameters r.values ≡ true)
  unfolding registers_in_range
  halves =
      let a = each (around && pins) (values_in_range parameters r.values) h in
      let b = each around pins a.0 in
      (b.0, b.1, a.1)

  low-address : r.core.address ≤ 1024
  unfolding core_in_range
  low-address =
      let a = each (core_in_range r.core && download_in_range r.download) (entries_in_range r.entries) halves.0 in
      let b = each (core_in_range r.core) (download_in_range r.download) a.0 in
      let c = each (address_in_range r.core.address && leb r.core.depth 8) (flags_in_range r.core.flags) b.0 in
      leb-true r.core.address 1024 (each (address_in_range r.core.address) (leb r.core.depth 8) c.0).0

  bits : (bits_in_range r.outputs ≡ true) × (bits_in_range r.digital ≡ true)
  bits =
      let a = each (bits_in_range r.outputs && bits_in_range r.digital) (analog_in_range r.analog) halves.1 in
      each (bits_in_range r.outputs) (bits_in_range r.digital) a.0

bit-low : (l : List ℕ) (i : ℕ) → bits_in_range l ≡ true → get_or l i 0 ≤ 1
unfolding bits_in_range
bit-low l i h = leb-true (get_or l i 0) 1 (every_get bit_in_range l i 0 h refl)

-- ---- a number below 2^31 is the word that has its bits
number_is : (n : ℕ) → n < 2147483648 → number n ≡ word (pos n)
number_is n h = ap word (to_z_pos w32 n h)

-- ---- the addresses
byte-of : (low : ℕ) (z : ℤ) → in_range (pos low) (pos 255) z ≡ true → pos (four_of z).b0 ≡ z
byte-of low (pos n) h =
    let l = leb-true n 255 (each (leb low n) (leb n 255) h).1 in
    let e : n % 256 ≡ n = omega (arith, l) in
    ap pos e
byte-of low (negsuc n) h = absurd (false≢true h)

module _ (values : List ℤ) (h : values_in_range parameters values ≡ true) where
  reply-byte : pos (byte_of values 76) ≡ (value_at values (bank_place 0 76)).v
  unfolding byte_of bank_place allowed sheet-line.lines sheet-rows.parameters sheet-rows.rows sheet.rwe_rows sheet.rw_rows sheet.r_rows sheet.axis sheet.globals sheet.read_only
  reply-byte =
      let z = get_or values 45 (pos 0) in
      byte-of 0 z (each (in_range (pos 0) (pos 255) z) _ (at_place values h 45 (omega arith))).0

  module-byte : pos (byte_of values 66) ≡ (value_at values (bank_place 0 66)).v
  unfolding byte_of bank_place allowed sheet-line.lines sheet-rows.parameters sheet-rows.rows sheet.rwe_rows sheet.rw_rows sheet.r_rows sheet.axis sheet.globals sheet.read_only
  module-byte =
      let z = get_or values 43 (pos 0) in
      byte-of 1 z (each (in_range (pos 1) (pos 255) z) _ (at_place values h 43 (omega arith))).0

pub replies : Replies
replies =
    record {
      reply_reads = λ bytes l p m b n k p' m' b' c a h w. reply_reads bytes l p m b n k p' m' b' a h c w;
      damaged_reads = λ bytes l p m b n k p' m' b' d a h w. damaged_reads bytes l p m b n k p' m' b' a h d w;
      no_reply = no_reply;
      not_ours = not_ours;
      reply-address = λ l h. reply-byte (registers_of l).values (halves (registers_of l) (parts l h).1).2;
      module-address = λ l h. module-byte (registers_of l).values (halves (registers_of l) (parts l h).1).2;
      number_is = number_is;
      address_read = λ l h. let a = low-address (registers_of l) (parts l h).1 in number_is (registers_of l).core.address (omega (arith, a));
      input_read = λ l i h.
          let a = bit-low (registers_of l).digital i (bits (registers_of l) (parts l h).1).1 in
          number_is (get_or (registers_of l).digital i 0) (omega (arith, a));
      output_read = λ l i h.
          let a = bit-low (registers_of l).outputs i (bits (registers_of l) (parts l h).1).0 in
          number_is (get_or (registers_of l).outputs i 0) (omega (arith, a));
    }
