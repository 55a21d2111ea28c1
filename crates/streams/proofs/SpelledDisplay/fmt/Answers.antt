-- `Spelled`: the digits of the first byte, and of each behind it after a space.
use Rattle.std.proofs.Common.{◌≡◌, ◌<◌, ◌≤◌, length, ℕ, ◌+◌, ◌-◌, List, [], ◌∷◌, ◌++◌, take, drop, get_or, arith, ap, ◌∙◌, Some, refl, true, append-nil}
use Rattle.std.proofs.lemmas.List.{take_more, take_all}
use Rattle.std.proofs.lemmas.Grind.{flat_map-append}
use Rattle.std.specs.List.{flat_map}
use Rattle.std.specs.Fmt.{styled_digits_output}
use Rattle.std.proofs.Output.{has_written_append, has_written_of_eq}
use Rattle.streams.specs.Spelled.{spelled, after_space, digits_of}
use Rattle.streams.proofs.SpelledDisplay.fmt.Goals as goal

-- one byte more behind the ones that are spelled
more : (xs : List ℕ) (i : ℕ) → i < length xs → flat_map after_space (take i xs) ++ after_space (get_or xs i 0) ≡ flat_map after_space (take (i + 1) xs)
more xs i here = rw (take_more xs i 0 here, flat_map-append after_space (take i xs) (get_or xs i 0 ∷ []), append-nil (after_space (get_or xs i 0))) refl

-- every byte behind the first one is passed
all_spelled : (bytes : List ℕ) (i : ℕ) → 0 < length bytes → length (take (length bytes - 1) (drop 1 bytes)) ≤ i
    → digits_of (get_or bytes 0 0) ++ flat_map after_space (take i (take (length bytes - 1) (drop 1 bytes))) ≡ spelled bytes
all_spelled [] i some _ = absurd (omega arith)
all_spelled (byte ∷ bytes) i _ behind =
    let whole : take (length (byte ∷ bytes) - 1) bytes ≡ bytes = take_all _ bytes (omega arith) in
    ap (λ xs. digits_of byte ++ flat_map after_space xs) (take_all i _ behind ∙ whole)

pub loop-byte-preserved : goal.loop-byte-preserved
loop-byte-preserved g c p =
    let so_far = c.loop-byte.invariant p in
    let bytes = c.args.self.now.0.now in
    let rest = take (length bytes - 1) (drop 1 bytes) in
    let byte = get_or rest c.loop-byte.byte-index 0 in
    let digits : styled_digits_output c.in_radix-in-loop-byte.result c.laid_out-in-loop-byte.result ≡ Some (digits_of byte)
    = rw (c.laid_out-in-loop-byte.ensures, c.in_radix-in-loop-byte.ensures) (refl {a = Some (digits_of byte)}) in
    let written = rw digits at c.write-in-loop-byte.ensures.writes in
    has_written_of_eq _ _ _ _ _ (more rest c.loop-byte.byte-index c.loop-byte-test.true)
    (has_written_append _ _ _ _ _ _ so_far (written so_far.plain (rw c.in_ok-write-2.was (refl {a = true}))))

pub returns-after-loop-byte-clause-writes : goal.returns-after-loop-byte-clause-writes
returns-after-loop-byte-clause-writes g c p q =
    let bytes = c.args.self.now.0.now in
    let byte = get_or bytes 0 0 in
    let digits : styled_digits_output c.in_radix.result c.laid_out.result ≡ Some (digits_of byte)
    = rw (c.laid_out.ensures, c.in_radix.ensures) (refl {a = Some (digits_of byte)}) in
    let first = (rw digits at c.write.ensures.writes) p (rw c.in_ok-write.was (refl {a = true})) in
    has_written_of_eq _ _ _ _ _ (all_spelled bytes c.loop-byte.byte-index (omega (arith, c.in-len1-up.len_at_least)) c.loop-byte-test.false) (has_written_append _ _ _ _ _ _ first (c.loop-byte.invariant first.plain))
