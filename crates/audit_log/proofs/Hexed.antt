-- Bytes are written as digits of base 16 piece by piece, and in a piece byte by byte.
-- By the library's laws of what is taken of lists, and of `flat_map`.
use Rattle.std.proofs.Common.{◌≡◌, ℕ, ◌+◌, ◌-◌, ◌*◌, ◌<◌, ◌≤◌, List, [], ◌∷◌, ◌++◌, length, take, drop, get_or, set, refl, sym, ap, ◌∙◌, append_assoc, append-nil, arith}
use Rattle.std.specs.Prelude.{Result, Ok, Err, OnOk}
use Rattle.std.specs.List.{slice_range}
use Rattle.std.proofs.lemmas.Grind.{flat_map-append, take-set_at}
use Rattle.std.proofs.lemmas.List.{length-append, length-drop, length-set, take-append-drop, take_all, take_at, take_more}
use Rattle.std.proofs.Math.Seq.{take-add}
use Rattle.hist_model.specs.ReportWords.{hex, hex_byte}
use Rattle.sys_abi.specs.declared.memory.NoMemory.{NoMemory}

-- ---- In a piece

-- the digits so far
pub record Stored (bytes : List ℕ) (i : ℕ) (digits : List ℕ) : Type 0 where
  pub room : length digits ≡ 32
  pub so_far : take (2 * i) digits ≡ hex (take i bytes)

hex-more : (bytes : List ℕ) (i : ℕ) → i < length bytes → hex (take (i + 1) bytes) ≡ hex (take i bytes) ++ hex_byte (get_or bytes i 0)
hex-more bytes i l =
    ap hex (take_more bytes i 0 l) ∙ flat_map-append hex_byte (take i bytes) (get_or bytes i 0 ∷ []) ∙ ap (λ xs. hex (take i bytes) ++ xs) (append-nil (hex_byte (get_or bytes i 0)))

-- with one more byte
pub stored_more : (bytes digits pair : List ℕ) (i : ℕ) → length bytes ≡ 16 → i < 16 → Stored bytes i digits → pair ≡ hex_byte (get_or bytes i 0)
    → Stored bytes (i + 1) (set (set digits (2 * i) (get_or pair 0 0)) (2 * i + 1) (get_or pair 1 0))
stored_more bytes digits pair i size l s q =
    let high = get_or pair 0 0 in
    let low = get_or pair 1 0 in
    let once = set digits (2 * i) high in
    let wide : length once ≡ length digits = length-set digits (2 * i) high in
    let twice : length (set once (2 * i + 1) low) ≡ length once = length-set once (2 * i + 1) low in
    let room = s.room in
    let first : take (2 * i + 1) once ≡ take (2 * i) digits ++ high ∷ [] = take-set_at digits (2 * i) (2 * i + 1) high refl (omega arith) in
    let second : take (2 * (i + 1)) (set once (2 * i + 1) low) ≡ take (2 * i + 1) once ++ low ∷ [] = take-set_at once (2 * i + 1) (2 * (i + 1)) low (omega arith) (omega arith) in
    let both : (high ∷ low ∷ []) ≡ hex_byte (get_or bytes i 0) = ap (λ p. get_or p 0 0 ∷ get_or p 1 0 ∷ []) q in
    record {
      room = twice ∙ wide ∙ room;
      so_far =
          second
          ∙ ap (λ xs. xs ++ low ∷ []) (first ∙ ap (λ xs. xs ++ high ∷ []) s.so_far)
          ∙ append_assoc (hex (take i bytes)) (high ∷ []) (low ∷ [])
          ∙ ap (λ xs. hex (take i bytes) ++ xs) both
          ∙ sym (hex-more bytes i (omega arith));
    }

pub all_stored : (bytes digits : List ℕ) (i : ℕ) → length bytes ≡ 16 → 16 ≤ i → i ≤ 16 → Stored bytes i digits → digits ≡ hex bytes
all_stored bytes digits i size a b s =
    let room = s.room in
    sym (take_all (2 * i) digits (omega arith)) ∙ s.so_far ∙ ap hex (take_all i bytes (omega arith))

-- ---- Piece by piece

-- with one more piece
pub piece_pushed : (start old new digits bytes : List ℕ) (at : ℕ) → at + 16 ≤ length bytes → old ≡ start ++ hex (take at bytes) → digits ≡ hex (slice_range bytes at (at + 16)) → new ≡ old ++ digits
    → new ≡ start ++ hex (take (at + 16) bytes)
piece_pushed start old new digits bytes at l q d n =
    let size : at + 16 - at ≡ 16 = omega arith in
    let piece : slice_range bytes at (at + 16) ≡ take 16 (drop at bytes) = ap (λ k. take k (drop at bytes)) size in
    let more : hex (take (at + 16) bytes) ≡ hex (take at bytes) ++ hex (take 16 (drop at bytes)) = ap hex (take-add at 16 bytes) ∙ flat_map-append hex_byte (take at bytes) (take 16 (drop at bytes)) in
    n
    ∙ ap (λ xs. xs ++ digits) q
    ∙ append_assoc start (hex (take at bytes)) digits
    ∙ ap (λ xs. start ++ (hex (take at bytes) ++ xs)) (d ∙ ap hex piece)
    ∙ ap (λ xs. start ++ xs) (sym more)

-- with the rest
pub rest_pushed : (start old new bytes : List ℕ) (at : ℕ) (r : Result (Unit {0}) NoMemory) → old ≡ start ++ hex (take at bytes) → OnOk r (new ≡ old ++ hex (slice_range bytes at (length bytes)))
    → OnOk r (new ≡ start ++ hex bytes)
rest_pushed start old new bytes at (Err e) q n = tt
rest_pushed start old new bytes at (Ok u) q n =
    let rest : slice_range bytes at (length bytes) ≡ drop at bytes = take_all (length bytes - at) (drop at bytes) (omega (arith, length-drop at bytes)) in
    let whole : hex bytes ≡ hex (take at bytes) ++ hex (drop at bytes) = ap hex (sym (take-append-drop at bytes)) ∙ flat_map-append hex_byte (take at bytes) (drop at bytes) in
    n ∙ ap (λ xs. old ++ hex xs) rest ∙ ap (λ xs. xs ++ hex (drop at bytes)) q ∙ append_assoc start (hex (take at bytes)) (hex (drop at bytes)) ∙ ap (λ xs. start ++ xs) (sym whole)

-- ---- Less than a piece

length-hex : (bytes : List ℕ) → length (hex bytes) ≡ 2 * length bytes
length-hex [] = refl
length-hex (b ∷ bytes) = omega (arith, length-append (hex_byte b) (hex bytes), length-hex bytes, length-byte b)
  where
    length-byte : (b : ℕ) → length (hex_byte b) ≡ 2
    length-byte b = refl

-- the digits of the bytes in front of what is padded to a piece
pub padded_front : (bytes text more digits old new : List ℕ) (r : Result (Unit {0}) NoMemory) → text ≡ bytes → digits ≡ hex (text ++ more) → OnOk r (new ≡ old ++ take (2 * length bytes) digits)
    → OnOk r (new ≡ old ++ hex bytes)
padded_front bytes text more digits old new (Err e) p d n = tt
padded_front bytes text more digits old new (Ok u) p d n =
    let whole : digits ≡ hex bytes ++ hex more = d ∙ ap (λ xs. hex (xs ++ more)) p ∙ flat_map-append hex_byte bytes more in
    n ∙ ap (λ xs. old ++ xs) (ap (take (2 * length bytes)) whole ∙ take_at (hex bytes) (hex more) (2 * length bytes) (length-hex bytes))
