-- What stands at the front of a room stays where it is made longer, and a window that begins with a text shows it.
-- By the library's laws of what is taken of lists.
use Rattle.std.proofs.Common.{◌≡◌, ℕ, ◌+◌, ◌≤◌, List, ◌++◌, length, take, sym, ap, ◌∙◌, arith}
use Rattle.std.proofs.Math.Seq.{take-append-add}
use Rattle.std.proofs.lemmas.List.{length-take-le, take-append-le, take-take, take_at}

pub kept_front : (old more : List ℕ) (n : ℕ) → n ≤ length old → take n (old ++ more) ≡ take n old
kept_front old more n h = take-append-le n old more h

-- the text at the front of what a window shows
pub window_shows : (xs text rest : List ℕ) (size count : ℕ) → xs ≡ text ++ rest → length text ≡ count → count ≤ size → take count (take size xs) ≡ text
window_shows xs text rest size count e n le = take-take count size xs le ∙ ap (take count) e ∙ take_at text rest count n

-- where bytes were stored, the first of them stand behind what was before
pub first_placed : (old new bytes : List ℕ) (at end count : ℕ) → take end new ≡ take at old ++ bytes → end ≡ at + length bytes → at ≤ length old → count ≤ length bytes
    → take (at + count) new ≡ take at old ++ take count bytes
first_placed old new bytes at end count front moved within few =
    let size : length (take at old) ≡ at = length-take-le at old within in
    sym (take-take (at + count) end new (omega arith))
    ∙ ap (take (at + count)) front
    ∙ ap (λ n. take (n + count) (take at old ++ bytes)) (sym size)
    ∙ take-append-add (take at old) bytes count
