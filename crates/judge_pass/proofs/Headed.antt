-- Numbers behind their words.
-- By putting the pieces together.
use Rattle.std.proofs.Common.{◌≡◌, ℕ, List, ◌++◌, Result, Ok, Err, append_assoc}
use Rattle.std.specs.Prelude.{OnOk, decimal}
use Rattle.sys_abi.specs.declared.memory.NoMemory.{NoMemory}

-- four words with their numbers, and what ends the line
pub numbers_pushed : (text one two three four five t u v w end : List ℕ) (h e l n : ℕ) (r : Result (Unit {0}) NoMemory)
    → one ≡ text ++ (t ++ decimal h) → two ≡ one ++ (u ++ decimal e) → three ≡ two ++ (v ++ decimal l) → four ≡ three ++ (w ++ decimal n) → OnOk r (five ≡ four ++ end)
    → OnOk r (five ≡ text ++ (t ++ decimal h ++ u ++ decimal e ++ v ++ decimal l ++ w ++ decimal n ++ end))
numbers_pushed text one two three four five t u v w end h e l n (Err x) p q s z last = tt
numbers_pushed text one two three four five t u v w end h e l n (Ok y) p q s z last = rw (last, z, s, q, p) (simp append_assoc)
