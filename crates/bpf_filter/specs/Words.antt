-- The words that begin the lines of a script.
use Rattle.std.specs.Prelude.{ℕ, Bool, ◌||◌, Option, List, [], ◌∷◌, codes, bytes_eq, find, map, is_some}
use Rattle.std.specs.Option.{option_map}
use Rattle.std.specs.List.{list_any}
use Rattle.std.specs.Borrow.{Bor}

-- each instruction of a filter: its word, its code (bpf(4)), and how many numbers stand behind the word
abbrev pub instructions : List (List ℕ × ℕ × ℕ)
instructions =
    (codes "ld", 0x20, 1) ∷
    (codes "ldi", 0x00, 1) ∷
    (codes "add", 0x04, 1) ∷
    (codes "sub", 0x14, 1) ∷
    (codes "or", 0x44, 1) ∷
    (codes "and", 0x54, 1) ∷
    (codes "xor", 0xa4, 1) ∷
    (codes "lsh", 0x64, 1) ∷
    (codes "rsh", 0x74, 1) ∷
    (codes "neg", 0x84, 0) ∷
    (codes "ja", 0x05, 1) ∷
    (codes "jeq", 0x15, 3) ∷
    (codes "jgt", 0x25, 3) ∷
    (codes "jge", 0x35, 3) ∷
    (codes "jset", 0x45, 3) ∷
    (codes "ret", 0x06, 1) ∷
    []

-- the code beside a word of a table, and the count of its numbers
abbrev pub form_in : List (List ℕ × ℕ × ℕ) → List ℕ → Option (ℕ × ℕ)
form_in table word = option_map (λ form. (form.1, form.2)) (find (λ form. bytes_eq form.0 word) table)

-- settings, the tree among them; programs and their instructions; the schedule; and the end of a block
abbrev pub other_words : List (List ℕ)
other_words =
    codes "pidmax" ∷ codes "pidbase" ∷ codes "firstid" ∷ codes "rlimit" ∷
    codes "dir" ∷ codes "reg" ∷ codes "fifo" ∷ codes "sock" ∷ codes "link" ∷ codes "chr" ∷ codes "blk" ∷ codes "attr" ∷ codes "root" ∷
    codes "broker" ∷ codes "map" ∷ codes "cgroup" ∷ codes "figures" ∷ codes "notify" ∷ codes "filter" ∷ codes "killable" ∷
    codes "prog" ∷ codes "poke" ∷ codes "fill" ∷ codes "call" ∷ codes "spawn" ∷ codes "thread" ∷ codes "kill" ∷ codes "handler" ∷
    codes "wait" ∷ codes "exit" ∷
    codes "schedule" ∷ codes "t" ∷ codes "w" ∷
    codes "end" ∷ []

abbrev pub is_among : List (List ℕ) → List ℕ → Bool
is_among texts word = list_any (λ text. bytes_eq text word) texts

-- a word that begins a line of some part of a script
abbrev pub is_script_word : List ℕ → Bool
is_script_word word = is_some (form_in instructions word) || is_among other_words word

-- the tables of the program as contracts read them, with the texts that they borrow
abbrev pub forms_of : List (Bor (List ℕ) × ℕ × ℕ) → List (List ℕ × ℕ × ℕ)
forms_of table = map (λ form. (form.0.now, form.1, form.2)) table

abbrev pub texts_of : List (Bor (List ℕ)) → List (List ℕ)
texts_of table = map (λ text. text.now) table
