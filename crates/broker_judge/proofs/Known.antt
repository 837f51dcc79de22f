-- A text, or a value, that is put together byte after byte.
-- By the definition at the next byte, with the bytes so far led before it.
use Rattle.std.proofs.Common.{◌≡◌, ◌≢◌, ℕ, zero, suc, ◌+◌, ◌-◌, ◌^◌, ◌<◌, ◌≤◌, List, [], ◌∷◌, ◌++◌, refl, ap, ◌∙◌, sym, arith}
use Rattle.hist_model.specs.Copies.{further}
use Rattle.sys_abi.specs.Errnos.{efault}
use Rattle.broker_judge.specs.Copied.{IsSo}
use Rattle.broker_judge.specs.declared.copies.Known.{Known as IsKnown}
use Rattle.broker_verdict.specs.SeatCopies.{Byte, Fails, Known, led_by, Misses, Seen, text_seen, Unmapped, Unread, value_seen, Whole}

-- a text is as it is known
pub so : (total end : Known) (known : IsKnown) → total ≡ end → IsSo end known → IsSo total known
so total end known e h = rw e h

-- what is known of a text that begins with these bytes
unfoldable pub led_all : List ℕ → Known → Known
led_all [] known = known
led_all (b ∷ more) known = led_by b (led_all more known)

pub led_more : (text : List ℕ) (b : ℕ) (known : Known) → led_all (text ++ b ∷ []) known ≡ led_all text (led_by b known)
unfolding led_all
led_more [] b known = refl
led_more (a ∷ text) b known = ap (led_by a) (led_more text b known)

pub led_whole : (text : List ℕ) → led_all text (Whole []) ≡ Whole text
unfolding led_all
led_whole [] = refl
led_whole (a ∷ text) = ap (led_by a) (led_whole text)

pub led_fails : (text : List ℕ) (e : ℕ) → led_all text (Fails e) ≡ Fails e
unfolding led_all
led_fails [] e = refl
led_fails (a ∷ text) e = ap (led_by a) (led_fails text e)

pub led_misses : (text : List ℕ) (x : ℕ) → led_all text (Misses x) ≡ Misses x
unfolding led_all
led_misses [] x = refl
led_misses (a ∷ text) x = ap (led_by a) (led_misses text x)

pub led_none : (known : Known) → led_all [] known ≡ known
unfolding led_all
led_none known = refl

-- ---- one byte more of a text

pub text_first : (byte : ℕ → Seen) (fault x b : ℕ) → b ≢ 0 → byte x ≡ Byte b
    → (n : ℕ) → text_seen byte fault (suc n) x ≡ led_by b (text_seen byte fault n (further x 1))
unfolding text_seen
text_first byte fault x zero some h n = absurd (some refl)
text_first byte fault x (suc b) some h n = rw h refl

pub text_ends : (byte : ℕ → Seen) (fault x : ℕ) → byte x ≡ Byte 0 → (n : ℕ) → text_seen byte fault (suc n) x ≡ Whole []
unfolding text_seen
text_ends byte fault x h n = rw h refl

pub text_unmapped : (byte : ℕ → Seen) (fault x : ℕ) → byte x ≡ Unmapped → (n : ℕ) → text_seen byte fault (suc n) x ≡ Fails efault
unfolding text_seen
text_unmapped byte fault x h n = rw h refl

pub text_unread : (byte : ℕ → Seen) (fault x : ℕ) → byte x ≡ Unread → (n : ℕ) → text_seen byte fault (suc n) x ≡ Misses x
unfolding text_seen
text_unread byte fault x h n = rw h refl

pub text_without_end : (byte : ℕ → Seen) (fault x : ℕ) → text_seen byte fault 0 x ≡ Fails fault
unfolding text_seen
text_without_end byte fault x = refl

-- ---- one byte more of a value

pub value_first : (byte : ℕ → Seen) (x b : ℕ) → byte x ≡ Byte b → (n : ℕ) → value_seen byte (suc n) x ≡ led_by b (value_seen byte n (further x 1))
unfolding value_seen
value_first byte x b h n = rw h refl

pub value_unmapped : (byte : ℕ → Seen) (x : ℕ) → byte x ≡ Unmapped → (n : ℕ) → value_seen byte (suc n) x ≡ Fails efault
unfolding value_seen
value_unmapped byte x h n = rw h refl

pub value_unread : (byte : ℕ → Seen) (x : ℕ) → byte x ≡ Unread → (n : ℕ) → value_seen byte (suc n) x ≡ Misses x
unfolding value_seen
value_unread byte x h n = rw h refl

pub value_whole : (byte : ℕ → Seen) (x : ℕ) → value_seen byte 0 x ≡ Whole []
unfolding value_seen
value_whole byte x = refl

-- ---- addresses

pub further_none : (x : ℕ) → x < 2 ^ 64 → further x 0 ≡ x
further_none x h = omega arith

pub further_one : (x n : ℕ) → further (further x n) 1 ≡ further x (n + 1)
further_one x n = omega arith

pub further_later : (x i : ℕ) → further (further x 1) i ≡ further x (suc i)
further_later x i = omega arith

-- ---- steps of loops: what is known of a text is what is known of its bytes from a place on, led by those before

abbrev pub Led : (ℕ → ℕ → Known) → ℕ → ℕ → ℕ → List ℕ → Known → Type 0
Led rest limit place addr text total = total ≡ led_all text (rest (limit - place) (further addr place))

one_left : (limit place : ℕ) → place < limit → limit - place ≡ suc (limit - (place + 1))
one_left limit place low = omega arith

all_left : (limit : ℕ) → limit - 0 ≡ limit
all_left limit = omega arith

none_left : (limit place : ℕ) → limit ≤ place → limit - place ≡ 0
none_left limit place over = omega arith

pub begins : (rest : ℕ → ℕ → Known) (limit addr : ℕ) → addr < 2 ^ 64 → Led rest limit 0 addr [] (rest limit addr)
begins rest limit addr low = rw (all_left limit, further_none addr low, led_none) refl

pub goes_on : (rest : ℕ → ℕ → Known) (limit place addr b : ℕ) (text : List ℕ) (total : Known) → place < limit
    → ((n : ℕ) → rest (suc n) (further addr place) ≡ led_by b (rest n (further (further addr place) 1)))
    → Led rest limit place addr text total → Led rest limit (place + 1) addr (text ++ b ∷ []) total
goes_on rest limit place addr b text total low h e =
    e ∙ ap (λ (n : ℕ). led_all text (rest n (further addr place))) (one_left limit place low)
    ∙ ap (led_all text) (h (limit - (place + 1)))
    ∙ ap (λ (y : ℕ). led_all text (led_by b (rest (limit - (place + 1)) y))) (further_one addr place)
    ∙ sym (led_more text b (rest (limit - (place + 1)) (further addr (place + 1))))

pub ends : (rest : ℕ → ℕ → Known) (limit place addr : ℕ) (text : List ℕ) (total end : Known) → place < limit
    → ((n : ℕ) → rest (suc n) (further addr place) ≡ end) → Led rest limit place addr text total → total ≡ led_all text end
ends rest limit place addr text total end low h e =
    e ∙ ap (λ (n : ℕ). led_all text (rest n (further addr place))) (one_left limit place low) ∙ ap (led_all text) (h (limit - (place + 1)))

pub comes_to_end : (rest : ℕ → ℕ → Known) (limit place addr : ℕ) (text : List ℕ) (total end : Known) → limit ≤ place
    → rest 0 (further addr place) ≡ end → Led rest limit place addr text total → total ≡ led_all text end
comes_to_end rest limit place addr text total end over h e =
    e ∙ ap (λ (n : ℕ). led_all text (rest n (further addr place))) (none_left limit place over) ∙ ap (led_all text) h
