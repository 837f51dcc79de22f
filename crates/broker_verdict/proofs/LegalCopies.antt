-- What this project's own workers do rests on one copy, each byte of which they read in the caller's memory, and found valid afterwards.
-- By what the memory answers a read, and the pieces of the copy in the plan's order (`CopyGiven`).
use Rattle.mediation.proofs.Common.{[], Actor, and_parts, ap, arith, Bool, cases_Bool, Check, Err, ev, Event, false, if◌then◌else◌, inl, inr, is_worker, length, List, mem, nat_le, None, Ok, Option}
use Rattle.mediation.proofs.Common.{progress, Read, refl, Result, reverse, reverse-append, Script, Some, subst, suc, sym, true, wanted, What, Worker, ℕ, zero, append_assoc, eq-eqb}
use Rattle.mediation.proofs.Common.{◌&&◌, ◌+◌, ◌++◌, ◌<◌, ◌^◌, ◌∙◌, ◌∷◌, ◌≡◌, ◌≤◌, ◌⊎◌}
use Rattle.std.proofs.Common.{ap₂, length-append, map, ◌-◌, ◌*◌}
use Rattle.std.proofs.lemmas.Bool.{le-ltb, ltb-true, or_cases}
use Rattle.std.specs.Prelude.{nat_lt, slice_get}
use Rattle.hist_model.specs.Copies.{further, Wants}
use Rattle.hist_model.specs.Mediated.{Each, ReadsMemory}
use Rattle.hist_model.specs.Memory.{bytes_read, is_mapped, mapped_bytes}
use Rattle.hist_model.specs.declared.copy.Part.{Part}
use Rattle.hist_model.specs.declared.copy.Part.TheVariants.{Text, Value}
use Rattle.hist_model.specs.declared.script.MapRange.{MapRange}
use Rattle.hist_model.proofs.MappedBytes.{at_least, at_most}
use Rattle.broker_verdict.proofs.CopyGiven.{Given, GivenParts, PlanAnswers}
use Rattle.broker_verdict.proofs.LegalReads.{AllValid, answers, InChain}
use Rattle.broker_verdict.proofs.SeatReads.{worker-is}
use Rattle.broker_verdict.specs.SeatCopies.{gives_byte, gives_bytes, gives_texts, is_byte, told, worth_least}
use Rattle.broker_verdict.specs.Seats.{confirmed, Foreign, Fresh, rank, reads, reads_after, SeatRead, Stale, Valid, with_read, Worth}

-- ---- what memory answers

-- each range of the map ends at most at 2^47
abbrev pub EndLow : List MapRange → Type 0
EndLow [] = Unit {0}
EndLow (r ∷ more) = (r.start + 4096 * r.pages ≤ 2 ^ 47) × EndLow more

mapped-low : (map : List MapRange) (a : ℕ) → EndLow map → is_mapped map a ≡ true → a < 2 ^ 47
mapped-low [] a low h = cc
mapped-low (r ∷ more) a low h = elim (or_cases (nat_le r.start a && nat_lt a (r.start + 4096 * r.pages)) (is_mapped more a) h) [
  | inl q ↦ omega (arith, ltb-true a (r.start + 4096 * r.pages) (and_parts (nat_le r.start a) (nat_lt a (r.start + 4096 * r.pages)) q).1, low.0)
  | inr q ↦ mapped-low more a low.1 q
]

-- bytes that are mapped end at most there
bytes-low : (S : Script) (K : List Event) (g a n : ℕ) → EndLow S.map → a ≤ 2 ^ 47 → a + length (mapped_bytes S K g a n) ≤ 2 ^ 47
unfolding mapped_bytes
bytes-low S K g a zero low h = omega arith
bytes-low S K g a (suc n) low h = elim (cases_Bool (is_mapped S.map a)) [
  | inl m ↦ let l = mapped-low S.map a low m in let ih = bytes-low S K g (a + 1) n low (omega arith) in rw m (omega (arith, ih))
  | inr m ↦ rw m (omega arith)
]

-- a read's bytes are at most as many as were asked for, some where any were, and don't wrap
abbrev pub IsSound : ℕ → ℕ → Result (List ℕ) ℕ → Type 0
IsSound addr len (Ok bytes) = (addr + length bytes ≤ 2 ^ 47) × (length bytes ≤ len) × (1 ≤ len → 1 ≤ length bytes)
IsSound addr len (Err e) = Unit {0}

sound-read : (S : Script) (K : List Event) (g addr len : ℕ) → EndLow S.map → IsSound addr len (bytes_read S K g addr len)
sound-read S K g addr len low = elim (cases_Bool (is_mapped S.map addr)) [
  | inl m ↦ let l = mapped-low S.map addr low m in rw m (bytes-low S K g addr len low (omega arith), at_most S K g addr len, at_least S K g addr len m)
  | inr m ↦ rw m tt
]

abbrev pub AreSound : List SeatRead → Type 0
AreSound [] = Unit {0}
AreSound (r ∷ more) = IsSound r.addr r.len r.answer × AreSound more

sound-confirmed : (all : List SeatRead) → AreSound all → AreSound (map (λ r. confirmed r) all)
sound-confirmed [] h = tt
sound-confirmed (r ∷ more) h = (h.0, sound-confirmed more h.1)

sound-with : (S : Script) (K : List Event) (w addr len : ℕ) (a : Result (List ℕ) ℕ) (o : Option ℕ) (all : List SeatRead) → EndLow S.map → AreSound all
    → ((g : ℕ) → o ≡ Some g → a ≡ bytes_read S K g addr len) → AreSound (with_read K w addr len a o all)
sound-with S K w addr len a None all low h m = h
sound-with S K w addr len a (Some g) all low h m = (rw (m g refl) (sound-read S K g addr len low), h)

sound-if : (b : Bool) (all : List SeatRead) → AreSound all → AreSound (if b then map (λ r. confirmed r) all else all)
sound-if true all h = sound-confirmed all h
sound-if false all h = h

sound-after : (S : Script) (K : List Event) (w : ℕ) (what : What) (all : List SeatRead) → EndLow S.map → ReadsMemory S K (ev (Worker w) what) → AreSound all → AreSound (reads_after K w what all)
sound-after S K w (Read addr len a) all low m h = sound-with S K w addr len a (mem K w) all low h (λ g q. m w addr len g a refl refl q)
sound-after S K w (Check x (Ok u)) all low m h = sound-if _ all h
sound-after S K w what all low m h = grind arith

own-event : (K : List Event) (e : Event) (w : ℕ) → e.who ≡ Worker w → ◌≡◌ {A = Event} e (ev (Worker w) e.what)
own-event K e w h = ap (λ (a : Actor). ev a e.what) h

-- so are all reads of a seat, of memory that the kernel keeps
pub sound : (S : Script) (K : List Event) → EndLow S.map → Each (ReadsMemory S) K → (w : ℕ) → AreSound (reads K w)
unfolding reads
sound S [] low m w = tt
sound S (e ∷ K) low m w = elim (cases_Bool (is_worker e.who w)) [
  | inl q ↦ rw q (sound-after S K w e.what (reads K w) low (rw (own-event K e w (worker-is e.who w q)) at m.0) (sound S K low m.1 w))
  | inr q ↦ rw q (sound S K low m.1 w)
]

-- ---- what the reads give

-- a byte of a read is told at its address
told-byte : (addr len i b : ℕ) (bytes : List ℕ) → slice_get bytes i ≡ Some b → is_byte (told addr len (Ok bytes) (addr + i)) b ≡ true
told-byte addr len i b bytes h =
    let q : addr + i - addr ≡ i = omega arith in
    rw (le-ltb (addr + i) addr (omega arith), q, h) (eq-eqb b b refl)

get-middle : (pre : List ℕ) (b : ℕ) (more : List ℕ) → slice_get (pre ++ b ∷ more) (length pre) ≡ Some b
get-middle [] b more = refl
get-middle (c ∷ pre) b more = get-middle pre b more

abbrev pub Gives : List SeatRead → ℕ → ℕ → Type 0
Gives all x b = gives_byte all x b ≡ true

-- the bytes of the newest read
gives-own : (r : SeatRead) (more : List SeatRead) (pre bytes : List ℕ) → r.answer ≡ Ok (pre ++ bytes) → r.addr + (length pre + length bytes) ≤ 2 ^ 47
    → Given (Gives (r ∷ more)) (r.addr + length pre) bytes
gives-own r more pre [] q l = tt
gives-own r more pre (b ∷ bytes) q l =
    let here : is_byte (told r.addr r.len r.answer (r.addr + length pre)) b ≡ true = rw q (told-byte r.addr r.len (length pre) b (pre ++ b ∷ bytes) (get-middle pre b bytes)) in
    let n : length (pre ++ b ∷ []) ≡ length pre + 1 = length-append pre (b ∷ []) in
    let z : r.addr + length (pre ++ b ∷ []) ≡ further (r.addr + length pre) 1 = omega (arith, n, l) in (
      rw here refl,
      subst (λ (x : ℕ). Given (Gives (r ∷ more)) x bytes) z
          (gives-own r more (pre ++ b ∷ []) bytes (q ∙ ap (λ (all : List ℕ). Ok all) (sym (append_assoc pre (b ∷ []) bytes))) (omega (arith, n, l))),
    )

gives-older : (r : SeatRead) (more : List SeatRead) (x b : ℕ) → Gives more x b → Gives (r ∷ more) x b
gives-older r more x b h = elim (cases_Bool (is_byte (told r.addr r.len r.answer x) b)) [ inl t ↦ rw t refl | inr f ↦ rw f h ]

given-older : (r : SeatRead) (more : List SeatRead) (x : ℕ) (bytes : List ℕ) → Given (Gives more) x bytes → Given (Gives (r ∷ more)) x bytes
given-older r more x [] h = tt
given-older r more x (b ∷ bytes) h = (gives-older r more x b h.0, given-older r more (further x 1) bytes h.1)

never-nil : {A : Type 0} (xs : List A) (b : A) (later : List A) → [] ≡ xs ++ b ∷ later → ⊥
never-nil [] b later h = cc
never-nil (x ∷ xs) b later h = cc

rank-most : (least : Worth) → nat_le (rank least) 4 ≡ true
rank-most Foreign = refl
rank-most Stale = refl
rank-most Fresh = refl
rank-most Valid = refl

-- one more element at the end of a list
record Split {A : Type 0} (xs : List A) (y : A) (earlier : List A) (b : A) (later : List A) : Type 0 where
  pub rest : List A
  pub later_is : later ≡ rest ++ y ∷ []
  pub xs_is : xs ≡ earlier ++ b ∷ rest

split-last : {A : Type 0} (xs : List A) (y : A) (earlier : List A) (b : A) (later : List A) → xs ++ y ∷ [] ≡ earlier ++ b ∷ later → ((xs ≡ earlier) × (y ≡ b)) ⊎ Split xs y earlier b later
split-last [] y [] b later h = inl (refl, cc)
split-last (x ∷ xs) y [] b later h = inr (record { rest = xs; later_is = cc; xs_is = cc })
split-last [] y (e ∷ earlier) b later h = let q : [] ≡ earlier ++ b ∷ later = cc in absurd (never-nil earlier b later q)
split-last {A = A} (x ∷ xs) y (e ∷ earlier) b later h =
    let t : xs ++ y ∷ [] ≡ earlier ++ b ∷ later = cc in
    let z : x ≡ e = cc in
    elim (split-last xs y earlier b later t) [
      | inl q ↦ inl (ap₂ (λ (v : A) (vs : List A). v ∷ vs) z q.0, q.1)
      | inr k ↦ inr (record { rest = k.rest; later_is = k.later_is; xs_is = ap₂ (λ (v : A) (vs : List A). v ∷ vs) z k.xs_is })
    ]

some-same : {A : Type 0} {x y : A} → Some x ≡ Some y → x ≡ y
some-same h = cc

-- the piece that a read answered
piece-is : (parts : List Part) (taken : List (Result (List ℕ) ℕ)) (r : SeatRead) (a n : ℕ) → wanted (progress parts taken) ≡ Some (r.addr, r.len) → progress parts taken ≡ Wants a n → (a ≡ r.addr) × (n ≡ r.len)
piece-is parts taken r a n w p = let q : ◌≡◌ {A = ℕ × ℕ} (a, n) (r.addr, r.len) = some-same (rw p at w) in (ap (λ (x : ℕ × ℕ). x.0) q, ap (λ (x : ℕ × ℕ). x.1) q)

-- the answers to the pieces of a plan give them
pub chain-given : (parts : List Part) (all : List SeatRead) → InChain parts all → AreSound all
    → ((taken : List (Result (List ℕ) ℕ)) (a n : ℕ) → progress parts taken ≡ Wants a n → 1 ≤ n) → PlanAnswers (Gives all) parts (reverse (answers all))
chain-given parts [] chain kept some earlier later bytes a n q w = absurd (never-nil earlier (Ok bytes) later q)
chain-given parts (r ∷ more) chain kept some earlier later bytes a n q w =
    let z : reverse (r.answer ∷ answers more) ≡ reverse (answers more) ++ r.answer ∷ [] = reverse-append (r.answer ∷ []) (answers more) in
    elim (split-last (reverse (answers more)) r.answer earlier (Ok bytes) later (sym z ∙ q)) [
      | inl t ↦
          let k = piece-is parts earlier r a n (rw t.0 at chain.0) w in
          let u : IsSound r.addr r.len (Ok bytes) = rw t.1 at kept.0 in
          let l = some earlier a n w in
          let g = gives-own r more [] bytes t.1 (omega (arith, u.0)) in
          let y : r.addr + 0 ≡ a = omega (arith, k.0) in
          (subst (λ (x : ℕ). Given (Gives (r ∷ more)) x bytes) y g, u.2 (rw k.1 at l), omega (arith, u.1, k.1))
      | inr t ↦
          let ih = chain-given parts more chain.1 kept.1 some earlier t.rest bytes a n t.xs_is w in
          (given-older r more a bytes ih.0, ih.1, ih.2)
    ]

-- bytes that are given are read
bytes-given : (all : List SeatRead) (x : ℕ) (bytes : List ℕ) → Given (Gives all) x bytes → gives_bytes all x bytes ≡ true
bytes-given all x [] h = refl
bytes-given all x (b ∷ bytes) h = rw (h.0, bytes-given all (further x 1) bytes h.1) refl

pub texts-given : (all : List SeatRead) (parts : List Part) (texts : List (List ℕ)) → GivenParts (Gives all) parts texts → gives_texts all parts texts ≡ true
texts-given all [] [] h = refl
texts-given all [] (text ∷ texts) h = absurd h
texts-given all (part ∷ parts) [] h = absurd h
texts-given all (Text addr limit fault ∷ parts) (text ∷ texts) h = rw (bytes-given all addr (text ++ 0 ∷ []) h.0, texts-given all parts texts h.1) refl
texts-given all (Value addr size ∷ parts) (text ∷ texts) h = rw (bytes-given all addr text h.0, texts-given all parts texts h.1) refl

-- reads that were found valid count, however far they are to be relied on
pub least-any : (least : Worth) (all : List SeatRead) → AllValid all → worth_least least all ≡ all
least-any least [] h = refl
least-any least (r ∷ more) h = rw (h.0, rank-most least, least-any least more h.1) refl
