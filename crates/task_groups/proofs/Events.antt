-- What an event makes of the state of groups.
-- By the definitions of bytes and files at the newest event, and since a group keeps its place.
use Rattle.std.proofs.Common.{◌≡◌, ◌≢◌, ℕ, ◌+◌, ◌<◌, Bool, true, false, List, [], ◌∷◌, length, Option, Some, None, Ok, Err, inl, inr, refl, sym, ap, ◌∙◌, subst, arith}
use Rattle.std.specs.Prelude.{Result, if◌then◌else◌, ◌==◌}
use Rattle.std.proofs.lemmas.Bool.{cases_eq, cases_lt, eq-eqb, ne_eqb}
use Rattle.sys_abi.specs.declared.wire.Addfd.{Addfd}
use Rattle.hist_model.specs.Files.{files, files_after, after_spawn, after_native, request_for, with_slot}
use Rattle.hist_model.specs.Kinds.{copies, is_shared}
use Rattle.hist_model.specs.Look.{Name, task_name}
use Rattle.hist_model.specs.Memory.{byte, byte_or, byte_stored, group_named, last_call, own_group, stored, stored_by_call, storing_group, written, written_to}
use Rattle.hist_model.specs.Natives.{Files, NativeStep, Fails, Gives, Changes, Opens, Closes, Writes, native_answer, native_step}
use Rattle.hist_model.specs.Signals.{call_of}
use Rattle.hist_model.specs.Steps.{place_or}
use Rattle.hist_model.specs.declared.event.Actor.{Actor}
use Rattle.hist_model.specs.declared.event.Actor.TheVariants.{Task, Worker}
use Rattle.hist_model.specs.declared.event.Event.{Event}
use Rattle.hist_model.specs.declared.event.SpawnKind.{SpawnKind}
use Rattle.hist_model.specs.declared.event.SpawnKind.TheVariants.{New, Copied, Shared}
use Rattle.hist_model.specs.declared.event.What.{What}
use Rattle.hist_model.specs.declared.event.What.TheVariants.{Spawn, Native, Install, OpenBase, Act, LetGo}
use Rattle.hist_model.specs.declared.request.Obj.{Obj}
use Rattle.hist_model.specs.declared.request.Obj.TheVariants.{Broker}
use Rattle.hist_model.specs.declared.script.Script.{Script}
use Rattle.history_frames.specs.Ordinals.{count_of, groups_made, group_of, makes_group}
use Rattle.history_frames.proofs.Ordinals.{made-more, made-place, made-same, place-new}
use Rattle.history_frames.proofs.Groups.{group-stays, group-older, groups-apart}
use Rattle.task_groups.specs.Stands.{contents, state, KeepsSlots, IsOther, IsFresh, IsCopyOf, IsPoke, IsPlant, IsInstall, opens_or_closes, bytes_done, slot_done}
use Rattle.task_groups.specs.State.{Contents, Alike, Agree, after, new_contents, no_groups, one_more, set_contents, slot_set, with_change, with_copy, with_fresh, with_group, with_installed, with_number, with_stored}
use Rattle.task_groups.proofs.Sets.{set-here, set-other}

-- ---- bytes

byte-older : (S : Script) (K : List Event) (e : Event) (g b : ℕ) → g < length K → byte S (e ∷ K) g b ≡ byte_or (written S K e g b) (byte S K g b)
unfolding byte
byte-older S K e g b l = rw (ne_eqb g (length K) (λ q. omega arith))

byte-made : (S : Script) (K : List Event) (e : Event) (b : ℕ) → byte S (e ∷ K) (length K) b ≡ (if copies e.what then byte S K (own_group K e.who) b else 0)
unfolding byte
byte-made S K e b = rw (eq-eqb (length K) (length K) refl)

byte-kept : (S : Script) (K : List Event) (e : Event) (g b : ℕ) → g < length K → stored S K e.who e.what ≡ None → byte S (e ∷ K) g b ≡ byte S K g b
byte-kept S K e g b l h = byte-older S K e g b l ∙ ap (λ (x : Option ℕ). byte_or x (byte S K g b)) (ap (λ (s : Option (ℕ × List ℕ)). written_to K e.who g (byte_stored s b)) h)

-- ---- slots

-- a slot after an event, by what it was
slot-is : (S : Script) (K : List Event) (e : Event) (w : What) (g m : ℕ) → e.what ≡ w → (files S (e ∷ K)).slot g m ≡ (files_after S K (files S K) e.who w).slot g m
unfolding files
slot-is S K e w g m h = ap (λ (x : What). (files_after S K (files S K) e.who x).slot g m) h

native-keeps : (F : Files) (f g m : ℕ) (s : NativeStep) → opens_or_closes s ≡ false → (after_native F f s).slot g m ≡ F.slot g m
native-keeps F f g m (Opens n x) h = cc
native-keeps F f g m (Closes n) h = cc
native-keeps F f g m s h = refl

thread-keeps : (K : List Event) (F : Files) (a : Actor) (kind : SpawnKind) (g m : ℕ) → is_shared kind ≡ true → (after_spawn K F a kind).slot g m ≡ F.slot g m
thread-keeps K F a New g m h = cc
thread-keeps K F a Copied g m h = cc
thread-keeps K F a Shared g m h = refl

other-slots : (S : Script) (K : List Event) (a : Actor) (w : What) (g m : ℕ) → KeepsSlots S K a w → (files_after S K (files S K) a w).slot g m ≡ (files S K).slot g m
other-slots S K a (Spawn n (Ok made)) g m h = thread-keeps K (files S K) a made.1 g m h
other-slots S K a (Native (Ok n)) g m h = native-keeps (files S K) (own_group K a) g m (native_step S K (files S K) (task_name a)) h
other-slots S K a (Install (Ok n)) g m h = absurd h
other-slots S K (Worker w) (Act q cap (Ok u)) g m h = refl
other-slots S K (Worker w) (OpenBase p d (Ok u)) g m h = refl
other-slots S K (Worker w) LetGo g m h = refl
other-slots S K a w g m h = refl

pub other-makes : (S : Script) (K : List Event) (a : Actor) (w : What) → KeepsSlots S K a w → makes_group w ≡ false
other-makes S K a (Spawn n (Ok made)) h = rw h
other-makes S K a (Install (Ok n)) h = absurd h
other-makes S K a w h = refl

slots-kept : (S : Script) (K : List Event) (e : Event) (g m : ℕ) → KeepsSlots S K e.who e.what → (files S (e ∷ K)).slot g m ≡ (files S K).slot g m
slots-kept S K e g m h = slot-is S K e e.what g m refl ∙ other-slots S K e.who e.what g m h

-- the slots where one of a group is set
abbrev slot_with : Option (ℕ × Option Obj) → ℕ → (ℕ → ℕ → Option Obj) → ℕ → ℕ → Option Obj
slot_with None g slot h m = slot h m
slot_with (Some x) g slot h m = with_slot slot g x.0 x.1 h m

after-slot : (F : Files) (g : ℕ) (s : NativeStep) (h m : ℕ) → (after_native F g s).slot h m ≡ slot_with (slot_done s) g F.slot h m
after-slot F g (Changes T) h m = refl
after-slot F g (Opens n x) h m = refl
after-slot F g (Closes n) h m = refl
after-slot F g (Fails e) h m = refl
after-slot F g (Gives v) h m = refl
after-slot F g Writes h m = refl

-- ---- contents

module _ (S : Script) (K : List Event) (e : Event) where
  -- the contents of a group that was there, by its place
  alike-at : (p t : ℕ) (c : Contents) → group_of K p ≡ Some t → ((b : ℕ) → byte S (e ∷ K) t b ≡ c.byte b) → ((n : ℕ) → (files S (e ∷ K)).slot t n ≡ c.slot n) → Alike c (contents S (e ∷ K) p)
  alike-at p t c at b s = record {
    byte = λ a. ap (λ (h : Option ℕ). byte S (e ∷ K) (place_or h) a) (group-stays e K p t at) ∙ b a;
    slot = λ n. ap (λ (h : Option ℕ). (files S (e ∷ K)).slot (place_or h) n) (group-stays e K p t at) ∙ s n;
  }

  byte-at : (p t b : ℕ) → group_of K p ≡ Some t → byte S K t b ≡ (contents S K p).byte b
  byte-at p t b at = sym (ap (λ (h : Option ℕ). byte S K (place_or h) b) at)

  slot-at : (p t n : ℕ) → group_of K p ≡ Some t → (files S K).slot t n ≡ (contents S K p).slot n
  slot-at p t n at = sym (ap (λ (h : Option ℕ). (files S K).slot (place_or h) n) at)

  -- a group that was there keeps what its place keeps
  kept-at : (p : ℕ) → p < groups_made K → ((t b : ℕ) → group_of K p ≡ Some t → byte S (e ∷ K) t b ≡ byte S K t b) → ((t n : ℕ) → group_of K p ≡ Some t → (files S (e ∷ K)).slot t n ≡ (files S K).slot t n)
      → Alike (contents S K p) (contents S (e ∷ K) p)
  kept-at p l b s =
      let t = made-place makes_group K p l in
      alike-at p t.0 (contents S K p) t.1 (λ a. b t.0 a t.1 ∙ byte-at p t.0 a t.1) (λ n. s t.0 n t.1 ∙ slot-at p t.0 n t.1)

  -- one group has this, and each other what it had
  alike-set : (o p : ℕ) (c : Contents) → (p ≡ o → Alike c (contents S (e ∷ K) p)) → (p ≢ o → Alike (contents S K p) (contents S (e ∷ K) p)) → Alike (set_contents o c (contents S K) p) (contents S (e ∷ K) p)
  alike-set o p c a b = elim (cases_eq p o) [
    | inl q ↦ subst (λ (x : Contents). Alike x (contents S (e ∷ K) p)) (sym (set-here o p c (contents S K) q)) (a q)
    | inr d ↦ subst (λ (x : Contents). Alike x (contents S (e ∷ K) p)) (sym (set-other o p c (contents S K) d)) (b d)
  ]

  written-none : (g h b : ℕ) → stored S K e.who e.what ≡ None → written S K e h b ≡ (if h == g then byte_stored None b else None)
  written-none g h b s = rw s (none (h == g))
    where
      none : (b : Bool) → ◌≡◌ {A = Option ℕ} None (if b then None else None)
      none true = refl
      none false = refl

  written-some : (g h b : ℕ) (bytes : Option (ℕ × List ℕ)) → stored S K e.who e.what ≡ bytes → storing_group K e.who ≡ Some g → written S K e h b ≡ (if h == g then byte_stored bytes b else None)
  written-some g h b bytes s w = rw s (by (byte_stored bytes b))
    where
      by : (x : Option ℕ) → written_to K e.who h x ≡ (if h == g then x else None)
      by None = elim (cases_eq h g) [ inl q ↦ rw (eq-eqb h g q) refl | inr d ↦ rw (ne_eqb h g d) refl ]
      by (Some y) = elim (cases_eq h g) [ inl q ↦ rw (w, eq-eqb g h (sym q), eq-eqb h g q) refl | inr d ↦ rw (w, ne_eqb g h (λ z. d (sym z)), ne_eqb h g d) refl ]

-- ---- the state

-- two states of a script with the same holders
agree : (S : Script) (L : List Event) (n : ℕ) (f : ℕ → Contents) (living handles : ℕ → ℕ) → groups_made L ≡ n → ((p : ℕ) → p < n → Alike (f p) (contents S L p))
    → Agree (record { map = S.map; rlimit = S.rlimit; made = n; living = living; handles = handles; contents = f }) (state S L living handles)
agree S L n f living handles m c = record { map = refl; rlimit = refl; made = m; living = λ p. refl; handles = λ p. refl; contents = c }

module _ (S : Script) (K : List Event) (e : Event) (living handles : ℕ → ℕ) where
  pub others : IsOther S K e.who e.what → Agree (state S K living handles) (state S (e ∷ K) living handles)
  others h = agree S (e ∷ K) (groups_made K) (contents S K) living handles (made-same makes_group e K (other-makes S K e.who e.what h.slots))
      (λ p l. kept-at S K e p l (λ t b at. byte-kept S K e t b (group-older K p t at) h.stores_none) (λ t n at. slots-kept S K e t n h.slots))

  -- an event that makes no group changes one by what it stores and what it sets
  changes-from : (o g : ℕ) (bytes : Option (ℕ × List ℕ)) (slot : Option (ℕ × Option Obj)) → makes_group e.what ≡ false → group_of K o ≡ Some g → ((h b : ℕ) → written S K e h b ≡ (if h == g then byte_stored bytes b else None))
      → ((h m : ℕ) → (files S (e ∷ K)).slot h m ≡ slot_with slot g (files S K).slot h m) → Agree (with_change o bytes slot (state S K living handles)) (state S (e ∷ K) living handles)
  changes-from o g bytes slot k at w s =
      let c = after bytes slot (contents S K o) in
      agree S (e ∷ K) (groups_made K) (set_contents o c (contents S K)) living handles (made-same makes_group e K k) (λ p l. alike-set S K e o p c
      (λ q. alike-at S K e p g c (ap (λ x. group_of K x) q ∙ at)
      (λ b. byte-older S K e g b (group-older K o g at) ∙ (ap (λ (x : Option ℕ). byte_or x (byte S K g b)) (own b) ∙ ap (byte_or (byte_stored bytes b)) (byte-at S K e o g b at)))
      (λ m. s g m ∙ (slot-here slot g m ∙ ap (slot_set slot m) (slot-at S K e o g m at))))
      (λ d. kept-at S K e p l
      (λ t b i. byte-older S K e t b (group-older K p t i) ∙ ap (λ (x : Option ℕ). byte_or x (byte S K t b)) (away t b (groups-apart K p o t g i at d)))
      (λ t m i. s t m ∙ slot-other slot t g m (groups-apart K p o t g i at d))))
    where
      own : (b : ℕ) → written S K e g b ≡ byte_stored bytes b
      own b = w g b ∙ rw (eq-eqb g g refl) refl

      away : (t b : ℕ) → t ≢ g → written S K e t b ≡ None
      away t b d = w t b ∙ rw (ne_eqb t g d) refl

      slot-here : (slot : Option (ℕ × Option Obj)) (g m : ℕ) → slot_with slot g (files S K).slot g m ≡ slot_set slot m ((files S K).slot g m)
      slot-here None g m = refl
      slot-here (Some x) g m = rw (eq-eqb g g refl) refl

      slot-other : (slot : Option (ℕ × Option Obj)) (t g m : ℕ) → t ≢ g → slot_with slot g (files S K).slot t m ≡ (files S K).slot t m
      slot-other None t g m d = refl
      slot-other (Some x) t g m d = rw (ne_eqb t g d) refl

  stores : (o g a : ℕ) (v : List ℕ) → KeepsSlots S K e.who e.what → stored S K e.who e.what ≡ Some (a, v) → storing_group K e.who ≡ Some g → group_of K o ≡ Some g → Agree (with_stored o a v (state S K living handles)) (state S (e ∷ K) living handles)
  stores o g a v k s w at = changes-from o g (Some (a, v)) None (other-makes S K e.who e.what k) at (λ h b. written-some S K e g h b (Some (a, v)) s w) (λ h m. slots-kept S K e h m k)

  pub pokes : (o a : ℕ) (v : List ℕ) → IsPoke K e o a v → Agree (with_stored o a v (state S K living handles)) (state S (e ∷ K) living handles)
  pokes o a v p = stores o p.group a v (rw p.what tt) (rw p.what refl) (rw p.who p.own) p.at

  pub plants : (o a : ℕ) (v : List ℕ) → IsPlant K e o a v → Agree (with_stored o a v (state S K living handles)) (state S (e ∷ K) living handles)
  plants o a v p = stores o p.group a v (rw p.what tt) (rw p.what refl) (rw p.who p.own) p.at

  installs-at : (o n : ℕ) → e.what ≡ Install (Ok n) → group_of K o ≡ Some (own_group K e.who)
      → Agree (with_number o n (Some (Broker (request_for K (call_of K (task_name e.who))).srcfd)) (state S K living handles)) (state S (e ∷ K) living handles)
  installs-at o n h at =
      let g = own_group K e.who in
      changes-from o g None (Some (n, Some (Broker (request_for K (call_of K (task_name e.who))).srcfd))) (ap makes_group h) at (λ t b. written-none S K e g t b (rw h refl)) (λ g m. slot-is S K e (Install (Ok n)) g m h)

  pub installs : (o g : ℕ) (asked : Addfd) (answer : Result ℕ ℕ) → group_of K o ≡ Some g → IsInstall K e g asked answer → Agree (with_installed o asked.srcfd answer (state S K living handles)) (state S (e ∷ K) living handles)
  installs o g asked (Ok n) at i = let a = installs-at o n i.what (at ∙ ap Some (sym i.own)) in rw i.source at a
  installs o g asked (Err x) at i = others (rw i.what (record { stores_none = refl; slots = tt }))

  -- a native call stores and sets what its step says
  pub natives : (n : Name) (o g : ℕ) (bytes : Option (ℕ × List ℕ)) (s : NativeStep) (a : Result ℕ ℕ) → e.who ≡ Task n → e.what ≡ Native a → group_named K n ≡ Some g → group_of K o ≡ Some g
      → stored_by_call S (last_call K n) ≡ bytes → native_step S K (files S K) n ≡ s → a ≡ native_answer s → Agree (with_change o (bytes_done bytes a) (slot_done s) (state S K living handles)) (state S (e ∷ K) living handles)
  natives n o g bytes s (Ok v) who what own at t i q =
      changes-from o g bytes (slot_done s) (rw what refl) at (λ h b. written-some S K e g h b bytes (rw (what, who) t) (rw who own))
      (λ h m. slot-is S K e (Native (Ok v)) h m what ∙ rw (who, i) (rw own (after-slot (files S K) g s h m)))
  natives n o g bytes s (Err x) who what own at t i q =
      subst (λ (y : Option (ℕ × Option Obj)). Agree (with_change o None y (state S K living handles)) (state S (e ∷ K) living handles)) (none s q)
      (changes-from o g None None (rw what refl) at (λ h b. written-none S K e g h b (rw what refl)) (λ h m. slot-is S K e (Native (Err x)) h m what))
    where
      none : (s : NativeStep) → Err x ≡ native_answer s → None ≡ slot_done s
      none (Fails e) q = refl
      none (Gives v) q = cc
      none (Changes T) q = cc
      none (Opens v y) q = cc
      none (Closes v) q = cc
      none Writes q = cc

  -- a group that was made
  made-from : (c : Contents) → makes_group e.what ≡ true → stored S K e.who e.what ≡ None → ((b : ℕ) → byte S (e ∷ K) (length K) b ≡ c.byte b)
      → ((g m : ℕ) → (files S (e ∷ K)).slot g m ≡ (if g == length K then c.slot m else (files S K).slot g m)) → Agree (with_group c (state S K living handles)) (state S (e ∷ K) (one_more living (groups_made K)) handles)
  made-from c k s b f = agree S (e ∷ K) (groups_made K + 1) (set_contents (groups_made K) c (contents S K)) (one_more living (groups_made K)) handles (made-more makes_group e K k) (λ p l.
      alike-set S K e (groups_made K) p c
      (λ q. let at = ap (λ x. group_of (e ∷ K) x) q ∙ place-new makes_group e K k in record {
        byte = λ a. ap (λ (h : Option ℕ). byte S (e ∷ K) (place_or h) a) at ∙ b a;
        slot = λ n. ap (λ (h : Option ℕ). (files S (e ∷ K)).slot (place_or h) n) at ∙ (f (length K) n ∙ rw (eq-eqb (length K) (length K) refl) refl);
      })
      (λ d. kept-at S K e p (below p (groups_made K) l d) (λ t b i. byte-kept S K e t b (group-older K p t i) s)
      (λ t m i. f t m ∙ rw (ne_eqb t (length K) (λ q. omega (arith, group-older K p t i, q))) refl)))
    where
      below : (p n : ℕ) → p < n + 1 → p ≢ n → p < n
      below p n l d = elim (cases_lt p n) [ inl a ↦ a | inr a ↦ absurd (d (omega (arith, l, a))) ]

  pub freshes : IsFresh e → Agree (with_fresh (state S K living handles)) (state S (e ∷ K) (one_more living (groups_made K)) handles)
  freshes f = made-from new_contents (rw f.is refl) (rw f.is refl) (λ b. byte-made S K e b ∙ rw f.is refl) (λ g m. slot-is S K e (Spawn f.name (Ok (f.pid, New))) g m f.is)

  pub copies_of : (o : ℕ) → IsCopyOf K e o → Agree (with_copy o (state S K living handles)) (state S (e ∷ K) (one_more living (groups_made K)) handles)
  copies_of o f =
      let own : own_group K e.who ≡ f.group = ap place_or f.own in
      made-from (contents S K o) (rw f.spawn.is refl) (rw f.spawn.is refl)
      (λ b. byte-made S K e b ∙ (rw f.spawn.is refl ∙ (ap (λ h. byte S K h b) own ∙ byte-at S K e o f.group b f.at)))
      (λ g m. slot-is S K e (Spawn f.spawn.name (Ok (f.spawn.pid, Copied))) g m f.spawn.is
      ∙ ap (λ (x : Option Obj). if g == length K then x else (files S K).slot g m) (ap (λ h. (files S K).slot h m) own ∙ slot-at S K e o f.group m f.at))

-- at first there are none
pub at_first : (S : Script) → Agree (no_groups S.map S.rlimit) (state S [] (λ o. 0) (λ o. 0))
unfolding count_of
at_first S = agree S [] 0 (λ p. new_contents) (λ o. 0) (λ o. 0) refl (λ p l. absurd (omega (arith, l)))
