-- This project's own workers go from the directory that the call's descriptor named when they opened it.
-- By induction on the steps since the call was fetched: what is opened while the call is listed is its task's.
use Rattle.mediation.proofs.Common.{[], Act, Actor, and_parts, any_of, ap, arith, base, base_after, base_answer, base_of, Bool, cases_Bool, Check, checks, eq-eqb, Err, ev, Event, false, Files, files}
use Rattle.mediation.proofs.Common.{gives_up, group, holder, if◌then◌else◌, inl, inr, is_good_check, is_worker, IsLegal, length, LetGo, List, listed, None, not, Notif, notif, Ok, OpenBase, opened, opens_base, Option}
use Rattle.mediation.proofs.Common.{or_parts, place_or, Policy, refl, Result, Rules, rules_of, Script, session, session_call, skips, Some, sym, System, system_of, true, What, ℕ, ℤ, ended, name_of, after_native}
use Rattle.mediation.proofs.Common.{◌&&◌, ◌<◌, ◌==◌, ◌^◌, ◌||◌, ◌∙◌, ◌∷◌, ◌≡◌, ◌⊎◌, number_of}
use Rattle.std.specs.Prelude.{is_some, negsuc, slice_get}
use Rattle.mediation.proofs.Common.{Acts, base_dirfd, pos, request}
use Rattle.hist_model.specs.Legal.{Legal}
use Rattle.hist_model.specs.Decisions.{granted_where}
use Rattle.hist_model.specs.Requests.{argument, signed_32}
use Rattle.hist_model.specs.declared.policy.Rule.{Rule}
use Rattle.hist_model.specs.declared.request.Request.TheVariants.{Mount}
use Rattle.broker_verdict.proofs.CallNumbers.{by_number, IsOther}
use Rattle.broker_verdict.proofs.LegalClauses.{keeps, none-some}
use Rattle.broker_verdict.proofs.LegalGrants.{act-is, Uses, uses}
use Rattle.broker_verdict.specs.Choices.{decided}
use Rattle.broker_verdict.specs.Trusted.{Keeps, seat_breaks}
use Rattle.broker_verdict.specs.declared.clause.Clause.TheVariants.{OtherBase}
use Rattle.mediation.proofs.Common.{AddfdPut, AddfdTake, OpenMem, Plant, Read, Recv, Send}
use Rattle.hist_model.specs.Legal.{is_there}
use Rattle.std.specs.Ordering.{int_eq}
use Rattle.std.proofs.lemmas.Bool.Decides.{Decides-int_eq}
use Rattle.sys_abi.specs.Errnos.{ebadf, esrch}
use Rattle.history_frames.proofs.Listed.{is_call-below}
use Rattle.hist_model.specs.Natives.{NativeStep}
use Rattle.hist_model.specs.Tasks.{is_none}
use Rattle.mediation.proofs.Handles.{check-listed, good-check, opens-own}
use Rattle.mediation.proofs.Hands.{by-session, FetchKept, in-hand-of, InSession, moved, still, StillKept, worker-row, WorkKept, works}
use Rattle.mediation.proofs.Order.{is-own, ordered}
use Rattle.mediation.proofs.Rows.{AtWork, by-few-steps, HasOpened, Row, WorkerRow}
use Rattle.hist_model.specs.Decisions.{path_of}
use Rattle.hist_model.specs.declared.policy.Cap.{Cap}
use Rattle.hist_model.specs.declared.request.Request.{Request}
use Rattle.broker_verdict.specs.Effects.{base_is_unchecked, goes_elsewhere, has_base, has_none, is_relative}
use Rattle.mediation.proofs.Tasks.{listed-was}
use Rattle.broker_verdict.specs.Seats.{args_of, base_now, base_worth, base_worth_after, directory_named, directory_opened, dirfd_of_call, Fresh, is_base, is_base_refused, is_own_id, nr_of, refused_after, request_with, Valid, validated, Worth}
use Rattle.broker_verdict.proofs.LegalSeats.{own-check}

int-same : (z : ℤ) → int_eq z z ≡ true
int-same z = grind (arith, Decides-int_eq)

-- the base that the files have for a worker
unfoldable pub base-in : Script → List Event → ℕ → Option ℕ
base-in S K w = (files S K).base w

native-same : (F : Files) (g : ℕ) (s : NativeStep) (w : ℕ) → (after_native F g s).base w ≡ F.base w
native-same F g s w = grind arith

-- the step opens or drops a base
abbrev pub moves : What → Bool
moves (OpenBase p d (Ok u)) = true
moves LetGo = true
moves _ = false

pub base-same : (S : Script) (e : Event) (K : List Event) (w : ℕ) → (is_worker e.who w && moves e.what) ≡ false → base-in S (e ∷ K) w ≡ base-in S K w
unfolding base-in files
base-same S e K w h = grind (arith, native-same)

pub base-opens : (S : Script) (K : List Event) (a : Actor) (w p : ℕ) (d : ℤ) (u : Unit {0}) → is_worker a w ≡ true
    → base-in S (ev a (OpenBase p d (Ok u)) ∷ K) w ≡ base_of S (files S K) (place_or (opened K (holder K p))) d
unfolding base-in files
base-opens S K a w p d u h = grind arith

worth-mine : (S : Script) (K : List Event) (a : Actor) (w : ℕ) (what : What) → is_worker a w ≡ true → base_worth S (ev a what ∷ K) w ≡ base_worth_after S K w what (base_worth S K w)
unfolding base_worth
worth-mine S K a w what q = rw q refl

-- an opening that was answered ok found a directory of a living task
record IsOpening (S : Script) (K : List Event) (p : ℕ) (d : ℤ) : Type 0 where
  pub task : ℕ
  pub found : holder K p ≡ Some task
  pub there : is_some (base_of S (files S K) (group K task) d) ≡ true

opening-there : (S : Script) (K : List Event) (p : ℕ) (d : ℤ) (u : Unit {0}) (o : Option ℕ) → holder K p ≡ o → ◌≡◌ {A = Result (Unit {0}) ℕ} (Ok u) (base_answer (system_of S) K o d) → IsOpening S K p d
opening-there S K p d u None q h = absurd (cc h)
opening-there S K p d u (Some t) q h = record { task = t; found = q; there = living (ended K (name_of K t)) h }
  where
    some-there : (o : Option ℕ) → ◌≡◌ {A = Result (Unit {0}) ℕ} (Ok u) (if is_there o then Ok tt else Err ebadf) → is_some o ≡ true
    some-there None z = cc
    some-there (Some n) z = refl

    living : (b : Bool) → ◌≡◌ {A = Result (Unit {0}) ℕ} (Ok u) (if b then Err esrch else (if is_there (base_of S (files S K) (group K t) d) then Ok tt else Err ebadf)) → is_some (base_of S (files S K) (group K t) d) ≡ true
    living true z = cc
    living false z = some-there (base_of S (files S K) (group K t) d) z

-- a call with a path goes from a descriptor
path-granted : (o : Option Rule) (q : Request) → path_of (granted_where o q) ≡ path_of q
path-granted None q = refl
path-granted (Some rule) (Mount source target fstype options via flags shift) = refl
path-granted (Some rule) q = refl

path-other : (args : List ℕ) (texts : List (List ℕ)) (m : ℕ) → IsOther m → is_relative (path_of (request (pos m) args texts)) ≡ true → (d : ℤ) × (base_dirfd (pos m) args ≡ Some d)
path-other args texts m o h = absurd (cc (rw (o.request_is args texts) at h))

path-at : (nr : ℕ) (args : List ℕ) (texts : List (List ℕ)) → is_relative (path_of (request (pos nr) args texts)) ≡ true → (d : ℤ) × (base_dirfd (pos nr) args ≡ Some d)
unfolding request base_dirfd
path-at nr args texts = by_number (λ (m : ℕ). is_relative (path_of (request (pos m) args texts)) ≡ true → (d : ℤ) × (base_dirfd (pos m) args ≡ Some d))
    (λ h. absurd (cc h)) (λ h. (negsuc 99, refl)) (λ h. (negsuc 99, refl)) (λ h. (negsuc 99, refl))
    (λ h. (signed_32 (argument args 0), refl)) (λ h. (signed_32 (argument args 0), refl)) (path-other args texts) nr

path-dirfd : (o : Option Rule) (nr : ℤ) (args : List ℕ) (texts : List (List ℕ)) → is_relative (path_of (granted_where o (request nr args texts))) ≡ true → (d : ℤ) × (base_dirfd nr args ≡ Some d)
unfolding request
path-dirfd o nr args texts h = of-call nr (rw (path-granted o (request nr args texts)) at h)
  where
    no-path : (n : ℕ) → is_relative (path_of (request (negsuc n) args texts)) ≡ true → ⊥
    no-path n z = cc

    of-call : (nr : ℤ) → is_relative (path_of (request nr args texts)) ≡ true → (d : ℤ) × (base_dirfd nr args ≡ Some d)
    of-call (pos n) z = path-at n args texts z
    of-call (negsuc n) z = absurd (no-path n z)

module _ (P : Policy) (S : Script) where
  abbrev R : Rules
  R = rules_of P S.figures

  abbrev T : System
  T = system_of S

  -- while the call is listed, or once a check was good, the seat's base can be relied on
  abbrev worth_of : Bool → Worth
  worth_of checked = if checked then Valid else Fresh

  abbrev Based : List Event → ℕ → ℕ → Type 0
  Based K w c = (g : ℕ) → base K w ≡ Some g → (listed K c ≡ true) ⊎ (any_of is_good_check (session K w) ≡ true)
      → (is_some (base-in S K w) ≡ true) × (base_worth S K w ≡ worth_of (any_of is_good_check (session K w)))

  based-fetch : FetchKept T R Based
  based-fetch K a w c n legal room q row o idle own g h l = let m = (moved (ev a (Recv (Ok n))) K w q).2 in absurd (cc (m, idle.base_none, h))

  same-some : (x y : Option ℕ) → is_some x ≡ true → y ≡ x → is_base x y ≡ true
  same-some None y h z = cc
  same-some (Some m) y h z = rw z (eq-eqb m m refl)

  now-fresh : (K : List Event) (c : ℕ) (x : ℤ) (there : Option ℕ) → dirfd_of_call K c ≡ Some x → is_some there ≡ true → directory_named S K c x ≡ there → listed K c ≡ true → base_now S K (Some c) there ≡ Fresh
  now-fresh K c x there v t d l = let b : is_base there (directory_named S K c x) ≡ true = same-some there (directory_named S K c x) t d in rw (v, b, l) refl

  -- what the steps before tell is at the head of each of these
  was-own : (K : List Event) (w c : ℕ) (what : What) → IsLegal T R K → length K < 2 ^ 64 → InSession K w c → WorkerRow T R K w what
      → (listed K c ≡ true) ⊎ (any_of is_good_check (what ∷ session K w) ≡ true) → (listed K c ≡ true) ⊎ (any_of is_good_check (session K w) ≡ true)
  was-own K w c (Check x (Ok u)) legal room i row l = inl (and_parts (listed K c) _ (check-listed T R K w c x u legal room i row)).0
  was-own K w c what legal room i row l = l

  good-checks : (own : List What) → any_of is_good_check own ≡ true → 0 < number_of checks own
  good-checks [] h = absurd (cc h)
  good-checks (b ∷ own) h = let ih = good-checks own in grind arith

  -- an opening stands before the checks
  unchecked-yet : (K : List Event) (w p : ℕ) (x : ℤ) (y : Result (Unit {0}) ℕ) → IsLegal T R K → WorkerRow T R K w (OpenBase p x y) → any_of is_good_check (session K w) ≡ true → ⊥
  unchecked-yet K w p x y legal row h = elim ((ordered R (session K w) (is-own T R K legal w)).based row.0.0 row.0.1.notif_is (good-checks (session K w) h)) [ inl z ↦ cc (z, row.0.5) | inr z ↦ cc (z, row.0.3) ]

  before-checks : (K : List Event) (w p : ℕ) (x : ℤ) (y : Result (Unit {0}) ℕ) → IsLegal T R K → WorkerRow T R K w (OpenBase p x y) → any_of is_good_check (session K w) ≡ false
  before-checks K w p x y legal row = elim (cases_Bool (any_of is_good_check (session K w))) [ inl t ↦ absurd (unchecked-yet K w p x y legal row t) | inr f ↦ f ]

  based-here : (K : List Event) (a : Actor) (w c p : ℕ) (x : ℤ) (u : Unit {0}) → IsLegal T R K → is_worker a w ≡ true → WorkerRow T R K w (OpenBase p x (Ok u)) → (i : InSession K w c) → session_call K w ≡ Some c → listed K c ≡ true
      → (is_some (base-in S (ev a (OpenBase p x (Ok u)) ∷ K) w) ≡ true) × (base_worth S (ev a (OpenBase p x (Ok u)) ∷ K) w ≡ Fresh)
  based-here K a w c p x u legal q row i s l =
      let o = opening-there S K p x u (holder K p) refl row.1 in
      let n : row.0.0 ≡ i.n = cc (row.0.1.notif_is, i.notif_is) in
      let pid : p ≡ i.n.pid = row.0.4 ∙ ap (λ (m : Notif). m.pid) n in
      let own = (opens-own T R K w c legal i l).0 in
      let t : o.task ≡ i.t = cc (o.found, ap (holder K) pid, own) in
      let v : dirfd_of_call K c ≡ Some x = rw (n ∙ i.whole_is) at row.0.5 in
      let held : holder K p ≡ Some i.t = ap (holder K) pid ∙ own in
      let z : directory_opened S K p x ≡ base_of S (files S K) (group K i.t) x = rw held refl in
      let d : directory_named S K c x ≡ base_of S (files S K) (group K i.t) x = rw i.task_is refl in
      let o-there : is_some (base_of S (files S K) (group K i.t) x) ≡ true = rw t at o.there in
      let there : is_some (directory_opened S K p x) ≡ true = rw z o-there in
      let same : directory_named S K c x ≡ directory_opened S K p x = d ∙ sym z in
      let f : base-in S (ev a (OpenBase p x (Ok u)) ∷ K) w ≡ directory_opened S K p x = base-opens S K a w p x u q in
      (rw f there, worth-mine S K a w (OpenBase p x (Ok u)) q ∙ rw s (now-fresh K c x (directory_opened S K p x) v there same l))

  valid-now : (b : Bool) → validated (worth_of b) ≡ Valid
  valid-now true = refl
  valid-now false = refl

  -- the step leaves the base and its worth as they are
  abbrev leaves_base : What → Bool
  leaves_base (OpenBase p d (Ok u)) = false
  leaves_base (Check x (Ok u)) = false
  leaves_base what = works what

  quiet-base : (K : List Event) (what : What) (b : Option ℕ) → moves what ≡ false → base_after K what b ≡ b
  quiet-base K what b h = grind arith

  quiet-moves : (b c : Bool) → c ≡ false → (b && c) ≡ false
  quiet-moves b c h = grind arith

  left-moves : (what : What) → leaves_base what ≡ true → moves what ≡ false
  left-moves what h = grind arith

  left-worth : (K : List Event) (w : ℕ) (what : What) (b : Worth) → leaves_base what ≡ true → base_worth_after S K w what b ≡ b
  left-worth K w what b h = grind arith

  left-check : (what : What) (own : List What) → leaves_base what ≡ true → any_of is_good_check (what ∷ own) ≡ any_of is_good_check own
  left-check what own h = grind arith

  -- what was so before is so behind a step that leaves the base
  earlier : (K : List Event) (a : Actor) (w c : ℕ) (what : What) → IsLegal T R K → length K < 2 ^ 64 → WorkerRow T R K w what → (i : InSession K w c) → session (ev a what ∷ K) w ≡ what ∷ session K w
      → (listed (ev a what ∷ K) c ≡ true) ⊎ (any_of is_good_check (session (ev a what ∷ K) w) ≡ true) → (listed K c ≡ true) ⊎ (any_of is_good_check (session K w) ≡ true)
  earlier K a w c what legal room row i own l =
      was-own K w c what legal room i row (elim l [ inl x ↦ inl (listed-was (ev a what) K c (is_call-below K c i.call) x) | inr x ↦ inr (rw own at x) ])

  based-quiet : (K : List Event) (a : Actor) (w c : ℕ) (what : What) → leaves_base what ≡ true → IsLegal T R K → length K < 2 ^ 64 → is_worker a w ≡ true → WorkerRow T R K w what → (i : InSession K w c)
      → session (ev a what ∷ K) w ≡ what ∷ session K w → Based K w c → Based (ev a what ∷ K) w c
  based-quiet K a w c what z legal room q row i own ih g h l =
      let e = ev a what in
      let base-is : base (e ∷ K) w ≡ base K w = (moved e K w q).2 ∙ quiet-base K what (base K w) (left-moves what z) in
      let j = ih g (sym base-is ∙ h) (earlier K a w c what legal room row i own l) in
      let f = base-same S e K w (quiet-moves (is_worker a w) (moves what) (left-moves what z)) in
      let m : any_of is_good_check (session (e ∷ K) w) ≡ any_of is_good_check (session K w) = ap (any_of is_good_check) own ∙ left-check what (session K w) z in
      (rw f j.0, worth-mine S K a w what q ∙ (left-worth K w what (base_worth S K w) z ∙ (j.1 ∙ sym (ap worth_of m))))

  based-check : (K : List Event) (a : Actor) (w c x : ℕ) (u : Unit {0}) → IsLegal T R K → length K < 2 ^ 64 → is_worker a w ≡ true → WorkerRow T R K w (Check x (Ok u)) → (i : InSession K w c) → session_call K w ≡ Some c
      → session (ev a (Check x (Ok u)) ∷ K) w ≡ Check x (Ok u) ∷ session K w → Based K w c → Based (ev a (Check x (Ok u)) ∷ K) w c
  based-check K a w c x u legal room q row i s own ih g h l =
      let e = ev a (Check x (Ok u)) in
      let base-is : base (e ∷ K) w ≡ base K w = (moved e K w q).2 ∙ quiet-base K (Check x (Ok u)) (base K w) refl in
      let j = ih g (sym base-is ∙ h) (earlier K a w c (Check x (Ok u)) legal room row i own l) in
      let f = base-same S e K w (quiet-moves (is_worker a w) false refl) in
      let o : is_own_id K w x ≡ true = own-check T R K w c x u i s row in
      let y : base_worth S (e ∷ K) w ≡ Valid = worth-mine S K a w (Check x (Ok u)) q ∙ (rw o (rw j.1 (valid-now (any_of is_good_check (session K w))))) in
      (rw f j.0, y ∙ sym (ap (λ (own : List What). worth_of (any_of is_good_check own)) own))

  based-work : WorkKept T R Based
  based-work K a w c (OpenBase p x (Ok u)) legal room q row v i s own ih g h l =
      let n = before-checks K w p x (Ok u) legal.1 row in
      let m : any_of is_good_check (session (ev a (OpenBase p x (Ok u)) ∷ K) w) ≡ false = ap (any_of is_good_check) own ∙ n in
      elim l [
        | inl z ↦ let j = based-here K a w c p x u legal.1 q row i s (listed-was (ev a (OpenBase p x (Ok u))) K c (is_call-below K c i.call) z) in (j.0, j.1 ∙ sym (ap worth_of m))
        | inr z ↦ absurd (cc (z, m))
      ]
  based-work K a w c (Check x (Ok u)) legal room q row v i s own ih g h l = based-check K a w c x u legal.1 (omega arith) q row i s own ih g h l
  based-work K a w c (OpenBase p x (Err y)) legal room q row v i s own ih g h l = based-quiet K a w c (OpenBase p x (Err y)) refl legal.1 (omega arith) q row i own ih g h l
  based-work K a w c (OpenMem p y) legal room q row v i s own ih g h l = based-quiet K a w c (OpenMem p y) refl legal.1 (omega arith) q row i own ih g h l
  based-work K a w c (Check x (Err y)) legal room q row v i s own ih g h l = based-quiet K a w c (Check x (Err y)) refl legal.1 (omega arith) q row i own ih g h l
  based-work K a w c (Read x n y) legal room q row v i s own ih g h l = based-quiet K a w c (Read x n y) refl legal.1 (omega arith) q row i own ih g h l
  based-work K a w c (Act x limit y) legal room q row v i s own ih g h l = based-quiet K a w c (Act x limit y) refl legal.1 (omega arith) q row i own ih g h l
  based-work K a w c (Plant x b limit y) legal room q row v i s own ih g h l = based-quiet K a w c (Plant x b limit y) refl legal.1 (omega arith) q row i own ih g h l
  based-work K a w c (AddfdPut x y) legal room q row v i s own ih g h l = based-quiet K a w c (AddfdPut x y) refl legal.1 (omega arith) q row i own ih g h l
  based-work K a w c (AddfdTake y) legal room q row v i s own ih g h l = based-quiet K a w c (AddfdTake y) refl legal.1 (omega arith) q row i own ih g h l
  based-work K a w c (Send x b y) legal room q row v i s own ih g h l = based-quiet K a w c (Send x b y) refl legal.1 (omega arith) q row i own ih g h l
  based-work K a w c what legal room q row v i s own ih g h l = absurd (cc v)

  skip-moves : (b : Bool) (what : What) → (b && not (skips what)) ≡ false → (b && moves what) ≡ false
  skip-moves b what h = grind arith

  skip-worth : (K : List Event) (w : ℕ) (what : What) (b : Worth) → skips what ≡ true → base_worth_after S K w what b ≡ b
  skip-worth K w what b h = grind arith

  still-worth : (e : Event) (K : List Event) (w : ℕ) → (is_worker e.who w && not (skips e.what)) ≡ false → base_worth S (e ∷ K) w ≡ base_worth S K w
  unfolding base_worth
  still-worth e K w q = grind (arith, skip-worth)

  based-still : StillKept T R Based
  based-still K e w c legal room q i s own ih g h l =
      let f = base-same S e K w (skip-moves (is_worker e.who w) e.what q) in
      let j = ih g (sym (still e K w q).3 ∙ h) (elim l [ inl x ↦ inl (listed-was e K c (is_call-below K c i.call) x) | inr x ↦ inr (rw own at x) ]) in
      (rw f j.0, still-worth e K w q ∙ (j.1 ∙ sym (ap (λ (own : List What). worth_of (any_of is_good_check own)) own)))

  pub based : (K : List Event) → IsLegal T R K → length K < 2 ^ 64 → (w c : ℕ) → session_call K w ≡ Some c → Based K w c
  based = by-session T R Based based-fetch based-work based-still

  -- ---- a base that isn't there

  -- the seat was answered so of the directory that its call names
  abbrev Refused : List Event → ℕ → ℕ → Type 0
  Refused K w c = any_of opens_base (session K w) ≡ true → any_of gives_up (session K w) ≡ false → base K w ≡ None → (listed K c ≡ true) ⊎ (any_of is_good_check (session K w) ≡ true)
      → is_base_refused S K w ≡ true

  refused-fetch : FetchKept T R Refused
  refused-fetch K a w c n legal room q row o idle own h g b l = absurd (cc (rw own at h))

  mine-refused : (K : List Event) (a : Actor) (w : ℕ) (what : What) → is_worker a w ≡ true → is_base_refused S (ev a what ∷ K) w ≡ refused_after S K w what (is_base_refused S K w)
  unfolding is_base_refused
  mine-refused K a w what q = rw q refl

  record IsClosed (K : List Event) (o : Option ℕ) (x : ℤ) (y : ℕ) : Type 0 where
    pub task : ℕ
    pub found : o ≡ Some task
    pub none : is_none (base_of S (files S K) (group K task) x) ≡ true
    pub error : y ≡ ebadf

  closed-none : (y : ℕ) (o : Option ℕ) → ◌≡◌ {A = Result (Unit {0}) ℕ} (Err y) (if is_there o then Ok tt else Err ebadf) → (is_none o ≡ true) × (y ≡ ebadf)
  closed-none y None z = (refl, cc)
  closed-none y (Some n) z = absurd (cc z)

  closed-living : (K : List Event) (x : ℤ) (y t : ℕ) (b : Bool) → (y == esrch) ≡ false → ◌≡◌ {A = Result (Unit {0}) ℕ} (Err y) (if b then Err esrch else (if is_there (base_of S (files S K) (group K t) x) then Ok tt else Err ebadf))
      → (is_none (base_of S (files S K) (group K t) x) ≡ true) × (y ≡ ebadf)
  closed-living K x y t true g z = let q : y ≡ esrch = cc in absurd (cc (eq-eqb y esrch q, g))
  closed-living K x y t false g z = closed-none y (base_of S (files S K) (group K t) x) z

  closed : (K : List Event) (o : Option ℕ) (x : ℤ) (y : ℕ) → (y == esrch) ≡ false → ◌≡◌ {A = Result (Unit {0}) ℕ} (Err y) (base_answer T K o x) → IsClosed K o x y
  closed K None x y g z = let q : y ≡ esrch = cc in absurd (cc (eq-eqb y esrch q, g))
  closed K (Some t) x y g z = let k = closed-living K x y t (ended K (name_of K t)) g z in record { task = t; found = refl; none = k.0; error = k.1 }

  refused-here : (K : List Event) (a : Actor) (w c p y : ℕ) (x : ℤ) → IsLegal T R K → is_worker a w ≡ true → WorkerRow T R K w (OpenBase p x (Err y)) → (i : InSession K w c) → session_call K w ≡ Some c → listed K c ≡ true
      → (y == esrch) ≡ false → is_base_refused S (ev a (OpenBase p x (Err y)) ∷ K) w ≡ true
  refused-here K a w c p y x legal q row i s l g =
      let k = closed K (holder K p) x y g row.1 in
      let n : row.0.0 ≡ i.n = cc (row.0.1.notif_is, i.notif_is) in
      let pid : p ≡ i.n.pid = row.0.4 ∙ ap (λ (m : Notif). m.pid) n in
      let o = (opens-own T R K w c legal i l).0 in
      let t : k.task ≡ i.t = cc (k.found, ap (holder K) pid, o) in
      let v : dirfd_of_call K c ≡ Some x = rw (n ∙ i.whole_is) at row.0.5 in
      let z : is_none (directory_named S K c x) ≡ true = rw i.task_is (rw t at k.none) in
      mine-refused K a w (OpenBase p x (Err y)) q ∙ rw (k.error, s, v, int-same x, z) refl

  -- the step opens no base
  abbrev opens_none : What → Bool
  opens_none (OpenBase p d y) = false
  opens_none what = works what

  none-opened : (what : What) (own : List What) → opens_none what ≡ true → any_of opens_base (what ∷ own) ≡ any_of opens_base own
  none-opened what own h = grind arith

  none-moved : (what : What) → opens_none what ≡ true → moves what ≡ false
  none-moved what h = grind arith

  none-refused : (K : List Event) (w : ℕ) (what : What) (b : Bool) → opens_none what ≡ true → refused_after S K w what b ≡ b
  none-refused K w what b h = grind arith

  refused-quiet : (K : List Event) (a : Actor) (w c : ℕ) (what : What) → opens_none what ≡ true → IsLegal T R K → length K < 2 ^ 64 → is_worker a w ≡ true → WorkerRow T R K w what → (i : InSession K w c)
      → session (ev a what ∷ K) w ≡ what ∷ session K w → Refused K w c → Refused (ev a what ∷ K) w c
  refused-quiet K a w c what z legal room q row i own ih h g b l =
      let e = ev a what in
      let base-is : base (e ∷ K) w ≡ base K w = (moved e K w q).2 ∙ quiet-base K what (base K w) (none-moved what z) in
      let k = was-own K w c what legal room i row (elim l [ inl x ↦ inl (listed-was e K c (is_call-below K c i.call) x) | inr x ↦ inr (rw own at x) ]) in
      mine-refused K a w what q ∙ (none-refused K w what (is_base_refused S K w) z
      ∙ ih (sym (none-opened what (session K w) z) ∙ (rw own at h)) (or_parts (gives_up what) (any_of gives_up (session K w)) (rw own at g)).1 (sym base-is ∙ b) k)

  refused-work : WorkKept T R Refused
  refused-work K a w c (OpenBase p x (Ok u)) legal room q row v i s own ih h g b l =
      let o = opening-there S K p x u (holder K p) refl row.1 in
      absurd (cc ((moved (ev a (OpenBase p x (Ok u))) K w q).2, ap (opened K) o.found, b))
  refused-work K a w c (OpenBase p x (Err y)) legal room q row v i s own ih h g b l =
      let e = ev a (OpenBase p x (Err y)) in
      let n = (or_parts (y == esrch) (any_of gives_up (session K w)) (rw own at g)).0 in
      elim l [
        | inl z ↦ refused-here K a w c p y x legal.1 q row i s (listed-was e K c (is_call-below K c i.call) z) n
        | inr z ↦ absurd (unchecked-yet K w p x (Err y) legal.1 row (rw own at z))
      ]
  refused-work K a w c what legal room q row v i s own ih h g b l = refused-quiet K a w c what v legal.1 (omega arith) q row i own ih h g b l

  skip-refused : (K : List Event) (w : ℕ) (what : What) (b : Bool) → skips what ≡ true → refused_after S K w what b ≡ b
  skip-refused K w what b h = grind arith

  still-refused : (e : Event) (K : List Event) (w : ℕ) → (is_worker e.who w && not (skips e.what)) ≡ false → is_base_refused S (e ∷ K) w ≡ is_base_refused S K w
  unfolding is_base_refused
  still-refused e K w q = grind (arith, skip-refused)

  refused-still : StillKept T R Refused
  refused-still K e w c legal room q i s own ih h g b l =
      still-refused e K w q ∙ ih (rw own at h) (rw own at g) (sym (still e K w q).3 ∙ b) (elim l [ inl x ↦ inl (listed-was e K c (is_call-below K c i.call) x) | inr x ↦ inr (rw own at x) ])

  refused : (K : List Event) → IsLegal T R K → length K < 2 ^ 64 → (w c : ℕ) → session_call K w ≡ Some c → Refused K w c
  refused = by-session T R Refused refused-fetch refused-work refused-still

  -- ---- where there is none, the files have none

  drops : (K : List Event) (a : Actor) (w : ℕ) → is_worker a w ≡ true → base-in S (ev a LetGo ∷ K) w ≡ None
  unfolding base-in files
  drops K a w h = grind arith

  none-more : (K : List Event) (a : Actor) (what : What) (w : ℕ) → Row T R K a what → (base K w ≡ None → base-in S K w ≡ None) → base (ev a what ∷ K) w ≡ None → base-in S (ev a what ∷ K) w ≡ None
  unfolding base
  none-more K a what w row ih h = elim (cases_Bool (is_worker a w && moves what)) [
    | inr f ↦ base-same S (ev a what) K w f ∙ ih (same-base (is_worker a w) f h)
    | inl t ↦ let p = and_parts (is_worker a w) (moves what) t in moved-none what (worker-row T R K a what w row p.0) p.1 (rw p.0 at h) p.0
  ]
    where
      same-base : (b : Bool) → (b && moves what) ≡ false → (if b then base_after K what (base K w) else base K w) ≡ None → base K w ≡ None
      same-base true f z = sym (quiet-base K what (base K w) f) ∙ z
      same-base false f z = z

      moved-none : (what : What) → WorkerRow T R K w what → moves what ≡ true → base_after K what (base K w) ≡ None → is_worker a w ≡ true → base-in S (ev a what ∷ K) w ≡ None
      moved-none (OpenBase p d (Ok u)) r m z q = let o = opening-there S K p d u (holder K p) refl r.1 in absurd (cc (ap (opened K) o.found, z))
      moved-none LetGo r m z q = drops K a w q
      moved-none what r m z q = absurd (cc m)

  none-there : (K : List Event) → IsLegal T R K → length K < 2 ^ 64 → (w : ℕ) → base K w ≡ None → base-in S K w ≡ None
  none-there = by-few-steps T R (λ K. (w : ℕ) → base K w ≡ None → base-in S K w ≡ None) (λ w h. unfold base-in files in refl) (λ K e legal room row ih w. none-more K e.who e.what w row (ih w))

  -- ---- an act goes from its call's directory

  goes-own : (K : List Event) (w c : ℕ) (n : Notif) (q : Request) (limit : Option Cap) (a : Result (Unit {0}) ℕ) (d : ℤ) → IsLegal T R K → length K < 2 ^ 64 → session_call K w ≡ Some c → AtWork (session K w) n
      → HasOpened R (session K w) n → any_of checks (session K w) ≡ true → dirfd_of_call K c ≡ Some d → R.dirfd n ≡ Some d → goes_elsewhere S K w (Act q limit a) ≡ false
  unfolding base-in
  goes-own K w c n q limit a d legal room s work ready k f r = go (base K w) refl
    where
      i : InSession K w c
      i = in-hand-of T R K w c legal room s

      good : any_of is_good_check (session K w) ≡ true
      good = good-check (session K w) k work.no_end

      opened-it : any_of opens_base (session K w) ≡ true
      opened-it = elim ready.base [ inl z ↦ absurd (cc (z, r)) | inr z ↦ z ]

      and-false : (b : Bool) → (b && false) ≡ false
      and-false true = refl
      and-false false = refl

      either : (a b : Bool) → a ≡ true → (is_relative (path_of q) && not (a || b)) ≡ false
      either a b h = rw h (and-false (is_relative (path_of q)))

      either-last : (a b : Bool) → b ≡ true → (is_relative (path_of q) && not (a || b)) ≡ false
      either-last true b h = and-false (is_relative (path_of q))
      either-last false b h = rw h (and-false (is_relative (path_of q)))

      go : (o : Option ℕ) → base K w ≡ o → goes_elsewhere S K w (Act q limit a) ≡ false
      go None z =
          let b = refused K legal room w c s opened-it work.no_end z (inr good) in
          let x : (files S K).base w ≡ None = none-there K legal room w z in
          either-last (has_base Fresh S K w) (has_none S K w) (rw (x, b) refl)
      go (Some g) z =
          let m = based K legal room w c s g z (inr good) in
          let y : base_worth S K w ≡ Valid = m.1 ∙ rw good refl in
          either (has_base Fresh S K w) (has_none S K w) (rw (m.0, y) refl)

  -- and a check was good behind its opening
  pub base_checked : (K : List Event) (w : ℕ) (q : Request) (limit : Option Cap) (a : Result (Unit {0}) ℕ) → IsLegal T R K → length K < 2 ^ 64 → WorkerRow T R K w (Act q limit a) → base_is_unchecked S K w (Act q limit a) ≡ false
  unfolding base-in
  base_checked K w q limit a legal room row = go (base K w) refl
    where
      u : Uses P S K w (Acts q limit)
      u = uses P S K w row.0.0 (Acts q limit) legal room row.0.1 row.0.3 row.0.6 row.0.4

      good : any_of is_good_check (session K w) ≡ true
      good = good-check (session K w) row.0.3.checked row.0.1.no_end

      and-false : (b : Bool) → (b && false) ≡ false
      and-false true = refl
      and-false false = refl

      go : (o : Option ℕ) → base K w ≡ o → base_is_unchecked S K w (Act q limit a) ≡ false
      go None z = let x : (files S K).base w ≡ None = none-there K legal room w z in rw x (and-false (is_relative (path_of q)))
      go (Some g) z =
          let m = based K legal room w u.call u.in_hand g z (inr good) in
          let y : base_worth S K w ≡ Valid = m.1 ∙ rw good refl in
          rw (m.0, y) (and-false (is_relative (path_of q)))

  seat-goes : (K : List Event) (w : ℕ) (what : What) → IsLegal T R K → length K < 2 ^ 64 → WorkerRow T R K w what → seat_breaks P S OtherBase K w what (session_call K w) ≡ false
  seat-goes K w (Act q limit a) legal room row =
      let u = uses P S K w row.0.0 (Acts q limit) legal room row.0.1 row.0.3 row.0.6 row.0.4 in
      let j = in-hand-of T R K w u.call legal room u.in_hand in
      let y : row.0.0 ≡ notif K u.call = cc (row.0.1.notif_is, j.notif_is, j.whole_is) in
      let i = act-is P S (request_with K u.call u.texts) q limit (decided P K u.call u.texts) u.decided_so in
      rw u.in_hand (go u.call u.in_hand y (is_relative (path_of q)) refl (λ h. path-dirfd (slice_get P.rules (decided P K u.call u.texts).0) (nr_of K u.call) (args_of K u.call) u.texts (rw i.is at h)))
    where
      or-no : (b : Bool) → b ≡ false → (b || false) ≡ false
      or-no b h = rw h refl

      go : (c : ℕ) → session_call K w ≡ Some c → row.0.0 ≡ notif K c → (b : Bool) → is_relative (path_of q) ≡ b → (b ≡ true → (d : ℤ) × (dirfd_of_call K c ≡ Some d)) → (goes_elsewhere S K w (Act q limit a) || false) ≡ false
      go c s y false h f = rw h refl
      go c s y true h f =
          let d = f refl in
          or-no _ (goes-own K w c row.0.0 q limit a d.0 legal room s row.0.1 row.0.2 row.0.3.checked d.1 (ap (λ (n : Notif). R.dirfd n) y ∙ d.1))
  seat-goes K w what legal room row = none-some (seat_breaks P S OtherBase K w what) refl (λ c. refl) (session_call K w)

pub own_base : (P : Policy) (S : Script) (K : List Event) → Legal P S K → Keeps P S OtherBase K
own_base P S = keeps P S OtherBase (λ K e. refl) (seat-goes P S)
