-- What is kept of a seat's base is so: it was opened for the call in hand while that was listed, and a check was good behind it.
-- By induction on the history.
use Rattle.std.proofs.Common.{ap, arith, Bool, false, inl, inr, length, List, [], ◌∷◌, None, Option, refl, Some, subst, sym, true, ℕ, ◌<◌, ◌&&◌, ◌∙◌, ◌≡◌, ◌⊎◌}
use Rattle.std.proofs.lemmas.Bool.{and_parts, cases_Bool, eq-eqb, eqb-true}
use Rattle.std.specs.Prelude.{nat_le, Ok, ℤ, if◌then◌else◌}
use Rattle.history_frames.proofs.Listed.{id-older, is_call-below}
use Rattle.hist_model.proofs.Look.{event_at-here, event_at-older}
use Rattle.hist_model.specs.Calls.{id, listed}
use Rattle.hist_model.specs.Look.{before, ev, event_at, is_worker}
use Rattle.hist_model.specs.Steps.{session_call}
use Rattle.hist_model.specs.declared.event.Actor.{Actor}
use Rattle.hist_model.specs.declared.event.Actor.TheVariants.{Worker}
use Rattle.hist_model.specs.declared.event.Event.{Event}
use Rattle.hist_model.specs.declared.event.What.{What}
use Rattle.hist_model.specs.declared.event.What.TheVariants.{Check, LetGo, OpenBase, Recv}
use Rattle.hist_model.specs.declared.script.Script.{Script}
use Rattle.mediation.proofs.KernelCalls.{before-newest, before-older}
use Rattle.broker_verdict.proofs.LegalBases.{base-in, base-opens, base-same}
use Rattle.broker_verdict.proofs.Own.{hand_call}
use Rattle.broker_verdict.proofs.SeatReads.{checked-older, confirmed-fresh, fresh-parts, IsCheckedBehind, not-valid, other-hand, same-hand, worker-is}
use Rattle.broker_verdict.specs.Effects.{has_base}
use Rattle.broker_verdict.specs.Seats.{base_now, base_worth, base_worth_after, directory_opened, dirfd_of_call, Foreign, Fresh, is_of_call, is_own_id, rank, Stale, Valid, validated, Worth}
use Rattle.broker_verdict.specs.Sentences.{IsBaseOpened}

-- the directory that the seat has was opened for its call, while that was listed
record IsKeptBase (S : Script) (K : List Event) (w : ℕ) (worth : Worth) : Type 0 where
  pub place : ℕ
  pub pid : ℕ
  pub dirfd : ℤ
  pub below : place < length K
  pub opening : event_at K place ≡ Some (ev (Worker w) (OpenBase pid dirfd (Ok tt)))
  pub in_hand : session_call (before K place) w ≡ session_call K w
  pub is : base-in S K w ≡ directory_opened S (before K place) pid dirfd
  pub named : (c : ℕ) → session_call K w ≡ Some c → is_of_call S (before K place) c (dirfd_of_call (before K place) c) (directory_opened S (before K place) pid dirfd) ≡ true
  pub was_listed : (c : ℕ) → session_call K w ≡ Some c → listed (before K place) c ≡ true
  pub valid : worth ≡ Valid → (c : ℕ) → session_call K w ≡ Some c → IsCheckedBehind K w c place

abbrev KeptBase : Script → List Event → ℕ → Worth → Type 0
KeptBase S K w worth = (worth ≡ Fresh) ⊎ (worth ≡ Valid) → IsKeptBase S K w worth

none-kept : (S : Script) (K : List Event) (w : ℕ) → KeptBase S K w Foreign
none-kept S K w z = absurd (elim z [ inl q ↦ cc | inr q ↦ cc ])

base-older : (S : Script) (e : Event) (K : List Event) (w : ℕ) (worth : Worth) → session_call (e ∷ K) w ≡ session_call K w → base-in S (e ∷ K) w ≡ base-in S K w → KeptBase S K w worth → KeptBase S (e ∷ K) w worth
base-older S e K w worth same f k z =
    let j = k z in
    let b : before (e ∷ K) j.place ≡ before K j.place = before-older e K j.place (omega (arith, j.below)) in
    record {
      place = j.place;
      pid = j.pid;
      dirfd = j.dirfd;
      below = omega (arith, j.below);
      opening = event_at-older e K j.place j.below ∙ j.opening;
      in_hand = rw (b, same) j.in_hand;
      is = rw (b, f) j.is;
      named = λ c h. rw b (j.named c (sym same ∙ h));
      was_listed = λ c h. rw b (j.was_listed c (sym same ∙ h));
      valid = λ v c h. checked-older e K w c j.place (sym same ∙ h) (j.valid v c (sym same ∙ h));
    }

base-confirmed : (S : Script) (K : List Event) (w x : ℕ) (worth : Worth) → is_own_id K w x ≡ true → session_call (ev (Worker w) (Check x (Ok tt)) ∷ K) w ≡ session_call K w
    → base-in S (ev (Worker w) (Check x (Ok tt)) ∷ K) w ≡ base-in S K w → KeptBase S K w worth → KeptBase S (ev (Worker w) (Check x (Ok tt)) ∷ K) w (validated worth)
base-confirmed S K w x worth own same f k z =
    let e : Event = ev (Worker w) (Check x (Ok tt)) in
    let j = k (confirmed-fresh worth z) in
    let b : before (e ∷ K) j.place ≡ before K j.place = before-older e K j.place (omega (arith, j.below)) in
    record {
      place = j.place;
      pid = j.pid;
      dirfd = j.dirfd;
      below = omega (arith, j.below);
      opening = event_at-older e K j.place j.below ∙ j.opening;
      in_hand = rw (b, same) j.in_hand;
      is = rw (b, f) j.is;
      named = λ c h. rw b (j.named c (sym same ∙ h));
      was_listed = λ c h. rw b (j.was_listed c (sym same ∙ h));
      valid = λ v c h.
          let g : session_call K w ≡ Some c = sym same ∙ h in
          let i : id K c ≡ x = eqb-true (id K c) x (rw g at own) in
          record { checked = length K; later = j.below; good_check = rw (id-older e K c (is_call-below K c (hand_call K w c g)), i) (event_at-here e K) };
    }

base-new : (S : Script) (K : List Event) (w p : ℕ) (d : ℤ) → KeptBase S (ev (Worker w) (OpenBase p d (Ok tt)) ∷ K) w (base_now S K (session_call K w) (directory_opened S K p d))
base-new S K w p d = by (session_call K w) refl
  where
    e : Event
    e = ev (Worker w) (OpenBase p d (Ok tt))

    same : session_call (ev (Worker w) (OpenBase p d (Ok tt)) ∷ K) w ≡ session_call K w
    same = same-hand K w (OpenBase p d (Ok tt)) refl

    by : (o : Option ℕ) → session_call K w ≡ o → KeptBase S (ev (Worker w) (OpenBase p d (Ok tt)) ∷ K) w (base_now S K o (directory_opened S K p d))
    by None q z = absurd (elim z [ inl y ↦ cc | inr y ↦ cc ])
    by (Some c) q z =
        let parts = fresh-parts (is_of_call S K c (dirfd_of_call K c) (directory_opened S K p d)) (listed K c) z in
        let b : before (ev (Worker w) (OpenBase p d (Ok tt)) ∷ K) (length K) ≡ K = before-newest (ev (Worker w) (OpenBase p d (Ok tt))) K in
        record {
          place = length K;
          pid = p;
          dirfd = d;
          below = omega arith;
          opening = event_at-here (ev (Worker w) (OpenBase p d (Ok tt))) K;
          in_hand = rw (b, same) refl;
          is = rw b (base-opens S K (Worker w) w p d tt (eq-eqb w w refl));
          named = λ v h. let m : c ≡ v = cc (q, same, h) in rw b (rw m at parts.0);
          was_listed = λ v h. let m : c ≡ v = cc (q, same, h) in rw b (rw m at parts.1);
          valid = λ y v h. absurd (not-valid (is_of_call S K c (dirfd_of_call K c) (directory_opened S K p d)) (listed K c) y);
        }

and-false : (b : Bool) → (b && false) ≡ false
and-false true = refl
and-false false = refl

after-check : (S : Script) (K : List Event) (w x : ℕ) (own : Bool) (worth : Worth) → is_own_id K w x ≡ own → KeptBase S K w worth
    → KeptBase S (ev (Worker w) (Check x (Ok tt)) ∷ K) w (if own then validated worth else worth)
after-check S K w x true worth h k =
    base-confirmed S K w x worth h (same-hand K w (Check x (Ok tt)) refl) (base-same S (ev (Worker w) (Check x (Ok tt))) K w (and-false (is_worker (Worker w) w))) k
after-check S K w x false worth h k =
    base-older S (ev (Worker w) (Check x (Ok tt))) K w worth (same-hand K w (Check x (Ok tt)) refl) (base-same S (ev (Worker w) (Check x (Ok tt))) K w (and-false (is_worker (Worker w) w))) k

after-step : (S : Script) (K : List Event) (w : ℕ) (what : What) (worth : Worth) → KeptBase S K w worth → KeptBase S (ev (Worker w) what ∷ K) w (base_worth_after S K w what worth)
after-step S K w (Recv (Ok n)) worth k = none-kept S (ev (Worker w) (Recv (Ok n)) ∷ K) w
after-step S K w LetGo worth k = none-kept S (ev (Worker w) LetGo ∷ K) w
after-step S K w (OpenBase p d (Ok u)) worth k = base-new S K w p d
after-step S K w (Check x (Ok u)) worth k = after-check S K w x (is_own_id K w x) worth refl k
after-step S K w what worth k = base-older S (ev (Worker w) what) K w worth (same-hand K w what refl) (base-same S (ev (Worker w) what) K w (and-false (is_worker (Worker w) w))) k

base-kept : (S : Script) (K : List Event) (w : ℕ) → KeptBase S K w (base_worth S K w)
unfolding base_worth
base-kept S [] w = none-kept S [] w
base-kept S (e ∷ K) w = elim (cases_Bool (is_worker e.who w)) [
  | inr f ↦ rw f (base-older S e K w (base_worth S K w) (other-hand e K w f) (base-same S e K w (rw f refl)) (base-kept S K w))
  | inl t ↦
      let q : ev (Worker w) e.what ≡ e = ap (λ (a : Actor). ev a e.what) (sym (worker-is e.who w t)) in
      rw t (subst (λ (f : Event). KeptBase S (f ∷ K) w (base_worth_after S K w e.what (base_worth S K w))) q (after-step S K w e.what (base_worth S K w) (base-kept S K w)))
]

rank-valid : (v : Worth) → nat_le (rank Valid) (rank v) ≡ true → v ≡ Valid
rank-valid Foreign h = cc
rank-valid Stale h = cc
rank-valid Fresh h = cc
rank-valid Valid h = refl

pub base_opened : (S : Script) (K : List Event) (w c : ℕ) → session_call K w ≡ Some c → has_base Valid S K w ≡ true → IsBaseOpened S K w c
unfolding base-in
base_opened S K w c h b =
    let v = rank-valid (base_worth S K w) (and_parts _ (nat_le (rank Valid) (rank (base_worth S K w))) b).1 in
    let j = base-kept S K w (inr v) in
    let k = j.valid v c h in
    record {
      place = j.place;
      pid = j.pid;
      dirfd = j.dirfd;
      checked = k.checked;
      opening = j.opening;
      in_hand = j.in_hand ∙ h;
      is = j.is;
      named = j.named c h;
      was_listed = j.was_listed c h;
      later = k.later;
      good_check = k.good_check;
    }
