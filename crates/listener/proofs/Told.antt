-- What the requests of a state tell, and what a listener answers by it.
-- By the requests' places, and by cases on the named call.
use Rattle.std.proofs.Common.{◌≡◌, inl, inr, ℕ, Bool, true, false, ◌&&◌, not, List, [], ◌∷◌, length, Option, Some, None, refl, sym, ap, ◌∙◌, subst, arith}
use Rattle.std.specs.Prelude.{All, map, filter, find, option_map, Result, Ok, Err, ◌==◌, if◌then◌else◌, is_some}
use Rattle.std.proofs.lemmas.Bool.{cases_Bool, ne_eqb}
use Rattle.std.proofs.lemmas.List.{length-map}
use Rattle.hist_model.specs.Look.{event_at}
use Rattle.hist_model.specs.Kinds.{has_send_flag}
use Rattle.hist_model.specs.Calls.{listed, id, is_call, named, queue, fetched, answered, settled, some_sends, state_at}
use Rattle.hist_model.specs.Steps.{reply, request_of, install_of, call_listed, call_at, check_answer, send_answer, put_answer, is_empty}
use Rattle.hist_model.specs.Systems.{System}
use Rattle.hist_model.specs.Files.{asked_in}
use Rattle.hist_model.specs.declared.event.Event.{Event}
use Rattle.hist_model.specs.declared.event.Back.{Back}
use Rattle.hist_model.specs.declared.event.Back.TheVariants.{Value, Fail, Continue}
use Rattle.hist_model.specs.declared.notification.State.TheVariants.{Unfetched, Fetched, Answered}
use Rattle.sys_abi.specs.Errnos.{enoent, ebusy, einprogress}
use Rattle.sys_abi.specs.declared.wire.Addfd.{Addfd}
use Rattle.history_frames.proofs.Listed.{listed-is_call, named-listed, named-is}
use Rattle.listener.proofs.Installs.{call-id}
use Rattle.listener.specs.declared.requests.Request.{Request}
use Rattle.listener.specs.State.{State, row_named, queue as asks_for, far_in}
use Rattle.listener.specs.Requests.{has_request, is_of, is_waiting}
use Rattle.listener.specs.Stands.{oldest_in}
use Rattle.std.specs.List.{list_any}
use Rattle.std.proofs.lemmas.List.Elements.{All-head, All-tail}
use Rattle.listener.specs.Listeners.{validity, send_admission, put_admission, back_of, taken, taken_from}
use Rattle.listener.specs.Fold.{Looks, ask_at, ask_places, asks, reply_by, row_at, worker_at}
use Rattle.listener.specs.Sound.{AreAsked, IdsDiffer}
use Rattle.listener.proofs.Lists.{find-map}
use Rattle.listener.proofs.Folds.{asks-waiting}
use Rattle.listener.proofs.Answers.{named-is as row-named, state-is}

-- how a listed call returns: None exactly where it isn't settled
pub back-is : (K : List Event) (c : ℕ) → back_of (row_at K c).reply ≡ (if settled K c then Some (reply K c) else None)
back-is K c = by (settled K c) (some_sends K (queue K c)) (reply K c)
  where
    by : (s a : Bool) (b : Back) → back_of (reply_by s a b) ≡ (if s then Some b else None)
    by true a (Value v) = refl
    by true a (Fail e) = refl
    by true a Continue = refl
    by false true b = refl
    by false false b = refl

abbrev first-of : List Request → Option Request
first-of [] = None
first-of (q ∷ qs) = Some q

first-found : (p : Request → Bool) (qs : List Request) → find p qs ≡ first-of (filter p qs)
first-found p [] = refl
first-found p (q ∷ qs) = elim (cases_Bool (p q)) [ inl b ↦ rw b refl | inr b ↦ rw b (first-found p qs) ]

module _ (first : ℕ) (K : List Event) (s : State) (L : Looks first K s) (A : AreAsked K) (ids : IdsDiffer K) where
  -- a worker's request
  pub request-is : (w : ℕ) → find (is_of w) s.asks ≡ option_map (ask_at K) (request_of K w)
  unfolding asks
  request-is w = rw (L.asks_are, find-map (is_of w) (ask_at K) (ask_places K), ← A.own w) refl

  -- whether it has one
  pub asks-is : (w : ℕ) → has_request s.asks w ≡ is_some (request_of K w)
  asks-is w = any-found (is_of w) s.asks ∙ (ap is_some (request-is w) ∙ mapped (request_of K w))
    where
      any-found : (p : Request → Bool) (qs : List Request) → list_any p qs ≡ is_some (find p qs)
      any-found p [] = refl
      any-found p (q ∷ qs) = elim (cases_Bool (p q)) [ inl b ↦ rw b refl | inr b ↦ rw b (any-found p qs) ]

      mapped : (o : Option ℕ) → is_some (option_map (ask_at K) o) ≡ is_some o
      mapped None = refl
      mapped (Some r) = refl

  -- what the oldest of a listed call asks for, and how many there are
  pub oldest-asked : (c : ℕ) → listed K c ≡ true → option_map (λ (q : Request). q.asked) (find (is_waiting (id K c)) s.asks) ≡ oldest_in K (queue K c)
  oldest-asked c l = ap (option_map (λ (q : Request). q.asked)) (first-found (is_waiting (id K c)) s.asks ∙ ap first-of (asks-waiting K s c A l L.asks_are)) ∙ by (queue K c)
    where
      by : (rs : List ℕ) → option_map (λ (q : Request). q.asked) (first-of (map (ask_at K) rs)) ≡ oldest_in K rs
      by [] = refl
      by (r ∷ rs) = refl

  pub queued-is : (c : ℕ) → listed K c ≡ true → length (asks_for (id K c) s) ≡ length (queue K c)
  queued-is c l = rw (asks-waiting K s c A l L.asks_are) (length-map (queue K c) (ask_at K))

  -- the call of a request is listed where its id names one
  pub listed-is : (r c : ℕ) → call_at K r ≡ Some c → call_listed K (call_at K r) ≡ is_some (row_named (asked_in (event_at K r)).id s)
  listed-is r c q = rw (row-named first K s L (asked_in (event_at K r)).id, q) (elim (cases_Bool (listed K c)) [
    | inl b ↦ rw (b, named-is K (asked_in (event_at K r)).id c b i.1 (λ d l h. ids d c (listed-is_call K d l) i.0 (h ∙ sym i.1))) refl
    | inr b ↦ b ∙ sym (none (named K (asked_in (event_at K r)).id) refl b)
  ])
    where
      i : (is_call K c ≡ true) × (id K c ≡ (asked_in (event_at K r)).id)
      i = call-id K r c q

      none : (o : Option ℕ) → named K (asked_in (event_at K r)).id ≡ o → listed K c ≡ false → is_some (option_map (row_at K) o) ≡ false
      none None n b = refl
      none (Some d) n b = let l = named-listed K (asked_in (event_at K r)).id d n in let z : d ≡ c = ids d c (listed-is_call K d l.0) i.0 (l.1 ∙ sym i.1) in absurd (cc (ap (listed K) z, l.0, b))

  -- what its worker is told
  pub take-is : (w r : ℕ) → request_of K w ≡ Some r → taken_from s (find (is_of w) s.asks) ≡ taken (install_of K r) (call_listed K (call_at K r))
  take-is w r q =
      let c = found-all (λ r. (c : ℕ) × (call_at K r ≡ Some c)) (λ r. worker_at K r == w) (ask_places K) r A.calls (sym (A.own w) ∙ q) in
      ap (taken_from s) (request-is w ∙ ap (option_map (ask_at K)) q) ∙ ap (taken (install_of K r)) (sym (listed-is r c.0 c.1))
    where
      found-all : (P : ℕ → Type 0) (p : ℕ → Bool) (rs : List ℕ) (r : ℕ) → All P rs → find p rs ≡ Some r → P r
      found-all P p [] r h f = cc
      found-all P p (x ∷ rs) r h f = elim (cases_Bool (p x)) [
        | inl b ↦ let z : Some x ≡ Some r = rw b at f in let y : x ≡ r = cc in subst P y (All-head P x rs h)
        | inr b ↦ found-all P p rs r (All-tail P x rs h) (rw b at f)
      ]

  -- ---- answers

  pub check-is : (x : ℕ) → validity (far_in (row_named x s)) ≡ check_answer K (named K x)
  check-is x = ap validity (state-is first K s L x) ∙ go (named K x) refl
    where
      by : (f a : Bool) → validity (Some (if not f then Unfetched else (if a then Answered else Fetched))) ≡ (if f && not a then Ok tt else Err enoent)
      by f a = grind arith

      go : (o : Option ℕ) → named K x ≡ o → validity (state_at K o) ≡ check_answer K o
      go None q = refl
      go (Some c) q = rw (named-listed K x c q).0 (by (fetched K c) (answered K c))

  pub send-is : (x : ℕ) → send_admission (far_in (row_named x s)) ≡ send_answer K (named K x)
  send-is x = ap send_admission (state-is first K s L x) ∙ go (named K x) refl
    where
      by : (f a : Bool) → send_admission (Some (if not f then Unfetched else (if a then Answered else Fetched))) ≡ (if f && not a then Ok tt else Err einprogress)
      by f a = grind arith

      go : (o : Option ℕ) → named K x ≡ o → send_admission (state_at K o) ≡ send_answer K o
      go None q = refl
      go (Some c) q = rw (named-listed K x c q).0 (by (fetched K c) (answered K c))

  pub put-is : (S : System) (a : Addfd) → put_admission a (far_in (row_named a.id s)) (length (asks_for a.id s)) ≡ put_answer S K a (named K a.id)
  put-is S a = ap (λ o. put_admission a o (length (asks_for a.id s))) (state-is first K s L a.id) ∙ go (named K a.id) refl
    where
      empty : (rs : List ℕ) → (length rs == 0) ≡ is_empty rs
      empty [] = refl
      empty (r ∷ rs) = ne_eqb (length (r ∷ rs)) 0 (omega arith)

      by : (f b h e : Bool) → ◌≡◌ {A = Result (Unit {0}) ℕ} (if not f then Err einprogress else (if b then Err einprogress else (if h && not e then Err ebusy else Ok tt))) (if not (f && not b) then Err einprogress else (if h && not e then Err ebusy else Ok tt))
      by true true h e = refl
      by true false h e = refl
      by false b h e = refl

      far : (f b : Bool) (n : ℕ) → put_admission a (Some (if not f then Unfetched else (if b then Answered else Fetched))) n ≡ (if not f then Err einprogress else (if b then Err einprogress else (if has_send_flag a && not (n == 0) then Err ebusy else Ok tt)))
      far true true n = refl
      far true false n = refl
      far false b n = refl

      go : (o : Option ℕ) → named K a.id ≡ o → put_admission a (state_at K o) (length (asks_for a.id s)) ≡ put_answer S K a o
      go None q = refl
      go (Some c) q =
          let n = named-listed K a.id c q in
          far (fetched K c) (answered K c) (length (asks_for a.id s))
          ∙ rw (← n.1, queued-is c n.0, empty (queue K c), n.0) (by (fetched K c) (answered K c) (has_send_flag a) (is_empty (queue K c)))
