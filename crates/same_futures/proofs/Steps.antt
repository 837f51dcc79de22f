-- A task's next step is the same after two histories with the same states of tasks and calls, and where its group has the same.
-- By cases on the call in which it waits, and on what it owes.
use Rattle.std.proofs.Common.{◌≡◌, ℕ, Bool, true, false, List, [], ◌∷◌, Option, Some, None, refl, sym, ap, ◌∙◌}
use Rattle.std.specs.Prelude.{if◌then◌else◌, find, option_map}
use Rattle.sys_abi.specs.declared.wire.Addfd.{Addfd}
use Rattle.hist_model.specs.Calls.{caller, id, listed, queue, settled}
use Rattle.hist_model.specs.Files.{asked_in, files, slot_in}
use Rattle.hist_model.specs.Legal.{system_of}
use Rattle.hist_model.specs.Look.{Name, event_at}
use Rattle.hist_model.specs.Memory.{group_named}
use Rattle.hist_model.specs.Natives.{native_answer}
use Rattle.hist_model.specs.Signals.{call_of, effect_in_call, effect_outside, next_signal}
use Rattle.hist_model.specs.Steps.{deliver_or, install_step, instr_step, living_step, next_instr, owes_native, place_or, reply, slot_answer, task_step}
use Rattle.hist_model.specs.Tasks.{disposition, ended, is_made}
use Rattle.hist_model.specs.declared.event.Back.{Back}
use Rattle.hist_model.specs.declared.event.Event.{Event}
use Rattle.hist_model.specs.declared.event.What.{What}
use Rattle.hist_model.specs.declared.event.What.TheVariants.{Install, Native, Resume, Skip}
use Rattle.hist_model.specs.declared.script.Script.{Script}
use Rattle.listener.specs.Fold.{row_at}
use Rattle.listener.specs.Requests.{is_waiting}
use Rattle.listener.specs.State as call_state
use Rattle.listener.specs.Stands.{oldest_in}
use Rattle.listener.specs.declared.requests.Request.{Request}
use Rattle.listener.proofs.Folds.{call-is}
use Rattle.listener.proofs.Sounds.{ids-differ}
use Rattle.listener.proofs.Told.{oldest-asked}
use Rattle.tasks.specs.State.{State}
use Rattle.same_futures.specs.Groups.{SameGroupOf}
use Rattle.same_futures.specs.States.{ShareStates}
use Rattle.same_futures.proofs.Calls.{IsOneCall, back-by, deliver-same, task-call}
use Rattle.same_futures.proofs.Natives.{native-same, slot-in-same}
use Rattle.same_futures.proofs.Tasks.{ended-same, entry-same, instr-same, made-same, next-instr-same, owes-same, pid-same}

-- where the oldest request is installed, by what it asks for
abbrev install_by : (Addfd → What) → Option Addfd → What
install_by f None = Skip
install_by f (Some a) = f a

module _ (S : Script) (K L : List Event) (s : State) (c : call_state.State) (both : ShareStates S K L s c) where
  -- the step of an installation, by what the oldest request asks for
  install-is : (M : List Event) (n : Name) (x : ℕ) (rs : List ℕ) → caller M x ≡ n
      → install_step (system_of S) M x rs ≡ install_by (λ a. Install (slot_answer (slot_in S.rlimit (files S M) (place_or (group_named M n)) a))) (oldest_in M rs)
  install-is M n x [] q = refl
  install-is M n x (r ∷ rs) q = ap (λ (m : Name). Install (slot_answer (slot_in S.rlimit (files S M) (place_or (group_named M m)) (asked_in (event_at M r))))) q

  pub oldest-is-one : (x y : ℕ) → listed K x ≡ true → listed L y ≡ true → id L y ≡ id K x → oldest_in L (queue L y) ≡ oldest_in K (queue K x)
  oldest-is-one x y a b q =
      sym (oldest-asked S.firstid L c both.there.calls both.there.asked (ids-differ S.firstid L both.there.calls_sound) y b)
      ∙ (ap (λ (i : ℕ). option_map (λ (a : Request). a.asked) (find (is_waiting i) c.asks)) q
      ∙ oldest-asked S.firstid K c both.here.calls both.here.asked (ids-differ S.firstid K both.here.calls_sound) x a)

  install-same : (n : Name) (x y : ℕ) → SameGroupOf S K L n → call_of K n ≡ Some x → call_of L n ≡ Some y → row_at L y ≡ row_at K x
      → install_step (system_of S) L y (queue L y) ≡ install_step (system_of S) K x (queue K x)
  install-same n x y g a b q =
      let p = call-is K n x a in
      let r = call-is L n y b in
      let i : id L y ≡ id K x = ap (λ (w : call_state.Row). w.id) q in
      install-is L n y (queue L y) r.1
      ∙ (ap (install_by (λ a. Install (slot_answer (slot_in S.rlimit (files S L) (place_or (group_named L n)) a)))) (oldest-is-one x y p.0 r.0 i)
      ∙ (same (oldest_in K (queue K x)) ∙ sym (install-is K n x (queue K x) p.1)))
    where
      same : (o : Option Addfd) → install_by (λ a. Install (slot_answer (slot_in S.rlimit (files S L) (place_or (group_named L n)) a))) o
          ≡ install_by (λ a. Install (slot_answer (slot_in S.rlimit (files S K) (place_or (group_named K n)) a))) o
      same None = refl
      same (Some a) = rw (g.there_is, g.here_is, slot-in-same S K L g.here g.there g.same S.rlimit a) refl

  -- ---- a living task's step

  return-by : (x y : Option Back) (v w : What) → y ≡ x → w ≡ v → (b d : Bool) (f g : Back) → (if d then Some g else None) ≡ y → (if b then Some f else None) ≡ x
      → (if d then Resume g else w) ≡ (if b then Resume f else v)
  return-by x y v w q r true true f g h i = let z : Some g ≡ Some f = h ∙ q ∙ sym i in let e : g ≡ f = cc in ap Resume e
  return-by x y v w q r false false f g h i = r
  return-by x y v w q r true false f g h i = let z : None ≡ Some f = h ∙ q ∙ sym i in absurd (cc z)
  return-by x y v w q r false true f g h i = let z : Some g ≡ None = h ∙ q ∙ sym i in absurd (cc z)

  in-call : (n : Name) → is_made K n ≡ true → SameGroupOf S K L n → (x y : ℕ) → call_of K n ≡ Some x → call_of L n ≡ Some y → row_at L y ≡ row_at K x
      → living_step (system_of S) L n (Some y) ≡ living_step (system_of S) K n (Some x)
  in-call n m g x y a b q =
      return-by (if settled K x then Some (reply K x) else None) (if settled L y then Some (reply L y) else None)
      (deliver_or (next_signal S.killable K n) (λ sig. effect_in_call sig (disposition K n sig)) (install_step (system_of S) K x (queue K x)))
      (deliver_or (next_signal S.killable L n) (λ sig. effect_in_call sig (disposition L n sig)) (install_step (system_of S) L y (queue L y)))
      (back-by S K L s c both x y q)
      (deliver-same S K L s c both n effect_in_call (install_step (system_of S) K x (queue K x)) (install_step (system_of S) L y (queue L y)) m (install-same n x y g a b q))
      (settled K x) (settled L y) (reply K x) (reply L y) refl refl

  outside : (n : Name) → is_made K n ≡ true → SameGroupOf S K L n → (files S L).tree ≡ (files S K).tree → living_step (system_of S) L n None ≡ living_step (system_of S) K n None
  outside n m g t =
      let e = entry-same S K L s c both n in
      let native = native-same S K L n g t (pid-same S K L s c both n) (record { number = e.0; arguments = e.1 }) in
      let i = instr-same S K L s c both n (next_instr (system_of S) L n) ∙ ap (instr_step (system_of S) K n) (next-instr-same S K L s c both n m) in
      let d = deliver-same S K L s c both n effect_outside (instr_step (system_of S) K n (next_instr (system_of S) K n)) (instr_step (system_of S) L n (next_instr (system_of S) L n)) m i in
      by (owes_native L n) (owes_native K n) (owes-same S K L s c both n) (ap (λ a. Native (native_answer a)) native) d
    where
      by : {v w x y : What} (b d : Bool) → b ≡ d → v ≡ w → x ≡ y → (if b then v else x) ≡ (if d then w else y)
      by true true q h i = h
      by false false q h i = i
      by true false q h i = cc
      by false true q h i = cc

  living-by : (n : Name) → is_made K n ≡ true → SameGroupOf S K L n → (files S L).tree ≡ (files S K).tree → (x y : Option ℕ) → call_of K n ≡ x → call_of L n ≡ y → IsOneCall K L x y
      → living_step (system_of S) L n y ≡ living_step (system_of S) K n x
  living-by n m g t (Some x) (Some y) a b q = in-call n m g x y a b q
  living-by n m g t None None a b q = outside n m g t
  living-by n m g t (Some x) None a b q = cc
  living-by n m g t None (Some y) a b q = cc

  pub task-step-same : (n : Name) → (is_made K n ≡ true → ended K n ≡ false → SameGroupOf S K L n) → (files S L).tree ≡ (files S K).tree → task_step (system_of S) L n ≡ task_step (system_of S) K n
  unfolding task_step
  task-step-same n g t = go (is_made K n) (ended K n) refl refl
    where
      go : (m d : Bool) → is_made K n ≡ m → ended K n ≡ d → task_step (system_of S) L n ≡ task_step (system_of S) K n
      go false d p q = rw (made-same S K L s c both n, p) refl
      go true true p q = rw (made-same S K L s c both n, ended-same S K L s c both n, p, q) refl
      go true false p q = rw (made-same S K L s c both n, ended-same S K L s c both n, p, q) (living-by n p (g p q) t (call_of K n) (call_of L n) refl refl (task-call S K L s c both n))
