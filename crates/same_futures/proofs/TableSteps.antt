-- What is a step of the tables after a history is one after each after which all goes on alike.
-- By what both states tell: the row of a call, of a task and of a request.
use Rattle.std.proofs.Common.{◌≡◌, inl, inr, ℕ, ◌+◌, Bool, true, false, ◌||◌, not, List, [], ◌∷◌, length, Option, Some, None, refl, sym, ap, ◌∙◌, arith}
use Rattle.std.specs.Prelude.{◌%◌, ◌^◌, if◌then◌else◌, is_none, option_map, Result, Ok}
use Rattle.std.proofs.lemmas.Bool.{cases_lt}
use Rattle.sys_abi.specs.declared.wire.Addfd.{Addfd}
use Rattle.hist_model.specs.Calls.{answered, caller, calls, id, named, queue, settled, some_sends}
use Rattle.hist_model.specs.Legal.{system_of}
use Rattle.hist_model.specs.Look.{Name, task_name}
use Rattle.hist_model.specs.Signals.{call_of}
use Rattle.hist_model.specs.Steps.{call_at, call_listed, install_of, reply, request_of, take_step, task_step}
use Rattle.hist_model.specs.declared.event.Actor.TheVariants.{Task}
use Rattle.hist_model.specs.declared.event.Back.{Back}
use Rattle.hist_model.specs.declared.event.Entered.TheVariants.{Notify}
use Rattle.hist_model.specs.declared.event.Event.{Event}
use Rattle.hist_model.specs.declared.event.What.{What}
use Rattle.hist_model.specs.declared.event.What.TheVariants.{AddfdPut, AddfdTake, Deliver, Enter, Install, Resume}
use Rattle.hist_model.specs.declared.script.Script.{Script}
use Rattle.history_frames.specs.Ordinals.{task_name_of, tasks_made}
use Rattle.listener.specs.Fold.{ask_at, reply_by, row_at}
use Rattle.listener.specs.Sound as call_sound
use Rattle.listener.specs.State as call_state
use Rattle.listener.specs.Stands.{oldest_in}
use Rattle.listener.proofs.Answers.{named-is}
use Rattle.listener.proofs.Folds.{call-is}
use Rattle.listener.proofs.Sounds.{ids-differ}
use Rattle.listener.proofs.Told.{request-is}
use Rattle.tasks.proofs.Folds.{row-there}
use Rattle.tasks.proofs.Named.{name-none}
use Rattle.tasks.specs.Sound as task_sound
use Rattle.tasks.specs.State.{State}
use Rattle.same_futures.specs.Same.{Same}
use Rattle.same_futures.specs.Turns.{IsTableStep}
use Rattle.same_futures.proofs.Calls.{IsOneCall, back-by, one-call, task-call}
use Rattle.same_futures.proofs.Steps.{oldest-is-one, task-step-same}
use Rattle.same_futures.proofs.Workers.{take-by, waits-there}

no-events : (L : List Event) → length L ≡ 0 → L ≡ []
no-events [] h = refl
no-events (e ∷ L) h = absurd (omega (arith, h))

-- a call is answered where it will return somehow
answered-is : (K : List Event) (x : ℕ) → answered K x ≡ not (is_none (row_at K x).reply)
answered-is K x = by (settled K x) (some_sends K (queue K x)) (reply K x)
  where
    by : (s a : Bool) (b : Back) → (s || a) ≡ not (is_none (reply_by s a b))
    by true a b = refl
    by false true b = refl
    by false false b = refl

-- ---- the tasks

module _ (S : Script) (ts : State) (cs : call_state.State) (K L : List Event) (same : Same S ts cs K L) where
  pub made-alike : tasks_made L ≡ tasks_made K
  made-alike = sym same.states.there.tasks.count ∙ same.states.here.tasks.count

  pub names-alike : (o : ℕ) → task_name_of L o ≡ task_name_of K o
  names-alike o = elim (cases_lt o (tasks_made K)) [
    | inl l ↦ let r = row-there S K ts o same.states.here.tasks l in
        sym (same.states.there.tasks.rows o r.0 r.1).name_is ∙ (same.states.here.tasks.rows o r.0 r.1).name_is
    | inr g ↦ name-none L o (omega (arith, g, made-alike)) ∙ sym (name-none K o g)
  ]

-- ---- steps

module _ (S : Script) (ts : State) (cs : call_state.State) (K L : List Event) (same : Same S ts cs K L) (e : Event) where
  step-of : (o : ℕ) → task_sound.IsStepOf S K e o → task_sound.IsStepOf S L e o
  step-of o h =
      let n = names-alike S ts cs K L same o in
      record {
        there = omega (arith, h.there, made-alike S ts cs K L same);
        who = h.who ∙ ap Task (sym n);
        step = h.step ∙ (sym (task-step-same S K L ts cs same.states (task_name_of K o) (same.groups (task_name_of K o)) same.tree_is) ∙ ap (task_step (system_of S) L) (sym n));
        few = omega (arith, h.few, same.length_is);
      }

  tasks-step : task_sound.IsStep S K e → task_sound.IsStep S L e
  tasks-step (inl p) = inl (no-events L (same.length_is ∙ ap length p.0), p.1)
  tasks-step (inr (inl p)) = inr (inl (p.0, step-of p.0 p.1))
  tasks-step (inr (inr p)) = inr (inr p)

  -- ---- of the calls

  calls-alike : calls L ≡ calls K
  calls-alike = sym same.states.there.calls.entered_is ∙ same.states.here.calls.entered_is

  -- the call of a task, where it waits in one in one of the histories
  also-there : (n : Name) (x : ℕ) → call_of K n ≡ Some x → (y : ℕ) × (call_of L n ≡ Some y) × (row_at L y ≡ row_at K x)
  also-there n x q = by (call_of K n) (call_of L n) q refl (task-call S K L ts cs same.states n)
    where
      by : (a b : Option ℕ) → a ≡ Some x → call_of L n ≡ b → IsOneCall K L a b → (y : ℕ) × (call_of L n ≡ Some y) × (row_at L y ≡ row_at K x)
      by (Some z) (Some y) i j r = let k : z ≡ x = cc in (y, j, r ∙ ap (row_at K) k)
      by (Some z) None i j r = cc
      by None b i j r = cc

  also-here : (n : Name) (y : ℕ) → call_of L n ≡ Some y → (x : ℕ) × (call_of K n ≡ Some x)
  also-here n y q = by (call_of K n) (call_of L n) refl q (task-call S K L ts cs same.states n)
    where
      by : (a b : Option ℕ) → call_of K n ≡ a → b ≡ Some y → IsOneCall K L a b → (x : ℕ) × (call_of K n ≡ Some x)
      by (Some x) b i j r = (x, i)
      by None (Some z) i j r = cc
      by None None i j r = cc

  enters-there : (x : ℕ) → call_sound.Enters S.firstid K e x → call_sound.Enters S.firstid L e x
  enters-there x h = record {
    id_is = h.id_is ∙ ap (λ (i : ℕ). (S.firstid + i) % 2 ^ 64) (sym calls-alike);
    more = omega (arith, h.more, calls-alike);
    free = λ y l q.
        let w : call_of L (task_name e.who) ≡ Some y = ap (call_of L) (sym q) ∙ waits-there S L ts cs same.states.there y l in
        let x = also-here (task_name e.who) y w in
        let c = call-is K (task_name e.who) x.0 x.1 in
        h.free x.0 c.0 c.1;
  }

  -- the call that an id names
  also-named : (i x : ℕ) → named K i ≡ Some x → (y : ℕ) × (named L i ≡ Some y) × (row_at L y ≡ row_at K x)
  also-named i x q = by (named K i) (named L i) q refl
      (one-call K L (named K i) (named L i) (sym (named-is S.firstid L cs same.states.there.calls i) ∙ named-is S.firstid K cs same.states.here.calls i))
    where
      by : (a b : Option ℕ) → a ≡ Some x → named L i ≡ b → IsOneCall K L a b → (y : ℕ) × (named L i ≡ Some y) × (row_at L y ≡ row_at K x)
      by (Some z) (Some y) j k r = let h : z ≡ x = cc in (y, k, r ∙ ap (row_at K) h)
      by (Some z) None j k r = cc
      by None b j k r = cc

  requests-alike : (w : ℕ) → option_map (ask_at L) (request_of L w) ≡ option_map (ask_at K) (request_of K w)
  requests-alike w =
      sym (request-is S.firstid L cs same.states.there.calls same.states.there.asked (ids-differ S.firstid L same.states.there.calls_sound) w)
      ∙ request-is S.firstid K cs same.states.here.calls same.states.here.asked (ids-differ S.firstid K same.states.here.calls_sound) w

  none-there : (w : ℕ) → request_of K w ≡ None → request_of L w ≡ None
  none-there w q = by (request_of L w) (requests-alike w ∙ ap (option_map (ask_at K)) q)
    where
      by : (y : Option ℕ) → option_map (ask_at L) y ≡ None → y ≡ None
      by None h = refl
      by (Some r) h = cc

  puts-there : (a : Addfd) → call_sound.Puts K e a → call_sound.Puts L e a
  puts-there a h =
      let y = also-named a.id h.call h.call_is in
      record {
        worker = h.worker;
        who = h.who;
        call = y.0;
        call_is = y.1;
        open_is = answered-is L y.0 ∙ (ap (λ (r : call_state.Row). not (is_none r.reply)) y.2 ∙ (sym (answered-is K h.call) ∙ h.open_is));
        free = none-there h.worker h.free;
      }

  takes-there : call_sound.Takes K e → call_sound.Takes L e
  takes-there h = record { worker = h.worker; who = h.who; over = λ r q none. over r q none (request_of K h.worker) refl }
    where
      listed-by : (x : Option (Result ℕ ℕ)) (on off : Bool) → take_step None on ≡ take_step x off → (is_none x ≡ true → off ≡ false) → on ≡ false
      listed-by x false off z f = refl
      listed-by None true true z f = f refl
      listed-by None true false z f = cc
      listed-by (Some a) true off z f = cc

      none-is : (x : Option (Result ℕ ℕ)) → is_none x ≡ true → x ≡ None
      none-is None h = refl
      none-is (Some a) h = cc

      over : (r : ℕ) → request_of L h.worker ≡ Some r → is_none (install_of L r) ≡ true → (x : Option ℕ) → request_of K h.worker ≡ x → call_listed L (call_at L r) ≡ false
      over r q none None k = let z : None ≡ Some r = sym (none-there h.worker k) ∙ q in cc
      over r q none (Some x) k =
          let t = take-by S ts cs K L same h.worker (Some x) (Some r) k q (ap (option_map (ask_at L)) (sym q) ∙ (requests-alike h.worker ∙ ap (option_map (ask_at K)) k)) in
          let u : take_step None (call_listed L (call_at L r)) ≡ take_step (install_of K x) (call_listed K (call_at K x)) =
          ap (λ (a : Option (Result ℕ ℕ)). take_step a (call_listed L (call_at L r))) (sym (none-is (install_of L r) none)) ∙ t in
          listed-by (install_of K x) (call_listed L (call_at L r)) (call_listed K (call_at K x)) u (h.over x k)

  installs-there : call_sound.Installs K e → call_sound.Installs L e
  installs-there h =
      let y = also-there (caller K h.call) h.call (waits-there S K ts cs same.states.here h.call h.on) in
      let c = call-is L (caller K h.call) y.0 y.1 in
      let i : id L y.0 ≡ id K h.call = ap (λ (r : call_state.Row). r.id) y.2 in
      let o = oldest-is-one S K L ts cs same.states h.call y.0 h.on c.0 i ∙ ap (oldest_in K) h.queue_is in
      let f = some-first (queue L y.0) o in
      record {
        call = y.0;
        who = h.who ∙ ap Task (sym c.1);
        on = c.0;
        unsettled = by (settled L y.0) (settled K h.call) (reply L y.0) (reply K h.call) (back-by S K L ts cs same.states h.call y.0 y.2) h.unsettled;
        first = f.0;
        rest = f.1;
        queue_is = f.2;
      }
    where
      by : (b d : Bool) (f g : Back) → ◌≡◌ {A = Option Back} (if b then Some f else None) (if d then Some g else None) → d ≡ false → b ≡ false
      by false d f g q z = refl
      by true false f g q z = cc
      by true true f g q z = cc

      some-first : {a : Addfd} → (rs : List ℕ) → oldest_in L rs ≡ Some a → (r : ℕ) × (more : List ℕ) × (rs ≡ r ∷ more)
      some-first [] q = cc
      some-first (r ∷ more) q = (r, more, refl)

  calls-step : (w : What) → call_sound.IsStep S.firstid K e w → call_sound.IsStep S.firstid L e w
  calls-step (Enter nr args (Notify x)) h = enters-there x h
  calls-step (AddfdPut a (Ok u)) h = puts-there a h
  calls-step (AddfdTake a) h = takes-there h
  calls-step (Install a) h = installs-there h
  calls-step (Resume back) h = h
  calls-step (Deliver sig effect) h = h
  calls-step w h = h

  pub table-step-same : IsTableStep S K e → IsTableStep S L e
  table-step-same h = record { tasks = tasks-step h.tasks; calls = calls-step e.what h.calls }
