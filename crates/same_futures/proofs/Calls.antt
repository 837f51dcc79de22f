-- What two histories with the same states of calls tell alike: the call of a task, how it returns, which signal is due, and what a worker is answered.
-- By the row that a call has in both.
use Rattle.std.proofs.Common.{◌≡◌, ℕ, Bool, true, false, ◌&&◌, List, Option, Some, None, refl, sym, ap, ◌∙◌}
use Rattle.std.specs.Prelude.{if◌then◌else◌, option_map}
use Rattle.sys_abi.specs.declared.wire.Addfd.{Addfd}
use Rattle.hist_model.specs.Calls.{count, named, settled}
use Rattle.hist_model.specs.Look.{Name}
use Rattle.hist_model.specs.Signals.{call_of, held, is_fetched_call, next_signal}
use Rattle.hist_model.specs.Steps.{check_answer, deliver_or, put_answer, reply, send_answer}
use Rattle.hist_model.specs.Systems.{System}
use Rattle.hist_model.specs.Tasks.{disposition, is_made}
use Rattle.hist_model.specs.declared.event.Back.{Back}
use Rattle.hist_model.specs.declared.event.Delivered.{Delivered}
use Rattle.hist_model.specs.declared.event.Disposition.{Disposition}
use Rattle.hist_model.specs.declared.event.Event.{Event}
use Rattle.hist_model.specs.declared.event.What.{What}
use Rattle.hist_model.specs.declared.script.Script.{Script}
use Rattle.listener.specs.Fold.{row_at}
use Rattle.listener.specs.Listeners.{back_of}
use Rattle.listener.specs.State as call_state
use Rattle.listener.proofs.Answers.{waits-in}
use Rattle.listener.proofs.Sounds.{ids-differ}
use Rattle.listener.proofs.Told.{back-is, check-is, put-is, send-is}
use Rattle.tasks.specs.Sets.{next_of, with_disposition}
use Rattle.tasks.specs.State.{Row, State}
use Rattle.tasks.proofs.Told.{due-is}
use Rattle.same_futures.specs.States.{ShareStates}
use Rattle.same_futures.proofs.Tasks.{row-shared}

-- two places of calls that have one row, or none
abbrev pub IsOneCall : List Event → List Event → Option ℕ → Option ℕ → Type 0
IsOneCall K L (Some x) (Some y) = row_at L y ≡ row_at K x
IsOneCall K L None None = ℕ
IsOneCall K L x y = ◌≡◌ {A = Bool} true false

pub one-call : (K L : List Event) (x y : Option ℕ) → option_map (row_at L) y ≡ option_map (row_at K) x → IsOneCall K L x y
one-call K L (Some x) (Some y) q = cc
one-call K L None None q = 0
one-call K L (Some x) None q = cc
one-call K L None (Some y) q = cc

module _ (S : Script) (K L : List Event) (s : State) (c : call_state.State) (both : ShareStates S K L s c) where
  pub task-call : (n : Name) → IsOneCall K L (call_of K n) (call_of L n)
  task-call n = one-call K L (call_of K n) (call_of L n)
      (sym (waits-in S.firstid L c both.there.calls both.there.calls_sound.callers n) ∙ waits-in S.firstid K c both.here.calls both.here.calls_sound.callers n)

  -- ---- signals

  held-by : (x y : Option ℕ) → IsOneCall K L x y → is_fetched_call L y ≡ is_fetched_call K x
  held-by (Some x) (Some y) q = ap (λ (r : call_state.Row). r.fetched) q
  held-by None None q = refl
  held-by (Some x) None q = cc
  held-by None (Some y) q = cc

  pub held-same : (n : Name) → held S.killable L n ≡ held S.killable K n
  held-same n = ap (λ (b : Bool). S.killable && b) (held-by (call_of K n) (call_of L n) (task-call n))

  -- the delivery that is due is the same, and what it does
  deliver-by : (n : Name) (x y : Option ℕ) (effect : ℕ → Disposition → Delivered) (v w : What) → with_disposition L n y ≡ with_disposition K n x → w ≡ v
      → deliver_or y (λ sig. effect sig (disposition L n sig)) w ≡ deliver_or x (λ sig. effect sig (disposition K n sig)) v
  deliver-by n (Some x) (Some y) effect v w q r =
      let p : (y, disposition L n y) ≡ (x, disposition K n x) = cc in
      let a : y ≡ x = ap (λ (z : ℕ × Disposition). z.0) p in
      let b : disposition L n y ≡ disposition K n x = ap (λ (z : ℕ × Disposition). z.1) p in
      rw (b, a) refl
  deliver-by n None None effect v w q r = r
  deliver-by n (Some x) None effect v w q r = cc
  deliver-by n None (Some y) effect v w q r = cc

  pub deliver-same : (n : Name) (effect : ℕ → Disposition → Delivered) (v w : What) → is_made K n ≡ true → w ≡ v
      → deliver_or (next_signal S.killable L n) (λ sig. effect sig (disposition L n sig)) w ≡ deliver_or (next_signal S.killable K n) (λ sig. effect sig (disposition K n sig)) v
  deliver-same n effect v w m r =
      let i = row-shared S K L s c both n m in
      deliver-by n (next_signal S.killable K n) (next_signal S.killable L n) effect v w
      (sym (due-is S L n i.0 (held S.killable L n) i.1.3 refl) ∙ (ap (λ (b : Bool). due-of i.0 b) (held-same n) ∙ due-is S K n i.0 (held S.killable K n) i.1.2 refl)) r
    where
      due-of : Row → Bool → Option (ℕ × Disposition)
      due-of r b = next_of r.pending r.dispositions b

  -- ---- how a call returns

  pub back-by : (x y : ℕ) → row_at L y ≡ row_at K x → ◌≡◌ {A = Option Back} (if settled L y then Some (reply L y) else None) (if settled K x then Some (reply K x) else None)
  back-by x y q = sym (back-is L y) ∙ (ap (λ (r : call_state.Row). back_of r.reply) q ∙ back-is K x)

  -- ---- what a worker is answered

  pub check-same : (x : ℕ) → check_answer L (named L x) ≡ check_answer K (named K x)
  check-same x =
      sym (check-is S.firstid L c both.there.calls both.there.asked (ids-differ S.firstid L both.there.calls_sound) x)
      ∙ check-is S.firstid K c both.here.calls both.here.asked (ids-differ S.firstid K both.here.calls_sound) x

  pub send-same : (x : ℕ) → send_answer L (named L x) ≡ send_answer K (named K x)
  send-same x =
      sym (send-is S.firstid L c both.there.calls both.there.asked (ids-differ S.firstid L both.there.calls_sound) x)
      ∙ send-is S.firstid K c both.here.calls both.here.asked (ids-differ S.firstid K both.here.calls_sound) x

  pub put-same : (T : System) (a : Addfd) → put_answer T L a (named L a.id) ≡ put_answer T K a (named K a.id)
  put-same T a =
      sym (put-is S.firstid L c both.there.calls both.there.asked (ids-differ S.firstid L both.there.calls_sound) T a)
      ∙ put-is S.firstid K c both.here.calls both.here.asked (ids-differ S.firstid K both.here.calls_sound) T a

  pub count-same : count L ≡ count K
  count-same = rw (← both.there.calls.entered_is, ← both.there.calls.received_is, ← both.here.calls.entered_is, ← both.here.calls.received_is) refl
