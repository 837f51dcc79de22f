-- After the event of a native call the tree and the groups stand for the longer history.
-- By cases on the call's step, with what the groups say of the event of a native call.
use Rattle.std.proofs.Common.{◌≡◌, ℕ, List, ◌∷◌, Option, Some, refl, sym, ap, ◌∙◌}
use Rattle.std.specs.Prelude.{Result, Ok, Err}
use Rattle.hist_model.specs.Look.{Name, ev, task_name}
use Rattle.hist_model.specs.Files.{files, files_after, after_native}
use Rattle.hist_model.specs.Memory.{group_named, own_group, last_call, stored_by_call}
use Rattle.hist_model.specs.Natives.{Files, NativeStep, Fails, Gives, Changes, Opens, Closes, Writes, native_answer, native_step, call_natively}
use Rattle.hist_model.specs.Steps.{place_or}
use Rattle.hist_model.specs.Trees.{Tree}
use Rattle.hist_model.specs.declared.event.Actor.{Actor}
use Rattle.hist_model.specs.declared.event.Actor.TheVariants.{Task}
use Rattle.hist_model.specs.declared.event.Event.{Event}
use Rattle.hist_model.specs.declared.event.What.{What}
use Rattle.hist_model.specs.declared.event.What.TheVariants.{Native}
use Rattle.hist_model.specs.declared.script.Script.{Script}
use Rattle.task_groups.specs.declared.groups.Groups.{Groups}
use Rattle.task_groups.proofs.Events.{natives}
use Rattle.task_groups.proofs.Stand.{respects}
use Rattle.native_calls.specs.declared.call.NativeCall.{NativeCall}
use Rattle.native_calls.specs.declared.running.Caller.{Caller}
use Rattle.native_calls.specs.declared.running.Container.{Container}
use Rattle.native_calls.specs.Done.{TreeDone}
use Rattle.native_calls.specs.Prepared.{step_of, stored_by}
use Rattle.native_calls.specs.Stands.{StandFor, IsEntered, IsDue, IsRun}

module _ (S : Script) (K : List Event) (n : Name) where
  tree-after : (s : NativeStep) (a : Result ℕ ℕ) (T U : Tree) → native_step S K (files S K) n ≡ s → a ≡ native_answer s → T ≡ (files S K).tree → TreeDone s T U
      → U ≡ (files_after S K (files S K) (Task n) (Native a)).tree
  tree-after (Fails e) a T U i q t d = rw q (d ∙ t)
  tree-after (Gives v) a T U i q t d = rw (q, i) (d ∙ t)
  tree-after (Changes V) a T U i q t d = rw (q, i) d
  tree-after (Opens v x) a T U i q t d = rw (q, i) (d ∙ t)
  tree-after (Closes v) a T U i q t d = rw (q, i) (d ∙ t)
  tree-after Writes a T U i q t d = rw (q, i) (d ∙ t)

tree-is : (S : Script) (K : List Event) (e : Event) (U : Tree) → U ≡ (files_after S K (files S K) e.who e.what).tree → U ≡ (files S (e ∷ K)).tree
unfolding files
tree-is S K e U h = h

-- the call's step is that of the task
step-is : (S : Script) (K : List Event) (n : Name) (g : ℕ) (call : NativeCall) → group_named K n ≡ Some g → (i : IsEntered S K n g call) → native_step S K (files S K) n ≡ step_of S K (files S K) n g call
step-is S K n g call group i =
    ap (λ (o : Option ℕ). call_natively S K (files S K) n (place_or o) (last_call K n)) group
    ∙ ap (λ (w : What). call_natively S K (files S K) n g w) i.last ∙ i.prepared.step (files S K) n i.verdict

stores-is : (S : Script) (K : List Event) (n : Name) (g : ℕ) (call : NativeCall) → (i : IsEntered S K n g call) → stored_by_call S (last_call K n) ≡ stored_by S call
stores-is S K n g call i = ap (λ (w : What). stored_by_call S w) i.last ∙ i.prepared.stores i.verdict

pub run_stands : (container : Container) (caller : Caller) (call : NativeCall) (T U : Tree) (old new : Groups) (a : Result ℕ ℕ) → IsRun container caller call a T U old new
    → (S : Script) (K : List Event) (living handles : ℕ → ℕ) (n : Name) → IsDue S K living handles n container caller call T old → StandFor S (ev (Task n) (Native a) ∷ K) living handles U new
run_stands container caller call T U old new a run S K living handles n due =
    let g = due.group in
    let own = due.caller_is in
    let h = run S K living handles n g due.stand due.container_is own in
    let s = step_of S K (files S K) n g call in
    let step = step-is S K n g call own.named due.entered in
    record {
      tree_is = tree-is S K (ev (Task n) (Native a)) U (tree-after S K n s a T U step h.answer_is due.stand.tree_is h.tree);
      groups_stand = respects _ _ _
          (natives S K (ev (Task n) (Native a)) living handles n caller.group g (stored_by S call) s a refl refl own.named own.group_is (stores-is S K n g call due.entered) step h.answer_is) h.groups;
    }

pub run_answers : (container : Container) (caller : Caller) (call : NativeCall) (T U : Tree) (old new : Groups) (a : Result ℕ ℕ) → IsRun container caller call a T U old new
    → (S : Script) (K : List Event) (living handles : ℕ → ℕ) (n : Name) → IsDue S K living handles n container caller call T old → a ≡ native_answer (native_step S K (files S K) n)
run_answers container caller call T U old new a run S K living handles n due =
    (run S K living handles n due.group due.stand due.container_is due.caller_is).answer_is ∙ ap native_answer (sym (step-is S K n due.group call due.caller_is.named due.entered))

-- ---- bases

base-kept : (F : Files) (g w : ℕ) (s : NativeStep) → (after_native F g s).base w ≡ F.base w
base-kept F g w (Changes T) = refl
base-kept F g w (Opens n x) = refl
base-kept F g w (Closes n) = refl
base-kept F g w s = refl

bases-kept : (S : Script) (K : List Event) (a : Actor) (answer : Result ℕ ℕ) (w : ℕ) → (files_after S K (files S K) a (Native answer)).base w ≡ (files S K).base w
bases-kept S K a (Ok n) w = base-kept (files S K) (own_group K a) w (native_step S K (files S K) (task_name a))
bases-kept S K a (Err e) w = refl

pub native_bases : (S : Script) (K : List Event) (e : Event) (answer : Result ℕ ℕ) (w : ℕ) → e.what ≡ Native answer → (files S (e ∷ K)).base w ≡ (files S K).base w
unfolding files
native_bases S K e answer w h = ap (λ (x : What). (files_after S K (files S K) e.who x).base w) h ∙ bases-kept S K e.who answer w
