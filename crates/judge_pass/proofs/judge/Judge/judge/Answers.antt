-- The newest event is judged after those that the tables stand for, as one of its actor.
use Rattle.std.proofs.Common.{◌≡◌, ◌<◌, ◌^◌, ◌∷◌, List, ap, ◌∙◌, false, length, reverse, refl, subst, sym, true}
use Rattle.std.specs.Prelude.{IfNone, IfSome}
use Rattle.std.proofs.lemmas.List.{length-reverse}
use Rattle.std.proofs.lemmas.Result.{IfOk-weaker}
use Rattle.hist_model.specs.Kinds.{closes}
use Rattle.hist_model.specs.Look.{ev, Name}
use Rattle.hist_model.specs.Tasks.{is_made}
use Rattle.hist_model.specs.declared.event.Actor.TheVariants.{Task, Worker}
use Rattle.hist_model.specs.declared.event.Event.{Event}
use Rattle.history_frames.specs.Ordinals.{task_name_of, tasks_made}
use Rattle.model_kernel.specs.Kernels.{IsKernel, past}
use Rattle.judge_pass.specs.Closed.{is_closed}
use Rattle.judge_pass.specs.Stands.{IsHistory}
use Rattle.judge_pass.specs.Takes.{HolderIs}
use Rattle.judge_pass.proofs.InRange.{stands-among, stands-followed, stands-group, stands-made, stands-room, stands-within}
use Rattle.judge_pass.proofs.Judging.{judges-newest, judges-none}
use Rattle.judge_pass.proofs.NewestActor.{found-before, holder-named-before, kept-before, known-none, known-some, listener-closes, newest-is, start-new, step-found, worker-low}
use Rattle.judge_pass.proofs.judge.Judge.judge.Goals as goal

pub judge_worker-requires : goal.judge_worker-requires
judge_worker-requires c =
    let P = c.args.policy.now in
    let S = c.args.kernel.now.script in
    let K = reverse c.in-Some.before.now in
    let e = c.in-Some.event.now in
    let w = c.in-Worker.number in
    let j = c.args.self.now in
    let s = c.requires.stands K e c.in-Some.ensures.some in
    let at = newest-is (past c.args.kernel.now) K e (Worker w) c.in-Some.ensures.some c.in-Worker.is in
    let history : IsHistory S (ev (Worker w) e.what ∷ K) = subst (λ (H : List Event). IsHistory S H) at c.requires.history in
    let low = worker-low S K w e.what history in
    record {
      within = stands-within P S K j s;
      among = stands-among P S K j s (length c.in-Some.before.now) (sym (length-reverse c.in-Some.before.now));
      times = s.times_are;
      followed = stands-followed P S K j s w low;
      room = stands-room P S K j s (ev (Worker w) e.what) history;
      worker = low;
      holder = kept-before S K w e.what c.holder_named-holder.result (length j.tasks.items) history s.tasks_are
          (subst (λ (H : List Event). IfSome c.holder_named-holder.result (λ o. o < tasks_made H)) at c.holder_named-holder.ensures.made);
    }

pub returns-in-Worker : goal.returns-in-Worker
returns-in-Worker c = IfOk-weaker c.judge_worker.result _ _ (λ found h L f is.
    let P = c.args.policy.now in
    let S = c.args.kernel.now.script in
    let K = reverse c.in-Some.before.now in
    let e = c.in-Some.event.now in
    let w = c.in-Worker.number in
    let s = c.requires.stands K e c.in-Some.ensures.some in
    let at = newest-is (past c.args.kernel.now) K e (Worker w) c.in-Some.ensures.some c.in-Worker.is in
    let history : IsHistory S (ev (Worker w) e.what ∷ K) = subst (λ (H : List Event). IsHistory S H) at c.requires.history in
    let holds = holder-named-before S K w e.what c.holder_named-holder.result history
    (subst (λ (H : List Event). HolderIs e.what H c.holder_named-holder.result) at c.holder_named-holder.ensures.holds) in
    let judged = rw c.script.ensures at h in
    judges-newest P S (past c.args.kernel.now) L K f (ev (Worker w) e.what) found c.judge_worker.new.self is at (judged s history holds))
    c.judge_worker.ensures

pub judge_task-requires : goal.judge_task-requires
judge_task-requires c =
    let P = c.args.policy.now in
    let S = c.args.kernel.now.script in
    let K = reverse c.in-Some.before.now in
    let e = c.in-Some.event.now in
    let n = c.items.result.now in
    let who : e.who ≡ Task n = c.in-Task.is ∙ ap (λ (m : Name). Task m) (sym c.items.ensures) in
    let j = c.args.self.now in
    let s = c.requires.stands K e c.in-Some.ensures.some in
    let history : IsHistory S (e ∷ K) = subst (λ (H : List Event). IsHistory S H) c.in-Some.ensures.some c.requires.history in
    let few : tasks_made (e ∷ K) < 2 ^ 32 = subst (λ (H : List Event). tasks_made H < 2 ^ 32) c.in-Some.ensures.some c.requires.kernel.few in
    let known = known-some (IsKernel c.args.kernel.now) (λ o. (o < tasks_made (past c.args.kernel.now)) × (task_name_of (past c.args.kernel.now) o ≡ n)) c.find-task.result c.requires.kernel c.find-task.ensures.some in
    record {
      within = stands-within P S K j s;
      task = found-before S K e n history who c.find-task.result (length j.tasks.items) s.tasks_are
          (subst (λ (H : List Event). IfSome c.find-task.result (λ o. (o < tasks_made H) × (task_name_of H o ≡ n))) c.in-Some.ensures.some known);
      few = stands-group P S K j s e few;
      made = stands-made P S K j s;
    }

pub returns-in-Task : goal.returns-in-Task
returns-in-Task c = IfOk-weaker c.judge_task.result _ _ (λ found h L f is.
    let P = c.args.policy.now in
    let S = c.args.kernel.now.script in
    let K = reverse c.in-Some.before.now in
    let e = c.in-Some.event.now in
    let n = c.items.result.now in
    let who : e.who ≡ Task n = c.in-Task.is ∙ ap (λ (m : Name). Task m) (sym c.items.ensures) in
    let s = c.requires.stands K e c.in-Some.ensures.some in
    let history : IsHistory S (e ∷ K) = subst (λ (H : List Event). IsHistory S H) c.in-Some.ensures.some c.requires.history in
    let some = known-some (IsKernel c.args.kernel.now) (λ o. (o < tasks_made (past c.args.kernel.now)) × (task_name_of (past c.args.kernel.now) o ≡ n)) c.find-task.result c.requires.kernel c.find-task.ensures.some in
    let none = known-none (IsKernel c.args.kernel.now) (is_made (past c.args.kernel.now) n ≡ false) c.find-task.result c.requires.kernel c.find-task.ensures.none in
    let step = step-found S K e n history who c.find-task.result
    (subst (λ (H : List Event). IfSome c.find-task.result (λ o. (o < tasks_made H) × (task_name_of H o ≡ n))) c.in-Some.ensures.some some)
    (subst (λ (H : List Event). IfNone c.find-task.result (is_made H n ≡ false)) c.in-Some.ensures.some none) in
    judges-newest P S (past c.args.kernel.now) L K f e found c.judge_task.new.self is c.in-Some.ensures.some
    (h P S K e s history step (length-reverse c.in-Some.before.now) (c.requires.opened K e c.in-Some.ensures.some)))
    c.judge_task.ensures

pub add_new-requires : goal.add_new-requires
add_new-requires c =
    let P = c.args.policy.now in
    let S = c.args.kernel.now.script in
    let K = reverse c.in-Some.before.now in
    let e = c.in-Some.event.now in
    let s = c.requires.stands K e c.in-Some.ensures.some in
    let history : IsHistory S (e ∷ K) = subst (λ (H : List Event). IsHistory S H) c.in-Some.ensures.some c.requires.history in
    let few : tasks_made (e ∷ K) < 2 ^ 32 = subst (λ (H : List Event). tasks_made H < 2 ^ 32) c.in-Some.ensures.some c.requires.kernel.few in
    let spawns = start-new S K e history c.in-Start.is in
    record { few = stands-group P S K c.args.self.now s e few (rw spawns.what_is refl) }

pub returns-in_ok-add_new-in-Start : goal.returns-in_ok-add_new-in-Start
returns-in_ok-add_new-in-Start c = λ L f is.
    let P = c.args.policy.now in
    let S = c.args.kernel.now.script in
    let K = reverse c.in-Some.before.now in
    let e = c.in-Some.event.now in
    let s = c.requires.stands K e c.in-Some.ensures.some in
    let history : IsHistory S (e ∷ K) = subst (λ (H : List Event). IsHistory S H) c.in-Some.ensures.some c.requires.history in
    let spawns = start-new S K e history c.in-Start.is in
    judges-newest P S (past c.args.kernel.now) L K f e _ c.add_new.new.self is c.in-Some.ensures.some
    (judges-none P S K c.add_new.new.self e (rw c.in-Start.is refl) (rw c.in-Start.is refl) (c.in_ok-add_new-in-Start.ensures P S K e s history spawns))

pub returns-in-Listener : goal.returns-in-Listener
returns-in-Listener c =
    let S = c.args.kernel.now.script in
    let K = reverse c.in-Some.before.now in
    let e = c.in-Some.event.now in
    let history : IsHistory S (e ∷ K) = subst (λ (H : List Event). IsHistory S H) c.in-Some.ensures.some c.requires.history in
    let open-now : closes e.what ≡ false = subst (λ (H : List Event). is_closed H ≡ false) c.in-Some.ensures.some c.requires.goes_on in
    let closed : closes e.what ≡ true = listener-closes S K e history c.in-Listener.is in
    absurd (cc (open-now, closed))
