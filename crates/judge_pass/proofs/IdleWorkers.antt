-- The judge stands for a history with one more event of a worker that changes nothing of what is kept.
-- Kind by kind: what the kernel lets a worker do.
use Rattle.std.proofs.Common.{◌≡◌, ℕ, ◌<◌, false, true, List, ◌∷◌, refl, arith}
use Rattle.std.specs.Prelude.{Ok, Err, OnOk, Result, ℤ}
use Rattle.broker_verdict.specs.Trusted.{leaves_unanswered}
use Rattle.broker_verdict.specs.declared.clause.Clause.TheVariants.{Unanswered}
use Rattle.hist_model.specs.Kinds.{notifies}
use Rattle.hist_model.specs.Legal.{system_of}
use Rattle.hist_model.specs.Look.{ev}
use Rattle.hist_model.specs.declared.event.Actor.TheVariants.{Worker}
use Rattle.hist_model.specs.declared.event.Event.{Event}
use Rattle.hist_model.specs.declared.event.What.{What}
use Rattle.hist_model.specs.declared.event.What.TheVariants.{Act, AddfdPut, AddfdTake, Check, LetGo, OpenBase, OpenMem, Plant, Read, Recv, Send, Skip}
use Rattle.hist_model.specs.declared.policy.Policy.{Policy}
use Rattle.hist_model.specs.declared.script.Script.{Script}
use Rattle.mediation.proofs.KernelRows.{kernel-row-of, KernelWorkerRow}
use Rattle.sys_abi.specs.declared.wire.Notif.{Notif}
use Rattle.judge_pass.specs.Stands.{IsHistory, Stands}
use Rattle.judge_pass.specs.Takes.{acts_or_answers, moves_alone}
use Rattle.judge_pass.specs.declared.judge.Judge.{Judge}
use Rattle.judge_pass.proofs.CallRows.{moves_calls}
use Rattle.judge_pass.proofs.SeatEvents.{moves_seat, quiet-seat}
use Rattle.judge_pass.proofs.TaskEvents.{IsQuiet}
use Rattle.judge_pass.proofs.WorkerEvents.{quiet-kind, stands-still}

module _ (P : Policy) (S : Script) (K : List Event) (w : ℕ) (j : Judge) (s : Stands P S K j) (l : w < 17) where
  still : (what : What) → IsHistory S (ev (Worker w) what ∷ K) → moves_seat what ≡ false → IsQuiet what → notifies what ≡ false → moves_calls what ≡ false → Stands P S (ev (Worker w) what ∷ K) j
  still what h m q n c = stands-still P S K w what j s h q n c l (quiet-seat S K w what m)

  pub received-nothing : (errno : ℕ) → IsHistory S (ev (Worker w) (Recv (Err errno)) ∷ K) → Stands P S (ev (Worker w) (Recv (Err errno)) ∷ K) j
  received-nothing errno h = still (Recv (Err errno)) h refl (quiet-kind (Recv (Err errno)) refl refl refl refl refl refl refl refl refl refl refl) refl refl

  pub memory-refused : (pid errno : ℕ) → IsHistory S (ev (Worker w) (OpenMem pid (Err errno)) ∷ K) → Stands P S (ev (Worker w) (OpenMem pid (Err errno)) ∷ K) j
  memory-refused pid errno h = still (OpenMem pid (Err errno)) h refl (quiet-kind (OpenMem pid (Err errno)) refl refl refl refl refl refl refl refl refl refl refl) refl refl

  pub not-valid : (x errno : ℕ) → IsHistory S (ev (Worker w) (Check x (Err errno)) ∷ K) → Stands P S (ev (Worker w) (Check x (Err errno)) ∷ K) j
  not-valid x errno h = still (Check x (Err errno)) h refl (quiet-kind (Check x (Err errno)) refl refl refl refl refl refl refl refl refl refl refl) refl refl

  -- the other kinds are those that the kernel lets no worker do, a number that is taken, and a step that can't be taken
  pub idle-worker : (what : What) → ((p : ℕ) (a : Result (Unit {0}) ℕ) → what ≡ OpenMem p a → ⊥) → ((p : ℕ) (d : ℤ) (a : Result (Unit {0}) ℕ) → what ≡ OpenBase p d a → ⊥) → ((x : ℕ) (a : Result (Unit {0}) ℕ) → what ≡ Check x a → ⊥)
      → ((x n : ℕ) (a : Result (List ℕ) ℕ) → what ≡ Read x n a → ⊥) → moves_alone what ≡ true → IsHistory S (ev (Worker w) what ∷ K) → Stands P S (ev (Worker w) what ∷ K) j
  idle-worker what m b c r alone h = by what m b c r alone h (kernel-row-of (system_of S) K (ev (Worker w) what) h.of_kernel.0)
    where
      by : (what : What) → ((p : ℕ) (a : Result (Unit {0}) ℕ) → what ≡ OpenMem p a → ⊥) → ((p : ℕ) (d : ℤ) (a : Result (Unit {0}) ℕ) → what ≡ OpenBase p d a → ⊥) → ((x : ℕ) (a : Result (Unit {0}) ℕ) → what ≡ Check x a → ⊥)
          → ((x n : ℕ) (a : Result (List ℕ) ℕ) → what ≡ Read x n a → ⊥) → moves_alone what ≡ true → IsHistory S (ev (Worker w) what ∷ K) → KernelWorkerRow (system_of S) K w what → Stands P S (ev (Worker w) what ∷ K) j
      by (OpenMem p a) m b c r alone h row = absurd (m p a refl)
      by (OpenBase p d a) m b c r alone h row = absurd (b p d a refl)
      by (Check x a) m b c r alone h row = absurd (c x a refl)
      by (Read x n a) m b c r alone h row = absurd (r x n a refl)
      by (AddfdTake a) m b c r alone h row = still (AddfdTake a) h refl (quiet-kind (AddfdTake a) refl refl refl refl refl refl refl refl refl refl refl) refl refl
      by Skip m b c r alone h row = still Skip h refl (quiet-kind Skip refl refl refl refl refl refl refl refl refl refl refl) refl refl
      by (Recv a) m b c r alone h row = cc
      by LetGo m b c r alone h row = cc
      by (Act q k a) m b c r alone h row = cc
      by (Plant x bs k a) m b c r alone h row = cc
      by (AddfdPut q a) m b c r alone h row = cc
      by (Send x y a) m b c r alone h row = cc
      by what m b c r alone h row = absurd row

-- what moves a seat alone leaves no call
pub alone-leaves : (K : List Event) (w : ℕ) (what : What) → moves_alone what ≡ true → false ≡ leaves_unanswered Unanswered K (ev (Worker w) what)
alone-leaves K w what h = grind (arith, h)

-- what holds where all went well holds of what it's needed for
pub on-ok : {E : Type 0} (r : Result (Unit {0}) E) (A B : Type 0) → (A → B) → OnOk r A → OnOk r B
on-ok (Ok u) A B f h = f h
on-ok (Err e) A B f h = tt

pub alone-kind : (what : What) → ((a : Result Notif ℕ) → what ≡ Recv a → ⊥) → (what ≡ LetGo → ⊥) → acts_or_answers what ≡ false → moves_alone what ≡ true
alone-kind (Recv a) r g f = absurd (r a refl)
alone-kind LetGo r g f = absurd (g refl)
alone-kind (Act q k a) r g f = cc
alone-kind (Plant x bs k a) r g f = cc
alone-kind (AddfdPut q a) r g f = cc
alone-kind (Send x b a) r g f = cc
alone-kind what r g f = refl
