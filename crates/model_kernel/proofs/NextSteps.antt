-- What was read of a task's next step is what the definitions say of it.
-- By the call that it entered last, and the rule of scripts on what their programs store.
use Rattle.std.proofs.Common.{◌≡◌, ℕ, true, List, Some, ap, sym, ◌∙◌, subst, ℤ, Ok, Err, Result, IfOk, replicate, length}
use Rattle.std.proofs.lemmas.List.{length-replicate}
use Rattle.hist_model.specs.Memory.{all_mapped, group_named, last_call}
use Rattle.hist_model.specs.Steps.{owes_native}
use Rattle.hist_model.specs.ScriptRules.{IsScript}
use Rattle.hist_model.specs.declared.event.Entered.{Entered}
use Rattle.hist_model.specs.declared.script.Instr.TheVariants as instr
use Rattle.history_frames.specs.Ordinals.{group_of}
use Rattle.model_kernel.proofs.Words.{Enter, Event, IsKernel, Kernel, living_in, MayStep, named, past, Script, Tasks}
use Rattle.model_kernel.specs.Stands as resources
use Rattle.native_calls.specs.Prepared.{IsPrepared}
use Rattle.native_calls.specs.declared.call.NativeCall.{NativeCall}
use Rattle.sys_abi.specs.declared.memory.NoMemory.{NoMemory}
use Rattle.model_kernel.proofs.NativeCalls.{counted-alike}
use Rattle.tasks.specs.Stands as tasks
use Rattle.model_kernel.specs.Ready.{IsOwed, own_instr, stored_by}
use Rattle.model_kernel.proofs.Stored.{stored-mapped}

-- the call was read in a group, after whatever history its resources stand for
abbrev IsRead : Kernel → ℕ → ℤ → List ℕ → NativeCall → Type 0
IsRead k group nr args call = (S : Script) (K : List Event) (living : ℕ → ℕ) (g : ℕ) → resources.StandsFor S K living k.resources → group_of K group ≡ Some g → IsPrepared S K g nr args call

-- the call that was read is the one that the task owes
pub owed-if : (k : Kernel) (o : ℕ) (nr : ℤ) (args : List ℕ) (r : Result NativeCall NoMemory) (group g : ℕ) → MayStep k o → owes_native (past k) (named k o) ≡ true → group_of (past k) group ≡ Some g → group_named (past k) (named k o) ≡ Some g
    → ((verdict : Entered) × (last_call (past k) (named k o) ≡ Enter nr args verdict)) → IfOk r (IsRead k group nr args) → IfOk r (λ call. IsOwed k o call)
owed-if k o nr args (Ok call) group g may owes at own last read = record {
  owes = owes;
  entered = λ h q.
      let same : g ≡ h = let z : Some g ≡ Some h = sym own ∙ q in cc in
      record { nr = nr; args = args; verdict = last.0; last = last.1; prepared = subst (λ x. IsPrepared k.script (past k) x nr args call) same (read k.script (past k) (living_in k.tasks) g may.kernel.resources at) };
}
owed-if k o nr args (Err e) group g may owes at own last read = tt

-- a poke stores its bytes, and a fill as many of one byte, where each address is mapped
pub poke-mapped : (k : Kernel) (o addr : ℕ) (own bytes : List ℕ) → IsScript k.script → Some (instr.Poke addr own) ≡ own_instr k o → stored_by (own_instr k o) ≡ bytes → all_mapped k.script.map addr (length bytes) ≡ true
poke-mapped k o addr own bytes s next are =
    let same : own ≡ bytes = ap stored_by next ∙ are in
    subst (λ x. all_mapped k.script.map addr (length x) ≡ true) same (stored-mapped k.script (named k o) _ (instr.Poke addr own) s (sym next))

pub fill-mapped : (k : Kernel) (o addr len byte : ℕ) (bytes : List ℕ) → IsScript k.script → Some (instr.Fill addr len byte) ≡ own_instr k o → stored_by (own_instr k o) ≡ bytes → all_mapped k.script.map addr (length bytes) ≡ true
fill-mapped k o addr len byte bytes s next are =
    let same : replicate len byte ≡ bytes = ap stored_by next ∙ are in
    subst (λ x. all_mapped k.script.map addr (length x) ≡ true) same (rw (length-replicate len byte) (stored-mapped k.script (named k o) _ (instr.Fill addr len byte) s (sym next)))

-- the kernel with more room for tasks
pub roomier : (k new : Kernel) (T : Tasks) → IsKernel k → tasks.StandsFor k.script (past k) T → ((g : ℕ) → living_in T g ≡ living_in k.tasks g) → past new ≡ past k → new ≡ record k { history = new.history; tasks = T } → IsKernel new
roomier k new T i stand same events is =
    let script : new.script ≡ k.script = ap (λ (x : Kernel). x.script) is in
    let tables : new.tasks ≡ T = ap (λ (x : Kernel). x.tasks) is in
    let resources : new.resources ≡ k.resources = ap (λ (x : Kernel). x.resources) is in
    record {
      tasks = rw (script, tables, events) stand;
      resources = rw (script, tables, resources, events) (counted-alike k.script (past k) (living_in k.tasks) k.resources i.resources (living_in T) same);
      few = rw events i.few;
    }
