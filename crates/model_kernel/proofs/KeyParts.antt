-- Keys of kernels tell the tables, one after another.
-- By what the key of each table tells; of the spent caps, by the last rule that has a row, and the times of those before it.
use Rattle.std.proofs.Common.{◌≡◌, inl, inr, ℕ, zero, suc, ◌+◌, ◌<◌, Bool, List, [], ◌++◌, Option, refl, sym, ap, ◌∙◌, append_assoc, add-one, arith}
use Rattle.std.proofs.lemmas.Bool.{cases_lt}
use Rattle.hist_model.specs.declared.request.NodeRef.{NodeRef}
use Rattle.key_bytes.specs.Parts.{Ends, flag_part, list_part, number_part, option_part, pair_part}
use Rattle.key_bytes.proofs.Ending.{flag_ends, list_ends, option_ends, pair_ends, told_ends}
use Rattle.key_bytes.proofs.Numbers.{number_ends}
use Rattle.listener.proofs.KeyParts.{listeners_end}
use Rattle.listener.specs.Keys.{listener_part}
use Rattle.mount_tree.proofs.WrittenParts.{tree_ends}
use Rattle.mount_tree.specs.Written.{tree_part}
use Rattle.task_groups.proofs.KeyParts.{groups_end}
use Rattle.task_groups.specs.Keys.{groups_part}
use Rattle.tasks.proofs.KeyParts.{tables_end}
use Rattle.tasks.specs.Keys.{table_part}
use Rattle.model_kernel.specs.Keys.{TellKernels, node_part, resources_part, spent_part, times_part, worker_part}
use Rattle.model_kernel.specs.Spent.{number_or, times_in}
use Rattle.model_kernel.specs.declared.rows.WorkerRow.{WorkerRow}
use Rattle.model_kernel.specs.declared.spent.SpentRows.{SpentRows}

-- a part, and what comes after it
behind : (f g r h k s : List ℕ) → (f ++ g) ++ r ≡ (h ++ k) ++ s → f ++ (g ++ r) ≡ h ++ (k ++ s)
behind f g r h k s q = sym (append_assoc f g r) ∙ (q ∙ append_assoc h k s)

-- ---- What workers have open

node_ends : Ends node_part
node_ends = told_ends (λ (n : NodeRef). n.ordinal) (λ (o : ℕ). record { ordinal = o }) number_part (λ n. refl) number_ends

worker_ends : Ends worker_part
worker_ends = told_ends (λ (w : WorkerRow). ((w.base, w.memory), w.has_session))
    (λ (p : (Option NodeRef × Option ℕ) × Bool). record { base = p.0.0; memory = p.0.1; has_session = p.1 })
    (pair_part (pair_part (option_part node_part) (option_part number_part)) flag_part) (λ w. refl)
    (pair_ends (pair_part (option_part node_part) (option_part number_part)) flag_part
    (pair_ends (option_part node_part) (option_part number_part) (option_ends node_part node_ends) (option_ends number_part number_ends)) flag_ends)

-- ---- The caps that were spent

pub none_written : (T : SpentRows) → times_part T 0 ≡ []
unfolding times_part
none_written T = refl

pub one_more_written : (T : SpentRows) (n : ℕ) → times_part T (n + 1) ≡ times_part T n ++ number_part (times_in T n)
unfolding times_part
one_more_written T n = rw add-one refl

-- a number more after what was written
pub written_on : (front times before number after : List ℕ) → before ≡ front ++ times → after ≡ before ++ number → after ≡ front ++ (times ++ number)
written_on front times before number after p q = q ∙ rw (p, append_assoc) refl

module _ (T U : SpentRows) where
  times-end : (n : ℕ) (r s : List ℕ) → times_part T n ++ r ≡ times_part U n ++ s → ((m : ℕ) → m < n → times_in T m ≡ times_in U m) × (r ≡ s)
  unfolding times_part
  times-end zero r s q = (λ m l. absurd (omega (arith, l)), q)
  times-end (suc n) r s q =
      let z = times-end n (number_part (times_in T n) ++ r) (number_part (times_in U n) ++ s)
      (behind (times_part T n) (number_part (times_in T n)) r (times_part U n) (number_part (times_in U n)) s q) in
      let own = number_ends (times_in T n) (times_in U n) r s z.1 in (
        λ m l. elim (cases_lt m n) [
          | inl h ↦ z.0 m h
          | inr h ↦ let e : m ≡ n = omega (arith, h, l) in ap (times_in T) e ∙ (own.0 ∙ sym (ap (times_in U) e))
        ],
        own.1,
      )

  -- no later rule was spent
  none-later : (V : SpentRows) (rule : ℕ) → V.last < rule → times_in V rule ≡ 0
  none-later V rule l = ap number_or (V.none_later rule l)

  spent-end : (r s : List ℕ) → spent_part T ++ r ≡ spent_part U ++ s → ((rule : ℕ) → times_in T rule ≡ times_in U rule) × (r ≡ s)
  spent-end r s q =
      let z = number_ends T.last U.last (times_part T (T.last + 1) ++ r) (times_part U (U.last + 1) ++ s)
      (behind (number_part T.last) (times_part T (T.last + 1)) r (number_part U.last) (times_part U (U.last + 1)) s q) in
      let w = times-end (T.last + 1) r s (z.1 ∙ ap (λ (n : ℕ). times_part U (n + 1) ++ s) (sym z.0)) in (
        λ rule. elim (cases_lt T.last rule) [
          | inl h ↦ none-later T rule h ∙ sym (none-later U rule (omega (arith, h, z.0)))
          | inr h ↦ w.0 rule (omega (arith, h))
        ],
        w.1,
      )

-- ---- A kernel

pub kernels_end : TellKernels
kernels_end a b r s q =
    let R = a.resources in
    let Q = b.resources in
    let workers = λ (X : List WorkerRow). list_part worker_part X in
    let tasks = tables_end a.tasks b.tasks (resources_part R ++ r) (resources_part Q ++ s)
    (behind (table_part a.tasks) (resources_part R) r (table_part b.tasks) (resources_part Q) s q) in
    let rest-R = workers R.workers ++ spent_part R.spent in
    let rest-Q = workers Q.workers ++ spent_part Q.spent in
    let calls = listeners_end R.listener Q.listener ((groups_part R.groups ++ (tree_part R.tree.tree ++ rest-R)) ++ r) ((groups_part Q.groups ++ (tree_part Q.tree.tree ++ rest-Q)) ++ s)
    (behind (listener_part R.listener) (groups_part R.groups ++ (tree_part R.tree.tree ++ rest-R)) r (listener_part Q.listener) (groups_part Q.groups ++ (tree_part Q.tree.tree ++ rest-Q)) s tasks.1) in
    let groups = groups_end R.groups Q.groups ((tree_part R.tree.tree ++ rest-R) ++ r) ((tree_part Q.tree.tree ++ rest-Q) ++ s)
    (behind (groups_part R.groups) (tree_part R.tree.tree ++ rest-R) r (groups_part Q.groups) (tree_part Q.tree.tree ++ rest-Q) s calls.1) in
    let trees = tree_ends R.tree.tree Q.tree.tree (rest-R ++ r) (rest-Q ++ s) (behind (tree_part R.tree.tree) rest-R r (tree_part Q.tree.tree) rest-Q s groups.1) in
    let rows = list_ends worker_part worker_ends R.workers Q.workers (spent_part R.spent ++ r) (spent_part Q.spent ++ s)
    (behind (workers R.workers) (spent_part R.spent) r (workers Q.workers) (spent_part Q.spent) s trees.1) in
    let times = spent-end R.spent Q.spent r s rows.1 in
    (record { tasks = tasks.0; calls = calls.0; groups = groups.0; tree = trees.0; workers = rows.0; spent = times.0 }, times.1)
