-- The key of a kernel: those of its tables, one after another.
use Rattle.std.specs.Prelude.{◌≡◌, ℕ, zero, suc, ◌+◌, List, [], ◌++◌}
use Rattle.hist_model.specs.Look.{Name}
use Rattle.hist_model.specs.declared.request.NodeRef.{NodeRef}
use Rattle.key_bytes.specs.Parts.{flag_part, list_part, number_part, option_part}
use Rattle.listener.specs.Keys.{listener_part}
use Rattle.listener.specs.Listeners as listener
use Rattle.mount_tree.specs.Written.{tree_part}
use Rattle.task_groups.specs.Keys.{HaveSame, groups_part}
use Rattle.tasks.specs.Keys.{table_part}
use Rattle.tasks.specs.Table as tasks
use Rattle.model_kernel.specs.Spent.{times_in}
use Rattle.model_kernel.specs.declared.kernel.Kernel.{Kernel}
use Rattle.model_kernel.specs.declared.resources.Resources.{Resources}
use Rattle.model_kernel.specs.declared.rows.WorkerRow.{WorkerRow}
use Rattle.model_kernel.specs.declared.spent.SpentRows.{SpentRows}

abbrev pub node_part : NodeRef → List ℕ
node_part node = number_part node.ordinal

-- what a worker has open
abbrev pub worker_part : WorkerRow → List ℕ
worker_part row = option_part node_part row.base ++ option_part number_part row.memory ++ flag_part row.has_session

-- how often the caps of the first n rules were spent
unfoldable pub times_part : SpentRows → ℕ → List ℕ
times_part T zero = []
times_part T (suc n) = times_part T n ++ number_part (times_in T n)

-- how often the cap of each rule was spent, up to the last that was
abbrev pub spent_part : SpentRows → List ℕ
spent_part T = number_part T.last ++ times_part T (T.last + 1)

-- the tables but those of the tasks
abbrev pub resources_part : Resources → List ℕ
resources_part R =
    listener_part R.listener ++ (groups_part R.groups ++ (tree_part R.tree.tree ++ (list_part worker_part R.workers ++ spent_part R.spent)))

-- a whole kernel
abbrev pub kernel_part : Kernel → List ℕ
kernel_part k = table_part k.tasks ++ resources_part k.resources

-- ---- what it tells

-- the tasks and the calls are the same states, the groups have the same, and the tree, what workers have open and the times are equal
pub record HaveSameTables (a b : Kernel) : Type 0 where
  pub tasks : (groups : ℕ) → tasks.view (tasks.table_of a.tasks) groups ≡ tasks.view (tasks.table_of b.tasks) groups
  pub calls : (names : ℕ → Name) → listener.view a.resources.listener names ≡ listener.view b.resources.listener names
  pub groups : HaveSame a.resources.groups b.resources.groups
  pub tree : a.resources.tree.tree ≡ b.resources.tree.tree
  pub workers : a.resources.workers ≡ b.resources.workers
  pub spent : (rule : ℕ) → times_in a.resources.spent rule ≡ times_in b.resources.spent rule

-- where equal bytes begin with the keys of two kernels, these have the same tables, and what comes after is equal
abbrev pub TellKernels : Type 0
TellKernels = (a b : Kernel) (r s : List ℕ) → kernel_part a ++ r ≡ kernel_part b ++ s → HaveSameTables a b × (r ≡ s)
