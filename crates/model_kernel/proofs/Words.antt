-- The words that most proofs about the kernel cite.
-- Each but the last is passed on from where it is defined.
use Rattle.std.specs.Prelude.{List}
pub use Rattle.hist_model.specs.Look.{Name, ev}
pub use Rattle.hist_model.specs.declared.event.Actor.{Actor}
pub use Rattle.hist_model.specs.declared.event.Actor.TheVariants.{Task, Worker}
pub use Rattle.hist_model.specs.declared.event.Event.{Event}
pub use Rattle.hist_model.specs.declared.event.What.{What}
pub use Rattle.hist_model.specs.declared.event.What.TheVariants.{Spawn, Poke, Handler, Enter, Install, Native, Resume, Signal, Deliver, Reap, Exit, Recv, OpenMem, OpenBase, Check, Read, Act, Plant, AddfdPut, AddfdTake, Send, LetGo, Skip}
pub use Rattle.hist_model.specs.declared.script.Script.{Script}
pub use Rattle.listener.specs.declared.listener.Listener.{Listener}
pub use Rattle.task_groups.specs.Stands.{state}
pub use Rattle.task_groups.specs.State.{State}
pub use Rattle.task_groups.specs.declared.groups.Groups.{Groups}
pub use Rattle.task_groups.proofs.Stand.{alike, holds_room, respects}
pub use Rattle.tasks.specs.Stands.{living_in}
pub use Rattle.tasks.specs.declared.table.Tasks.{Tasks}
pub use Rattle.model_kernel.specs.Kernels.{IsAfter, IsKernel, past, system}
pub use Rattle.model_kernel.specs.Stands.{AreRows, AreTimes}
unfoldable pub use Rattle.model_kernel.specs.Stands.{memories_in}
pub use Rattle.model_kernel.specs.Steps.{Acts, IsServed, MayStep, WaitsIn, due_step, named, signal_due, step_by}
pub use Rattle.model_kernel.specs.declared.kernel.Kernel.{Kernel}
pub use Rattle.model_kernel.specs.declared.resources.Resources.{Resources}
pub use Rattle.model_kernel.specs.declared.rows.WorkerRow.{WorkerRow}
pub use Rattle.model_kernel.specs.declared.spent.SpentRows.{SpentRows}

-- the state of the groups after a history, where tasks and workers hold them as in this kernel
abbrev pub groups_after : Kernel → List Event → State
groups_after k K = state k.script K (living_in k.tasks) (memories_in k.resources.workers)
