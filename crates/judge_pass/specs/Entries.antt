-- What a call does with the numbers of its task's group.
use Rattle.std.specs.Prelude.{◌≡◌, ◌%◌, ◌^◌, pos}
use Rattle.hist_model.specs.Memory.{argument}
use Rattle.hist_model.specs.Steps.{number_entered}
use Rattle.hist_model.specs.declared.event.What.{What}
use Rattle.sys_abi.specs.Calls.{nr_close, nr_openat}
use Rattle.judge_pass.specs.declared.task_table.Entry.{Entry}
use Rattle.judge_pass.specs.declared.task_table.Entry.TheVariants.{Closes, Opens, Other}

-- openat opens one, close closes its argument, and another call does neither
abbrev pub IsEntry : What → Entry → Type 0
IsEntry call Opens = number_entered call ≡ pos nr_openat
IsEntry call (Closes n) = (number_entered call ≡ pos nr_close) × (argument call 0 % 2 ^ 32 ≡ n)
IsEntry call Other = (number_entered call ≡ pos nr_openat → ⊥) × (number_entered call ≡ pos nr_close → ⊥)
