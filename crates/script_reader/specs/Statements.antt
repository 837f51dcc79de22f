-- What a line's operands make, where they have no fault.
use Rattle.std.specs.Prelude.{ℕ, ◌%◌, ◌^◌, Bool, true, false, if◌then◌else◌, List, [], ◌∷◌, map, slice_get, Option, Some, None, unwrap_or}
use Rattle.std.specs.Prelude.{ℤ, pos, bytes_eq, codes}
use Rattle.std.specs.Int.{w128, cast_unsigned}
use Rattle.lex_core.specs.declared.line.Token.{Token}
use Rattle.bpf_filter.specs.Text.{below, number_at}
use Rattle.sys_abi.specs.Calls.{call_number_of}
use Rattle.hist_model.specs.declared.event.Disposition.{Disposition}
use Rattle.hist_model.specs.declared.event.Disposition.TheVariants as disposition
use Rattle.hist_model.specs.declared.request.Node.{Node}
use Rattle.hist_model.specs.declared.request.Node.TheVariants as node
use Rattle.hist_model.specs.declared.script.Figures.{Figures}
use Rattle.hist_model.specs.declared.script.Instr.{Instr}
use Rattle.hist_model.specs.declared.script.Instr.TheVariants as instr
use Rattle.hist_model.specs.declared.script.Whom.{Whom}
use Rattle.hist_model.specs.declared.script.Whom.TheVariants as whom
use Rattle.script_reader.specs.declared.operand.Addressee.{Addressee}
use Rattle.script_reader.specs.declared.operand.Addressee.TheVariants as addressee
use Rattle.script_reader.specs.declared.word.Word.{Word}
use Rattle.script_reader.specs.declared.word.Word.TheVariants as word
use Rattle.script_reader.specs.declared.statement.Statement.{Statement}
use Rattle.script_reader.specs.declared.statement.Statement.TheVariants as states
pub use Rattle.script_reader.specs.Operands.{addressee_in, begins_number, token_bytes}
use Rattle.script_reader.specs.Paths.{task_numbers}

-- ---- the values of operands

abbrev pub bytes_or_none : Option Token → List ℕ
bytes_or_none None = []
bytes_or_none (Some token) = token_bytes token

-- the bytes of the operand at a place; none after the last one
abbrev pub bytes_at : List Token → ℕ → List ℕ
bytes_at operands place = bytes_or_none (slice_get operands place)

-- the number below a limit at a place, and 0 where there is none
abbrev pub limited_at : ℕ → List Token → ℕ → ℕ
limited_at limit operands place = unwrap_or (below limit (number_at operands place)) 0

abbrev pub byte_at : List Token → ℕ → ℕ
byte_at operands place = limited_at (2 ^ 8) operands place

abbrev pub half_at : List Token → ℕ → ℕ
half_at operands place = limited_at (2 ^ 16) operands place

abbrev pub word_at : List Token → ℕ → ℕ
word_at operands place = limited_at (2 ^ 32) operands place

abbrev pub wide_at : List Token → ℕ → ℕ
wide_at operands place = limited_at (2 ^ 64) operands place

-- an argument of a call, modulo 2^64; 0 where it is missing
abbrev pub argument_at : List Token → ℕ → ℕ
argument_at operands place = cast_unsigned w128 (number_at operands place) % 2 ^ 64

-- the number of a call with this name; 0 where there is none
abbrev pub call_named : List ℕ → ℤ
call_named name = unwrap_or (call_number_of name) (pos 0)

-- the call is stated by its number or by its name
abbrev pub call_at : List Token → ℕ → ℤ
call_at operands place =
    if begins_number (bytes_at operands place) then pos (limited_at (2 ^ 31) operands place)
    else call_named (bytes_at operands place)

-- how often an actor of the schedule steps: once where no count is stated
abbrev pub count_at : List Token → ℕ → ℕ
count_at (who ∷ []) place = 1
count_at operands place = word_at operands place

abbrev pub disposition_of : List ℕ → Disposition
disposition_of name =
    if bytes_eq name (codes "restart") then disposition.Restart
    else (if bytes_eq name (codes "plain") then disposition.Plain else disposition.Default)

abbrev pub whom_of : Addressee → ℕ → Whom
whom_of addressee.Parent n = whom.Parent
whom_of addressee.Child n = whom.Child n
whom_of addressee.Pid n = whom.Pid n
whom_of _ n = whom.Own

-- whom the signal of a `kill` is for, and the signal, which comes last
abbrev pub kill_of : Addressee → List Token → Instr
kill_of addressee.Child operands = instr.Kill (whom_of addressee.Child (word_at operands 1)) (byte_at operands 2)
kill_of addressee.Pid operands = instr.Kill (whom_of addressee.Pid (word_at operands 1)) (byte_at operands 2)
kill_of who operands = instr.Kill (whom_of who 0) (byte_at operands 1)

-- ---- statements

-- the figures of sysinfo(2) that a script states, without those of the control groups
abbrev pub stated_figures : List Token → Figures
stated_figures operands = record {
  uptime = wide_at operands 0;
  used = wide_at operands 1;
  shared = wide_at operands 2;
  buffers = wide_at operands 3;
  swap_used = wide_at operands 4;
  memory = 0;
  swap = 0;
  host_memory = 0;
  host_swap = 0;
  procs = half_at operands 5;
}

abbrev pub node_stated : List Token → Node → Statement
node_stated operands kind = states.Node (bytes_at operands 0) kind

abbrev pub link_stated : List Token → Statement
link_stated operands = node_stated operands (node.Link (bytes_at operands 1))

abbrev pub attr_stated : List Token → Statement
attr_stated operands = states.Attr (bytes_at operands 0) (bytes_at operands 1) (bytes_at operands 2)

abbrev pub calls_named : List Token → List ℤ
calls_named names = map (λ token. call_named (token_bytes token)) names

abbrev pub poke_of : List Token → Instr
poke_of operands = instr.Poke (wide_at operands 0) (bytes_at operands 1)

abbrev pub steps_stated : List Token → Statement
steps_stated operands = states.Steps (task_numbers (bytes_at operands 0)) (count_at operands 1)

abbrev pub counts_stated : List Token → Statement
counts_stated operands = states.Counts (byte_at operands 0) (count_at operands 1)

abbrev pub arguments : List Token → List ℕ
arguments operands =
    argument_at operands 1 ∷ argument_at operands 2 ∷ argument_at operands 3
    ∷ argument_at operands 4 ∷ argument_at operands 5 ∷ argument_at operands 6 ∷ []

abbrev pub call_of : List Token → Instr
call_of operands = instr.Call (call_at operands 0) (arguments operands)

-- whether the block of a filter that is opened gives the listener
abbrev pub gives_listener : List Token → Bool
gives_listener [] = false
gives_listener (token ∷ more) = true

abbrev pub statement : Word → List Token → Statement
statement word.Pidmax operands = states.Pidmax (word_at operands 0)
statement word.Pidbase operands = states.Pidbase (word_at operands 0)
statement word.Firstid operands = states.Firstid (wide_at operands 0)
statement word.Rlimit operands = states.Rlimit (word_at operands 0)
statement word.Killable operands = states.Killable
statement word.Dir operands = node_stated operands node.Dir
statement word.Reg operands = node_stated operands node.Reg
statement word.Fifo operands = node_stated operands node.Fifo
statement word.Sock operands = node_stated operands node.Sock
statement word.Link operands = link_stated operands
statement word.Chr operands = node_stated operands (node.Chr (word_at operands 1) (word_at operands 2))
statement word.Blk operands = node_stated operands (node.Blk (word_at operands 1) (word_at operands 2))
statement word.Attr operands = attr_stated operands
statement word.Root operands = states.Root (bytes_at operands 0)
statement word.Broker operands = states.Broker (word_at operands 0)
statement word.Map operands = states.Map (record { start = wide_at operands 0; pages = word_at operands 1 })
statement word.Cgroup operands = states.Cgroup (wide_at operands 0) (wide_at operands 1)
statement word.Figures operands = states.Figures (stated_figures operands)
statement word.Notify operands = states.Notify (calls_named operands)
statement word.Filter operands = states.Filter (gives_listener operands)
statement word.Prog operands = states.Prog (bytes_at operands 0)
statement word.Poke operands = states.Does (poke_of operands)
statement word.Fill operands = states.Does (instr.Fill (wide_at operands 0) (word_at operands 1) (byte_at operands 2))
statement word.Call operands = states.Does (call_of operands)
statement word.Spawn operands = states.Starts false (bytes_at operands 0)
statement word.Thread operands = states.Starts true (bytes_at operands 0)
statement word.Kill operands = states.Does (kill_of (addressee_in operands) operands)
statement word.Handler operands = states.Does (instr.Handler (byte_at operands 0) (disposition_of (bytes_at operands 1)))
statement word.Wait operands = states.Does instr.Wait
statement word.Exit operands = states.Does instr.Exit
statement word.Schedule operands = states.Schedule
statement word.Task operands = steps_stated operands
statement word.Worker operands = counts_stated operands
statement word.End operands = states.End
