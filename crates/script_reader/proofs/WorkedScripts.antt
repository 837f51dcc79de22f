-- Worked examples of scripts, computed by the definitions: what a file states, and for each reason the line that is refused.
-- By computing, with the definitions unfolded.
use Rattle.std.proofs.Common.{◌≡◌, ℕ, List, [], ◌∷◌, ◌++◌, Ok, Err, Some, None, refl, replicate}
use Rattle.std.specs.Prelude.{Option, Result, codes, pos, true, false}
use Rattle.lex_core.specs.Lexical.{tokens}
use Rattle.lex_core.specs.Lines.{split, without_return, is_skipped, numbered}
use Rattle.lex_core.specs.Numbers.{digits_value}
use Rattle.lex_core.specs.declared.reason.Reason.TheVariants.{BadByte, BadQuote, UnknownWord, OutOfPlace, WrongCount, WrongForm, BadNumber, OutOfRange, BadPath, UnknownName, Duplicate, Unmapped, SecondListener, NoListener, BadFilter, NotClosed, NoProgram}
use Rattle.hist_model.specs.Filters.{notify_filter, fault_among}
use Rattle.hist_model.specs.Sysinfo.{no_figures}
use Rattle.hist_model.specs.declared.event.Actor.TheVariants.{Task, Worker}
use Rattle.hist_model.specs.declared.event.Disposition.TheVariants.{Restart}
use Rattle.hist_model.specs.declared.request.Node.TheVariants as node
use Rattle.hist_model.specs.declared.script.Instr.TheVariants.{Poke, Fill, Call, Spawn, Kill, Handler, Wait, Exit}
use Rattle.hist_model.specs.declared.request.Request.TheVariants as call
use Rattle.hist_model.specs.declared.script.Script.{Script}
use Rattle.hist_model.specs.declared.script.Step.{Step}
use Rattle.hist_model.specs.declared.script.TreeLine.TheVariants.{Made, Attr}
use Rattle.hist_model.specs.declared.script.Whom.TheVariants.{Child}
use Rattle.script_reader.specs.declared.error.ScriptError.{ScriptError}
use Rattle.script_reader.specs.declared.error.ScriptError.TheVariants.{BadLine, TooLarge}
use Rattle.script_reader.specs.declared.file.ScriptFile.{ScriptFile}
use Rattle.step_requests.specs.declared.request.Turn.{Turn}
use Rattle.step_requests.specs.declared.request.Turn.TheVariants as turn
use Rattle.script_reader.specs.Above.{above}
use Rattle.script_reader.specs.Operands.{fault_from}
use Rattle.step_requests.specs.Operands.{fault_from as request_fault_from}
use Rattle.step_requests.specs.declared.request.Asked.TheVariants as asks
use Rattle.script_reader.specs.Scripts.{script, script_file, reading}
use Rattle.script_reader.specs.Tree.{node_ref}

-- the bytes of some lines, each ended by byte 10
text : List (List ℕ) → List ℕ
text [] = []
text (line ∷ more) = line ++ 10 ∷ text more

error_of : Result Script ScriptError → Option ScriptError
error_of (Ok s) = None
error_of (Err error) = Some error

-- why some lines are refused; none where they are accepted
refusal : List (List ℕ) → Option ScriptError
refusal lines = error_of (script (text lines))

-- ---- what is read

smallest : script (text (codes "prog main" ∷ codes "end" ∷ [])) ≡ Ok (record {
  pidbase = 0;
  pidmax = 32768;
  firstid = 1;
  rlimit = 1024;
  killable = false;
  root = node_ref 0;
  figures = no_figures;
  tree = [];
  broker = [];
  map = record { start = 65536; pages = 16 } ∷ [];
  filters = [];
  programs = [] ∷ [];
  schedule = [];
})
unfolding text tokens split without_return is_skipped numbered digits_value above fault_from reading fault_among
smallest = refl

settings : List (List ℕ)
settings =
    codes "# a container" ∷ codes "pidmax 2" ∷ codes "\tpidbase 0x10" ∷ codes "firstid 0o17" ∷ codes "" ∷ codes "rlimit 4096"
    ∷ codes "notify mknod sysinfo" ∷ codes "killable" ∷ codes "cgroup 100 200" ∷ codes "cgroup 50 300" ∷ codes "figures 1 2 3 4 5 6"
    ∷ codes "broker 7" ∷ codes "map 0x20000 1" ∷ codes "map 0x21000 2"
    ∷ codes "dir \"/c\"" ∷ codes "chr \"/c/null\" 1 3" ∷ codes "attr \"/c/null\" \"user.a\" \"\\x00b\"" ∷ codes "link \"/l\" \"/c\"" ∷ codes "root \"/c\""
    ∷ []

programs : List (List ℕ)
programs =
    codes "prog child" ∷ codes "poke 0x20fff \"/a\\0\"" ∷ codes "call mknod 0x20fff 0o020666 259" ∷ codes "call 5 -1" ∷ codes "end"
    ∷ codes "prog main" ∷ codes "handler 10 restart" ∷ codes "spawn child" ∷ codes "kill child 1 9" ∷ codes "wait" ∷ codes "fill 0x22000 4096 7" ∷ codes "exit" ∷ codes "end"
    ∷ codes "schedule" ∷ codes "t 0 3" ∷ codes "t 0.1" ∷ codes "w 0 9" ∷ codes "end" ∷ []

-- a poke may go over two ranges that touch; an argument is taken modulo 2^64
all_kinds : script (text (settings ++ programs)) ≡ Ok (record {
  pidbase = 16;
  pidmax = 2;
  firstid = 15;
  rlimit = 4096;
  killable = true;
  root = node_ref 1;
  figures = record {
    uptime = 1;
    used = 2;
    shared = 3;
    buffers = 4;
    swap_used = 5;
    memory = 50;
    swap = 200;
    host_memory = 100;
    host_swap = 200;
    procs = 6;
  };
  tree = Made (node_ref 0) (codes "c") node.Dir ∷ Made (node_ref 1) (codes "null") (node.Chr 1 3)
      ∷ Attr (node_ref 2) (codes "user.a") (0 ∷ codes "b") ∷ Made (node_ref 0) (codes "l") (node.Link (codes "/c")) ∷ [];
  broker = 7 ∷ [];
  map = record { start = 131072; pages = 1 } ∷ record { start = 135168; pages = 2 } ∷ [];
  filters = record { insns = notify_filter (pos 133 ∷ pos 99 ∷ []); listener = true } ∷ [];
  programs =
      (Poke 135167 (47 ∷ 97 ∷ 0 ∷ []) ∷ Call (pos 133) (135167 ∷ 8630 ∷ 259 ∷ 0 ∷ 0 ∷ 0 ∷ [])
      ∷ Call (pos 5) (18446744073709551615 ∷ 0 ∷ 0 ∷ 0 ∷ 0 ∷ 0 ∷ []) ∷ [])
      ∷ (Handler 10 Restart ∷ Spawn 0 ∷ Kill (Child 1) 9 ∷ Wait ∷ Fill 139264 4096 7 ∷ Exit ∷ []) ∷ [];
  schedule = record { who = Task (0 ∷ []); count = 3 } ∷ record { who = Task (0 ∷ 1 ∷ []); count = 1 } ∷ record { who = Worker 0; count = 9 } ∷ [];
})
unfolding text settings programs tokens split without_return is_skipped numbered digits_value above fault_from reading fault_among
all_kinds = refl

-- the counts and the turns of a file's schedule
lines_in : Result ScriptFile ScriptError → Option (List Step × List Turn)
lines_in (Ok file) = Some (file.script.schedule, file.turns)
lines_in (Err error) = None

lines_of : List (List ℕ) → Option (List Step × List Turn)
lines_of lines = lines_in (script_file (text (codes "prog main" ∷ codes "end" ∷ codes "schedule" ∷ lines ++ codes "end" ∷ [])))

-- with a worker's request all lines are turns, also the counts of other workers; tasks and counts alone are counted
requests :
    lines_of (codes "t 0 3" ∷ codes "w 15 recv" ∷ codes "t 0.1" ∷ codes "w 0 act mknod \"/null\" 0o020666 259" ∷ codes "w 0 let-go" ∷ [])
    ∷ lines_of (codes "w 1 2" ∷ codes "w 0 recv" ∷ codes "w 1" ∷ [])
    ∷ lines_of (codes "t 0 3" ∷ codes "w 15 2" ∷ []) ∷ lines_of (codes "t 0" ∷ []) ∷ []
    ≡ Some (
      [],
      turn.Steps (0 ∷ []) 3 ∷ turn.Asks 15 (asks.Recv (replicate 80 0)) ∷ turn.Steps (0 ∷ 1 ∷ []) 1
          ∷ turn.Asks 0 (asks.Act (call.Mknod None (codes "/null") 8630 259)) ∷ turn.Asks 0 asks.LetGo ∷ [],
    )
    ∷ Some ([], turn.Serves 1 2 ∷ turn.Asks 0 (asks.Recv (replicate 80 0)) ∷ turn.Serves 1 1 ∷ [])
    ∷ Some (record { who = Task (0 ∷ []); count = 3 } ∷ record { who = Worker 15; count = 2 } ∷ [], [])
    ∷ Some (record { who = Task (0 ∷ []); count = 1 } ∷ [], []) ∷ []
unfolding lines_of lines_in text tokens split without_return is_skipped numbered digits_value above fault_from request_fault_from reading fault_among
requests = refl

-- ---- what is refused

-- the tokens, the word, and its place
words :
    refusal (codes "pidmax 2" ∷ codes "pidmax \\" ∷ []) ∷ refusal (codes "dir \"/c\"d" ∷ [])
    ∷ refusal (codes "" ∷ codes "\"dir\" \"/c\"" ∷ []) ∷ refusal (codes "dirs \"/c\"" ∷ [])
    ∷ refusal (codes "wait" ∷ []) ∷ refusal (codes "ld 4" ∷ []) ∷ refusal (codes "filter" ∷ codes "killable" ∷ [])
    ∷ refusal (codes "prog a" ∷ codes "exit" ∷ codes "wait" ∷ []) ∷ refusal (codes "schedule" ∷ codes "end" ∷ codes "schedule" ∷ [])
    ∷ refusal (codes "pidbase 1" ∷ codes "pidmax 2" ∷ []) ∷ []
    ≡ Some (BadLine 2 BadByte) ∷ Some (BadLine 1 BadQuote)
    ∷ Some (BadLine 2 UnknownWord) ∷ Some (BadLine 1 UnknownWord)
    ∷ Some (BadLine 1 OutOfPlace) ∷ Some (BadLine 1 OutOfPlace) ∷ Some (BadLine 2 OutOfPlace)
    ∷ Some (BadLine 3 OutOfPlace) ∷ Some (BadLine 3 OutOfPlace)
    ∷ Some (BadLine 2 OutOfPlace) ∷ []
unfolding refusal error_of text tokens split without_return is_skipped numbered digits_value above fault_from reading fault_among
words = refl

-- the count, the form, numbers and ranges: the reason that stands first in the table comes first, whichever operand it is for
operands :
    refusal (codes "pidmax" ∷ []) ∷ refusal (codes "prog a" ∷ codes "kill self 9 9" ∷ [])
    ∷ refusal (codes "prog a" ∷ codes "poke 5x bare" ∷ []) ∷ refusal (codes "chr \"/a\" 5000 zz" ∷ [])
    ∷ refusal (codes "pidmax 0" ∷ []) ∷ refusal (codes "firstid -1" ∷ []) ∷ refusal (codes "map 0x1001 1" ∷ [])
    ∷ refusal (codes "map 0x7fffffff0000 17" ∷ []) ∷ refusal (codes "map 0 2" ∷ codes "map 0x1000 1" ∷ [])
    ∷ refusal (codes "pidbase 4194303" ∷ []) ∷ refusal (codes "prog a" ∷ codes "kill child 0 9" ∷ [])
    ∷ refusal (codes "schedule" ∷ codes "t 0.01" ∷ []) ∷ refusal (codes "schedule" ∷ codes "w 16" ∷ []) ∷ []
    ≡ Some (BadLine 1 WrongCount) ∷ Some (BadLine 2 WrongCount)
    ∷ Some (BadLine 2 WrongForm) ∷ Some (BadLine 1 BadNumber)
    ∷ Some (BadLine 1 OutOfRange) ∷ Some (BadLine 1 OutOfRange) ∷ Some (BadLine 1 OutOfRange)
    ∷ Some (BadLine 1 OutOfRange) ∷ Some (BadLine 2 OutOfRange)
    ∷ Some (BadLine 1 OutOfRange) ∷ Some (BadLine 2 OutOfRange)
    ∷ Some (BadLine 2 BadNumber) ∷ Some (BadLine 2 OutOfRange) ∷ []
unfolding refusal error_of text tokens split without_return is_skipped numbered digits_value above fault_from reading fault_among
operands = refl

-- paths, names and what stands again
names :
    refusal (codes "dir \"/\"" ∷ []) ∷ refusal (codes "dir \"/a\"" ∷ codes "reg \"/a\"" ∷ []) ∷ refusal (codes "dir \"/a/b\"" ∷ [])
    ∷ refusal (codes "reg \"/a\"" ∷ codes "dir \"/a/b\"" ∷ []) ∷ refusal (codes "dir \"/a/..\"" ∷ []) ∷ refusal (codes "attr \"/a\" \"n\" \"\"" ∷ [])
    ∷ refusal (codes "attr \"/a\" \"\" \"\"" ∷ []) ∷ refusal (codes "reg \"/a\"" ∷ codes "root \"/a\"" ∷ []) ∷ refusal (codes "root \"/\"" ∷ codes "root \"/\"" ∷ [])
    ∷ refusal (codes "notify mknod 99" ∷ []) ∷ refusal (codes "filter all" ∷ []) ∷ refusal (codes "prog a" ∷ codes "spawn a" ∷ [])
    ∷ refusal (codes "prog a" ∷ codes "call mkdir" ∷ []) ∷ refusal (codes "prog a" ∷ codes "handler 9 never" ∷ [])
    ∷ refusal (codes "prog a" ∷ codes "end" ∷ codes "prog a" ∷ []) ∷ refusal (codes "broker 7" ∷ codes "broker 0x7" ∷ []) ∷ []
    ≡ Some (BadLine 1 BadPath) ∷ Some (BadLine 2 BadPath) ∷ Some (BadLine 1 BadPath)
    ∷ Some (BadLine 2 BadPath) ∷ Some (BadLine 1 BadPath) ∷ Some (BadLine 1 BadPath)
    ∷ Some (BadLine 1 OutOfRange) ∷ Some (BadLine 2 BadPath) ∷ Some (BadLine 2 Duplicate)
    ∷ Some (BadLine 1 UnknownName) ∷ Some (BadLine 1 UnknownName) ∷ Some (BadLine 2 UnknownName)
    ∷ Some (BadLine 2 UnknownName) ∷ Some (BadLine 2 OutOfRange)
    ∷ Some (BadLine 3 Duplicate) ∷ Some (BadLine 2 Duplicate) ∷ []
unfolding refusal error_of text tokens split without_return is_skipped numbered digits_value above fault_from reading fault_among
names = refl

-- memory, filters, limits, and the end of the file
ends :
    refusal (codes "prog a" ∷ codes "poke 0x1ffff \"ab\"" ∷ []) ∷ refusal (codes "prog a" ∷ codes "fill 0x10000 65536 0" ∷ codes "end" ∷ [])
    ∷ refusal (codes "notify mknod" ∷ codes "filter listener" ∷ []) ∷ refusal (codes "killable" ∷ codes "notify mknod" ∷ [])
    ∷ refusal (codes "filter" ∷ codes "ld 4" ∷ codes "end" ∷ []) ∷ refusal (codes "filter" ∷ codes "ret 0x7fff0000" ∷ codes "end" ∷ codes "prog a" ∷ codes "end" ∷ [])
    ∷ refusal (codes "map 0 64" ∷ codes "map 0x40000 1" ∷ []) ∷ refusal (codes "schedule" ∷ codes "w 0 200000" ∷ codes "t 0" ∷ [])
    ∷ refusal (codes "filter" ∷ codes "ld 4" ∷ []) ∷ refusal (codes "schedule" ∷ codes "end" ∷ []) ∷ refusal [] ∷ []
    ≡ Some (BadLine 2 Unmapped) ∷ None
    ∷ Some (BadLine 2 SecondListener) ∷ Some (BadLine 1 NoListener)
    ∷ Some (BadLine 3 BadFilter) ∷ None
    ∷ Some (TooLarge 2) ∷ Some (TooLarge 3)
    ∷ Some (BadLine 1 NotClosed) ∷ Some (BadLine 0 NoProgram) ∷ Some (BadLine 0 NoProgram) ∷ []
unfolding refusal error_of text tokens split without_return is_skipped numbered digits_value above fault_from reading fault_among
ends = refl

-- counts and requests of one worker, of which a line's own faults come first, and the faults of requests
mixed :
    refusal (codes "schedule" ∷ codes "w 0 2" ∷ codes "t 0" ∷ codes "w 0 recv" ∷ []) ∷ refusal (codes "schedule" ∷ codes "w 1 recv" ∷ codes "w 1" ∷ [])
    ∷ refusal (codes "schedule" ∷ codes "w 0 200000" ∷ codes "w 0 recv" ∷ []) ∷ refusal (codes "schedule" ∷ codes "w 1 recv" ∷ codes "w 1 0" ∷ [])
    ∷ refusal (codes "schedule" ∷ codes "w 1" ∷ codes "w 1 act open" ∷ []) ∷ refusal (codes "schedule" ∷ codes "w 1" ∷ codes "w 1 act" ∷ [])
    ∷ refusal (codes "w 0 recv" ∷ []) ∷ refusal (codes "schedule" ∷ codes "w 0 receive" ∷ []) ∷ refusal (codes "schedule" ∷ codes "w 0 recv 1" ∷ [])
    ∷ refusal (codes "schedule" ∷ codes "w 16 recv" ∷ []) ∷ refusal (codes "schedule" ∷ codes "w 16 act mount \"\" \"/\" \"\" 0 \"\" shifted" ∷ [])
    ∷ refusal (codes "schedule" ∷ codes "w 1 act mount \"\" \"/\" \"\" 0 \"\" shifted" ∷ []) ∷ refusal (codes "schedule" ∷ codes "t 0 200000" ∷ codes "w 0 recv" ∷ []) ∷ []
    ≡ Some (BadLine 4 OutOfPlace) ∷ Some (BadLine 3 OutOfPlace)
    ∷ Some (BadLine 3 OutOfPlace) ∷ Some (BadLine 3 OutOfRange)
    ∷ Some (BadLine 3 UnknownWord) ∷ Some (BadLine 3 WrongCount)
    ∷ Some (BadLine 1 OutOfPlace) ∷ Some (BadLine 2 BadNumber) ∷ Some (BadLine 2 WrongCount)
    ∷ Some (BadLine 2 OutOfRange) ∷ Some (BadLine 2 OutOfRange)
    ∷ Some (BadLine 2 UnknownName) ∷ Some (TooLarge 3) ∷ []
unfolding refusal error_of text tokens split without_return is_skipped numbered digits_value above fault_from request_fault_from reading fault_among
mixed = refl
