-- Worked examples of what lines ask for, computed by the definition.
-- By computing, with the lexer's definitions, `digits_value`, `decode_pairs`, `fault_from` and the structures' bytes unfolded.
use Rattle.std.proofs.Common.{◌≡◌, [], ◌∷◌, ◌++◌, Bool, Ok, Err, Some, None, refl, replicate, true, false}
use Rattle.std.specs.Prelude.{ℕ, List, codes, pos, negsuc, Result}
use Rattle.hex.specs.Hex.{decode_pairs}
use Rattle.hist_model.specs.declared.request.Request.TheVariants as call
use Rattle.lex_core.specs.Lexical.{tokens}
use Rattle.lex_core.specs.Lines.{split, numbered, without_return, is_skipped}
use Rattle.lex_core.specs.Numbers.{digits_value}
use Rattle.lex_core.specs.declared.reason.Reason.TheVariants as reason
use Rattle.sys_abi.specs.Wire.{resp_bytes, addfd_bytes}
use Rattle.step_requests.specs.declared.fault.LineFault.{LineFault}
use Rattle.step_requests.specs.declared.fault.LineFault.TheVariants as fault
use Rattle.step_requests.specs.declared.request.Asked.TheVariants as asks
use Rattle.step_requests.specs.declared.request.Look.TheVariants as looks_at
use Rattle.step_requests.specs.declared.request.StepRequest.{StepRequest}
use Rattle.step_requests.specs.declared.request.StepRequest.TheVariants as step
use Rattle.step_requests.specs.Operands.{fault_from}
use Rattle.step_requests.specs.Readings.{reads}

plain_lines :
    reads (codes "able") ∷ reads (codes " report # no comment") ∷ reads (codes "report\r") ∷ reads (codes "script") ∷ reads (codes "close\n") ∷ reads (codes "t 0.1.12") ∷ []
    ≡ Ok step.Able ∷ Err (fault.Reason reason.WrongCount) ∷ Ok step.Report ∷ Ok step.Script ∷ Ok step.Close ∷ Ok (step.Task (0 ∷ 1 ∷ 12 ∷ [])) ∷ []
unfolding tokens split numbered without_return is_skipped digits_value decode_pairs fault_from
plain_lines = refl

asked_of_the_kernel :
    reads (codes "w 0 recv") ∷ reads (codes "w 1 open-mem 2") ∷ reads (codes "w 2 open-base 2 -100") ∷ reads (codes "w 3 check 0xff")
    ∷ reads (codes "w 15 read 0x10000 65535") ∷ reads (codes "w 4 addfd-result") ∷ reads (codes "w 5 let-go") ∷ []
    ≡ Ok (step.Worker 0 (asks.Recv (replicate 80 0))) ∷ Ok (step.Worker 1 (asks.OpenMem 2)) ∷ Ok (step.Worker 2 (asks.OpenBase 2 (negsuc 99)))
    ∷ Ok (step.Worker 3 (asks.Check 255)) ∷ Ok (step.Worker 15 (asks.Read 65536 65535)) ∷ Ok (step.Worker 4 asks.AddfdResult)
    ∷ Ok (step.Worker 5 asks.LetGo) ∷ []
unfolding tokens split numbered without_return is_skipped digits_value decode_pairs fault_from
asked_of_the_kernel = refl

judgements :
    reads (codes "judge") ∷ reads (codes "judge idle") ∷ reads (codes "judge busy") ∷ reads (codes "judge idle idle") ∷ reads (codes "judge \"idle\"") ∷ []
    ≡ Ok (step.Judge false) ∷ Ok (step.Judge true) ∷ Err (fault.Reason reason.UnknownWord) ∷ Err (fault.Reason reason.WrongCount) ∷ Err (fault.Reason reason.UnknownWord) ∷ []
unfolding tokens split numbered without_return is_skipped digits_value decode_pairs fault_from
judgements = refl

looks :
    reads (codes "look pid 301") ∷ reads (codes "look fd 301 5") ∷ reads (codes "look path 301 -100 \"/dev\" follow") ∷ reads (codes "look path 301 4 \"a b\" nofollow") ∷ reads (codes "look listener") ∷ []
    ≡ Ok (step.Look (looks_at.Pid 301)) ∷ Ok (step.Look (looks_at.Fd 301 5)) ∷ Ok (step.Look (looks_at.Path 301 (negsuc 99) (codes "/dev") true))
    ∷ Ok (step.Look (looks_at.Path 301 (pos 4) (codes "a b") false)) ∷ Ok (step.Look looks_at.Listener) ∷ []
unfolding tokens split numbered without_return is_skipped digits_value decode_pairs fault_from
looks = refl

no_looks :
    reads (codes "look") ∷ reads (codes "look task 1") ∷ reads (codes "look pid") ∷ reads (codes "look listener 1") ∷ reads (codes "look path 1 -100 \"/\" up")
    ∷ reads (codes "look path 1 -100 /dev follow") ∷ reads (codes "look fd 1 -1") ∷ reads (codes "look pid \"1\"") ∷ []
    ≡ Err (fault.Reason reason.WrongCount) ∷ Err (fault.Reason reason.UnknownWord) ∷ Err (fault.Reason reason.WrongCount) ∷ Err (fault.Reason reason.WrongCount)
    ∷ Err (fault.Reason reason.UnknownName) ∷ Err (fault.Reason reason.WrongForm) ∷ Err (fault.Reason reason.OutOfRange) ∷ Err (fault.Reason reason.WrongForm) ∷ []
unfolding tokens split numbered without_return is_skipped digits_value decode_pairs fault_from
no_looks = refl

-- an answer of ENOENT by its fields, and one by its bytes; a descriptor by its fields
structures :
    reads (codes "w 0 send 257 0 -2 0") ∷ reads (codes "w 0 send-raw 010100000000000000000000000000000000000001000000") ∷ reads (codes "w 0 addfd 1 2 3 4 0x80000") ∷ []
    ≡ Ok (step.Worker 0 (asks.Send (1 ∷ 1 ∷ 0 ∷ 0 ∷ 0 ∷ 0 ∷ 0 ∷ 0 ∷ 0 ∷ 0 ∷ 0 ∷ 0 ∷ 0 ∷ 0 ∷ 0 ∷ 0 ∷ 254 ∷ 255 ∷ 255 ∷ 255 ∷ 0 ∷ 0 ∷ 0 ∷ 0 ∷ [])))
    ∷ Ok (step.Worker 0 (asks.Send (1 ∷ 1 ∷ 0 ∷ 0 ∷ 0 ∷ 0 ∷ 0 ∷ 0 ∷ 0 ∷ 0 ∷ 0 ∷ 0 ∷ 0 ∷ 0 ∷ 0 ∷ 0 ∷ 0 ∷ 0 ∷ 0 ∷ 0 ∷ 1 ∷ 0 ∷ 0 ∷ 0 ∷ [])))
    ∷ Ok (step.Worker 0 (asks.Addfd (1 ∷ 0 ∷ 0 ∷ 0 ∷ 0 ∷ 0 ∷ 0 ∷ 0 ∷ 2 ∷ 0 ∷ 0 ∷ 0 ∷ 3 ∷ 0 ∷ 0 ∷ 0 ∷ 4 ∷ 0 ∷ 0 ∷ 0 ∷ 0 ∷ 0 ∷ 8 ∷ 0 ∷ []))) ∷ []
unfolding tokens split numbered without_return is_skipped digits_value decode_pairs fault_from resp_bytes addfd_bytes
structures = refl

-- the device 1:3, whose mode has a bit above the sixteenth; and a directory's descriptor
nodes :
    reads (codes "w 0 act mknod \"/null\" 0o1020666 259") ∷ reads (codes "w 0 act mknodat 3 \"null\" 0o020666 259") ∷ []
    ≡ Ok (step.Worker 0 (asks.Act (call.Mknod None (codes "/null") 8630 259))) ∷ Ok (step.Worker 0 (asks.Act (call.Mknod (Some (pos 3)) (codes "null") 8630 259))) ∷ []
unfolding tokens split numbered without_return is_skipped digits_value decode_pairs fault_from
nodes = refl

-- what a line asks for that mounts with this behind the data
mounted : List ℕ → Result StepRequest LineFault
mounted tail = reads (codes "w 0 act mount \"/dev/sda\" \"/mnt\" \"ext4\" 1 \"ro\" " ++ tail)

mount_of_worked : List ℕ → Bool → Result StepRequest LineFault
mount_of_worked via shift = Ok (step.Worker 0 (asks.Act (call.Mount (codes "/dev/sda") (codes "/mnt") (codes "ext4") (codes "ro") via 1 shift)))

mounts :
    mounted [] ∷ mounted (codes "shift") ∷ mounted (codes "via \"fuse2fs\"") ∷ mounted (codes "via \"fuse2fs\" shift") ∷ []
    ≡ mount_of_worked [] false ∷ mount_of_worked [] true ∷ mount_of_worked (codes "fuse2fs") false ∷ mount_of_worked (codes "fuse2fs") true ∷ []
unfolding mounted mount_of_worked tokens split numbered without_return is_skipped digits_value decode_pairs fault_from
mounts = refl

no_mounts :
    mounted (codes "via") ∷ mounted (codes "shift via \"fuse2fs\"") ∷ mounted (codes "via \"fuse2fs\" via") ∷ mounted (codes "via \"fuse2fs\" shift 1") ∷ []
    ≡ Err (fault.Reason reason.UnknownName) ∷ Err (fault.Reason reason.WrongForm) ∷ Err (fault.Reason reason.UnknownName) ∷ Err (fault.Reason reason.WrongCount) ∷ []
unfolding mounted tokens split numbered without_return is_skipped digits_value decode_pairs fault_from
no_mounts = refl

attributes :
    reads (codes "w 0 act setxattr \"/f\" \"trusted.a\" \"\\0y\" 0x100000001") ∷ reads (codes "w 0 act setxattr \"/f\" \"trusted\\0a\" \"y\" 1") ∷ []
    ≡ Ok (step.Worker 0 (asks.Act (call.SetXattr (codes "/f") (codes "trusted.a") (0 ∷ 121 ∷ []) 1))) ∷ Err (fault.Reason reason.OutOfRange) ∷ []
unfolding tokens split numbered without_return is_skipped digits_value decode_pairs fault_from
attributes = refl

-- nothing is asked for
empty_lines : reads [] ∷ reads (codes " \t") ∷ reads (codes "# able") ∷ [] ≡ Err fault.Empty ∷ Err fault.Empty ∷ Err fault.Empty ∷ []
unfolding tokens split numbered without_return is_skipped
empty_lines = refl

-- the number of a worker comes after all other faults
high_workers :
    reads (codes "w 16 recv") ∷ reads (codes "w 0xffffffffffffffff let-go") ∷ reads (codes "w 16 read 0 65536") ∷ reads (codes "w -1 recv") ∷ reads (codes "w 16 rec") ∷ []
    ≡ Err fault.Worker ∷ Err fault.Worker ∷ Err (fault.Reason reason.OutOfRange) ∷ Err (fault.Reason reason.OutOfRange) ∷ Err (fault.Reason reason.UnknownWord) ∷ []
unfolding tokens split numbered without_return is_skipped digits_value decode_pairs fault_from
high_workers = refl

-- a word that names no request, or none at all
no_words :
    reads (codes "Able") ∷ reads (codes "\"able\"") ∷ reads (codes "w") ∷ reads (codes "w 0") ∷ reads (codes "w 0 act") ∷ reads (codes "w 0 act open") ∷ reads (codes "t") ∷ []
    ≡ Err (fault.Reason reason.UnknownWord) ∷ Err (fault.Reason reason.UnknownWord) ∷ Err (fault.Reason reason.WrongCount) ∷ Err (fault.Reason reason.WrongCount)
    ∷ Err (fault.Reason reason.WrongCount) ∷ Err (fault.Reason reason.UnknownWord) ∷ Err (fault.Reason reason.WrongCount) ∷ []
unfolding tokens split numbered without_return is_skipped digits_value decode_pairs fault_from
no_words = refl

-- of several faults, the one that stands first in the table of reasons
no_operands :
    reads (codes "w 0 check \"1\"") ∷ reads (codes "w x check 0x10000000000000000") ∷ reads (codes "w 0 read 0x1ffffffff \"1\"") ∷ reads (codes "w 0 addfd-raw ff")
    ∷ reads (codes "w 0 addfd-raw gg0000000000000000000000000000000000000000000000") ∷ reads (codes "t 1") ∷ reads (codes "t 0.01") ∷ reads (codes "w 0 check 1 2") ∷ []
    ≡ Err (fault.Reason reason.WrongForm) ∷ Err (fault.Reason reason.BadNumber) ∷ Err (fault.Reason reason.WrongForm) ∷ Err (fault.Reason reason.OutOfRange)
    ∷ Err (fault.Reason reason.BadNumber) ∷ Err (fault.Reason reason.BadNumber) ∷ Err (fault.Reason reason.BadNumber) ∷ Err (fault.Reason reason.WrongCount) ∷ []
unfolding tokens split numbered without_return is_skipped digits_value decode_pairs fault_from
no_operands = refl
