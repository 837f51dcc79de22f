-- A call as a file of calls has it, without what matters to no rule but a mount's data.
use Rattle.std.specs.Prelude.{ℕ, List, [], ◌∷◌, ◌++◌, Option, Some, None, ℤ, codes}
use Rattle.std.specs.Fmt.{signed_decimal}
use Rattle.hist_model.specs.ReportJournal.{request_text}
use Rattle.hist_model.specs.ReportWords.{quoted}
use Rattle.hist_model.specs.declared.request.Request.{Request}
use Rattle.hist_model.specs.declared.request.Request.TheVariants.{Mknod, Mount, SetXattr, OpenAt, Sysinfo, Other}
use Rattle.sys_abi.specs.Calls.{call_name_of}
use Rattle.policy_explain.specs.Words.{flags_text}

-- a mount's data, where there is any
abbrev pub data_text : List ℕ → List ℕ
data_text [] = []
data_text (b ∷ bytes) = codes " " ++ quoted (b ∷ bytes)

abbrev pub other_text : Option (List ℕ) → ℤ → List ℕ
other_text (Some name) nr = name
other_text None nr = codes "other " ++ signed_decimal nr

-- the call with its texts, its numbers and the names of its flags
abbrev pub asked_text : Request → List ℕ
asked_text (Mknod dirfd path mode dev) = request_text (Mknod dirfd path mode dev)
asked_text (Mount source target fstype options via flags shift) =
    codes "mount " ++ quoted source ++ codes " " ++ quoted target ++ codes " " ++ quoted fstype ++ codes " "
    ++ flags_text (Mount source target fstype options via flags shift) ++ data_text options
asked_text (SetXattr path name value flags) =
    codes "setxattr " ++ quoted path ++ codes " " ++ quoted name ++ codes " " ++ quoted value ++ codes " "
    ++ flags_text (SetXattr path name value flags)
asked_text (OpenAt dirfd path flags) = codes "openat " ++ signed_decimal dirfd ++ codes " " ++ quoted path
asked_text (Sysinfo addr) = request_text (Sysinfo addr)
asked_text (Other nr) = other_text (call_name_of nr) nr
