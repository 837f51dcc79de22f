-- The words of an explanation: flags, kinds of nodes, the calls of rules, and what was missed. Names are those of policies.
use Rattle.std.specs.Prelude.{ℕ, Bool, false, not, ◌==◌, List, [], ◌∷◌, ◌++◌, map, filter, find, Option, Some, None, ℤ, codes, decimal}
use Rattle.std.specs.Fmt.{signed_decimal}
use Rattle.std.specs.List.{join_by}
use Rattle.std.specs.Option.{option_map}
use Rattle.hist_model.specs.Decisions.{attribute_of, dirfd_of, fstype_of, has_flag, path_of, source_of, value_of}
use Rattle.hist_model.specs.ReportJournal.{node_text}
use Rattle.hist_model.specs.ReportWords.{call_text, quoted}
use Rattle.hist_model.specs.Requests.{call_of_request, kind_of, low_32}
use Rattle.hist_model.specs.declared.policy.Calls.{Calls}
use Rattle.hist_model.specs.declared.policy.Calls.TheVariants.{Named, Other as OtherCalls}
use Rattle.hist_model.specs.declared.policy.Cond.{Cond}
use Rattle.hist_model.specs.declared.policy.Cond.TheVariants.{Path, Under, Kind as OfKind, Dev, Fstype, Source, Name, Value}
use Rattle.hist_model.specs.declared.policy.Cond.TheVariants.{Dirfd, Flags, ShortDevice, PlainFlags}
use Rattle.hist_model.specs.declared.policy.Flag.{Flag}
use Rattle.hist_model.specs.declared.policy.Flag.TheVariants as flag
use Rattle.hist_model.specs.declared.request.Kind.{Kind}
use Rattle.hist_model.specs.declared.request.Kind.TheVariants.{Reg, Chr, Blk, Fifo, Sock, Dir, Bad}
use Rattle.hist_model.specs.declared.request.Request.{Request}
use Rattle.hist_model.specs.declared.request.Request.TheVariants.{Mknod}
use Rattle.policy_reader.specs.Flags.{flag_names}

-- ---- what a request has, `-` where it has nothing of the kind

abbrev pub quoted_or_dash : Option (List ℕ) → List ℕ
quoted_or_dash (Some text) = quoted text
quoted_or_dash None = codes "-"

abbrev pub number_or_dash : Option ℤ → List ℕ
number_or_dash (Some n) = signed_decimal n
number_or_dash None = codes "-"

abbrev pub kind_text : Kind → List ℕ
kind_text Reg = codes "reg"
kind_text Chr = codes "chr"
kind_text Blk = codes "blk"
kind_text Fifo = codes "fifo"
kind_text Sock = codes "sock"
kind_text Dir = codes "dir"
kind_text Bad = codes "bad"

-- the kind of the node that is asked for
abbrev pub asked_kind : Request → List ℕ
asked_kind (Mknod dirfd path mode dev) = kind_text (kind_of mode)
asked_kind _ = codes "-"

-- the same, with the numbers of a device
abbrev pub asked_node : Request → List ℕ
asked_node (Mknod dirfd path mode dev) = node_text (kind_of mode) (low_32 dev)
asked_node _ = codes "-"

-- ---- flags

abbrev pub flag_eq : Flag → Flag → Bool
flag_eq (flag.Mount a) (flag.Mount b) = a == b
flag_eq (flag.Attribute a) (flag.Attribute b) = a == b
flag_eq _ _ = false

-- the name of a flag in a table
abbrev pub name_in : List (List ℕ × Flag) → Flag → Option (List ℕ)
name_in rows f = option_map (λ row. row.0) (find (λ row. flag_eq row.1 f) rows)

-- the name of a flag
unfoldable pub flag_name : Flag → Option (List ℕ)
flag_name f = name_in flag_names f

abbrev pub bit_text : Flag → List ℕ
bit_text (flag.Mount bit) = decimal bit
bit_text (flag.Attribute bit) = decimal bit

abbrev pub flag_text_of : Option (List ℕ) → Flag → List ℕ
flag_text_of (Some name) f = name
flag_text_of None f = bit_text f

-- a flag's name, or its bit
abbrev pub flag_text : Flag → List ℕ
flag_text f = flag_text_of (flag_name f) f

-- the names in a table of the flags that are set
abbrev pub set_names_in : List (List ℕ × Flag) → Request → List (List ℕ)
set_names_in rows q = map (λ row. row.0) (filter (λ row. has_flag q row.1) rows)

-- the names of the flags that are set
unfoldable pub set_names : Request → List (List ℕ)
set_names q = set_names_in flag_names q

abbrev pub names_or_dash : List (List ℕ) → List ℕ
names_or_dash [] = codes "-"
names_or_dash (name ∷ names) = join_by (λ name. name) (codes ",") (name ∷ names)

-- the flags that are set, between commas
abbrev pub flags_text : Request → List ℕ
flags_text q = names_or_dash (set_names q)

-- ---- what is missed

-- a rule's calls
abbrev pub calls_text : Calls → List ℕ
calls_text (Named numbers) = join_by call_text (codes " or ") numbers
calls_text OtherCalls = codes "other"

-- what is asked for isn't what the rule is for
abbrev pub is_not : List ℕ → List ℕ → List ℕ → List ℕ
is_not key found wanted = key ++ codes ": " ++ found ++ codes " is not " ++ wanted

-- of the flags that should be set one isn't, or of those that shouldn't one is
abbrev pub missed_flag : Option Flag → Option Flag → List ℕ
missed_flag (Some f) other = codes "flags: " ++ flag_text f ++ codes " is not set"
missed_flag None (Some f) = codes "flags: " ++ flag_text f ++ codes " is set"
missed_flag None None = codes "flags"

-- a condition that the request doesn't meet
abbrev pub unmet_text : Cond → Request → List ℕ
unmet_text (Path text) q = is_not (codes "path") (quoted_or_dash (path_of q)) (quoted text)
unmet_text (Under dir) q = is_not (codes "under") (quoted_or_dash (path_of q)) (codes "under " ++ quoted dir)
unmet_text (OfKind kind) q = is_not (codes "kind") (asked_kind q) (kind_text kind)
unmet_text (Dev major minor) q = is_not (codes "dev") (asked_node q) (decimal major ++ codes ":" ++ decimal minor)
unmet_text (Fstype text) q = is_not (codes "fstype") (quoted_or_dash (fstype_of q)) (quoted text)
unmet_text (Source text) q = is_not (codes "source") (quoted_or_dash (source_of q)) (quoted text)
unmet_text (Name text) q = is_not (codes "name") (quoted_or_dash (attribute_of q)) (quoted text)
unmet_text (Value text) q = is_not (codes "value") (quoted_or_dash (value_of q)) (quoted text)
unmet_text (Dirfd number) q = is_not (codes "dirfd") (number_or_dash (dirfd_of q)) (signed_decimal number)
unmet_text (Flags all none) q = missed_flag (find (λ f. not (has_flag q f)) all) (find (λ f. has_flag q f) none)
unmet_text ShortDevice q = codes "dev: its number has more than 32 bits"
unmet_text PlainFlags q = codes "flags: REMOUNT, BIND or MOVE is set"

-- the call, where it is none of the rule's
abbrev pub call_missed : Calls → Request → List ℕ
call_missed calls q = is_not (codes "call") (call_text (call_of_request q)) (calls_text calls)
