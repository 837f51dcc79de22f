-- The request that a call's word and its operands make. Operands are read from the left, and the first fault decides: also that one
-- is missing, or one too many. What matters to no rule may be left out, and is 0 or empty then.
use Rattle.std.specs.Prelude.{ℕ, ◌+◌, ◌*◌, if◌then◌else◌, List, [], ◌∷◌, Option, Some, None, Ok, Err, ℤ, pos, codes, false}
use Rattle.lex_core.specs.declared.line.Token.{Token}
use Rattle.lex_core.specs.declared.line.Token.TheVariants.{Bare, Quoted}
use Rattle.lex_core.specs.declared.reason.Reason.TheVariants.{UnknownWord, WrongCount}
use Rattle.hist_model.specs.Decisions.{is_device}
use Rattle.hist_model.specs.Requests.{low_32}
use Rattle.hist_model.specs.declared.request.Kind.{Kind}
use Rattle.hist_model.specs.declared.request.Kind.TheVariants.{Reg, Chr, Blk, Fifo, Sock, Dir, Bad}
use Rattle.hist_model.specs.declared.request.Request.{Request}
use Rattle.hist_model.specs.declared.request.Request.TheVariants as asks
use Rattle.policy_reader.specs.Readings.{named}
use Rattle.sys_abi.specs.Calls.{nr_close, nr_getpid, nr_mount, nr_setxattr}
use Rattle.call_lines.specs.declared.words.Word.{Word}
use Rattle.call_lines.specs.declared.words.Word.TheVariants as word
use Rattle.call_lines.specs.Operands.{bytes, call_number, descriptor, device, flags, kind, permissions, text}
use Rattle.call_lines.specs.Readings.{Reading, and_then}

-- ---- words

-- each word that begins a call, as it is written
abbrev pub words : List (List ℕ × Word)
words = (codes "mknod", word.Mknod) ∷ (codes "mknodat", word.Mknodat) ∷ (codes "mount", word.Mount)
    ∷ (codes "setxattr", word.Setxattr) ∷ (codes "openat", word.Openat) ∷ (codes "sysinfo", word.Sysinfo)
    ∷ (codes "close", word.Close) ∷ (codes "getpid", word.Getpid) ∷ (codes "other", word.Other) ∷ []

-- ---- nodes: PATH KIND [MAJOR:MINOR] [mode=NUMBER]

-- the four bits of a mode that ask for a kind (inode(7))
abbrev pub type_bits : Kind → ℕ
type_bits Fifo = 1
type_bits Chr = 2
type_bits Dir = 4
type_bits Blk = 6
type_bits Reg = 8
type_bits Sock = 12
type_bits Bad = 15

-- a mode that asks for a kind, with these permissions
abbrev pub mode_of : Kind → ℕ → ℕ
mode_of kind permissions = type_bits kind * 4096 + permissions

abbrev pub last_permissions : List Token → Reading ℕ
last_permissions [] = Ok 0
last_permissions (token ∷ []) = permissions token
last_permissions _ = Err WrongCount

-- a node of this kind and number, and what stands behind these
abbrev pub numbered_node : Option ℤ → List ℕ → Kind → ℕ → List Token → Reading Request
numbered_node dirfd path kind dev tokens =
    and_then (last_permissions tokens) (λ permissions. Ok (asks.Mknod dirfd path (mode_of kind permissions) dev))

abbrev pub device_node : Option ℤ → List ℕ → Kind → List Token → Reading Request
device_node dirfd path kind (token ∷ tokens) = and_then (device token) (λ dev. numbered_node dirfd path kind dev tokens)
device_node dirfd path kind [] = Err WrongCount

-- a device has its numbers behind its kind, and no other node has any
abbrev pub node : Option ℤ → List ℕ → Kind → List Token → Reading Request
node dirfd path kind tokens = if is_device kind then device_node dirfd path kind tokens else numbered_node dirfd path kind 0 tokens

abbrev pub mknod : Option ℤ → List Token → Reading Request
mknod dirfd (path ∷ name ∷ tokens) = and_then (text path) (λ path. and_then (kind name) (λ kind. node dirfd path kind tokens))
mknod dirfd _ = Err WrongCount

-- DIRFD, and then as mknod
abbrev pub mknodat : List Token → Reading Request
mknodat (dirfd ∷ tokens) = and_then (descriptor dirfd) (λ dirfd. mknod (Some dirfd) tokens)
mknodat [] = Err WrongCount

-- ---- mounts: SOURCE TARGET TYPE [FLAGS [DATA]]

abbrev pub last_text : List Token → Reading (List ℕ)
last_text [] = Ok []
last_text (token ∷ []) = text token
last_text _ = Err WrongCount

-- a mount's flags and its data
abbrev pub mount_options : List Token → Reading (ℕ × List ℕ)
mount_options [] = Ok (0, [])
mount_options (token ∷ tokens) =
    and_then (flags (pos nr_mount) token) (λ flags. and_then (last_text tokens) (λ options. Ok (flags, options)))

abbrev pub mount : List Token → Reading Request
mount (source ∷ target ∷ fstype ∷ tokens) =
    and_then (text source) (λ source.
    and_then (text target) (λ target.
    and_then (text fstype) (λ fstype.
    and_then (mount_options tokens) (λ options. Ok (asks.Mount source target fstype options.1 [] options.0 false)))))
mount _ = Err WrongCount

-- ---- attributes: PATH NAME VALUE [FLAGS]

-- the flags of setxattr are 32 bits of its argument
abbrev pub attribute_flags : List Token → Reading ℕ
attribute_flags [] = Ok 0
attribute_flags (token ∷ []) = and_then (flags (pos nr_setxattr) token) (λ flags. Ok (low_32 flags))
attribute_flags _ = Err WrongCount

abbrev pub setxattr : List Token → Reading Request
setxattr (path ∷ name ∷ value ∷ tokens) =
    and_then (text path) (λ path.
    and_then (text name) (λ name.
    and_then (bytes value) (λ value.
    and_then (attribute_flags tokens) (λ flags. Ok (asks.SetXattr path name value flags)))))
setxattr _ = Err WrongCount

-- ---- files: DIRFD PATH

abbrev pub openat : List Token → Reading Request
openat (dirfd ∷ path ∷ []) = and_then (descriptor dirfd) (λ dirfd. and_then (text path) (λ path. Ok (asks.OpenAt dirfd path 0)))
openat _ = Err WrongCount

-- ---- the other calls

-- a call of which no argument is written
abbrev pub alone : Request → List Token → Reading Request
alone request [] = Ok request
alone request _ = Err WrongCount

-- NUMBER
abbrev pub other : List Token → Reading Request
other (token ∷ []) = and_then (call_number token) (λ nr. Ok (asks.Other nr))
other _ = Err WrongCount

-- ---- calls

abbrev pub worded : Word → List Token → Reading Request
worded word.Mknod tokens = mknod None tokens
worded word.Mknodat tokens = mknodat tokens
worded word.Mount tokens = mount tokens
worded word.Setxattr tokens = setxattr tokens
worded word.Openat tokens = openat tokens
worded word.Sysinfo tokens = alone (asks.Sysinfo 0) tokens
worded word.Close tokens = alone (asks.Other (pos nr_close)) tokens
worded word.Getpid tokens = alone (asks.Other (pos nr_getpid)) tokens
worded word.Other tokens = other tokens

abbrev pub known_word : Option Word → List Token → Reading Request
known_word (Some w) tokens = worded w tokens
known_word None tokens = Err UnknownWord

-- the request that the tokens of a line make
abbrev pub request : List Token → Reading Request
request (Bare name ∷ tokens) = known_word (named words name) tokens
request (Quoted _ ∷ tokens) = Err UnknownWord
request [] = Err UnknownWord
