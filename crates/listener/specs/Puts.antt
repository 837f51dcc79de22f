-- What a request for a descriptor is answered (seccomp_unotify(2), SECCOMP_IOCTL_NOTIF_ADDFD).
use Rattle.std.specs.Prelude.{ℕ, Bool, ◌&&◌, ◌||◌, not, if◌then◌else◌, ◌==◌, List, Result, Ok, Err, bit_and}
use Rattle.sys_abi.specs.Errnos.{ebadf, einval}
use Rattle.sys_abi.specs.Wire.{addfd_of}
use Rattle.sys_abi.specs.declared.wire.Addfd.{Addfd}

-- no flag but SECCOMP_ADDFD_FLAG_SETFD, of value 1, and SECCOMP_ADDFD_FLAG_SEND, of value 2
abbrev pub is_known : Addfd → Bool
is_known asked = bit_and asked.flags 3 == asked.flags

abbrev pub sets_number : Addfd → Bool
sets_number asked = bit_and asked.flags 1 == 1

-- the descriptor is closed on execve(2) (O_CLOEXEC), or not
abbrev pub has_known_newfd_flags : Addfd → Bool
has_known_newfd_flags asked = (asked.newfd_flags == 0) || (asked.newfd_flags == 0x80000)

-- all flags are known, and a number is asked for only with SETFD
abbrev pub may_be_put : Addfd → Bool
may_be_put asked = is_known asked && (has_known_newfd_flags asked && ((asked.newfd == 0) || sets_number asked))

-- the structure that the bytes stand for; EINVAL where it can't be asked for, else EBADF where its source isn't open
abbrev pub reading : List ℕ → Bool → Result Addfd ℕ
reading bytes src_open = if not (may_be_put (addfd_of bytes)) then Err einval else (if src_open then Ok (addfd_of bytes) else Err ebadf)
