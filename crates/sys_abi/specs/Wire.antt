-- The structures of seccomp(2), seccomp_unotify(2) and sysinfo(2) as they lie in memory: little endian, each field at its offset.
use Rattle.std.specs.Prelude.{ℕ, zero, suc, ◌+◌, ℤ, List, [], ◌∷◌, ◌++◌, drop, replicate}
use Rattle.std.specs.Int.{w16, w32, w64, to_le_bytes, from_le_bytes, cast_signed, cast_unsigned}
use Rattle.std.specs.List.{flat_map}
use Rattle.sys_abi.specs.declared.wire.SeccompData.{SeccompData}
use Rattle.sys_abi.specs.declared.wire.Notif.{Notif}
use Rattle.sys_abi.specs.declared.wire.Resp.{Resp}
use Rattle.sys_abi.specs.declared.wire.Addfd.{Addfd}
use Rattle.sys_abi.specs.declared.wire.Sysinfo.{Sysinfo}

-- ---- what bytes stand for

-- the number whose bytes begin at an offset
unfoldable pub u16_at : List ℕ → ℕ → ℕ
u16_at bytes offset = from_le_bytes w16 (drop offset bytes)

unfoldable pub u32_at : List ℕ → ℕ → ℕ
u32_at bytes offset = from_le_bytes w32 (drop offset bytes)

unfoldable pub u64_at : List ℕ → ℕ → ℕ
u64_at bytes offset = from_le_bytes w64 (drop offset bytes)

-- so many numbers of 64 bits, one after the other
abbrev pub u64s_at : List ℕ → ℕ → ℕ → List ℕ
u64s_at bytes offset zero = []
u64s_at bytes offset (suc count) = u64_at bytes offset ∷ u64s_at bytes (offset + 8) count

abbrev pub i32_at : List ℕ → ℕ → ℤ
i32_at bytes offset = cast_signed w32 (u32_at bytes offset)

abbrev pub i64_at : List ℕ → ℕ → ℤ
i64_at bytes offset = cast_signed w64 (u64_at bytes offset)

-- struct seccomp_data (seccomp(2))
unfoldable pub seccomp_data_of : List ℕ → SeccompData
seccomp_data_of bytes = record {
  nr = i32_at bytes 0;
  arch = u32_at bytes 4;
  ip = u64_at bytes 8;
  args = u64s_at bytes 16 6;
}

-- struct seccomp_notif (seccomp_unotify(2))
unfoldable pub notif_of : List ℕ → Notif
notif_of bytes = record {
  id = u64_at bytes 0;
  pid = u32_at bytes 8;
  flags = u32_at bytes 12;
  call = seccomp_data_of (drop 16 bytes);
}

-- struct seccomp_notif_resp
unfoldable pub resp_of : List ℕ → Resp
resp_of bytes = record {
  id = u64_at bytes 0;
  val = i64_at bytes 8;
  error = i32_at bytes 16;
  flags = u32_at bytes 20;
}

-- struct seccomp_notif_addfd
unfoldable pub addfd_of : List ℕ → Addfd
addfd_of bytes = record {
  id = u64_at bytes 0;
  flags = u32_at bytes 8;
  srcfd = u32_at bytes 12;
  newfd = u32_at bytes 16;
  newfd_flags = u32_at bytes 20;
}

-- struct sysinfo (sysinfo(2)), whose bytes 82 to 87 and 108 to 111 stand for nothing
unfoldable pub sysinfo_of : List ℕ → Sysinfo
sysinfo_of bytes = record {
  uptime = u64_at bytes 0;
  loads = u64s_at bytes 8 3;
  totalram = u64_at bytes 32;
  freeram = u64_at bytes 40;
  sharedram = u64_at bytes 48;
  bufferram = u64_at bytes 56;
  totalswap = u64_at bytes 64;
  freeswap = u64_at bytes 72;
  procs = u16_at bytes 80;
  totalhigh = u64_at bytes 88;
  freehigh = u64_at bytes 96;
  mem_unit = u32_at bytes 104;
}

-- ---- the bytes of a value

abbrev pub u16_bytes : ℕ → List ℕ
u16_bytes n = to_le_bytes w16 n

abbrev pub u32_bytes : ℕ → List ℕ
u32_bytes n = to_le_bytes w32 n

abbrev pub u64_bytes : ℕ → List ℕ
u64_bytes n = to_le_bytes w64 n

abbrev pub i32_bytes : ℤ → List ℕ
i32_bytes z = u32_bytes (cast_unsigned w32 z)

abbrev pub i64_bytes : ℤ → List ℕ
i64_bytes z = u64_bytes (cast_unsigned w64 z)

-- one field after the other
unfoldable pub seccomp_data_bytes : SeccompData → List ℕ
seccomp_data_bytes v = i32_bytes v.nr ++ u32_bytes v.arch ++ u64_bytes v.ip ++ flat_map u64_bytes v.args

unfoldable pub notif_bytes : Notif → List ℕ
notif_bytes v = u64_bytes v.id ++ u32_bytes v.pid ++ u32_bytes v.flags ++ seccomp_data_bytes v.call

unfoldable pub resp_bytes : Resp → List ℕ
resp_bytes v = u64_bytes v.id ++ i64_bytes v.val ++ i32_bytes v.error ++ u32_bytes v.flags

unfoldable pub addfd_bytes : Addfd → List ℕ
addfd_bytes v = u64_bytes v.id ++ u32_bytes v.flags ++ u32_bytes v.srcfd ++ u32_bytes v.newfd ++ u32_bytes v.newfd_flags

-- zeros stand before a field that has to begin at a multiple of its size, and at the end
unfoldable pub sysinfo_bytes : Sysinfo → List ℕ
sysinfo_bytes v =
    flat_map u64_bytes (v.uptime ∷ v.loads ++ v.totalram ∷ v.freeram ∷ v.sharedram ∷ v.bufferram ∷ v.totalswap ∷ v.freeswap ∷ [])
    ++ u16_bytes v.procs
    ++ replicate 6 0
    ++ flat_map u64_bytes (v.totalhigh ∷ v.freehigh ∷ [])
    ++ u32_bytes v.mem_unit
    ++ replicate 4 0
