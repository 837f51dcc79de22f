-- The structures in memory: their bytes stand for them, and what bytes stand for has these bytes.
-- By the lemmas on fields, one after the other.
use Rattle.std.specs.Prelude.{ℕ, ◌<◌, ◌^◌, List, [], ◌∷◌, ◌++◌, length, take, drop, get_or, replicate}
use Rattle.std.specs.Int.{w32, w64}
use Rattle.std.specs.Int.RustNames.{FitsSigned}
use Rattle.std.specs.List.{flat_map}
use Rattle.std.proofs.Common.{◌≡◌, sym, ap, subst, arith}
use Rattle.std.proofs.lemmas.List.{length-drop}
use Rattle.sys_abi.specs.declared.wire.SeccompData.{SeccompData}
use Rattle.sys_abi.specs.declared.wire.Notif.{Notif}
use Rattle.sys_abi.specs.declared.wire.Resp.{Resp}
use Rattle.sys_abi.specs.declared.wire.Addfd.{Addfd}
use Rattle.sys_abi.specs.declared.wire.Sysinfo.{Sysinfo}
use Rattle.sys_abi.specs.Wire.{u16_at, u32_at, u64_at, u64s_at, u32_bytes, u64_bytes, i32_bytes, i64_bytes, seccomp_data_of, notif_of, resp_of, addfd_of, sysinfo_of, seccomp_data_bytes, notif_bytes, resp_bytes, addfd_bytes, sysinfo_bytes}
use Rattle.sys_abi.proofs.Fields.{AreBytes, u16_first, u32_first, u64_first, i32_first, i64_first, bytes_after, u32_then, u64_then, i32_then, i64_then, nothing_after}

-- ---- structures with the same fields are the same

same_seccomp_data : (a b : SeccompData) → a.nr ≡ b.nr → a.arch ≡ b.arch → a.ip ≡ b.ip → a.args ≡ b.args → a ≡ b
same_seccomp_data a b nr arch ip args = let same : ◌≡◌ {A = SeccompData} record { nr = a.nr; arch = a.arch; ip = a.ip; args = a.args } record { nr = b.nr; arch = b.arch; ip = b.ip; args = b.args } = cc in same

same_notif : (a b : Notif) → a.id ≡ b.id → a.pid ≡ b.pid → a.flags ≡ b.flags → a.call ≡ b.call → a ≡ b
same_notif a b id pid flags call = let same : ◌≡◌ {A = Notif} record { id = a.id; pid = a.pid; flags = a.flags; call = a.call } record { id = b.id; pid = b.pid; flags = b.flags; call = b.call } = cc in same

same_resp : (a b : Resp) → a.id ≡ b.id → a.val ≡ b.val → a.error ≡ b.error → a.flags ≡ b.flags → a ≡ b
same_resp a b id val error flags = let same : ◌≡◌ {A = Resp} record { id = a.id; val = a.val; error = a.error; flags = a.flags } record { id = b.id; val = b.val; error = b.error; flags = b.flags } = cc in same

same_addfd : (a b : Addfd) → a.id ≡ b.id → a.flags ≡ b.flags → a.srcfd ≡ b.srcfd → a.newfd ≡ b.newfd → a.newfd_flags ≡ b.newfd_flags → a ≡ b
same_addfd a b id flags srcfd newfd newfd_flags = let same : ◌≡◌ {A = Addfd} record { id = a.id; flags = a.flags; srcfd = a.srcfd; newfd = a.newfd; newfd_flags = a.newfd_flags } record { id = b.id; flags = b.flags; srcfd = b.srcfd; newfd = b.newfd; newfd_flags = b.newfd_flags } = cc in same

same_sysinfo : (a b : Sysinfo) → a.uptime ≡ b.uptime → a.loads ≡ b.loads → a.totalram ≡ b.totalram → a.freeram ≡ b.freeram → a.sharedram ≡ b.sharedram → a.bufferram ≡ b.bufferram → a.totalswap ≡ b.totalswap → a.freeswap ≡ b.freeswap → a.procs ≡ b.procs → a.totalhigh ≡ b.totalhigh → a.freehigh ≡ b.freehigh → a.mem_unit ≡ b.mem_unit → a ≡ b
same_sysinfo a b uptime loads totalram freeram sharedram bufferram totalswap freeswap procs totalhigh freehigh mem_unit =
    let same : ◌≡◌ {A = Sysinfo} record { uptime = a.uptime; loads = a.loads; totalram = a.totalram; freeram = a.freeram; sharedram = a.sharedram; bufferram = a.bufferram; totalswap = a.totalswap; freeswap = a.freeswap; procs = a.procs; totalhigh = a.totalhigh; freehigh = a.freehigh; mem_unit = a.mem_unit } record { uptime = b.uptime; loads = b.loads; totalram = b.totalram; freeram = b.freeram; sharedram = b.sharedram; bufferram = b.bufferram; totalswap = b.totalswap; freeswap = b.freeswap; procs = b.procs; totalhigh = b.totalhigh; freehigh = b.freehigh; mem_unit = b.mem_unit } = cc in
    same

-- ---- their bytes stand for them

pub seccomp_data_of_bytes : (v : SeccompData) → FitsSigned w32 v.nr → v.arch < 2 ^ 32 → v.ip < 2 ^ 64 → u64s_at (flat_map u64_bytes v.args) 0 6 ≡ v.args → seccomp_data_of (seccomp_data_bytes v) ≡ v
unfolding u32_at u64_at seccomp_data_of seccomp_data_bytes
seccomp_data_of_bytes v nr arch ip args =
    let words = flat_map u64_bytes v.args in
    same_seccomp_data _ v
    (i32_first v.nr (u32_bytes v.arch ++ u64_bytes v.ip ++ words) nr)
    (u32_first v.arch (u64_bytes v.ip ++ words) arch)
    (u64_first v.ip words ip)
    args

pub notif_of_bytes : (v : Notif) → v.id < 2 ^ 64 → v.pid < 2 ^ 32 → v.flags < 2 ^ 32 → seccomp_data_of (seccomp_data_bytes v.call) ≡ v.call → notif_of (notif_bytes v) ≡ v
unfolding u32_at u64_at notif_of notif_bytes
notif_of_bytes v id pid flags call =
    let rest = seccomp_data_bytes v.call in
    same_notif _ v
    (u64_first v.id (u32_bytes v.pid ++ u32_bytes v.flags ++ rest) id)
    (u32_first v.pid (u32_bytes v.flags ++ rest) pid)
    (u32_first v.flags rest flags)
    call

pub resp_of_bytes : (v : Resp) → v.id < 2 ^ 64 → FitsSigned w64 v.val → FitsSigned w32 v.error → v.flags < 2 ^ 32 → resp_of (resp_bytes v) ≡ v
unfolding u32_at u64_at resp_of resp_bytes
resp_of_bytes v id val error flags =
    let rest = i32_bytes v.error ++ u32_bytes v.flags in
    same_resp _ v
    (u64_first v.id (i64_bytes v.val ++ rest) id)
    (i64_first v.val rest val)
    (i32_first v.error (u32_bytes v.flags) error)
    (u32_first v.flags [] flags)

pub addfd_of_bytes : (v : Addfd) → v.id < 2 ^ 64 → v.flags < 2 ^ 32 → v.srcfd < 2 ^ 32 → v.newfd < 2 ^ 32 → v.newfd_flags < 2 ^ 32 → addfd_of (addfd_bytes v) ≡ v
unfolding u32_at u64_at addfd_of addfd_bytes
addfd_of_bytes v id flags srcfd newfd newfd_flags =
    let rest = u32_bytes v.newfd ++ u32_bytes v.newfd_flags in
    same_addfd _ v
    (u64_first v.id (u32_bytes v.flags ++ u32_bytes v.srcfd ++ rest) id)
    (u32_first v.flags (u32_bytes v.srcfd ++ rest) flags)
    (u32_first v.srcfd rest srcfd)
    (u32_first v.newfd (u32_bytes v.newfd_flags) newfd)
    (u32_first v.newfd_flags [] newfd_flags)

-- the ten numbers of 64 bits that a sysinfo with these loads begins with, and those of its high memory
abbrev pub words_of : Sysinfo → ℕ → ℕ → ℕ → List ℕ
words_of v a b c = v.uptime ∷ a ∷ b ∷ c ∷ v.totalram ∷ v.freeram ∷ v.sharedram ∷ v.bufferram ∷ v.totalswap ∷ v.freeswap ∷ []

abbrev pub high_of : Sysinfo → List ℕ
high_of v = v.totalhigh ∷ v.freehigh ∷ []

sysinfo_of_three : (v : Sysinfo) (a b c : ℕ) → u64s_at (flat_map u64_bytes (words_of v a b c)) 0 10 ≡ words_of v a b c → v.procs < 2 ^ 16 → u64s_at (flat_map u64_bytes (high_of v)) 0 2 ≡ high_of v → v.mem_unit < 2 ^ 32 → sysinfo_of (sysinfo_bytes (record v { loads = a ∷ b ∷ c ∷ [] })) ≡ record v { loads = a ∷ b ∷ c ∷ [] }
unfolding u16_at u32_at u64_at sysinfo_of sysinfo_bytes
sysinfo_of_three v a b c words procs high mem_unit =
    let last = u32_bytes v.mem_unit ++ replicate 4 0 in
    same_sysinfo _ (record v { loads = a ∷ b ∷ c ∷ [] })
    (ap (λ l. get_or l 0 0) words)
    (ap (λ l. take 3 (drop 1 l)) words)
    (ap (λ l. get_or l 4 0) words)
    (ap (λ l. get_or l 5 0) words)
    (ap (λ l. get_or l 6 0) words)
    (ap (λ l. get_or l 7 0) words)
    (ap (λ l. get_or l 8 0) words)
    (ap (λ l. get_or l 9 0) words)
    (u16_first v.procs (replicate 6 0 ++ flat_map u64_bytes (high_of v) ++ last) procs)
    (ap (λ l. get_or l 0 0) high)
    (ap (λ l. get_or l 1 0) high)
    (u32_first v.mem_unit (replicate 4 0) mem_unit)

pub sysinfo_of_bytes : (v : Sysinfo) (a b c : ℕ) → v.loads ≡ a ∷ b ∷ c ∷ [] → u64s_at (flat_map u64_bytes (words_of v a b c)) 0 10 ≡ words_of v a b c → v.procs < 2 ^ 16 → u64s_at (flat_map u64_bytes (high_of v)) 0 2 ≡ high_of v → v.mem_unit < 2 ^ 32 → sysinfo_of (sysinfo_bytes v) ≡ v
sysinfo_of_bytes v a b c three words procs high mem_unit =
    subst (λ xs. sysinfo_of (sysinfo_bytes (record v { loads = xs })) ≡ record v { loads = xs }) (sym three) (sysinfo_of_three v a b c words procs high mem_unit)

-- ---- what bytes stand for has these bytes

pub seccomp_data_back : (bytes : List ℕ) → AreBytes bytes → length bytes ≡ 64 → seccomp_data_bytes (seccomp_data_of bytes) ≡ bytes
unfolding seccomp_data_of seccomp_data_bytes
seccomp_data_back bytes h len =
    i32_then bytes 0 _ h (omega (arith, len)) (
    u32_then bytes 4 _ h (omega (arith, len)) (
    u64_then bytes 8 _ h (omega (arith, len)) (
    u64_then bytes 16 _ h (omega (arith, len)) (
    u64_then bytes 24 _ h (omega (arith, len)) (
    u64_then bytes 32 _ h (omega (arith, len)) (
    u64_then bytes 40 _ h (omega (arith, len)) (
    u64_then bytes 48 _ h (omega (arith, len)) (
    u64_then bytes 56 [] h (omega (arith, len)) (
    nothing_after bytes 64 len)))))))))

pub notif_back : (bytes : List ℕ) → AreBytes bytes → length bytes ≡ 80 → notif_bytes (notif_of bytes) ≡ bytes
unfolding notif_of notif_bytes
notif_back bytes h len =
    let call : length (drop 16 bytes) ≡ 64 = omega (arith, len, length-drop 16 bytes) in
    u64_then bytes 0 _ h (omega (arith, len)) (
    u32_then bytes 8 _ h (omega (arith, len)) (
    u32_then bytes 12 _ h (omega (arith, len)) (
    seccomp_data_back (drop 16 bytes) (bytes_after 16 bytes h) call)))

pub resp_back : (bytes : List ℕ) → AreBytes bytes → length bytes ≡ 24 → resp_bytes (resp_of bytes) ≡ bytes
unfolding resp_of resp_bytes
resp_back bytes h len =
    u64_then bytes 0 _ h (omega (arith, len)) (
    i64_then bytes 8 _ h (omega (arith, len)) (
    i32_then bytes 16 _ h (omega (arith, len)) (
    u32_then bytes 20 [] h (omega (arith, len)) (
    nothing_after bytes 24 len))))

pub addfd_back : (bytes : List ℕ) → AreBytes bytes → length bytes ≡ 24 → addfd_bytes (addfd_of bytes) ≡ bytes
unfolding addfd_of addfd_bytes
addfd_back bytes h len =
    u64_then bytes 0 _ h (omega (arith, len)) (
    u32_then bytes 8 _ h (omega (arith, len)) (
    u32_then bytes 12 _ h (omega (arith, len)) (
    u32_then bytes 16 _ h (omega (arith, len)) (
    u32_then bytes 20 [] h (omega (arith, len)) (
    nothing_after bytes 24 len)))))
