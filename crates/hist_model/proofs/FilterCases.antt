-- Worked examples of filters, computed by the definitions.
-- By `refl`: both sides of each equation compute to the same value.
use Rattle.std.proofs.Common.{◌≡◌, [], ◌∷◌, None, Some, refl}
use Rattle.std.specs.Prelude.{pos, negsuc, false, true}
use Rattle.hist_model.specs.Filters.{combine, verdict, first_fault, fault_among, run_from, run, insn, notify_filter, seccomp_data}
use Rattle.hist_model.specs.declared.filter.FilterReason.TheVariants.{BadJump, NoReturn, BadShift}
use Rattle.hist_model.specs.declared.event.Entered.TheVariants.{Notify, Allow, Fails, NoSys, Kill}

newest_of_equals : combine (0x00050002 ∷ 0x00050001 ∷ 0x7fff0000 ∷ []) ≡ (0x00050002, 0)
unfolding combine
newest_of_equals = refl

notify_before_trace : combine (0x7ff00000 ∷ 0x7fc00000 ∷ []) ≡ (0x7fc00000, 1)
unfolding combine
notify_before_trace = refl

errno_before_unknown : combine (0x7ffd0000 ∷ 0x00050001 ∷ []) ≡ (0x00050001, 1)
unfolding combine
errno_before_unknown = refl

kill_process_first : combine (0x7fff0000 ∷ 0 ∷ 0x80000000 ∷ 0x80000000 ∷ []) ≡ (0x80000000, 2)
unfolding combine
kill_process_first = refl

nothing_allows : combine [] ≡ (0x7fff0000, 0)
unfolding combine
nothing_allows = refl

-- ld 4; jeq 0xc000003e 0 5; ret ALLOW
jump_out : first_fault (insn 0x20 4 0 0 ∷ insn 0x15 0xc000003e 0 5 ∷ insn 0x06 0x7fff0000 0 0 ∷ []) ≡ Some (record { at = 1; reason = BadJump })
unfolding fault_among
jump_out = refl

no_return : first_fault (insn 0x20 4 0 0 ∷ insn 0x00 7 0 0 ∷ []) ≡ Some (record { at = 1; reason = NoReturn })
unfolding fault_among
no_return = refl

wide_shift : first_fault (insn 0x64 32 0 0 ∷ insn 0x00 7 0 0 ∷ []) ≡ Some (record { at = 0; reason = BadShift })
unfolding fault_among
wide_shift = refl

notify_is_accepted : first_fault (notify_filter (pos 133 ∷ pos 99 ∷ [])) ≡ None
unfolding fault_among
notify_is_accepted = refl

mknod_notifies : verdict (record { insns = notify_filter (pos 133 ∷ []); listener = true } ∷ []) (pos 133) (1 ∷ 2 ∷ 3 ∷ 0 ∷ 0 ∷ 0 ∷ []) ≡ Notify 0
unfolding combine run_from
mknod_notifies = refl

getpid_runs : verdict (record { insns = notify_filter (pos 133 ∷ []); listener = true } ∷ []) (pos 39) (0 ∷ 0 ∷ 0 ∷ 0 ∷ 0 ∷ 0 ∷ []) ≡ Allow
unfolding combine run_from
getpid_runs = refl

other_architecture : run (notify_filter (pos 133 ∷ [])) (record { nr = pos 133; arch = 0x40000003; ip = 0; args = 0 ∷ 0 ∷ 0 ∷ 0 ∷ 0 ∷ 0 ∷ [] }) ≡ 0x80000000
unfolding run_from
other_architecture = refl

-- ret USER_NOTIF without the listener
no_listener : verdict (record { insns = insn 0x06 0x7fc00000 0 0 ∷ []; listener = false } ∷ []) (pos 39) (0 ∷ 0 ∷ 0 ∷ 0 ∷ 0 ∷ 0 ∷ []) ≡ NoSys
unfolding combine run_from
no_listener = refl

-- ret ERRNO with 0xffff, and an older filter that notifies
great_errno : verdict (record { insns = notify_filter (pos 39 ∷ []); listener = true } ∷ record { insns = insn 0x06 0x0005ffff 0 0 ∷ []; listener = false } ∷ []) (pos 39) (0 ∷ 0 ∷ 0 ∷ 0 ∷ 0 ∷ 0 ∷ []) ≡ Fails 4095
unfolding combine run_from
great_errno = refl

-- ret with an action that isn't known, where an allowing filter is newer
unknown_kills : verdict (record { insns = insn 0x06 0x12340000 0 0 ∷ []; listener = false } ∷ record { insns = insn 0x06 0x7fff0000 0 0 ∷ []; listener = false } ∷ []) (negsuc 0) (0 ∷ 0 ∷ 0 ∷ 0 ∷ 0 ∷ 0 ∷ []) ≡ Kill
unfolding combine run_from
unknown_kills = refl

no_filters : verdict [] (pos 39) (0 ∷ 0 ∷ 0 ∷ 0 ∷ 0 ∷ 0 ∷ []) ≡ Allow
unfolding combine
no_filters = refl

-- each operation once: 7 + 0xffffffff is 6, then - 5, | 6, & 13, ^ 2, << 31, >> 30, and negated; a jump goes over each wrong answer
arithmetic : run (insn 0x00 7 0 0 ∷ insn 0x04 0xffffffff 0 0 ∷ insn 0x14 5 0 0 ∷ insn 0x44 6 0 0 ∷ insn 0x54 13 0 0 ∷ insn 0xa4 2 0 0 ∷ insn 0x64 31 0 0 ∷ insn 0x74 30 0 0 ∷ insn 0x84 0 0 0 ∷ insn 0x15 0xfffffffe 1 0 ∷ insn 0x06 0 0 0 ∷ insn 0x05 1 0 0 ∷ insn 0x06 1 0 0 ∷ insn 0x25 0xfffffffe 0 1 ∷ insn 0x06 2 0 0 ∷ insn 0x35 0xfffffffe 1 0 ∷ insn 0x06 3 0 0 ∷ insn 0x45 1 0 1 ∷ insn 0x06 4 0 0 ∷ insn 0x20 20 0 0 ∷ insn 0x15 9 1 0 ∷ insn 0x06 5 0 0 ∷ insn 0x06 6 0 0 ∷ [])
    (seccomp_data (pos 1) (0x900000008 ∷ 0 ∷ 0 ∷ 0 ∷ 0 ∷ 0 ∷ [])) ≡ 6
unfolding run_from
arithmetic = refl
