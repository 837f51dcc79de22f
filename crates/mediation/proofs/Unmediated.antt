-- Small histories that are not mediated.
-- By computing: each breaks a clause at its wrong step.
use Rattle.std.proofs.Common.{[], ap, arith, Bool, false, subst, true, List, None, Option, refl, Some, ℕ, ◌∷◌, ◌≡◌}
use Rattle.std.specs.Prelude.{◌&&◌, ◌==◌, Err, Ok, pos}
use Rattle.hist_model.specs.Look.{ev, event_at, before, newest, oldest}
use Rattle.hist_model.specs.Tasks.{ended, was_waited_for, reaped, holder, free_from, last_pid, next_pid, is_made, disposition, pending}
use Rattle.hist_model.specs.Signals.{call_of, next_signal}
use Rattle.hist_model.specs.Calls.{listed, fetched, named, settled, queue, calls as calls_made, recvs}
use Rattle.hist_model.specs.Sessions.{session, deed, Decision, Acts, Plants, addfd_of}
use Rattle.hist_model.specs.Steps.{IsLegal, step, task_step, worker_step, steps_of, reply, oldest_unfetched, task_place, group, mem, base, session_call, install_of, call_at, request_of, owes_native, times_spent}
use Rattle.hist_model.specs.Programs.{program}
use Rattle.hist_model.specs.Memory.{last_call, byte, mapped_bytes}
use Rattle.hist_model.specs.Files.{files}
use Rattle.hist_model.specs.Trees.{row_in, entry_in, mount_on, top_through, target_of, up_through, attr_replaced, with_lines}
use Rattle.hist_model.specs.Paths.{pieces, walk_parts, walk}
use Rattle.hist_model.specs.Copies.{text_from, value_from, copy_of, read_text, read_value, progress, heard}
use Rattle.hist_model.specs.Requests.{request, base_dirfd}
use Rattle.hist_model.specs.Decisions.{fits, decide_from, decide}
use Rattle.hist_model.specs.Filters.{combine, run_from}
use Rattle.hist_model.specs.Legal.{with_schedule, with_steps, rules_of, system_of}
use Rattle.hist_model.specs.Laws.{answers_to, AnsweredOnce, count_below, empty_recvs}
use Rattle.hist_model.specs.Settlers.{InstallsOwn, installed_for, ResumesOwn, ReturnsInstalled, sent, Source}
use Rattle.hist_model.specs.Causes.{Cause, faulty, denied, passed, done, not_put, not_taken}
use Rattle.hist_model.specs.Sysinfo.{container_sysinfo}
use Rattle.sys_abi.specs.Wire.{sysinfo_bytes}
use Rattle.hist_model.specs.ReportAudit.{session_at}
use Rattle.hist_model.specs.Mediated.{Mediated, Each, TakenByItsActor, OneSession, fetches_of, NamesOwn, NeverBusy, ErrorsKnown, InstallsThere, Arrives}
use Rattle.hist_model.specs.Mediated.{ActIsGranted, PlantIsGranted, PutIsInjected, TimesKept, SpentExactly, KeepsOrder, HasCause, AuditNames}
use Rattle.hist_model.specs.Mediated.{LostIfGone, LetsGoAtEnd, ReceivesIdle, ReceivesFor, EntersAsFiltered, DeliversSent, RunsNatively}
use Rattle.hist_model.specs.declared.event.Event.{Event}
use Rattle.hist_model.specs.declared.event.What.TheVariants.{AddfdTake, Install, Recv, Send}
use Rattle.hist_model.specs.declared.event.What.{What}
use Rattle.hist_model.specs.declared.event.Back.{Back}
use Rattle.hist_model.specs.declared.event.Back.TheVariants.{Value, Fail, Continue}
use Rattle.hist_model.specs.declared.request.Request.TheVariants.{Mknod}
use Rattle.sys_abi.specs.declared.wire.Addfd.{Addfd}
use Rattle.sys_abi.specs.declared.wire.Notif.{Notif}
use Rattle.mediation.proofs.Mediation.{mediated}
use Rattle.mediation.proofs.Played.{played_is_legal}
use Rattle.mediation.specs.Refused.{worker}
use Rattle.mediation.specs.Unmediated.{rules, container, calls, copying, granting, putting, taken, history, Turns, Breaks, GrantedIsPlayed, granted, notified, node, file, figures, cap, asked}
use Rattle.mediation.specs.Unmediated.{of_another, second_send, second_receive, answer_to_another, other_return, other_number, busy_answer, other_error, installation_after_end, other_slot, lost_reply}
use Rattle.mediation.specs.Unmediated.{other_address, other_disposition, other_length, ReadsPlanned, second_delivery, unfiltered, unsent_signal}
use Rattle.mediation.specs.Unmediated.{effect_before_check, other_effect, other_figures, put_without_send, unopened_read, effect_too_many, spent_too_soon, late_read, second_read, late_memory}
use Rattle.mediation.specs.Unmediated.{unread_pass, other_denial, other_failure, long_read, lost_too_soon, given_up, left_open, empty_receive, privileged_pass}

-- a clause that is broken is one of the mediated history's
pub breaks : (Clause : List Event → Type 0) (steps : Turns) → (Mediated rules container (history steps) → Clause (history steps)) → (Clause (history steps) → ⊥) → Breaks Clause steps
breaks Clause steps part refuted = (refuted, λ m. refuted (part m))

pub granted_is_played : GrantedIsPlayed
unfolding combine run_from step task_step worker_step event_at newest oldest ended was_waited_for reaped holder free_from last_pid next_pid is_made disposition pending next_signal listed fetched named settled queue calls_made recvs session deed program call_of steps_of reply oldest_unfetched task_place group mem base session_call install_of call_at request_of owes_native times_spent last_call byte mapped_bytes files row_in entry_in mount_on top_through target_of up_through attr_replaced with_lines pieces walk_parts walk text_from value_from copy_of read_text read_value progress request base_dirfd fits decide_from decide with_steps with_schedule
granted_is_played = refl

pub granted_is_mediated : Mediated rules container (history granted)
granted_is_mediated = mediated rules container (history granted) (subst (IsLegal (system_of container) (rules_of rules container.figures)) granted_is_played (played_is_legal rules container (refl, (omega arith, (refl, tt))))) (omega arith)

-- ---- each notification is answered at most once

of-another : Breaks (Each TakenByItsActor) of_another
of-another = breaks (Each TakenByItsActor) of_another (λ m. m.past.actors) (λ h. cc (h.0))

second-send : Breaks AnsweredOnce second_send
unfolding answers_to settled queue listed named oldest event_at
second-send = breaks AnsweredOnce second_send (λ m. m.once.answered) (λ h. omega (arith, h 2))

second-receive : Breaks OneSession second_receive
unfolding fetches_of listed event_at
second-receive = breaks OneSession second_receive (λ m. m.once.received) (λ h. omega (arith, h 2))

-- ---- each reply or descriptor reaches the call it was meant for or nobody

answer-to-another : Breaks (Each NamesOwn) answer_to_another
unfolding session_call listed named oldest event_at
answer-to-another = breaks (Each NamesOwn) answer_to_another (λ m. m.reaches.own) (λ h.
    let z = h.0 refl in
    let w : z.worker ≡ 0 = cc (z.taken_by) in
    let c : z.call ≡ 3 = cc (rw w at z.of_call) in
    cc (rw c at z.names))

other-number : Breaks (Each ReturnsInstalled) other_number
unfolding call_of newest install_of call_at queue listed named oldest event_at
other-number = breaks (Each ReturnsInstalled) other_number (λ m. m.reaches.returns_installed) (λ h. cc (h.0 (0 ∷ []) (Value (pos 4)) refl refl 2 9 3 refl refl refl))

busy-answer : Breaks (Each NeverBusy) busy_answer
busy-answer = breaks (Each NeverBusy) busy_answer (λ m. m.reaches.never_busy) (λ h. cc (h.0))

other-error : Breaks (Each ErrorsKnown) other_error
other-error = breaks (Each ErrorsKnown) other_error (λ m. m.reaches.errors) (λ h. cc (h.0))

installation-after-end : Breaks (Each InstallsOwn) installation_after_end
unfolding call_of newest listed oldest event_at
installation-after-end = breaks (Each InstallsOwn) installation_after_end (λ m. m.reaches.installs) (λ h. let z = h.0 (0 ∷ []) (Ok 3) refl refl in cc (z.3.in_call))

other-slot : Breaks (Each (InstallsThere container)) other_slot
unfolding files group task_place call_of queue listed named newest oldest event_at holder reaped ended was_waited_for with_lines
other-slot = breaks (Each (InstallsThere container)) other_slot (λ m. m.reaches.installs_there) (λ h. cc (h.0 (Ok 2) refl))

lost-reply : Breaks (Each Arrives) lost_reply
unfolding settled queue listed named oldest event_at
lost-reply = breaks (Each Arrives) lost_reply (λ m. m.reaches.arrives) (λ h. cc (h.0 2 refl refl refl))

-- where 0 alone was sent, and nothing installed, nothing else returns
sends_zero : What → Bool
sends_zero (Send x (Value (pos n)) a) = n == 0
sends_zero (Send x b a) = false
sends_zero (Install a) = false
sends_zero what = true

send_zero : List Event → Bool
send_zero [] = true
send_zero (e ∷ K) = sends_zero e.what && send_zero K

zero-sent : (what : What) (x : ℕ) (b : Back) (u : Unit {0}) → sends_zero what ≡ true → what ≡ Send x b (Ok u) → b ≡ Value (pos 0)
unfolding sends_zero
zero-sent what x b u h q = grind arith

zero-at : (K : List Event) (p : ℕ) (e : Event) → send_zero K ≡ true → event_at K p ≡ Some e → sends_zero e.what ≡ true
unfolding send_zero event_at
zero-at [] p e h q = cc
zero-at (d ∷ K) p e h q = let ih = zero-at K p e in grind arith

none-installed : (K : List Event) (r : ℕ) → send_zero K ≡ true → install_of K r ≡ None
unfolding send_zero sends_zero install_of
none-installed [] r h = refl
none-installed (d ∷ K) r h = let ih = none-installed K r in grind arith

other-source : (K : List Event) (c w : ℕ) (b : Back) → send_zero K ≡ true → Source K c w b → b ≡ Value (pos 0)
other-source K c w b h (sent p x d u e q who what a) = zero-sent e.what x b u (zero-at K p e h q) what
other-source K c w b h (installed_for r n i q) = cc (none-installed K r h)

one-zero : Value (pos 1) ≡ Value (pos 0) → ⊥
one-zero q = cc

other-return : Breaks (Each ResumesOwn) other_return
unfolding send_zero sends_zero
other-return = breaks (Each ResumesOwn) other_return (λ m. m.reaches.resumes) (λ h. let z = h.0 (0 ∷ []) (Value (pos 1)) refl refl in one-zero (other-source (taken worker (granting 1) (history (calls node 97 1 ∷ []))) z.0 z.1 (Value (pos 1)) refl z.5))

-- ---- each effect is what the policy grants on one copy, found valid afterwards

effect-before-check : Breaks (Each (ActIsGranted rules container)) effect_before_check
unfolding session
effect-before-check = breaks (Each (ActIsGranted rules container)) effect_before_check (λ m. m.effects.acts) (λ h. let z = h.0 0 _ _ _ refl refl in omega (arith, z.mediated.checked))

-- another path than the granted one, another byte than the first of the figures, and no flag SEND
letter : Decision → ℕ
letter (Acts (Mknod d (s ∷ b ∷ bs) mode dev) cap) = b
letter d = 0

first_byte : Decision → ℕ
first_byte (Plants addr (b ∷ bs) cap) = b
first_byte d = 0

flagless : (a : Addfd) (x src flags : ℕ) (at : Option ℕ) → a.flags ≡ 0 → a ≡ addfd_of x src at flags → ⊥
flagless a x src flags None f q = cc
flagless a x src flags (Some n) f q = cc

pub unlike : (m n : ℕ) → m ≡ n → (m == n) ≡ false → ⊥
unlike m n q h = grind arith

other-effect : Breaks (Each (ActIsGranted rules container)) other_effect
unfolding session progress read_text request fits decide_from decide letter
other-effect = breaks (Each (ActIsGranted rules container)) other_effect (λ m. m.effects.acts) (λ h.
    let z = h.0 0 _ _ _ refl refl in
    let n : z.received ≡ notified node 1 = cc (z.mediated.notif_is) in
    unlike 97 99 (ap letter (rw n at z.granted)) refl)

other-figures : Breaks (Each (PlantIsGranted rules container)) other_figures
unfolding session progress request fits decide_from decide container_sysinfo sysinfo_bytes first_byte
other-figures = breaks (Each (PlantIsGranted rules container)) other_figures (λ m. m.effects.plants) (λ h.
    let z = h.0 0 _ _ _ _ refl refl in
    let n : z.received ≡ notified figures 1 = cc (z.mediated.notif_is) in
    unlike 0 1 (ap first_byte (rw n at z.granted)) refl)

put-without-send : Breaks (Each (PutIsInjected rules container)) put_without_send
put-without-send = breaks (Each (PutIsInjected rules container)) put_without_send (λ m. m.effects.puts) (λ h.
    let z = h.0 0 _ _ refl refl in flagless (record asked { flags = 0 }) z.received.id z.src z.flags z.number refl z.asked)

unopened-read : Breaks (Each ReadsPlanned) unopened_read
unfolding mem
unopened-read = breaks (Each ReadsPlanned) unopened_read (λ m. m.effects.reads) (λ h. let z = h.0 0 _ _ _ refl refl in cc (z.memory.opened_is))

-- where the next piece begins, and how long it is
piece_start : Option (ℕ × ℕ) → ℕ
piece_start (Some piece) = piece.0
piece_start None = 0

piece_length : Option (ℕ × ℕ) → ℕ
piece_length (Some piece) = piece.1
piece_length None = 0

other-address : Breaks (Each ReadsPlanned) other_address
unfolding session progress read_text piece_start
other-address = breaks (Each ReadsPlanned) other_address (λ m. m.effects.reads) (λ h.
    let z = h.1.1.1.0 0 _ _ _ refl refl in
    let n : z.received ≡ notified node 1 = cc (z.notif_is) in
    unlike 65789 65600 (ap piece_start (rw n at z.piece)) refl)

other-length : Breaks (Each ReadsPlanned) other_length
unfolding session progress read_text piece_length
other-length = breaks (Each ReadsPlanned) other_length (λ m. m.effects.reads) (λ h.
    let z = h.1.1.1.0 0 _ _ _ refl refl in
    let n : z.received ≡ notified node 1 = cc (z.notif_is) in
    unlike 3 2 (ap piece_length (rw n at z.piece)) refl)

effect-too-many : Breaks (TimesKept rules) effect_too_many
unfolding times_spent
effect-too-many = breaks (TimesKept rules) effect_too_many (λ m. m.effects.times) (λ h. omega (arith, h 0 cap refl))

spent-too-soon : Breaks (Each SpentExactly) spent_too_soon
unfolding times_spent
spent-too-soon = breaks (Each SpentExactly) spent_too_soon (λ m. m.effects.spent) (λ h. cc (h.0))

late-read : Breaks (Each KeepsOrder) late_read
unfolding session
late-read = breaks (Each KeepsOrder) late_read (λ m. m.effects.ordered) (λ h. omega (arith, (h.1.1.1.1.1.1.1.0 0 refl).1 refl))

second-read : Breaks (Each KeepsOrder) second_read
unfolding session
second-read = breaks (Each KeepsOrder) second_read (λ m. m.effects.ordered) (λ h. omega (arith, (h.1.1.1.1.1.1.1.0 0 refl).1 refl))

late-memory : Breaks (Each KeepsOrder) late_memory
unfolding session
late-memory = breaks (Each KeepsOrder) late_memory (λ m. m.effects.ordered) (λ h. omega (arith, (h.1.1.1.1.1.1.1.0 0 refl).0 refl))

-- ---- each answer has its cause

unread-pass : Breaks (Each (HasCause (rules_of rules container.figures))) unread_pass
unfolding session progress read_text
unread-pass = breaks (Each (HasCause (rules_of rules container.figures))) unread_pass (λ m. m.answers.cause) (λ h.
    let z = h.0 0 1 Continue (Ok tt) refl refl in let n : z.received ≡ notified node 1 = cc (z.notif_is) in cc (rw n at z.whole))

other-cause : (n : Notif) (b : Back) → Cause (rules_of rules container.figures) (session (taken worker (copying node 98 1) (history (calls node 98 1 ∷ []))) 0) n b → n ≡ notified node 1 → b ≡ Fail 1 → ⊥
unfolding session progress read_text request fits decide_from decide
other-cause n b (faulty f h) m q = cc (rw m at h)
other-cause n b (denied e h d) m q = cc (rw m at d)
other-cause n b (passed h d) m q = cc
other-cause n b (done r h d o) m q = cc (rw m at d)
other-cause n b (not_put s a f h d p) m q = cc (rw m at d)
other-cause n b (not_taken e s a f h d t k) m q = cc (rw m at d)

other-denial : Breaks (Each (HasCause (rules_of rules container.figures))) other_denial
unfolding session
other-denial = breaks (Each (HasCause (rules_of rules container.figures))) other_denial (λ m. m.answers.cause) (λ h.
    let z = h.0 0 1 (Fail 1) (Ok tt) refl refl in other-cause z.received (Fail 1) z.cause (cc (z.notif_is)) refl)

failure-cause : (n : Notif) (b : Back) → Cause (rules_of rules container.figures) (AddfdTake (Err 9) ∷ session (taken worker putting (history (calls file 97 1 ∷ []))) 0) n b → n ≡ notified file 1 → b ≡ Fail 9 → ⊥
unfolding session progress read_text request fits decide_from decide
failure-cause n b (faulty f h) m q = cc (rw m at h)
failure-cause n b (denied e h d) m q = cc (rw m at d)
failure-cause n b (passed h d) m q = cc
failure-cause n b (done r h d o) m q = cc (rw m at d)
failure-cause n b (not_put s a f h d p) m q = cc (p)
failure-cause n b (not_taken e s a f h d t k) m q = cc (q)

other-failure : Breaks (Each (HasCause (rules_of rules container.figures))) other_failure
unfolding session
other-failure = breaks (Each (HasCause (rules_of rules container.figures))) other_failure (λ m. m.answers.cause) (λ h.
    let z = h.0 0 1 (Fail 9) (Ok tt) refl refl in failure-cause z.received (Fail 9) z.cause (cc (z.notif_is)) refl)

-- the audit has the session of the one receive, which is open
long-place : (r : ℕ) (n : Notif) → event_at (history long_read) r ≡ Some (ev worker (Recv (Ok n))) → (r ≡ 3) × (n ≡ notified node 1)
unfolding event_at
long-place r n h = grind arith

long-read : Breaks (AuditNames rules) long_read
unfolding event_at before session progress read_text request fits decide_from decide session_at heard
long-read = breaks (AuditNames rules) long_read (λ m. m.answers.audit) (λ h.
    let z = h 9 0 (Send 1 (Fail 13) (Ok tt)) (notified node 1) refl refl refl in
    let r = long-place z.place (notified node 1) z.receive in
    cc ((rw (r.0) at z.finds).finding))

lost-too-soon : Breaks (Each LostIfGone) lost_too_soon
unfolding session_call named listed oldest event_at
lost-too-soon = breaks (Each LostIfGone) lost_too_soon (λ m. m.told.lost) (λ h.
    let z = h.0 0 refl refl in let c : z.call ≡ 2 = cc (z.of_call) in cc (rw c at z.not_listed))

given-up : Breaks (Each LetsGoAtEnd) given_up
unfolding session
given-up = breaks (Each LetsGoAtEnd) given_up (λ m. m.answers.lets_go) (λ h. cc (h.0 0 refl refl))

left-open : Breaks (Each ReceivesIdle) left_open
unfolding session
left-open = breaks (Each ReceivesIdle) left_open (λ m. m.answers.receives_idle) (λ h. cc (h.0 0 refl refl))

empty-receive : Breaks (Each ReceivesFor) empty_receive
unfolding empty_recvs count_below listed fetched event_at
empty-receive = breaks (Each ReceivesFor) empty_receive (λ m. m.told.receives) (λ h. omega (arith, h.0))

-- ---- nothing goes past the broker

past-filter : Breaks (Each (EntersAsFiltered container)) unfiltered
unfolding combine run_from calls_made
past-filter = breaks (Each (EntersAsFiltered container)) unfiltered (λ m. m.past.enters) (λ h. cc (h.1.0 _ _ _ refl))

unsent-signal : Breaks (Each (DeliversSent container)) unsent_signal
unfolding pending
unsent-signal = breaks (Each (DeliversSent container)) unsent_signal (λ m. m.past.delivers) (λ h. cc ((h.0 _ _ _ refl refl).sent))

second-delivery : Breaks (Each (DeliversSent container)) second_delivery
unfolding pending
second-delivery = breaks (Each (DeliversSent container)) second_delivery (λ m. m.past.delivers) (λ h. cc ((h.0 _ _ _ refl refl).sent))

other-disposition : Breaks (Each (DeliversSent container)) other_disposition
unfolding call_of newest listed event_at disposition
other-disposition = breaks (Each (DeliversSent container)) other_disposition (λ m. m.past.delivers) (λ h. cc ((h.0 _ _ _ refl refl).does))

privileged-pass : Breaks (Each (RunsNatively container)) privileged_pass
unfolding owes_native files group task_place last_call byte mapped_bytes newest oldest event_at row_in entry_in mount_on top_through target_of up_through attr_replaced with_lines pieces walk_parts walk text_from value_from copy_of request base_dirfd
privileged-pass = breaks (Each (RunsNatively container)) privileged_pass (λ m. m.passed.runs_natively) (λ h. cc ((h.0 (0 ∷ []) (Ok 0) refl refl).answer))

-- ---- all of them

pub twice_answered : Breaks (Each TakenByItsActor) of_another × Breaks AnsweredOnce second_send × Breaks OneSession second_receive
twice_answered = (of-another, second-send, second-receive)

pub strays : Breaks (Each NamesOwn) answer_to_another × Breaks (Each ResumesOwn) other_return × Breaks (Each ReturnsInstalled) other_number × Breaks (Each NeverBusy) busy_answer × Breaks (Each ErrorsKnown) other_error
    × Breaks (Each InstallsOwn) installation_after_end × Breaks (Each (InstallsThere container)) other_slot × Breaks (Each Arrives) lost_reply
strays = (answer-to-another, other-return, other-number, busy-answer, other-error, installation-after-end, other-slot, lost-reply)

pub ungranted : Breaks (Each (ActIsGranted rules container)) effect_before_check × Breaks (Each (ActIsGranted rules container)) other_effect × Breaks (Each (PlantIsGranted rules container)) other_figures
    × Breaks (Each (PutIsInjected rules container)) put_without_send × Breaks (Each ReadsPlanned) unopened_read
    × Breaks (Each ReadsPlanned) other_address × Breaks (Each ReadsPlanned) other_length × Breaks (TimesKept rules) effect_too_many × Breaks (Each SpentExactly) spent_too_soon
ungranted = (effect-before-check, other-effect, other-figures, put-without-send, unopened-read, other-address, other-length, effect-too-many, spent-too-soon)

pub disordered : Breaks (Each KeepsOrder) late_read × Breaks (Each KeepsOrder) second_read × Breaks (Each KeepsOrder) late_memory
disordered = (late-read, second-read, late-memory)

pub uncaused : Breaks (Each (HasCause (rules_of rules container.figures))) unread_pass × Breaks (Each (HasCause (rules_of rules container.figures))) other_denial
    × Breaks (Each (HasCause (rules_of rules container.figures))) other_failure × Breaks (AuditNames rules) long_read
uncaused = (unread-pass, other-denial, other-failure, long-read)

pub unfounded : Breaks (Each LostIfGone) lost_too_soon × Breaks (Each LetsGoAtEnd) given_up × Breaks (Each ReceivesIdle) left_open × Breaks (Each ReceivesFor) empty_receive
unfounded = (lost-too-soon, given-up, left-open, empty-receive)

pub gone_past : Breaks (Each (EntersAsFiltered container)) unfiltered × Breaks (Each (DeliversSent container)) unsent_signal
    × Breaks (Each (DeliversSent container)) second_delivery × Breaks (Each (DeliversSent container)) other_disposition
gone_past = (past-filter, unsent-signal, second-delivery, other-disposition)

pub privileged : Breaks (Each (RunsNatively container)) privileged_pass
privileged = privileged-pass
