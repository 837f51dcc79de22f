-- The judge stands for the history without events.
-- By the look-backs' first equations.
use Rattle.std.proofs.Common.{◌≡◌, ℕ, ◌+◌, ◌<◌, ◌^◌, [], length, refl, arith}
use Rattle.std.specs.Prelude.{get_or, replicate}
use Rattle.std.proofs.lemmas.List.{get_or-replicate, length-replicate}
use Rattle.broker_verdict.specs.Effects.{done_by}
use Rattle.broker_verdict.specs.Seats.{base_worth, effect_of, has_sent, is_base_refused, is_checked, reads}
use Rattle.hist_model.specs.Files.{files}
use Rattle.hist_model.specs.ScriptRules.{IsScript}
use Rattle.hist_model.specs.Steps.{mem, session_call}
use Rattle.hist_model.specs.declared.policy.Policy.{Policy}
use Rattle.hist_model.specs.declared.script.Script.{Script}
use Rattle.history_frames.specs.Ordinals.{count_of, nth_of}
use Rattle.judge_pass.specs.Stands.{IsSeat, Stands}
use Rattle.judge_pass.specs.Tables.{AreIdle, IsIdle}
use Rattle.judge_pass.specs.declared.judge.Judge.{Judge}
use Rattle.judge_pass.specs.declared.seats.Seat.{Seat}

idle-seat : (S : Script) (w : ℕ) (s : Seat) → IsIdle s → IsSeat S [] w s
unfolding session_call reads is_checked effect_of has_sent is_base_refused mem files base_worth
idle-seat S w s i = record {
  call_is = rw i.begun.call_is refl;
  call_made = rw i.begun.call_is tt;
  received = λ h. let k = rw i.begun.call_is at h in cc;
  reads_are = rw i.begun.no_reads refl;
  followed = rw i.begun.none_followed (λ k d l. absurd (omega arith));
  followed_some = rw (i.begun.none_followed, i.begun.no_reads) (omega arith);
  read_at_are = rw (i.begun.no_reads, i.begun.no_places) refl;
  read_before = rw i.begun.no_places (λ k d l. absurd (omega arith));
  checked_is = rw i.begun.unchecked refl;
  effect_is = rw i.begun.no_effect refl;
  effect_made = rw i.begun.no_effect tt;
  sent_is = rw i.begun.unsent refl;
  refused_is = rw i.begun.unrefused refl;
  memory_is = rw i.no_memory refl;
  memory_made = rw i.no_memory tt;
  base_is = rw i.no_base refl;
  base_worth_is = rw i.begun.base_worthless refl;
}

pub stands-none : (P : Policy) (S : Script) (j : Judge) → IsScript S → S.firstid < 2 ^ 64 → j.tasks.items ≡ [] → j.groups ≡ 0 → j.calls.rows.items ≡ [] → j.calls.first ≡ S.firstid → j.directories.rows.items ≡ [] → j.done.items ≡ []
    → length j.seats.items ≡ 17 → AreIdle j.seats.items → j.times.items ≡ replicate (length P.rules + 1) 0 → j.counts.calls ≡ 0 → j.counts.effects ≡ 0 → j.counts.answers ≡ 0 → Stands P S [] j
unfolding count_of nth_of done_by
stands-none P S j script fits tasks groups calls first directories done seats idle times c e a = record {
  script = script;
  history = record { of_kernel = tt; fits = omega arith };
  tasks_are = rw tasks refl;
  groups_are = groups;
  calls_are = rw calls refl;
  done_are = rw done refl;
  seats_are = seats;
  times_are = rw times (length-replicate {A = ℕ} (length P.rules + 1) 0);
  first_is = first;
  first_fits = fits;
  tasks = λ o d l. absurd (omega arith);
  calls = λ n d l. absurd (omega arith);
  done = λ n d l. absurd (omega arith);
  seats = λ w d l. idle-seat S w (get_or j.seats.items w d) (idle w d (omega arith));
  directories = λ g p d h. absurd (cc h);
  directories_made = rw directories (λ k d l. absurd (omega arith));
  times = λ i l. rw times (get_or-replicate (length P.rules + 1) i 0 0 (let k = length-replicate {A = ℕ} (length P.rules + 1) 0 in rw (times, k) at l));
  counts = record { calls_are = c; effects_are = e; answers_are = a };
}
