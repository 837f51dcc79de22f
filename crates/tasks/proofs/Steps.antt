-- The row of a task after an event: its own step, another's, and the row of a task that is made.
-- Field by field, by the lemmas of `Frames`, `Places`, `Sending` and `Named`.
use Rattle.std.proofs.Common.{◌≡◌, ℕ, ◌+◌, Bool, true, false, ◌&&◌, ◌||◌, not, List, ◌∷◌, Some, refl, sym, ap, ◌∙◌, subst, arith}
use Rattle.std.specs.Prelude.{if◌then◌else◌}
use Rattle.hist_model.specs.Look.{Name, name_eq, is_task, ev}
use Rattle.hist_model.specs.Kinds.{ends, skips, owes}
use Rattle.hist_model.specs.Legal.{system_of}
use Rattle.hist_model.specs.Memory.{last_call}
use Rattle.hist_model.specs.Programs.{program, program_at}
use Rattle.hist_model.specs.Steps.{counts, recounts, is_spawn, pid_named}
use Rattle.hist_model.specs.Tasks.{ended, was_waited_for, has_parent, parent, child_of, reaps, is_made}
use Rattle.hist_model.specs.declared.event.Actor.{Actor}
use Rattle.hist_model.specs.declared.event.Actor.TheVariants.{Task}
use Rattle.hist_model.specs.declared.event.Event.{Event}
use Rattle.hist_model.specs.declared.event.Disposition.{Disposition}
use Rattle.hist_model.specs.declared.event.What.{What}
use Rattle.hist_model.specs.declared.script.Script.{Script}
use Rattle.hist_model.proofs.Look.{name_eq-refl}
use Rattle.history_frames.proofs.Groups.{group-stays, group-named-kept}
use Rattle.sys_abi.specs.Signals.{sigkill, sigusr1, sigusr2, sigterm}
use Rattle.tasks.specs.Sets.{dispositions_of}
use Rattle.tasks.specs.declared.signals.BySignal.{BySignal}
use Rattle.tasks.specs.State.{Row, touched, stepped, new_row, call_after, entered_after, modes_after}
use Rattle.tasks.specs.Fold.{IsRow, IsGroupOf, IsEntry, id_at}
use Rattle.tasks.specs.Sound.{IsSound, IsUntouched}
use Rattle.tasks.proofs.Named.{pid-stays}
use Rattle.tasks.proofs.Frames.{Leaves, steps-left, owes-left, ended-left, last-left, call_id-left, steps-own, owes-own, ended-own, last-own, call-own}
use Rattle.tasks.proofs.StepFacts.{Facts}
use Rattle.tasks.proofs.Started.{started-none}
use Rattle.tasks.proofs.Places.{recounts-below, starts-own, behind-own, facts-close, entry-own}
use Rattle.tasks.proofs.Sending.{pending-other, pending-own, modes-other, modes-own}

-- the group of a task that was made stays its own
pub group-is-kept : (e : Event) (K : List Event) (n : Name) (o : ℕ) → IsGroupOf K n o → IsGroupOf (e ∷ K) n o
group-is-kept e K n o h = (h.0, group-stays e K o h.0 h.1, group-named-kept e K n h.0 h.2)

-- its parent has waited for it, or lives
waited-more : (e : Event) (K : List Event) (n : Name) (b : Bool) → b ≡ was_waited_for K n → (reaps e.what n || b) ≡ was_waited_for (e ∷ K) n
unfolding was_waited_for
waited-more e K n b h = ap (λ x. reaps e.what n || x) h

fostered-more : (e : Event) (K : List Event) (n : Name) (b : Bool) → b ≡ (has_parent n && not (ended K (parent n)))
    → (not (ends e.what && is_task e.who (parent n)) && b) ≡ (has_parent n && not (ended (e ∷ K) (parent n)))
unfolding ended
fostered-more e K n b h = ap (λ x. not (ends e.what && is_task e.who (parent n)) && x) h ∙ turned (ends e.what && is_task e.who (parent n)) (has_parent n) (ended K (parent n))
  where
    turned : (a b c : Bool) → (not a && (b && not c)) ≡ (b && not (a || c))
    turned a b c = grind arith

module _ (S : Script) (K : List Event) (Y : IsSound K) (r : Row) (i : IsRow S K r.name r) (m : is_made K r.name ≡ true) where
  -- another's step
  pub row-other : (a : Actor) (w : What) → is_task a r.name ≡ false → Leaves (ev a w) r.name → name_eq (child_of w) r.name ≡ false → IsRow S (ev a w ∷ K) r.name (touched a w r)
  row-other a w h l c =
      let n = r.name in
      let e = ev a w in
      record {
        pid_is = i.pid_is ∙ sym (pid-stays e K n m);
        group_is = group-is-kept e K n r.group i.group_is;
        program_is = i.program_is;
        next_is = omega (arith, i.next_is, steps-left counts refl e K n l, steps-left recounts refl e K n l);
        starts_are = i.starts_are ∙ sym (steps-left is_spawn refl e K n l);
        spawns_is = i.spawns_is ∙ sym (steps-left is_spawn refl e K n l);
        call_is = i.call_is ∙ sym (call_id-left e K n l);
        entered_is = subst (λ x. IsEntry r.entered x) (sym (last-left e K n l)) i.entered_is;
        owes_is = i.owes_is ∙ sym (owes-left e K n l);
        behind_call = i.behind_call;
        ended_is = i.ended_is ∙ sym (ended-left e K n l);
        waited_is = waited-more e K n r.waited i.waited_is;
        fostered_is = fostered-more e K n r.fostered i.fostered_is;
        pending_is = pending-other S K Y r i m a w h;
        dispositions_is = i.dispositions_is ∙ modes-other K a w n h c;
      }

  -- its own
  pub row-own : (w : What) → Facts (system_of S) K r.name w → name_eq (child_of w) r.name ≡ false → IsRow S (ev (Task r.name) w ∷ K) r.name (touched (Task r.name) w (stepped w r))
  row-own w f c =
      let n = r.name in
      let e = ev (Task n) w in
      let own : is_task (Task n) n ≡ true = name_eq-refl n in
      record {
        pid_is = i.pid_is ∙ sym (pid-stays e K n m);
        group_is = group-is-kept e K n r.group i.group_is;
        program_is = i.program_is;
        next_is = omega (arith, i.next_is, recounts-below S K n r i w f, steps-own e K n own counts, steps-own e K n own recounts);
        starts_are = starts-own S K n r i w f ∙ (ap (λ x. x + is_spawn w) i.starts_are ∙ sym (steps-own e K n own is_spawn));
        spawns_is = ap (λ x. x + is_spawn w) i.spawns_is ∙ sym (steps-own e K n own is_spawn);
        call_is = ap (call_after w) i.call_is ∙ sym (call-own K n w (facts-close S K n w f));
        entered_is = subst (λ x. IsEntry (entered_after w r.entered) x) (sym (last-own e K n own)) (entry-own w (last_call K n) r.entered i.entered_is);
        owes_is = ap (λ x. if skips w then x else owes w) i.owes_is ∙ sym (owes-own e K n own);
        behind_call = λ h. behind-own S K n r i w f h;
        ended_is = ap (λ x. ends w || x) i.ended_is ∙ sym (ended-own e K n own);
        waited_is = waited-more e K n r.waited i.waited_is;
        fostered_is = fostered-more e K n r.fostered i.fostered_is;
        pending_is = pending-own S K Y r i m (Task n) w own;
        dispositions_is = ap (λ x. modes_after w x) i.dispositions_is ∙ modes-own K (Task n) w n own c;
      }

-- a task to which nothing has happened, with its number, group, program, parent and dispositions
pub row-new : (S : Script) (K : List Event) (n : Name) (pid g p : ℕ) (dispositions : BySignal Disposition) → IsUntouched K n → pid_named K n ≡ pid → IsGroupOf K n g → program S n ≡ program_at S.programs (Some p)
    → (has_parent n ≡ true → ended K (parent n) ≡ false) → dispositions ≡ dispositions_of K n → IsRow S K n (new_row n pid g p dispositions)
row-new S K n pid g p dispositions u d h q f o = record {
  pid_is = sym d;
  group_is = h;
  program_is = q;
  next_is = omega (arith, u.no_counts, u.no_recounts);
  starts_are = started-none (program S n) ∙ sym u.no_spawns;
  spawns_is = sym u.no_spawns;
  call_is = sym (ap (id_at K) u.no_call);
  entered_is = u.no_entry;
  owes_is = sym u.no_debt;
  behind_call = λ b. cc;
  ended_is = sym u.no_end;
  waited_is = sym u.no_wait;
  fostered_is = fosters (has_parent n) (ended K (parent n)) f;
  pending_is = let z = u.no_signal in rw (z sigkill, z sigusr1, z sigusr2, z sigterm);
  dispositions_is = o;
}
  where
    fosters : (a b : Bool) → (a ≡ true → b ≡ false) → a ≡ (a && not b)
    fosters true b h = let q = h refl in rw q
    fosters false b h = refl
