-- What one more line of the schedule keeps, and what the lines keep as turns.
-- By the laws of lists and of sums, by induction on the lines, and by cases on who steps and on what lines a worker has.
use Rattle.std.proofs.Common.{◌≡◌, ℕ, ◌+◌, ◌<◌, ◌≤◌, List, [], ◌∷◌, ◌++◌, length, Option, Some, None, refl, sym, ap, subst, ◌∙◌, inl, inr, arith, if◌then◌else◌}
use Rattle.std.specs.Prelude.{Bool, true, false, ◌⊎◌, nat_le, nat_lt, get_or, slice_set, sum_by}
use Rattle.std.specs.List.{cons_option, filter_map, list_all, list_any}
use Rattle.std.proofs.lemmas.Bool.{and_from, and_parts, cases_eq, eqb-true, ltb-false, ltb-true, or_cases}
use Rattle.std.proofs.lemmas.List.{append-nil, get_or-set_other, get_or-set_same, length-set}
use Rattle.std.proofs.lemmas.List.Elements.{filter_map-append}
use Rattle.std.proofs.lemmas.List.Folds.{list_all-append}
use Rattle.std.proofs.lemmas.List.Sums.{sum_by_push, sum_by-append, sum_by-cons}
use Rattle.hist_model.specs.Names.{is_task_name}
use Rattle.hist_model.specs.ScriptRules.{can_be_scheduled, steps_of}
use Rattle.hist_model.specs.declared.event.Actor.{Actor}
use Rattle.hist_model.specs.declared.event.Actor.TheVariants as actor
use Rattle.hist_model.specs.declared.script.Step.{Step}
use Rattle.step_requests.specs.declared.request.Asked.{Asked}
use Rattle.step_requests.specs.declared.request.Turn.{Turn}
use Rattle.step_requests.specs.declared.request.Turn.TheVariants as turn
use Rattle.step_requests.specs.Turns.{AreApart, asks, serves}
use Rattle.script_reader.specs.declared.schedule.WorkerLines.{WorkerLines}
use Rattle.script_reader.specs.declared.schedule.WorkerLines.TheVariants.{Counts, Requests}
use Rattle.script_reader.specs.Lists.{has_items}
use Rattle.script_reader.specs.Rules.{AreTurns, HasSchedule, is_as_others, is_turn, turn_steps}
use Rattle.script_reader.specs.Schedule.{ScheduleState, are_counts, are_requests, count_of, counts_fault, in_turns, request_fault, steps_fault, turn_by, turn_of, with_count, with_lines, with_request, with_task, with_turns, with_worker}
use Rattle.script_reader.proofs.Pushed.{all_more, all_weaker, none_first, none_then, not_large, not_wrong, refuted}

-- ---- steps as turns

turn-all : (who : Actor) (count : ℕ) (turns : List Turn) → can_be_scheduled who ≡ true → nat_le 1 count ≡ true → list_all is_turn turns ≡ true
    → list_all is_turn (cons_option (turn_by who count) turns) ≡ true
turn-all (actor.Task task) count turns named once h = and_from _ _ (and_from _ _ named once) h
turn-all (actor.Worker worker) count turns seated once h = and_from _ _ (and_from _ _ seated once) h
turn-all who count turns scheduled once h = h

turns-sound : (lines : List Step) → list_all (λ (s : Step). can_be_scheduled s.who) lines ≡ true → list_all (λ (s : Step). nat_le 1 s.count) lines ≡ true
    → list_all is_turn (filter_map turn_of lines) ≡ true
turns-sound [] scheduled counts = refl
turns-sound (step ∷ lines) scheduled counts =
    turn-all step.who step.count (filter_map turn_of lines) (and_parts _ _ scheduled).0 (and_parts _ _ counts).0
    (turns-sound lines (and_parts _ _ scheduled).1 (and_parts _ _ counts).1)

turn-few : (who : Actor) (count : ℕ) (turns : List Turn) (steps : ℕ) → sum_by turn_steps turns ≤ steps → sum_by turn_steps (cons_option (turn_by who count) turns) ≤ count + steps
turn-few (actor.Task task) count turns steps h = omega (arith, sum_by-cons turn_steps (turn.Steps task count) turns)
turn-few (actor.Worker worker) count turns steps h = omega (arith, sum_by-cons turn_steps (turn.Serves worker count) turns)
turn-few who count turns steps h = omega arith

turns-few : (lines : List Step) → sum_by turn_steps (filter_map turn_of lines) ≤ steps_of lines
turns-few [] = omega arith
turns-few (step ∷ lines) =
    let all : steps_of (step ∷ lines) ≡ step.count + steps_of lines = sum_by-cons (λ (s : Step). s.count) step lines in
    rw all (turn-few step.who step.count (filter_map turn_of lines) (steps_of lines) (turns-few lines))

-- ---- the lines of a worker

-- a worker that has no lines of another kind
abbrev TakesLines : WorkerLines → Option WorkerLines → Type 0
TakesLines lines found = (found ≡ None) ⊎ (found ≡ Some lines)

takes-counts : (found : Option WorkerLines) → are_requests found ≡ false → TakesLines Counts found
takes-counts None h = inl refl
takes-counts (Some Counts) h = inr refl
takes-counts (Some Requests) h = cc

takes-requests : (found : Option WorkerLines) → are_counts found ≡ false → TakesLines Requests found
takes-requests None h = inl refl
takes-requests (Some Requests) h = inr refl
takes-requests (Some Counts) h = cc

-- what a test says of the lines of some worker it says with these lines of one that takes them
still : (p : Option WorkerLines → Bool) (workers : List (Option WorkerLines)) (w : ℕ) (lines : WorkerLines) → p None ≡ false → w < length workers → TakesLines lines (get_or workers w None)
    → (v : ℕ) → p (get_or workers v None) ≡ true → p (get_or (slice_set workers w (Some lines)) v None) ≡ true
still p workers w lines none within takes v h = elim (cases_eq v w) [
  | inl same ↦ rw (same, get_or-set_same workers w (Some lines) None within) (by-found takes (rw same at h))
  | inr other ↦ rw (get_or-set_other workers w v (Some lines) None other) h
]
  where
    by-found : TakesLines lines (get_or workers w None) → p (get_or workers w None) ≡ true → p (Some lines) ≡ true
    by-found (inl free) g = absurd (let q : true ≡ false = sym g ∙ ap p free ∙ none in cc)
    by-found (inr alike) g = sym (ap p alike) ∙ g

still-alike : (workers : List (Option WorkerLines)) (w : ℕ) (lines : WorkerLines) → w < length workers → TakesLines lines (get_or workers w None)
    → (t : Turn) → is_as_others workers t ≡ true → is_as_others (slice_set workers w (Some lines)) t ≡ true
still-alike workers w lines within takes (turn.Steps task count) h = refl
still-alike workers w lines within takes (turn.Serves v count) h = still are_counts workers w lines refl within takes v h
still-alike workers w lines within takes (turn.Asks v asked) h = still are_requests workers w lines refl within takes v h

lines-kept : (S : ScheduleState) (w : ℕ) (lines : WorkerLines) → HasSchedule S → w < 16 → TakesLines lines (get_or S.workers w None) → HasSchedule (with_lines w lines S)
lines-kept S w lines h seated takes =
    let within : w < length S.workers = omega (arith, seated, h.workers) in
    record {
      counted = h.counted;
      few = h.few;
      scheduled = h.scheduled;
      counts = h.counts;
      turns = h.turns;
      workers = length-set S.workers w (Some lines) ∙ h.workers;
      alike = all_weaker (is_as_others S.workers) (is_as_others (slice_set S.workers w (Some lines))) (S.turns ++ filter_map turn_of S.lines)
          (still-alike S.workers w lines within takes) h.alike;
    }

-- the worker's lines are these now
marked : (S : ScheduleState) (w : ℕ) (lines : WorkerLines) → HasSchedule S → w < 16 → get_or (with_lines w lines S).workers w None ≡ Some lines
marked S w lines h seated = get_or-set_same S.workers w (Some lines) None (omega (arith, seated, h.workers))

-- ---- one more line

few-with : (S : ScheduleState) (more : ℕ) → steps_fault S more ≡ None → S.steps + more ≤ 200000
few-with S more fine = ltb-false 200000 (S.steps + more) (not_large _ fine)

-- of two lists that pass together each passes
passes : (p : Turn → Bool) (xs ys : List Turn) → list_all p (xs ++ ys) ≡ true → (list_all p xs ≡ true) × (list_all p ys ≡ true)
passes p xs ys h = and_parts _ _ (sym (list_all-append p xs ys) ∙ h)

together : (p : Turn → Bool) (xs ys : List Turn) → list_all p xs ≡ true → list_all p ys ≡ true → list_all p (xs ++ ys) ≡ true
together p xs ys h k = list_all-append p xs ys ∙ and_from _ _ h k

count-kept : (S : ScheduleState) (step : Step) → HasSchedule S → steps_fault S step.count ≡ None → can_be_scheduled step.who ≡ true → nat_le 1 step.count ≡ true
    → list_all (is_as_others S.workers) (cons_option (turn_of step) []) ≡ true → HasSchedule (with_count step S)
count-kept S step h fine scheduled once alike =
    let more : steps_of (S.lines ++ step ∷ []) ≡ steps_of S.lines + step.count = sum_by_push (λ (s : Step). s.count) S.lines step in
    let p : Turn → Bool = is_as_others S.workers in
    let above = passes p S.turns (filter_map turn_of S.lines) h.alike in
    let lines : list_all p (filter_map turn_of (S.lines ++ step ∷ [])) ≡ true =
    ap (list_all p) (filter_map-append turn_of S.lines (step ∷ [])) ∙ together p (filter_map turn_of S.lines) (cons_option (turn_of step) []) above.1 alike
    in
    record {
      counted = omega (arith, more, h.counted);
      few = few-with S step.count fine;
      scheduled = all_more (λ (s : Step). can_be_scheduled s.who) S.lines step h.scheduled scheduled;
      counts = all_more (λ (s : Step). nat_le 1 s.count) S.lines step h.counts once;
      turns = h.turns;
      workers = h.workers;
      alike = together p S.turns (filter_map turn_of (S.lines ++ step ∷ [])) above.0 lines;
    }

more-turns-kept : (S : ScheduleState) (more : List Turn) (count : ℕ) → HasSchedule S → steps_fault S count ≡ None → sum_by turn_steps more ≤ count → list_all is_turn more ≡ true
    → list_all (is_as_others S.workers) more ≡ true → HasSchedule (with_turns more count S)
more-turns-kept S more count h fine few sound alike =
    let all : sum_by turn_steps (S.turns ++ more) ≡ sum_by turn_steps S.turns + sum_by turn_steps more = sum_by-append turn_steps S.turns more in
    let p : Turn → Bool = is_as_others S.workers in
    let above = passes p S.turns (filter_map turn_of S.lines) h.alike in
    record {
      counted = omega (arith, all, few, h.counted);
      few = few-with S count fine;
      scheduled = h.scheduled;
      counts = h.counts;
      turns = together is_turn S.turns more h.turns sound;
      workers = h.workers;
      alike = together p (S.turns ++ more) (filter_map turn_of S.lines) (together p S.turns more above.0 alike) above.1;
    }

steps-either : (turned : Bool) (S : ScheduleState) (step : Step) → HasSchedule S → steps_fault S step.count ≡ None → can_be_scheduled step.who ≡ true → nat_le 1 step.count ≡ true
    → list_all (is_as_others S.workers) (cons_option (turn_of step) []) ≡ true
    → HasSchedule (if turned then with_turns (cons_option (turn_of step) []) step.count S else with_count step S)
steps-either true S step h fine scheduled once alike =
    let few = turn-few step.who step.count [] 0 (omega arith) in
    more-turns-kept S (cons_option (turn_of step) []) step.count h fine (omega (arith, few)) (turn-all step.who step.count [] scheduled once refl) alike
steps-either false S step h fine scheduled once alike = count-kept S step h fine scheduled once alike

pub task_kept : (S : ScheduleState) (task : List ℕ) (count : ℕ) → HasSchedule S → steps_fault S count ≡ None → is_task_name task ≡ true → nat_le 1 count ≡ true
    → HasSchedule (with_task task count S)
task_kept S task count h fine named once = steps-either (has_items S.turns) S (count_of (actor.Task task) count) h fine named once refl

pub worker_kept : (S : ScheduleState) (worker count : ℕ) → HasSchedule S → counts_fault S worker count ≡ None → nat_lt worker 16 ≡ true → nat_le 1 count ≡ true
    → HasSchedule (with_worker worker count S)
worker_kept S worker count h fine seated once =
    let low : worker < 16 = ltb-true worker 16 seated in
    let takes = takes-counts (get_or S.workers worker None) (not_wrong _ _ (none_first _ _ fine)) in
    steps-either (has_items S.turns) (with_lines worker Counts S) (count_of (actor.Worker worker) count) (lines-kept S worker Counts h low takes) (none_then _ _ fine) seated once
    (and_from _ _ (ap are_counts (marked S worker Counts h low)) refl)

turned-kept : (S : ScheduleState) → HasSchedule S → HasSchedule (in_turns S)
turned-kept S h =
    let all : sum_by turn_steps (S.turns ++ filter_map turn_of S.lines) ≡ sum_by turn_steps S.turns + sum_by turn_steps (filter_map turn_of S.lines) =
    sum_by-append turn_steps S.turns (filter_map turn_of S.lines)
    in
    record {
      counted = omega (arith, all, turns-few S.lines, h.counted);
      few = h.few;
      scheduled = refl;
      counts = refl;
      turns = together is_turn S.turns (filter_map turn_of S.lines) h.turns (turns-sound S.lines h.scheduled h.counts);
      workers = h.workers;
      alike = ap (list_all (is_as_others S.workers)) (append-nil (S.turns ++ filter_map turn_of S.lines)) ∙ h.alike;
    }

pub request_kept : (S : ScheduleState) (worker : ℕ) (asked : Asked) → HasSchedule S → request_fault S worker ≡ None → nat_lt worker 16 ≡ true → HasSchedule (with_request worker asked S)
request_kept S worker asked h fine seated =
    let low : worker < 16 = ltb-true worker 16 seated in
    let takes = takes-requests (get_or S.workers worker None) (not_wrong _ _ (none_first _ _ fine)) in
    more-turns-kept (in_turns (with_lines worker Requests S)) (turn.Asks worker asked ∷ []) 1 (turned-kept (with_lines worker Requests S) (lines-kept S worker Requests h low takes))
    (none_then _ _ fine) (omega (arith, sum_by-cons turn_steps (turn.Asks worker asked) [])) (and_from _ _ seated refl)
    (and_from _ _ (ap are_requests (marked S worker Requests h low)) refl)

-- ---- the whole schedule

-- a fact follows of lines of which all pass one test and some pass another
of-one : {C : Type 0} (p q : Turn → Bool) → ((t : Turn) → p t ≡ true → q t ≡ true → C) → (turns : List Turn) → list_all p turns ≡ true → list_any q turns ≡ true → C
of-one p q f [] all any = absurd (let e : false ≡ true = any in cc)
of-one p q f (t ∷ turns) all any = elim (or_cases (q t) (list_any q turns) any) [
  | inl here ↦ f t (and_parts _ _ all).0 here
  | inr behind ↦ of-one p q f turns (and_parts _ _ all).1 behind
]

counts-found : (workers : List (Option WorkerLines)) (w : ℕ) (t : Turn) → is_as_others workers t ≡ true → serves w t ≡ true → are_counts (get_or workers w None) ≡ true
counts-found workers w (turn.Serves v count) h s = subst (λ n. are_counts (get_or workers n None) ≡ true) (eqb-true v w s) h
counts-found workers w (turn.Steps task count) h s = cc
counts-found workers w (turn.Asks v asked) h s = cc

requests-found : (workers : List (Option WorkerLines)) (w : ℕ) (t : Turn) → is_as_others workers t ≡ true → asks w t ≡ true → are_requests (get_or workers w None) ≡ true
requests-found workers w (turn.Asks v asked) h s = subst (λ n. are_requests (get_or workers n None) ≡ true) (eqb-true v w s) h
requests-found workers w (turn.Steps task count) h s = cc
requests-found workers w (turn.Serves v count) h s = cc

not-both : (found : Option WorkerLines) → are_counts found ≡ true → are_requests found ≡ true → ⊥
not-both None c r = cc
not-both (Some Counts) c r = cc
not-both (Some Requests) c r = cc

apart : (workers : List (Option WorkerLines)) (turns : List Turn) → list_all (is_as_others workers) turns ≡ true → AreApart turns
apart workers turns alike w = refuted _ (λ both.
    let parts = and_parts (list_any (serves w) turns) (list_any (asks w) turns) both in
    not-both (get_or workers w None) (of-one (is_as_others workers) (serves w) (counts-found workers w) turns alike parts.0)
    (of-one (is_as_others workers) (asks w) (requests-found workers w) turns alike parts.1))

pub turns_made : (S : ScheduleState) → HasSchedule S → AreTurns S.turns
turns_made S h = record {
  each = h.turns;
  few = omega (arith, h.counted, h.few);
  apart = apart S.workers S.turns (passes (is_as_others S.workers) S.turns (filter_map turn_of S.lines) h.alike).0;
}

pub steps_made : (S : ScheduleState) → HasSchedule S → steps_of S.lines ≤ 200000
steps_made S h = omega (arith, h.counted, h.few)
