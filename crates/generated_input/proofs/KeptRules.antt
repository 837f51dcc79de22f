-- A generated script keeps the rules of scripts.
-- By computing where it is always the same, by cases on the fates of calls, and by the lemmas of `Each` and `ProgramTotals`.
use Rattle.std.proofs.Common.{◌≡◌, ℕ, zero, suc, ◌+◌, ◌<◌, ◌≤◌, List, [], ◌∷◌, ◌++◌, length, refl, arith, subst, length-append}
use Rattle.std.specs.Prelude.{Bool, true, not, nat_le}
use Rattle.std.specs.List.{list_all}
use Rattle.std.proofs.lemmas.Bool.{and_from, and_parts, eq-eqb, lt-ltb, le-leb}
use Rattle.std.proofs.lemmas.List.Sums.{sum_by-append}
use Rattle.hist_model.specs.Names.{is_task_name, is_child_number}
use Rattle.hist_model.specs.Filters.{fault_among}
use Rattle.hist_model.specs.Ranges.{are_mapped, bytes_mapped}
use Rattle.hist_model.specs.ScriptRules.{IsScript, can_be_scheduled, exits_last, is_accepted, is_call_number, is_instruction, start_earlier, starts_below, steps_of, stores_mapped}
use Rattle.hist_model.specs.Totals.{is_exit}
use Rattle.hist_model.specs.declared.script.FilterLine.{FilterLine}
use Rattle.hist_model.specs.declared.script.Instr.{Instr}
use Rattle.hist_model.specs.declared.script.MapRange.{MapRange}
use Rattle.hist_model.specs.declared.script.Step.{Step}
use Rattle.hist_model.specs.declared.script.TreeLine.{TreeLine}
use Rattle.generated_input.specs.declared.fate.Fate.{Fate}
use Rattle.generated_input.specs.declared.fate.Fate.TheVariants.{Granted, Denied, Passed, Informed, Killed}
use Rattle.generated_input.specs.GeneratedScript.{all_turns, answered, caller, callers, default_map, fate_of, first_program, first_steps, generated_script, listener_filter, number_of, of_each, path_address, path_of, programs_of, schedule_of, starts, turns}
use Rattle.generated_input.proofs.Each.{all_append, each_bounded, each_passes}
use Rattle.generated_input.proofs.ProgramTotals.{path_short, programs_few}

-- ---- a program starts only programs above it

caller-starts-nothing : (n from i : ℕ) → list_all (λ j. starts_below n j) (caller from i) ≡ true
caller-starts-nothing n from i = refl

starts-earlier : (n : ℕ) (fate : Fate) (i : ℕ) → i < n → list_all (λ j. starts_below n j) (starts fate i) ≡ true
starts-earlier n Killed i h = and_from _ _ (lt-ltb i n h) refl
starts-earlier n fate i h = and_from _ _ (lt-ltb i n h) refl

-- one program more
earlier-more : (n : ℕ) (above : List (List Instr)) (body : List Instr) → start_earlier n above ≡ true
    → list_all (λ i. starts_below (n + length above) i) body ≡ true → start_earlier n (above ++ body ∷ []) ≡ true
earlier-more n [] body h b =
    let e : n + 0 ≡ n = omega arith in
    and_from _ _ (subst (λ k. list_all (λ i. starts_below k i) body ≡ true) e b) refl
earlier-more n (p ∷ above) body h b =
    let e : n + length (p ∷ above) ≡ (n + 1) + length above = omega arith in
    and_from _ _ (and_parts _ _ h).0 (earlier-more (n + 1) above body (and_parts _ _ h).1 (subst (λ k. list_all (λ i. starts_below k i) body ≡ true) e b))

callers-earlier : (from count : ℕ) → start_earlier 0 (callers from count) ≡ true
unfolding of_each
callers-earlier from zero = refl
callers-earlier from (suc i) = earlier-more 0 (callers from i) (caller from i) (callers-earlier from i) (caller-starts-nothing (0 + length (callers from i)) from i)

callers-counted : (from count : ℕ) → length (callers from count) ≡ count
unfolding of_each
callers-counted from zero = refl
callers-counted from (suc i) = omega (arith, length-append (callers from i) (caller from i ∷ []), callers-counted from i)

first-earlier : (from count : ℕ) → list_all (λ j. starts_below count j) (first_program from count) ≡ true
first-earlier from count = each_passes (λ j. starts_below count j) (λ i. starts (fate_of from i) i) count (λ i below. starts-earlier count (fate_of from i) i below)

programs-earlier : (from count : ℕ) → start_earlier 0 (programs_of from count) ≡ true
programs-earlier from count =
    let e : count ≡ 0 + length (callers from count) = omega (arith, callers-counted from count) in
    earlier-more 0 (callers from count) (first_program from count) (callers-earlier from count)
    (subst (λ n. list_all (λ j. starts_below n j) (first_program from count) ≡ true) e (first-earlier from count))

-- ---- instructions

child-numbered : (i : ℕ) → i < 4000 → is_child_number (i + 1) ≡ true
child-numbered i h = and_from _ _ (le-leb 1 (i + 1) (omega arith)) (le-leb (i + 1) 100000 (omega (arith, h)))

-- each program passes a test, where those of calls do and the first task's does
programs-pass : (test : List Instr → Bool) (from count : ℕ) → ((i : ℕ) → i < count → test (caller from i) ≡ true) → test (first_program from count) ≡ true
    → list_all test (programs_of from count) ≡ true
programs-pass test from count callers first =
    all_append test (of_each (λ i. caller from i ∷ []) count) (first_program from count ∷ [])
    (each_passes test (λ i. caller from i ∷ []) count (λ i below. and_from _ _ (callers i below) refl)) (and_from _ _ first refl)

-- each instruction of the first task passes a test, where those for each call do
first-passes : (test : Instr → Bool) (from count : ℕ) → ((i : ℕ) → i < count → list_all test (starts (fate_of from i) i) ≡ true)
    → list_all test (first_program from count) ≡ true
first-passes test from count each = each_passes test (λ i. starts (fate_of from i) i) count each

call-numbered : (fate : Fate) → is_call_number (number_of fate) ≡ true
call-numbered Informed = refl
call-numbered fate = refl

caller-instructions : (from i : ℕ) → i < 4000 → list_all is_instruction (caller from i) ≡ true
caller-instructions from i h =
    let short = path_short i h in
    let one : nat_le 1 (length (path_of i)) ≡ true = le-leb 1 (length (path_of i)) (omega arith) in
    let most : nat_le (length (path_of i)) 65536 ≡ true = le-leb (length (path_of i)) 65536 (omega (arith, short)) in
    and_from _ _ (and_from _ _ one most) (and_from _ _ (call-numbered (fate_of from i)) refl)

starts-instructions : (fate : Fate) (i : ℕ) → i < 4000 → list_all is_instruction (starts fate i) ≡ true
starts-instructions Killed i h = and_from _ _ (and_from _ _ (child-numbered i h) refl) refl
starts-instructions fate i h = refl

programs-instructions : (from count : ℕ) → count ≤ 4000 → list_all (list_all is_instruction) (programs_of from count) ≡ true
programs-instructions from count h =
    programs-pass (list_all is_instruction) from count (λ i below. caller-instructions from i (omega (arith, h, below)))
    (first-passes is_instruction from count (λ i below. starts-instructions (fate_of from i) i (omega (arith, h, below))))

-- ---- what is stored is mapped

mapped-from-start : (n : ℕ) → n ≤ 65536 → are_mapped default_map path_address n ≡ true
mapped-from-start n h =
    let e : bytes_mapped default_map path_address (path_address + n) ≡ n = omega (arith, h) in
    eq-eqb (bytes_mapped default_map path_address (path_address + n)) n e

caller-mapped : (from i : ℕ) → i < 4000 → list_all (stores_mapped default_map) (caller from i) ≡ true
caller-mapped from i h =
    let short = path_short i h in
    and_from _ _ (mapped-from-start (length (path_of i)) (omega (arith, short))) refl

starts-mapped : (fate : Fate) (i : ℕ) → list_all (stores_mapped default_map) (starts fate i) ≡ true
starts-mapped Killed i = refl
starts-mapped fate i = refl

programs-mapped : (from count : ℕ) → count ≤ 4000 → list_all (list_all (stores_mapped default_map)) (programs_of from count) ≡ true
programs-mapped from count h =
    programs-pass (list_all (stores_mapped default_map)) from count (λ i below. caller-mapped from i (omega (arith, h, below)))
    (first-passes (stores_mapped default_map) from count (λ i below. starts-mapped (fate_of from i) i))

-- ---- no program has an `exit`

exits-nowhere : (body : List Instr) → list_all (λ i. not (is_exit i)) body ≡ true → exits_last body ≡ true
exits-nowhere [] h = refl
exits-nowhere (i ∷ body) h =
    let none : not (is_exit i) ≡ true = (and_parts _ _ h).0 in
    and_from _ _ (rw none refl) (exits-nowhere body (and_parts _ _ h).1)

starts-no-exit : (fate : Fate) (i : ℕ) → list_all (λ j. not (is_exit j)) (starts fate i) ≡ true
starts-no-exit Killed i = refl
starts-no-exit fate i = refl

programs-exit-last : (from count : ℕ) → list_all exits_last (programs_of from count) ≡ true
programs-exit-last from count =
    programs-pass exits_last from count (λ i below. refl)
    (exits-nowhere (first_program from count) (first-passes (λ j. not (is_exit j)) from count (λ i below. starts-no-exit (fate_of from i) i)))

-- ---- how many programs

programs-counted : (from count : ℕ) → length (programs_of from count) ≡ count + 1
programs-counted from count = omega (arith, length-append (callers from count) (first_program from count ∷ []), callers-counted from count)

-- ---- the schedule

caller-named : (i : ℕ) → i < 4000 → is_task_name (0 ∷ (i + 1) ∷ []) ≡ true
caller-named i h = and_from _ _ (child-numbered i h) refl

answered-scheduled : (i deeds steps : ℕ) → i < 4000 → list_all (λ (s : Step). can_be_scheduled s.who) (answered i deeds steps) ≡ true
answered-scheduled i deeds steps h = and_from _ _ (caller-named i h) (and_from _ _ (caller-named i h) refl)

turns-scheduled : (fate : Fate) (i : ℕ) → i < 4000 → list_all (λ (s : Step). can_be_scheduled s.who) (turns fate i) ≡ true
turns-scheduled Granted i h = answered-scheduled i 9 2 h
turns-scheduled Denied i h = answered-scheduled i 8 2 h
turns-scheduled Passed i h = answered-scheduled i 8 3 h
turns-scheduled Informed i h = answered-scheduled i 7 2 h
turns-scheduled Killed i h = and_from _ _ (caller-named i h) (and_from _ _ (caller-named i h) refl)

schedule-scheduled : (from count : ℕ) → count ≤ 4000 → list_all (λ (s : Step). can_be_scheduled s.who) (schedule_of from count) ≡ true
schedule-scheduled from count h =
    all_append (λ (s : Step). can_be_scheduled s.who) (all_turns from count) (first_steps 1 ∷ [])
    (each_passes (λ (s : Step). can_be_scheduled s.who) (λ i. turns (fate_of from i) i) count (λ i below. turns-scheduled (fate_of from i) i (omega (arith, h, below)))) refl

turns-counted : (fate : Fate) (i : ℕ) → list_all (λ (s : Step). nat_le 1 s.count) (turns fate i) ≡ true
turns-counted Granted i = refl
turns-counted Denied i = refl
turns-counted Passed i = refl
turns-counted Informed i = refl
turns-counted Killed i = refl

schedule-counted : (from count : ℕ) → list_all (λ (s : Step). nat_le 1 s.count) (schedule_of from count) ≡ true
schedule-counted from count =
    all_append (λ (s : Step). nat_le 1 s.count) (all_turns from count) (first_steps 1 ∷ [])
    (each_passes (λ (s : Step). nat_le 1 s.count) (λ i. turns (fate_of from i) i) count (λ i below. turns-counted (fate_of from i) i)) refl

turns-few : (fate : Fate) (i : ℕ) → steps_of (turns fate i) ≤ 15
turns-few Granted i = omega arith
turns-few Denied i = omega arith
turns-few Passed i = omega arith
turns-few Informed i = omega arith
turns-few Killed i = omega arith

schedule-few : (from count : ℕ) → count ≤ 4000 → steps_of (schedule_of from count) ≤ 200000
schedule-few from count h =
    omega (
      arith,
      h,
      sum_by-append (λ (s : Step). s.count) (all_turns from count) (first_steps 1 ∷ []),
      each_bounded (λ (s : Step). s.count) (λ i. turns (fate_of from i) i) 15 count (λ i. turns-few (fate_of from i) i),
    )

-- ---- the script

filter-accepted : list_all is_accepted (listener_filter ∷ []) ≡ true
unfolding fault_among
filter-accepted = refl

pub script_kept : (from count : ℕ) → count ≤ 4000 → IsScript (generated_script from count)
script_kept from count h =
    let number = programs-counted from count in
    record {
      numbers = omega arith;
      pids = omega arith;
      rlimit = omega arith;
      memory = omega arith;
      swap = omega arith;
      tree = refl;
      names = refl;
      paths = refl;
      few_lines = omega arith;
      root = refl;
      descriptors = refl;
      once = refl;
      few_descriptors = omega arith;
      map = refl;
      apart = refl;
      some_page = omega arith;
      few_pages = omega arith;
      filters = filter-accepted;
      few_filters = omega arith;
      listener = omega arith;
      killable = refl;
      some_program = omega (arith, number);
      few_programs = omega (arith, number, h);
      programs = programs-earlier from count;
      instructions = programs-instructions from count h;
      mapped = programs-mapped from count h;
      exits = programs-exit-last from count;
      totals = programs_few from count h;
      schedule = schedule-scheduled from count h;
      counts = schedule-counted from count;
      steps = schedule-few from count h;
    }

-- so does what is made of lists that are these
pub made_kept : (from count : ℕ) (tree : List TreeLine) (broker : List ℕ) (map : List MapRange) (filters : List FilterLine) (programs : List (List Instr)) (schedule : List Step)
    → count ≤ 4000 → tree ≡ [] → broker ≡ [] → map ≡ default_map → filters ≡ listener_filter ∷ [] → programs ≡ programs_of from count → schedule ≡ schedule_of from count
    → IsScript (record (generated_script from count) { tree = tree; broker = broker; map = map; filters = filters; programs = programs; schedule = schedule })
made_kept from count tree broker map filters programs schedule h t b m f p s = rw (t, b, m, f, p, s) (script_kept from count h)
