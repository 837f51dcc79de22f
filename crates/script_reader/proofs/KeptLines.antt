-- Lines that are accepted keep the rules of a script, and what they make is one that keeps them.
-- By cases on the statement, of which each changes its part alone, and on the section where it stands.
use Rattle.std.proofs.Common.{◌≡◌, ℕ, ◌+◌, ◌<◌, ◌≤◌, List, [], ◌∷◌, ◌++◌, length, Option, Some, None, refl, ap, sym, subst, ◌∙◌, inl, inr, arith, bytes_eq, if◌then◌else◌, unwrap_or}
use Rattle.std.specs.Prelude.{Bool, true, false, ◌&&◌, not, nat_le, is_some}
use Rattle.std.specs.List.{list_all}
use Rattle.std.proofs.lemmas.Bool.{and_from, and_parts, both_ways, cases_Bool, leb-true, ltb-false, not-false, not_from_false}
use Rattle.std.proofs.lemmas.List.Sums.{sum_by-cons}
use Rattle.std.specs.Cmp.Lexicographic.{bytes_decides}
use Rattle.bpf_filter.proofs.Notifies.{notify_is_accepted}
use Rattle.hist_model.specs.Filters.{notify_filter}
use Rattle.hist_model.specs.Records.{ScriptRecord}
use Rattle.hist_model.specs.Ranges.{is_page_address, is_range, pages_of}
use Rattle.hist_model.specs.ScriptRules.{IsScript, has_flag_listener, is_accepted, stores_mapped}
use Rattle.hist_model.specs.Totals.{are_too_many, is_exit}
use Rattle.hist_model.specs.TreeLines.{is_stated_directory, nodes_of, root_alone}
use Rattle.hist_model.specs.declared.script.FilterLine.{FilterLine}
use Rattle.hist_model.specs.declared.script.Instr.{Instr}
use Rattle.hist_model.specs.declared.script.MapRange.{MapRange}
use Rattle.lex_core.specs.declared.reason.Reason.TheVariants.{Unmapped}
use Rattle.script_reader.specs.declared.file.ScriptFile.{ScriptFile}
use Rattle.script_reader.specs.declared.settings.Limits.{Limits}
use Rattle.script_reader.specs.declared.settings.Settings.{Settings}
use Rattle.script_reader.specs.declared.statement.Statement.{Statement}
use Rattle.script_reader.specs.declared.statement.Statement.TheVariants as states
use Rattle.script_reader.specs.declared.word.Section.{Section}
use Rattle.script_reader.specs.declared.word.Section.TheVariants as section
use Rattle.script_reader.specs.Faults.{wrong_if}
use Rattle.script_reader.specs.Above.{Above, close_block, end_fault, nothing_above, section_after, set, statement_fault, with_statement}
use Rattle.script_reader.specs.Blocks.{FiltersState, filter_line, has_listener, with_insn}
use Rattle.script_reader.specs.Programs.{ProgramsState, open_program, starting, with_instr, with_start}
use Rattle.script_reader.specs.Ranges.{in_force}
use Rattle.script_reader.specs.Rules.{AreTurns, FitsSection, HasNoPrograms, HasNumbers, HasPrograms, HasRanges, HasSchedule, IsKept, IsSound, bytes_of_path, has_length, has_pages, is_found, is_sound_instruction, limits_or_none}
use Rattle.script_reader.specs.Schedule.{ScheduleState}
use Rattle.script_reader.specs.Scripts.{file_of, has_items, script_of}
use Rattle.script_reader.specs.Settings.{with_group}
use Rattle.script_reader.specs.Paths.{root_path}
use Rattle.script_reader.specs.Tree.{bare_tree, found_node, is_stated, node_ref}
use Rattle.script_reader.specs.Words.{among_settings, in_program}
use Rattle.script_reader.proofs.Pushed.{any_last, none_more, none_first, none_then, not_full, not_wrong}
use Rattle.script_reader.proofs.KeptRules.{attr_kept, descriptors_kept, directory_found, directory_kept, exit_last, exits_nowhere, filters_kept, flag_kept, instruction_kept, node_kept, program_kept, ranges_kept, start_kept, starts_low}
use Rattle.script_reader.proofs.KeptSchedule.{request_kept, steps_made, task_kept, turns_made, worker_kept}

-- ---- single settings

settings-kept : (A : Above) (s : Settings) → IsKept A → HasNumbers s.pidmax s.pidbase s.rlimit s.limits
    → is_stated_directory (nodes_of A.tree.lines) (unwrap_or s.root (node_ref 0)) ≡ true → has_flag_listener s.killable A.filters.closed ≡ true → IsKept (set s A)
settings-kept A s k numbers root killable = record {
  settings = numbers;
  tree = k.tree;
  root = root;
  descriptors = k.descriptors;
  map = k.map;
  filters = k.filters;
  killable = killable;
  programs = k.programs;
  schedule = k.schedule;
  block = k.block;
}

no-base : (base : Option ℕ) → is_some base ≡ false → unwrap_or base 0 ≡ 0
no-base None h = refl
no-base (Some n) h = cc

smaller : (memory swap : ℕ) (limits : Option Limits)
    → (limits_or_none limits).memory ≤ (limits_or_none limits).host_memory → (limits_or_none limits).swap ≤ (limits_or_none limits).host_swap
    → ((with_group memory swap limits).memory ≤ (with_group memory swap limits).host_memory) × ((with_group memory swap limits).swap ≤ (with_group memory swap limits).host_swap)
smaller memory swap None m s = (omega arith, omega arith)
smaller memory swap (Some limits) m s = (omega arith, omega arith)

-- ---- parts

no-programs : (p : Section) (F : FiltersState) (P : ProgramsState) → among_settings p ≡ true → FitsSection p F P → HasNoPrograms P
no-programs section.Settings F P s h = h
no-programs section.Filter F P s h = cc
no-programs section.Program F P s h = cc
no-programs section.Exited F P s h = cc
no-programs section.Programs F P s h = cc
no-programs section.Schedule F P s h = cc
no-programs section.Over F P s h = cc

fits-settings : (p : Section) (F : FiltersState) (P : ProgramsState) → among_settings p ≡ true → HasNoPrograms P → FitsSection p F P
fits-settings section.Settings F P s h = h
fits-settings section.Filter F P s h = cc
fits-settings section.Program F P s h = cc
fits-settings section.Exited F P s h = cc
fits-settings section.Programs F P s h = tt
fits-settings section.Schedule F P s h = tt
fits-settings section.Over F P s h = tt

fits-insn : (p : Section) (F G : FiltersState) (P : ProgramsState) → G.closed ≡ F.closed → G.listener ≡ F.listener → FitsSection p F P → FitsSection p G P
fits-insn section.Settings F G P c l h = h
fits-insn section.Filter F G P c l h = rw (c, l) h
fits-insn section.Program F G P c l h = h
fits-insn section.Exited F G P c l h = h
fits-insn section.Programs F G P c l h = tt
fits-insn section.Schedule F G P c l h = tt
fits-insn section.Over F G P c l h = tt

exit-fits : (exit : Bool) (F : FiltersState) (P : ProgramsState) (i : Instr) → is_exit i ≡ exit → FitsSection section.Program F P → FitsSection (section_after exit section.Program) F (with_instr i P)
exit-fits true F P i e h = (any_last is_exit P.body i e, exit_last P.body i h.0, h.1)
exit-fits false F P i e h = (none_more is_exit P.body i h.0 e, h.1)

does-fits : (p : Section) (F : FiltersState) (P : ProgramsState) (i : Instr) → in_program p ≡ true → FitsSection p F P → FitsSection (section_after (is_exit i) p) F (with_instr i P)
does-fits section.Program F P i s h = exit-fits (is_exit i) F P i refl h
does-fits section.Settings F P i s h = cc
does-fits section.Filter F P i s h = cc
does-fits section.Exited F P i s h = cc
does-fits section.Programs F P i s h = cc
does-fits section.Schedule F P i s h = cc
does-fits section.Over F P i s h = cc

starts-no-exit : (thread : Bool) (place : ℕ) → is_exit (starting thread place) ≡ false
starts-no-exit true place = refl
starts-no-exit false place = refl

starts-fits : (p : Section) (F : FiltersState) (P : ProgramsState) (thread : Bool) (name : List ℕ) → in_program p ≡ true → FitsSection p F P → FitsSection p F (with_start thread name P)
starts-fits section.Program F P thread name s h = (none_more is_exit P.body _ h.0 (starts-no-exit thread _), h.1)
starts-fits section.Settings F P thread name s h = cc
starts-fits section.Filter F P thread name s h = cc
starts-fits section.Exited F P thread name s h = cc
starts-fits section.Programs F P thread name s h = cc
starts-fits section.Schedule F P thread name s h = cc
starts-fits section.Over F P thread name s h = cc

-- ---- one more statement

filter-kept : (p : Section) (A : Above) (f : FilterLine) → IsKept A → is_accepted f ≡ true → length A.filters.closed < 16
    → (f.listener && has_listener A.filters) ≡ false → HasNoPrograms A.programs → (G : FiltersState) → G.closed ≡ A.filters.closed ++ f ∷ []
    → FitsSection p G A.programs → IsKept (record A { section = p; filters = G })
filter-kept p A f k accepted few alone none G e fits = record {
  settings = k.settings;
  tree = k.tree;
  root = k.root;
  descriptors = k.descriptors;
  map = k.map;
  filters = rw e (filters_kept A.filters.closed f k.filters accepted few alone);
  killable = rw e (flag_kept A.settings.killable A.filters.closed f k.killable);
  programs = k.programs;
  schedule = k.schedule;
  block = fits;
}

programs-kept : (p : Section) (A : Above) (P : ProgramsState) → IsKept A → HasPrograms (in_force A.map) P → FitsSection p A.filters P → IsKept (record A { section = p; programs = P })
programs-kept p A P k programs fits = record {
  settings = k.settings;
  tree = k.tree;
  root = k.root;
  descriptors = k.descriptors;
  map = k.map;
  filters = k.filters;
  killable = k.killable;
  programs = programs;
  schedule = k.schedule;
  block = fits;
}

scheduled-kept : (A : Above) (S : ScheduleState) → IsKept A → HasSchedule S → IsKept (record A { schedule = S })
scheduled-kept A S k schedule = record {
  settings = k.settings;
  tree = k.tree;
  root = k.root;
  descriptors = k.descriptors;
  map = k.map;
  filters = k.filters;
  killable = k.killable;
  programs = k.programs;
  schedule = schedule;
  block = k.block;
}

opened : (map : List MapRange) (P : ProgramsState) (name : List ℕ) → HasPrograms map P → HasPrograms map (open_program name P)
opened map P name h = record {
  earlier = h.earlier;
  instructions = h.instructions;
  mapped = h.mapped;
  exits = h.exits;
  few = h.few;
  counted = h.counted;
  totals = h.totals;
  current = refl;
  named = h.named;
}

-- without programs any map will do
remapped : (map other : List MapRange) (P : ProgramsState) → HasPrograms map P → HasNoPrograms P → HasPrograms other P
remapped map other P h none = record {
  earlier = h.earlier;
  instructions = h.instructions;
  mapped = subst (λ bodies. list_all (list_all (stores_mapped other)) bodies ≡ true) (sym none.0) refl;
  exits = h.exits;
  few = h.few;
  counted = h.counted;
  totals = h.totals;
  current = subst (λ body. list_all (is_sound_instruction other (length P.bodies)) body ≡ true) (sym none.1) refl;
  named = h.named;
}

end-kept : (p : Section) (A : Above) → IsKept A → FitsSection p A.filters A.programs → end_fault p A ≡ None → IsKept (close_block p A)
end-kept section.Filter A k fits fine =
    filter-kept section.Settings A (filter_line A.filters.insns A.filters.listener) k (not_from_false _ (not_wrong _ _ fine)) fits.1 fits.2 fits.0 _ refl fits.0
end-kept section.Program A k fits fine =
    programs-kept section.Programs A _ k (program_kept (in_force A.map) false A.programs k.programs fits.0 (exits_nowhere A.programs.body fits.0) fits.1 fine) tt
end-kept section.Exited A k fits fine =
    programs-kept section.Programs A _ k (program_kept (in_force A.map) true A.programs k.programs fits.0 fits.1 fits.2 fine) tt
end-kept section.Schedule A k fits fine = programs-kept section.Over A A.programs k k.programs tt
end-kept section.Settings A k fits fine = k
end-kept section.Programs A k fits fine = k
end-kept section.Over A k fits fine = k

instr-mapped : (map : List MapRange) (i : Instr) → wrong_if (not (stores_mapped map i)) Unmapped ≡ None → stores_mapped map i ≡ true
instr-mapped map i h = not-false _ (not_wrong _ _ h)

statement-kept : (s : Statement) (A : Above) → IsKept A → IsSound A.section (is_some A.settings.pidbase) s → statement_fault s A ≡ None → IsKept (with_statement s A)
statement-kept (states.Pidmax n) A k sound fine =
    let none : unwrap_or A.settings.pidbase 0 ≡ 0 = no-base _ sound.0 in
    settings-kept A _ k (record { numbers = sound.1; pids = omega (arith, none, sound.2); rlimit = k.settings.rlimit; memory = k.settings.memory; swap = k.settings.swap }) k.root k.killable
statement-kept (states.Pidbase n) A k sound fine =
    settings-kept A _ k (record { numbers = k.settings.numbers; pids = ltb-false _ _ (not_wrong _ _ (none_first _ _ fine)); rlimit = k.settings.rlimit; memory = k.settings.memory; swap = k.settings.swap }) k.root k.killable
statement-kept (states.Firstid n) A k sound fine = settings-kept A _ k k.settings k.root k.killable
statement-kept (states.Rlimit n) A k sound fine =
    settings-kept A _ k (record { numbers = k.settings.numbers; pids = k.settings.pids; rlimit = sound; memory = k.settings.memory; swap = k.settings.swap }) k.root k.killable
statement-kept states.Killable A k sound fine = settings-kept A _ k k.settings k.root (not-false _ (not_wrong _ _ (none_then _ _ fine)))
statement-kept (states.Node path kind) A k sound fine = record {
  settings = k.settings;
  tree = node_kept A.tree path kind k.tree fine sound.0 sound.1;
  root = directory_kept A.tree.lines _ _ k.root;
  descriptors = k.descriptors;
  map = k.map;
  filters = k.filters;
  killable = k.killable;
  programs = k.programs;
  schedule = k.schedule;
  block = k.block;
}
statement-kept (states.Attr path name value) A k sound fine = record {
  settings = k.settings;
  tree = attr_kept A.tree path name value k.tree fine sound.0 sound.1;
  root = directory_kept A.tree.lines _ _ k.root;
  descriptors = k.descriptors;
  map = k.map;
  filters = k.filters;
  killable = k.killable;
  programs = k.programs;
  schedule = k.schedule;
  block = k.block;
}
statement-kept (states.Root path) A k sound fine =
    settings-kept A _ k k.settings (directory_found A.tree path k.tree (not-false _ (not_wrong _ _ (none_first _ _ fine)))) k.killable
statement-kept (states.Broker n) A k sound fine = record {
  settings = k.settings;
  tree = k.tree;
  root = k.root;
  descriptors = descriptors_kept A.broker n k.descriptors fine sound;
  map = k.map;
  filters = k.filters;
  killable = k.killable;
  programs = k.programs;
  schedule = k.schedule;
  block = k.block;
}
statement-kept (states.Map range) A k sound fine = record {
  settings = k.settings;
  tree = k.tree;
  root = k.root;
  descriptors = k.descriptors;
  map = ranges_kept A.map range k.map fine sound.1;
  filters = k.filters;
  killable = k.killable;
  programs = remapped _ _ A.programs k.programs (no-programs A.section A.filters A.programs sound.0 k.block);
  schedule = k.schedule;
  block = k.block;
}
statement-kept (states.Cgroup memory swap) A k sound fine =
    let limits = smaller memory swap A.settings.limits k.settings.memory k.settings.swap in
    settings-kept A _ k (record { numbers = k.settings.numbers; pids = k.settings.pids; rlimit = k.settings.rlimit; memory = limits.0; swap = limits.1 }) k.root k.killable
statement-kept (states.Figures figures) A k sound fine = settings-kept A _ k k.settings k.root k.killable
statement-kept (states.Notify calls) A k sound fine =
    let none = no-programs A.section A.filters A.programs sound.0 k.block in
    filter-kept A.section A (filter_line (notify_filter calls) true) k (ap (λ fault. not (is_some fault)) (notify_is_accepted calls sound.1))
    (not_full _ _ (none_then _ _ fine)) (not_wrong _ _ (none_first _ _ fine)) none _ refl (fits-settings A.section _ A.programs sound.0 none)
statement-kept (states.Filter listener) A k sound fine = record {
  settings = k.settings;
  tree = k.tree;
  root = k.root;
  descriptors = k.descriptors;
  map = k.map;
  filters = k.filters;
  killable = k.killable;
  programs = k.programs;
  schedule = k.schedule;
  block = (no-programs A.section A.filters A.programs sound k.block, not_full _ _ (none_then _ _ fine), not_wrong _ _ (none_first _ _ fine));
}
statement-kept (states.Insn i) A k sound fine = record {
  settings = k.settings;
  tree = k.tree;
  root = k.root;
  descriptors = k.descriptors;
  map = k.map;
  filters = k.filters;
  killable = k.killable;
  programs = k.programs;
  schedule = k.schedule;
  block = fits-insn A.section A.filters (with_insn i A.filters) A.programs refl refl k.block;
}
statement-kept (states.Prog name) A k sound fine =
    programs-kept section.Program A _ k (opened (in_force A.map) A.programs name k.programs) (refl, not_full _ _ (none_then _ _ fine))
statement-kept (states.Does i) A k sound fine =
    programs-kept _ A _ k
    (instruction_kept (in_force A.map) A.programs i k.programs
    (and_from _ _ (starts_low _ i sound.1) (and_from _ _ sound.2 (instr-mapped (in_force A.map) i fine))))
    (does-fits A.section A.filters A.programs i sound.0 k.block)
statement-kept (states.Starts thread name) A k sound fine =
    programs-kept A.section A _ k (start_kept (in_force A.map) A.programs thread name k.programs fine) (starts-fits A.section A.filters A.programs thread name sound k.block)
statement-kept states.Schedule A k sound fine = programs-kept section.Schedule A A.programs k k.programs tt
statement-kept (states.Steps task count) A k sound fine =
    scheduled-kept A _ k (task_kept A.schedule task count k.schedule fine sound.0 sound.1)
statement-kept (states.Counts worker count) A k sound fine =
    scheduled-kept A _ k (worker_kept A.schedule worker count k.schedule fine sound.0 sound.1)
statement-kept (states.Asks worker asked) A k sound fine =
    scheduled-kept A _ k (request_kept A.schedule worker asked k.schedule fine sound)
statement-kept states.End A k sound fine = end-kept A.section A k k.block fine

-- the number of the line that opened a block is no rule's
numbered : (n : ℕ) (A : Above) → IsKept A → IsKept (record A { opened = n })
numbered n A k = record {
  settings = k.settings;
  tree = k.tree;
  root = k.root;
  descriptors = k.descriptors;
  map = k.map;
  filters = k.filters;
  killable = k.killable;
  programs = k.programs;
  schedule = k.schedule;
  block = k.block;
}

-- one more line that is accepted, whichever line opened its block
pub line_kept : (n : ℕ) (s : Statement) (A B : Above) → statement_fault s A ≡ None → B ≡ with_statement s A
    → IsSound A.section (is_some A.settings.pidbase) s → IsKept A → IsKept (record B { opened = n })
line_kept n s A B fine e sound k = subst (λ (B : Above). IsKept (record B { opened = n })) (sym e) (numbered n (with_statement s A) (statement-kept s A k sound fine))

-- ---- the first line, and the last

root-found : (same : Bool) → is_found root_alone (if same then Some (found_node 0 true) else None) ≡ true
root-found true = refl
root-found false = refl

root-only : (path : List ℕ) → is_stated bare_tree path ≡ true → root_path ≡ path
root-only path h = elim (cases_Bool (bytes_eq root_path path)) [ inl e ↦ (bytes_decides root_path path).0 e | inr e ↦ absurd (both_ways false refl (rw e at h)) ]

root-once : (path other : List ℕ) → is_stated bare_tree path ≡ true → is_stated bare_tree other ≡ true → path ≡ other
root-once path other h o = sym (root-only path h) ∙ root-only other o

root-length : (same : Bool) (path : List ℕ) → (same ≡ true → root_path ≡ path) → has_length (0 ∷ []) path (if same then Some (found_node 0 true) else None)
root-length true path h = ap (λ path. Some (bytes_of_path path)) (h refl)
root-length false path h = tt

root-measured : (path : List ℕ) → has_length (0 ∷ []) path (bare_tree.found path)
root-measured path = root-length (bytes_eq root_path path) path (λ e. (bytes_decides root_path path).0 e)

nothing-kept : IsKept nothing_above
nothing-kept = record {
  settings = record { numbers = omega arith; pids = omega arith; rlimit = omega arith; memory = omega arith; swap = omega arith };
  tree = record { lines = refl; few = omega arith; nodes = refl; found = λ path. root-found (bytes_eq root_path path); names = refl; once = λ path other h o e. root-once path other h o; stated = λ path p parent made. absurd (both_ways false refl made); short = refl; counted = refl; measured = root-measured };
  root = refl;
  descriptors = record { range = refl; once = refl; few = omega arith };
  map = record { ranges = refl; apart = refl; few = omega arith };
  filters = record { accepted = refl; few = omega arith; listener = omega arith };
  killable = refl;
  programs = record { earlier = refl; instructions = refl; mapped = refl; exits = refl; few = omega arith; counted = refl; totals = refl; current = refl; named = λ name. refl };
  schedule = record { counted = omega arith; few = omega arith; scheduled = refl; counts = refl; turns = refl; workers = refl; alike = refl };
  block = (refl, refl);
}

pub first_kept : (A : Above) → A ≡ nothing_above → IsKept A
first_kept A e = rw e nothing-kept

-- the map that is in force, with a page at least
ranges-in-force : (map : List MapRange) → HasRanges map → HasRanges (in_force map)
ranges-in-force [] h = record { ranges = refl; apart = refl; few = omega arith }
ranges-in-force (range ∷ map) h = h

first-page : (range : MapRange) (map : List MapRange) → list_all is_range (range ∷ map) ≡ true → 1 ≤ pages_of (range ∷ map)
first-page range map h =
    let pages : has_pages range ≡ true = (and_parts (has_pages range) _ (and_parts (is_range range) (list_all is_range map) h).0).0 in
    let one : 1 ≤ range.pages = leb-true 1 range.pages (and_parts (is_page_address range.start) (nat_le 1 range.pages) (and_parts (is_page_address range.start && nat_le 1 range.pages) (nat_le range.pages 64) pages).0).1 in
    let sum : pages_of (range ∷ map) ≡ range.pages + pages_of map = sum_by-cons _ range map in
    omega arith

page-in-force : (map : List MapRange) → HasRanges map → 1 ≤ pages_of (in_force map)
page-in-force [] h = omega arith
page-in-force (range ∷ map) h = first-page range map h.ranges

some-program : {T : Type 0} (bodies : List T) → has_items bodies ≡ true → 1 ≤ length bodies
some-program [] h = cc
some-program (body ∷ bodies) h = omega arith

script-kept : (A : Above) → IsKept A → has_items A.programs.bodies ≡ true → IsScript (script_of A)
script-kept A k some =
    let ranges = ranges-in-force A.map k.map in
    record {
      numbers = k.settings.numbers;
      pids = k.settings.pids;
      rlimit = k.settings.rlimit;
      memory = k.settings.memory;
      swap = k.settings.swap;
      tree = k.tree.lines;
      names = k.tree.names;
      paths = k.tree.short;
      few_lines = k.tree.few;
      root = k.root;
      descriptors = k.descriptors.range;
      once = k.descriptors.once;
      few_descriptors = k.descriptors.few;
      map = ranges.ranges;
      apart = ranges.apart;
      some_page = page-in-force A.map k.map;
      few_pages = ranges.few;
      filters = k.filters.accepted;
      few_filters = k.filters.few;
      listener = k.filters.listener;
      killable = k.killable;
      some_program = some-program A.programs.bodies some;
      few_programs = k.programs.few;
      programs = k.programs.earlier;
      instructions = k.programs.instructions;
      mapped = k.programs.mapped;
      exits = k.programs.exits;
      totals = subst (λ totals. list_all (λ t. not (are_too_many t)) totals ≡ true) k.programs.counted k.programs.totals;
      schedule = k.schedule.scheduled;
      counts = k.schedule.counts;
      steps = steps_made A.schedule k.schedule;
    }

pub script_made : (A : Above) (S : ScriptRecord) → S ≡ script_of A → IsKept A → has_items A.programs.bodies ≡ true → IsScript S
script_made A S e k some = rw e (script-kept A k some)

pub turns_kept : (A : Above) (file : ScriptFile) → file ≡ file_of A → IsKept A → AreTurns file.turns
turns_kept A file e k = subst (λ (f : ScriptFile). AreTurns f.turns) (sym e) (turns_made A.schedule k.schedule)
