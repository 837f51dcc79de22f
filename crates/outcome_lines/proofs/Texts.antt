-- The lines of a history and the tree at its end tell the text of what it comes to.
-- By induction on the events: of each effect its mark tells whether it is out of sight, since no two marks have one place.
use Rattle.std.proofs.Common.{◌≡◌, ℕ, suc, ◌+◌, ◌<◌, ◌≤◌, ◌==◌, Bool, true, false, ◌||◌, List, [], ◌∷◌, ◌++◌, length, Option, Some, None, refl, sym, ap, ap₂, ◌∙◌, subst, append-nil, arith}
use Rattle.std.specs.Prelude.{cond, find, if◌then◌else◌, is_some, ℤ}
use Rattle.std.specs.List.{flat_map, list_any}
use Rattle.std.proofs.lemmas.Bool.{and_parts, eqb-true, ne_eqb}
use Rattle.std.proofs.lemmas.List.Concat.{flat_map-append}
use Rattle.hist_model.specs.Kinds.{enters}
use Rattle.hist_model.specs.Legal.{tree}
use Rattle.hist_model.specs.Look.{Name, event_at, is_task}
use Rattle.hist_model.specs.ReportAudit.{Judging, audit_by, installed}
use Rattle.hist_model.specs.ReportCalls.{outcome}
use Rattle.hist_model.specs.ReportJournal.{lines_of}
use Rattle.hist_model.specs.Trees.{Tree}
use Rattle.hist_model.specs.declared.event.Entered.{Entered}
use Rattle.hist_model.specs.declared.event.Entered.TheVariants.{Notify}
use Rattle.hist_model.specs.declared.report.Outcome.{Outcome}
use Rattle.hist_model.specs.declared.event.Event.{Event}
use Rattle.hist_model.specs.declared.event.What.{What}
use Rattle.hist_model.specs.declared.event.What.TheVariants.{Act, AddfdPut, AddfdTake, Check, Close, Deliver, Enter, Exit, Handler, Install, LetGo, Native, OpenBase, OpenMem, Plant, Poke, Read, Reap, Recv, Resume, Send, Signal, Skip, Spawn}
use Rattle.hist_model.specs.declared.request.Request.TheVariants.{Mknod, Mount, OpenAt, Other, SetXattr, Sysinfo}
use Rattle.hist_model.specs.declared.script.Script.{Script}
use Rattle.audit_log.specs.Begun.{Begun}
use Rattle.audit_log.specs.Served.{session_for}
use Rattle.outcome_text.specs.Outcomes.{audit_text, call_lines, calls_of, did, entry_of, entry_text, is_among, is_call_of, result_of, result_with, session_text, task_names}
use Rattle.outcome_text.specs.Sight.{done_on, hidden, hidden_among, is_hidden, is_hidden_at, marked, marks}
use Rattle.outcome_text.specs.declared.mark.Mark.{Mark}
use Rattle.outcome_lines.specs.Lines.{gathered, has_place, line_at, line_of, lines_in, lines_with, sight_by, sight_by_mark, sight_in, sight_of, told_if, unnamed}
use Rattle.outcome_lines.specs.Texts.{is_unseen, line_text, lines_text, told_text}

-- ---- Whether one effect is out of sight

hidden-is : (T : Tree) (a : What) (n : ℕ) → is_hidden T a n ≡ is_unseen T (sight_of a n)
hidden-is T (Act (Mount source target fstype options via flags shift) cap answer) n = refl
hidden-is T (Act (SetXattr path name value flags) cap answer) n = refl
hidden-is T (Act (Mknod dirfd path mode dev) cap answer) n = refl
hidden-is T (Act (OpenAt dirfd path flags) cap answer) n = refl
hidden-is T (Act (Sysinfo addr) cap answer) n = refl
hidden-is T (Act (Other nr) cap answer) n = refl
hidden-is T (Spawn child answer) n = refl
hidden-is T (Poke addr bytes) n = refl
hidden-is T (Handler sig disposition) n = refl
hidden-is T (Enter nr args verdict) n = refl
hidden-is T (Native answer) n = refl
hidden-is T (Install answer) n = refl
hidden-is T (Resume back) n = refl
hidden-is T (Signal pid sig answer) n = refl
hidden-is T (Deliver sig effect) n = refl
hidden-is T (Reap answer) n = refl
hidden-is T Exit n = refl
hidden-is T (Recv answer) n = refl
hidden-is T (OpenMem pid answer) n = refl
hidden-is T (OpenBase pid dirfd answer) n = refl
hidden-is T (Check id answer) n = refl
hidden-is T (Read addr len answer) n = refl
hidden-is T (Plant addr bytes cap answer) n = refl
hidden-is T (AddfdPut asked answer) n = refl
hidden-is T (AddfdTake answer) n = refl
hidden-is T (Send id back answer) n = refl
hidden-is T LetGo n = refl
hidden-is T Skip n = refl
hidden-is T Close n = refl

hidden-there : (T : Tree) (o : Option Event) (n : ℕ) → is_hidden_at T o n ≡ is_unseen T (sight_by o n)
hidden-there T (Some e) n = hidden-is T e.what n
hidden-there T None n = refl

-- ---- Among marks

-- a place is that of a hidden mark
abbrev hides : Tree → List Event → List Mark → ℕ → Bool
hides T H ms place = list_any (λ p. p == place) (hidden_among T H ms)

-- none of them has a place from this one on
abbrev pub AreBelow : ℕ → List Mark → Type 0
AreBelow n [] = Unit {0}
AreBelow n (m ∷ ms) = (m.place < n) × AreBelow n ms

below-more : (n : ℕ) (ms more : List Mark) → AreBelow n ms → AreBelow n more → AreBelow n (ms ++ more)
below-more n [] more a b = b
below-more n (m ∷ ms) more a b = (a.0, below-more n ms more a.1 b)

below-later : (n k : ℕ) (ms : List Mark) → n ≤ k → AreBelow n ms → AreBelow k ms
below-later n k [] l a = tt
below-later n k (m ∷ ms) l a = (omega (arith, a.0), below-later n k ms l a.1)

marked-below : (n : ℕ) (o : Option ℕ) → AreBelow (suc n) (marked n o)
marked-below n None = tt
marked-below n (Some x) = (omega arith, tt)

pub marks-below : (S : Script) (K : List Event) → AreBelow (length K) (marks S K)
unfolding marks
marks-below S [] = tt
marks-below S (e ∷ K) = below-more (suc (length K)) (marks S K) (marked (length K) (done_on S (e ∷ K) e.who e.what))
    (below-later (length K) (suc (length K)) (marks S K) (omega arith) (marks-below S K)) (marked-below (length K) (done_on S (e ∷ K) e.who e.what))

-- none of them has this place
abbrev Lacks : ℕ → List Mark → Type 0
Lacks p [] = Unit {0}
Lacks p (m ∷ ms) = ((m.place == p) ≡ false) × Lacks p ms

-- no two of them have one place
abbrev AreApart : List Mark → Type 0
AreApart [] = Unit {0}
AreApart (m ∷ ms) = Lacks m.place ms × AreApart ms

lacks-more : (p n : ℕ) (ms : List Mark) (o : Option ℕ) → p < n → Lacks p ms → Lacks p (ms ++ marked n o)
lacks-more p n [] None l a = tt
lacks-more p n [] (Some x) l a = (ne_eqb n p (λ q. omega (arith, q, l)), tt)
lacks-more p n (m ∷ ms) o l a = (a.0, lacks-more p n ms o l a.1)

apart-more : (n : ℕ) (ms : List Mark) (o : Option ℕ) → AreBelow n ms → AreApart ms → AreApart (ms ++ marked n o)
apart-more n [] None b a = tt
apart-more n [] (Some x) b a = (tt, tt)
apart-more n (m ∷ ms) o b a = (lacks-more m.place n ms o b.0 a.0, apart-more n ms o b.1 a.1)

marks-apart : (S : Script) (K : List Event) → AreApart (marks S K)
unfolding marks
marks-apart S [] = tt
marks-apart S (e ∷ K) = apart-more (length K) (marks S K) (done_on S (e ∷ K) e.who e.what) (marks-below S K) (marks-apart S K)

module _ (T : Tree) (H : List Event) (place : ℕ) where
  -- where the first of them is hidden, its place is one, and else it is not
  abbrev first-by : (b : Bool) (m : Mark) (ps : List ℕ) → Bool
  first-by b m ps = if b then (m.place == place) || list_any (λ p. p == place) ps else list_any (λ p. p == place) ps

  first-is : (m : Mark) (ms : List Mark) → hides T H (m ∷ ms) place ≡ first-by (is_hidden_at T (event_at H m.place) m.node.ordinal) m (hidden_among T H ms)
  first-is m ms = by (is_hidden_at T (event_at H m.place) m.node.ordinal) refl
    where
      by : (b : Bool) → is_hidden_at T (event_at H m.place) m.node.ordinal ≡ b → hides T H (m ∷ ms) place ≡ first-by (is_hidden_at T (event_at H m.place) m.node.ordinal) m (hidden_among T H ms)
      by true q = rw q refl
      by false q = rw q refl

  -- others than that of a place don't count
  passed : (b : Bool) (m : Mark) (ps : List ℕ) → (m.place == place) ≡ false → first-by b m ps ≡ list_any (λ p. p == place) ps
  passed true m ps q = rw q refl
  passed false m ps q = refl

  none-here : (ms : List Mark) → Lacks place ms → hides T H ms place ≡ false
  none-here [] a = refl
  none-here (m ∷ ms) a = first-is m ms ∙ (passed (is_hidden_at T (event_at H m.place) m.node.ordinal) m (hidden_among T H ms) a.0 ∙ none-here ms a.1)

  found-here : (b : Bool) (m : Mark) (ms : List Mark) → (m.place == place) ≡ true → hides T H ms place ≡ false → first-by b m (hidden_among T H ms) ≡ b
  found-here true m ms q n = rw q refl
  found-here false m ms q n = n

  lacks-at : (m : Mark) (ms : List Mark) → (m.place == place) ≡ true → Lacks m.place ms → Lacks place ms
  lacks-at m ms q a = subst (λ p. Lacks p ms) (eqb-true m.place place q) a

  unseen-is : (ms : List Mark) → AreApart ms → hides T H ms place ≡ is_unseen T (sight_by_mark H (find (has_place place) ms))
  unseen-is [] a = refl
  unseen-is (m ∷ ms) a = by (m.place == place) refl (unseen-is ms a.1)
    where
      by : (b : Bool) → (m.place == place) ≡ b → hides T H ms place ≡ is_unseen T (sight_by_mark H (find (has_place place) ms))
          → hides T H (m ∷ ms) place ≡ is_unseen T (sight_by_mark H (cond b (Some m) (find (has_place place) ms)))
      by true q older =
          first-is m ms ∙ (found-here (is_hidden_at T (event_at H m.place) m.node.ordinal) m ms q (none-here ms (lacks-at m ms q a.0)) ∙ hidden-there T (event_at H m.place) m.node.ordinal)
      by false q older = first-is m ms ∙ (passed (is_hidden_at T (event_at H m.place) m.node.ordinal) m (hidden_among T H ms) q ∙ older)

-- ---- A line

same-entry : (n : Name) (number : ℕ) (nr : ℤ) (v : Entered) (came : Outcome) → entry_text n number nr (unnamed v) came ≡ entry_text n number nr v came
same-entry n number nr (Notify id) came = refl
same-entry n number nr _ came = refl

module _ (S : Script) (J : Judging) (H : List Event) where
  among-is : (o : Option ℕ) → is_among (hidden S H) o ≡ is_unseen (tree S H) (sight_in H (marks S H) o)
  among-is None = refl
  among-is (Some place) = unseen-is (tree S H) H place (marks S H) (marks-apart S H)

  did-by : (b : Bool) (own : List What) → did b own ≡ (if b then did true own else did false own)
  did-by true own = refl
  did-by false own = refl

  told-is : (number : Option ℕ) (o : Option Begun) → told_text J (tree S H) (is_some number) (told_if J (marks S H) H o) ≡ session_text J (hidden S H) number o
  told-is number None = refl
  told-is number (Some s) =
      ap (λ (more : List ℕ). audit_text J (audit_by J s.notif s.steps number) ++ more)
      (sym (did-by (is_unseen (tree S H) (sight_in H (marks S H) s.stages.effect)) s.steps) ∙ ap (λ (b : Bool). did b s.steps) (sym (among-is s.stages.effect)))

  entered-is : (n : Name) (K : List Event) (a : What) → enters a ≡ true
      → lines_text J (tree S H) (line_of J (marks S H) H n K a)
      ≡ entry_of n (calls_of n K + 1) a (outcome n (length K) H) ++ session_text J (hidden S H) (installed n (length K) H) (session_for H (length K) H)
  entered-is n K (Enter nr args verdict) h =
      append-nil (entry_text n (calls_of n K + 1) nr (unnamed verdict) (outcome n (length K) H)
      ++ told_text J (tree S H) (is_some (installed n (length K) H)) (told_if J (marks S H) H (session_for H (length K) H)))
      ∙ ap₂ (λ (x y : List ℕ). x ++ y) (same-entry n (calls_of n K + 1) nr verdict (outcome n (length K) H)) (told-is (installed n (length K) H) (session_for H (length K) H))
  entered-is n K _ h = cc

  line-is : (n : Name) (K : List Event) (e : Event) → lines_text J (tree S H) (line_at J (marks S H) H n K e) ≡ call_lines J (hidden S H) H n K e
  line-is n K e = by (is_call_of n e) refl
    where
      by : (b : Bool) → is_call_of n e ≡ b
          → lines_text J (tree S H) (if b then line_of J (marks S H) H n K e.what else [])
          ≡ (if b then entry_of n (calls_of n K + 1) e.what (outcome n (length K) H) ++ session_text J (hidden S H) (installed n (length K) H) (session_for H (length K) H) else [])
      by true h = entered-is n K e.what (and_parts (is_task e.who n) (enters e.what) h).1
      by false h = refl

  task-is : (n : Name) (K : List Event) → lines_text J (tree S H) (gathered (line_at J (marks S H) H n) K) ≡ lines_of (call_lines J (hidden S H) H n) K
  unfolding gathered lines_of
  task-is n [] = refl
  task-is n (e ∷ K) =
      flat_map-append (line_text J (tree S H)) (gathered (line_at J (marks S H) H n) K) (line_at J (marks S H) H n K e)
      ∙ ap₂ (λ text more. text ++ more) (task-is n K) (line-is n K e)

  all-is : (names : List Name) → lines_text J (tree S H) (flat_map (λ n. gathered (line_at J (marks S H) H n) H) names) ≡ flat_map (λ n. lines_of (call_lines J (hidden S H) H n) H) names
  all-is [] = refl
  all-is (n ∷ names) =
      flat_map-append (line_text J (tree S H)) (gathered (line_at J (marks S H) H n) H) (flat_map (λ m. gathered (line_at J (marks S H) H m) H) names)
      ∙ ap₂ (λ text more. text ++ more) (task-is n H) (all-is names)

  pub outcome-told : result_of S J H ≡ lines_text J (tree S H) (lines_in S J H)
  unfolding result_with lines_with
  outcome-told = sym (all-is (task_names H))
