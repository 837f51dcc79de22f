-- The pass over the lines of a report finds a fault at the first line that no legal history's report has there, and no fault before.
-- By what the pass has heard so far (`Sound`), one line after another; by reading a legal history's own report; and since a history that isn't
-- closed goes on (`goes_on`).
use Rattle.std.proofs.Common.{inl, inr, ◌⊎◌, ◌≡◌, ℕ, zero, suc, ◌+◌, ◌-◌, ◌<◌, ◌≤◌, ◌^◌, Bool, true, false, ◌&&◌, ◌||◌, not, List, [], ◌∷◌, ◌++◌, length, take, drop, Option, Some, None, refl, sym, ap, ap₂, ◌∙◌, subst, append_assoc, append-nil, arith}
use Rattle.std.specs.Prelude.{if◌then◌else◌, ◌==◌, nat_le, bytes_eq, codes, decimal}
use Rattle.std.proofs.lemmas.Bool.{and_parts, cases_Bool, leb-true, ne_eqb, or_parts, both_ways}
use Rattle.std.proofs.lemmas.List.{length-append, length-take-le, take-append-drop, take_at}
use Rattle.hist_model.specs.Kinds.{closes}
use Rattle.hist_model.specs.Legal.{Legal, rules_of, started, system_of}
use Rattle.hist_model.specs.Look.{ev}
use Rattle.hist_model.specs.PolicyRules.{IsPolicy}
use Rattle.hist_model.specs.Report.{summary}
use Rattle.hist_model.specs.ReportAudit.{audit, judging_by}
use Rattle.hist_model.specs.ReportCalls.{calls}
use Rattle.hist_model.specs.ReportJournal.{event_line, journal_line, lines_of, title, what_text}
use Rattle.hist_model.specs.ReportWords.{actor_text}
use Rattle.hist_model.specs.Steps.{IsLegal, IsStep, is_actor, is_start, start, step}
use Rattle.hist_model.specs.Words.{is_number, number_after, number_between}
use Rattle.hist_model.specs.declared.event.Actor.{Actor}
use Rattle.hist_model.specs.declared.event.Event.{Event}
use Rattle.hist_model.specs.declared.policy.Policy.{Policy}
use Rattle.hist_model.specs.declared.script.Script.{Script}
use Rattle.hist_model.proofs.Look.{name_eq-refl, name_eq-true}
use Rattle.audit_check.specs.Actors.{actor_in}
use Rattle.audit_check.specs.Lines.{lines}
use Rattle.audit_check.specs.Reading.{Reached, Title, Journal, Rest, Fault, FindsFaults, FindsReports, behind, behind_event, behind_title, is_closed, is_fault, reached, rest_of, stepped, title_word, with_line, with_lines}
use Rattle.audit_check.specs.Reported.{BeginsReport, IsReported, report_by}
use Rattle.audit_check.proofs.Continued.{goes_on}
use Rattle.audit_check.proofs.Journal.{plain_what}
use Rattle.audit_check.proofs.Lines.{is_plain, lacks_append, line_first, same_lines}
use Rattle.audit_check.proofs.Named.{actor_told, title_told, told_is_actor}
use Rattle.audit_check.proofs.Plain.{plain_actor, plain_decimal}

-- the lines of the events, the oldest first
abbrev event_lines : List Event → List (List ℕ)
event_lines [] = []
event_lines (e ∷ K) = event_lines K ++ event_line (length K) e ∷ []

-- earlier events have the first lines
lines-before : (later K : List Event) → (more : List (List ℕ)) × (event_lines (later ++ K) ≡ event_lines K ++ more)
lines-before [] K = ([], sym (append-nil (event_lines K)))
lines-before (e ∷ later) K =
    let before = lines-before later K in
    let last = event_line (length (later ++ K)) e ∷ [] in
    (before.0 ++ last, ap (λ front. front ++ last) before.1 ∙ append_assoc (event_lines K) before.0 last)

regrouped : (a b c d e : List ℕ) → a ++ b ++ c ++ d ++ e ≡ a ++ (b ++ (c ++ d ++ e))
regrouped a b c d e = simp append_assoc

-- an event's line, and the title, is a line
event-line-first : (place : ℕ) (e : Event) (text : List ℕ) → is_plain (what_text e.what) ≡ true → lines (event_line place e ++ text) ≡ event_line place e ∷ lines text
event-line-first place e text h =
    let words = decimal place ++ codes " " ++ actor_text e.who ++ codes " " ++ what_text e.what in
    let spaced = lacks_append 10 (decimal place) (codes " ") (plain_decimal place) refl in
    let named = lacks_append 10 (decimal place ++ codes " ") (actor_text e.who) spaced (plain_actor e.who) in
    let second = lacks_append 10 (decimal place ++ codes " " ++ actor_text e.who) (codes " ") named refl in
    let plain = lacks_append 10 (decimal place ++ codes " " ++ actor_text e.who ++ codes " ") (what_text e.what) second h in
    ap lines (append_assoc words (codes "\n") text) ∙ line_first words text plain

title-first : (n : ℕ) (text : List ℕ) → lines (title (codes "journal") n ++ text) ≡ title (codes "journal") n ∷ lines text
title-first n text =
    let words = codes "journal " ++ decimal n in
    ap lines (append_assoc words (codes "\n") text) ∙ line_first words text (plain_decimal n)

-- ---- The pass

module _ (P : Policy) (S : Script) where
  abbrev IsPast : List Event → Type 0
  IsPast K = IsLegal (system_of S) (rules_of P S.figures) K

  abbrev titled : ℕ → List ℕ
  titled n = title (codes "journal") n

  pub with_more : (at : Reached) (front more : List (List ℕ)) → with_lines P S at (front ++ more) ≡ with_lines P S (with_lines P S at front) more
  unfolding with_lines
  with_more at [] more = refl
  with_more at (line ∷ front) more = with_more (with_line P S at line) front more

  pub one_line : (at : Reached) (line : List ℕ) → with_lines P S at (line ∷ []) ≡ with_line P S at line
  unfolding with_lines
  one_line at line = refl

  -- a fault stays one
  faulty : (more : List (List ℕ)) → with_lines P S Fault more ≡ Fault
  unfolding with_lines
  faulty [] = refl
  faulty (line ∷ more) = faulty more

  fault-is : (at : Reached) → is_fault at ≡ true → at ≡ Fault
  fault-is Fault h = refl
  fault-is _ h = cc

  -- so what begins lines without one has none
  sound-front : (front more : List (List ℕ)) → is_fault (reached P S (front ++ more)) ≡ false → is_fault (reached P S front) ≡ false
  sound-front front more h = elim (cases_Bool (is_fault (reached P S front))) [
    | inl y ↦
        let all : reached P S (front ++ more) ≡ Fault = with_more Title front more ∙ (ap (λ at. with_lines P S at more) (fault-is (reached P S front) y) ∙ faulty more) in
        let bad : is_fault (reached P S (front ++ more)) ≡ true = ap is_fault all in
        absurd (both_ways _ h bad)
    | inr n ↦ n
  ]

  same-rest : (H : List Event) (rest : List (List ℕ)) → with_lines P S (Rest H rest) rest ≡ Rest H []
  unfolding with_lines
  same-rest H [] = refl
  same-rest H (line ∷ rest) = rw (name_eq-refl line) (same-rest H rest)

  -- ---- The lines of a legal history's report

  module _ (policy : IsPolicy P) where
    journal-lines : (K : List Event) (text : List ℕ) → IsPast K → lines (lines_of journal_line K ++ text) ≡ event_lines K ++ lines text
    unfolding lines_of
    journal-lines [] text legal = refl
    journal-lines (e ∷ K) text legal =
        let line = event_line (length K) e in
        let plain = plain_what e.what in
        ap lines (append_assoc (lines_of journal_line K) line text) ∙ (journal-lines K (line ++ text) legal.1
        ∙ (ap (λ rest. event_lines K ++ rest) (event-line-first (length K) e text plain) ∙ sym (append_assoc (event_lines K) (line ∷ []) (lines text))))

    report-lines : (H : List Event) → IsPast H → lines (report_by P H) ≡ (titled (length H) ∷ event_lines H) ++ lines (rest_of P H)
    report-lines H legal =
        let text : report_by P H ≡ titled (length H) ++ (lines_of journal_line H ++ rest_of P H) = regrouped (titled (length H)) (lines_of journal_line H) (calls H) (audit (judging_by P.rules) H) (summary (judging_by P.rules) H) in
        ap lines text ∙ (title-first (length H) (lines_of journal_line H ++ rest_of P H) ∙ ap (λ more. titled (length H) ∷ more) (journal-lines H (rest_of P H) legal))

  -- ---- A legal history's own report is read to its end

  titled-event : (n : ℕ) → 1 ≤ n → n < 2 ^ 64 → with_line P S Title (titled n) ≡ behind P [] n
  titled-event n l h = rw (title_told n l h, name_eq-refl (titled n)) refl

  -- the event's actor steps, and this is the event
  steps : (K : List Event) (e : Event) → IsStep (system_of S) (rules_of P S.figures) K e → stepped P S K (Some e.who) ≡ Some (e ∷ K)
  steps [] e h = rw h refl
  steps (f ∷ K) e h = rw (h.1, h.0) (ap (λ d. Some (d ∷ f ∷ K)) (sym (ev-of e h.2)))
    where
      ev-of : (e : Event) → e.what ≡ step (system_of S) (rules_of P S.figures) (f ∷ K) e.who → e ≡ ev e.who (step (system_of S) (rules_of P S.figures) (f ∷ K) e.who)
      ev-of e q = ap (λ a. ev e.who a) q

  actor-is : (K : List Event) (e : Event) → IsStep (system_of S) (rules_of P S.figures) K e → is_actor e.who ≡ true
  actor-is [] e h = rw h refl
  actor-is (f ∷ K) e h = h.3

  -- an event that others follow is no close
  unclosed : (f : Event) (later K : List Event) (e : Event) → IsPast (f ∷ later ++ e ∷ K) → closes e.what ≡ false
  unclosed f [] K e legal = legal.0.0
  unclosed f (g ∷ later) K e legal = unclosed g later K e legal.1

  followed : (later K : List Event) (e : Event) → IsPast (later ++ e ∷ K) → (not (closes e.what) || (length later == 0)) ≡ true
  followed [] K e legal = by (closes e.what)
    where
      by : (b : Bool) → (not b || true) ≡ true
      by true = refl
      by false = refl
  followed (f ∷ later) K e legal = rw (unclosed f later K e legal) refl

  past-below : (later K : List Event) → IsPast (later ++ K) → IsPast K
  past-below [] K legal = legal
  past-below (f ∷ later) K legal = past-below later K legal.1

  -- one more line of its own journal
  next-own : (later K : List Event) (e : Event) → IsPast (later ++ e ∷ K) → with_line P S (Journal K (length later)) (event_line (length K) e) ≡ behind P (e ∷ K) (length later)
  next-own later K e legal =
      let step = (past-below later (e ∷ K) legal).0 in
      rw (actor_told (length K) e (actor-is K e step), steps K e step, name_eq-refl (event_line (length K) e), followed later K e legal) refl

  own-journal : (later K : List Event) → IsPast (later ++ K) → 1 ≤ length (later ++ K) → length (later ++ K) < 2 ^ 64
      → reached P S (titled (length (later ++ K)) ∷ event_lines K) ≡ behind P K (length later)
  own-journal later [] legal some small =
      let same : length (later ++ []) ≡ length later = ap length (append-nil later) in
      one_line Title (titled (length (later ++ []))) ∙ (titled-event (length (later ++ [])) some small ∙ ap (behind P []) same)
  own-journal later (e ∷ K) legal some small =
      let all : (later ++ e ∷ []) ++ K ≡ later ++ e ∷ K = append_assoc later (e ∷ []) K in
      let size : length (later ++ e ∷ []) ≡ suc (length later) = omega (arith, length-append later (e ∷ [])) in
      let front = titled (length (later ++ e ∷ K)) ∷ event_lines K in
      let before : reached P S front ≡ behind P K (length (later ++ e ∷ [])) =
      subst (λ H. reached P S (titled (length H) ∷ event_lines K) ≡ behind P K (length (later ++ e ∷ []))) all
      (own-journal (later ++ e ∷ []) K (subst IsPast (sym all) legal) (omega (arith, ap length all)) (omega (arith, ap length all))) in
      with_more Title front (event_line (length K) e ∷ [])
      ∙ (ap (λ at. with_lines P S at (event_line (length K) e ∷ [])) (before ∙ ap (behind P K) size)
      ∙ (one_line (Journal K (length later)) (event_line (length K) e) ∙ next-own later K e legal))

  module _ (policy : IsPolicy P) where
    own-report : (H : List Event) → Legal P S H → reached P S (lines (report_by P H)) ≡ Rest H []
    own-report H legal =
        let front = titled (length H) ∷ event_lines H in
        let rest = lines (rest_of P H) in
        ap (reached P S) (report-lines policy H legal.0)
        ∙ (with_more Title front rest ∙ (ap (λ at. with_lines P S at rest) (own-journal [] H legal.0 legal.2 legal.1) ∙ same-rest H rest))

  -- ---- What the pass has heard

  abbrev Sound : List (List ℕ) → Reached → Type 0
  Sound front Title = front ≡ []
  Sound front (Journal K more) = IsPast K × (is_closed K ≡ false) × (length K + suc more < 2 ^ 64) × (front ≡ titled (length K + suc more) ∷ event_lines K)
  Sound front (Rest H rest) = Legal P S H × (lines (report_by P H) ≡ front ++ rest)
  Sound front Fault = Unit {0}

  pub counted : (word : List ℕ) (n : ℕ) → number_between 1 (2 ^ 64 - 1) word ≡ Some n → (1 ≤ n) × (n < 2 ^ 64)
  counted word n q = by (is_number word && (nat_le 1 v && nat_le v (2 ^ 64 - 1))) refl q
    where
      v : ℕ
      v = number_after 0 word

      by : (b : Bool) → (is_number word && (nat_le 1 v && nat_le v (2 ^ 64 - 1))) ≡ b → (if b then Some v else None) ≡ Some n → (1 ≤ n) × (n < 2 ^ 64)
      by false h q = cc
      by true h q =
          let p = and_parts (is_number word) (nat_le 1 v && nat_le v (2 ^ 64 - 1)) h in
          let r = and_parts (nat_le 1 v) (nat_le v (2 ^ 64 - 1)) p.1 in
          let e : v ≡ n = cc in
          let low = leb-true 1 v r.0 in
          let high = leb-true v (2 ^ 64 - 1) r.1 in
          (omega arith, omega arith)

  title-heard : (line : List ℕ) (n : ℕ) → 1 ≤ n → n < 2 ^ 64 → titled n ≡ line → Sound (line ∷ []) (behind P [] n)
  title-heard line zero l h q = absurd (omega arith)
  title-heard line (suc more) l h q = let same : suc more ≡ 0 + suc more = omega arith in (tt, refl, omega arith, ap (λ text. text ∷ []) (sym q ∙ ap titled same))

  sound-title : (line : List ℕ) → Sound (line ∷ []) (with_line P S Title line)
  sound-title line = by (number_between 1 (2 ^ 64 - 1) (title_word line)) refl
    where
      tested : (n : ℕ) → (1 ≤ n) × (n < 2 ^ 64) → (b : Bool) → bytes_eq (titled n) line ≡ b → Sound (line ∷ []) (if b then behind P [] n else Fault)
      tested n l false h = tt
      tested n l true h = title-heard line n l.0 l.1 (name_eq-true (titled n) line h)

      by : (o : Option ℕ) → number_between 1 (2 ^ 64 - 1) (title_word line) ≡ o → Sound (line ∷ []) (behind_title P line o)
      by None q = tt
      by (Some n) q = tested n (counted (title_word line) n q) (bytes_eq (titled n) line) refl

  -- an actor that can step takes its step
  taken : (K : List Event) (a : Actor) → is_actor a ≡ true → (stepped P S K (Some a) ≡ None) ⊎ ((e : Event) × IsStep (system_of S) (rules_of P S.figures) K e × (stepped P S K (Some a) ≡ Some (e ∷ K)))
  taken [] a actor = elim (cases_Bool (is_start a)) [ inl y ↦ inr (start (system_of S), refl, rw y refl) | inr n ↦ inl (rw n refl) ]
  taken (f ∷ K) a actor = elim (cases_Bool (is_start a || closes f.what)) [
    | inl y ↦ inl (rw y refl)
    | inr n ↦ let p = or_parts (is_start a) (closes f.what) n in inr (ev a (step (system_of S) (rules_of P S.figures) (f ∷ K) a), (p.1, p.0, refl, actor), rw n refl)
  ]

  module _ (policy : IsPolicy P) where
    -- behind the line of an event of which the pass has heard
    event-heard : (front : List (List ℕ)) (K : List Event) (e : Event) (more : ℕ) → Sound front (Journal K more) → IsStep (system_of S) (rules_of P S.figures) K e
        → (not (closes e.what) || (more == 0)) ≡ true → Sound (front ++ event_line (length K) e ∷ []) (behind P (e ∷ K) more)
    event-heard front K e zero h step last =
        let size : length K + 1 ≡ length (e ∷ K) = omega arith in
        let line = event_line (length K) e in
        let heard : front ++ line ∷ [] ≡ titled (length (e ∷ K)) ∷ event_lines (e ∷ K) = ap (λ text. text ++ line ∷ []) (h.3 ∙ ap (λ n. titled n ∷ event_lines K) size) in
        (((step, h.0), omega (arith, h.2), omega arith), report-lines policy (e ∷ K) (step, h.0) ∙ ap (λ text. text ++ lines (rest_of P (e ∷ K))) (sym heard))
    event-heard front K e (suc more) h step last =
        let size : length K + suc (suc more) ≡ length (e ∷ K) + suc more = omega arith in
        let line = event_line (length K) e in
        let others : (suc more == 0) ≡ false = ne_eqb (suc more) 0 (λ q. omega arith) in
        let goes : closes e.what ≡ false = by (closes e.what) (suc more == 0) others last in
        ((step, h.0), goes, omega (arith, h.2), ap (λ text. text ++ line ∷ []) (h.3 ∙ ap (λ n. titled n ∷ event_lines K) size))
      where
        by : (c z : Bool) → z ≡ false → (not c || z) ≡ true → c ≡ false
        by true z q r = cc
        by false z q r = refl

    sound-event : (front : List (List ℕ)) (line : List ℕ) (K : List Event) (more : ℕ) → Sound front (Journal K more) → Sound (front ++ line ∷ []) (with_line P S (Journal K more) line)
    sound-event front line K more h = by (actor_in line) refl
      where
        compared : (e : Event) → IsStep (system_of S) (rules_of P S.figures) K e → (b : Bool) → (bytes_eq (event_line (length K) e) line && (not (closes e.what) || (more == 0))) ≡ b
            → Sound (front ++ line ∷ []) (if b then behind P (e ∷ K) more else Fault)
        compared e step false q = tt
        compared e step true q =
            let p = and_parts (bytes_eq (event_line (length K) e) line) (not (closes e.what) || (more == 0)) q in
            let same = name_eq-true (event_line (length K) e) line p.0 in
            subst (λ text. Sound (front ++ text ∷ []) (behind P (e ∷ K) more)) same (event-heard front K e more h step p.1)

        by : (o : Option Actor) → actor_in line ≡ o → Sound (front ++ line ∷ []) (behind_event P line more (stepped P S K o))
        by None q = tt
        by (Some a) q = elim (taken K a (told_is_actor line a q)) [
          | inl none ↦ subst (λ o. Sound (front ++ line ∷ []) (behind_event P line more o)) (sym none) tt
          | inr one ↦ subst (λ o. Sound (front ++ line ∷ []) (behind_event P line more o)) (sym one.2) (compared one.0 one.1 _ refl)
        ]

    sound-line : (front : List (List ℕ)) (line : List ℕ) (at : Reached) → Sound front at → Sound (front ++ line ∷ []) (with_line P S at line)
    sound-line front line Title h = subst (λ lines. Sound (lines ++ line ∷ []) (with_line P S Title line)) (sym h) (sound-title line)
    sound-line front line (Journal K more) h = sound-event front line K more h
    sound-line front line (Rest H []) h = tt
    sound-line front line (Rest H (next ∷ rest)) h = by (bytes_eq next line) refl
      where
        by : (b : Bool) → bytes_eq next line ≡ b → Sound (front ++ line ∷ []) (if b then Rest H rest else Fault)
        by false q = tt
        by true q =
            let same = name_eq-true next line q in
            (h.0, h.1 ∙ (ap (λ text. front ++ text ∷ rest) same ∙ sym (append_assoc front (line ∷ []) rest)))
    sound-line front line Fault h = tt

    sound : (front more : List (List ℕ)) (at : Reached) → Sound front at → Sound (front ++ more) (with_lines P S at more)
    unfolding with_lines
    sound front [] at h = subst (λ lines. Sound lines at) (sym (append-nil front)) h
    sound front (line ∷ more) at h =
        subst (λ lines. Sound lines (with_lines P S (with_line P S at line) more)) (append_assoc front (line ∷ []) more) (sound (front ++ line ∷ []) more (with_line P S at line) (sound-line front line at h))

    -- what the pass has heard begins a legal history's report
    begins : (front : List (List ℕ)) (at : Reached) → Sound front at → is_fault at ≡ false → (H : List Event) × Legal P S H × (take (length front) (lines (report_by P H)) ≡ front)
    begins front Title h q = (started S, ((refl, tt), omega arith, omega arith), ap (λ none. take (length none) (lines (report_by P (started S)))) h ∙ sym h)
    begins front (Journal K more) h q =
        let m = goes_on (system_of S) (rules_of P S.figures) K h.0 h.1 (suc more) in
        let H = m.later ++ K in
        let size : length H ≡ length K + suc more = omega (arith, length-append m.later K, m.number) in
        let others = lines-before m.later K in
        let all : lines (report_by P H) ≡ front ++ (others.0 ++ lines (rest_of P H)) =
        report-lines policy H m.legal ∙ (ap₂ (λ n text. (titled n ∷ text) ++ lines (rest_of P H)) size others.1
        ∙ (ap (λ text. titled (length K + suc more) ∷ text) (append_assoc (event_lines K) others.0 (lines (rest_of P H))) ∙ ap (λ text. text ++ (others.0 ++ lines (rest_of P H))) (sym h.3))) in
        (H, (m.legal, omega (arith, h.2), omega arith), ap (take (length front)) all ∙ take_at front (others.0 ++ lines (rest_of P H)) (length front) refl)
    begins front (Rest H rest) h q = (H, h.0, ap (take (length front)) h.1 ∙ take_at front rest (length front) refl)
    begins front Fault h q = cc

    pub finds_faults : FindsFaults P S
    finds_faults bytes n l = (there, back)
      where
        there : is_fault (reached P S (take n (lines bytes))) ≡ false → BeginsReport P S bytes n
        there h = let size : length (take n (lines bytes)) ≡ n = length-take-le n (lines bytes) l in
            let b = begins (take n (lines bytes)) (reached P S (take n (lines bytes))) (sound [] (take n (lines bytes)) Title refl) h in
            (b.0, b.1, sym (subst (λ k. take k (lines (report_by P b.0)) ≡ take n (lines bytes)) size b.2))

        back : BeginsReport P S bytes n → is_fault (reached P S (take n (lines bytes))) ≡ false
        back b =
            let text = lines (report_by P b.0) in
            let whole : is_fault (reached P S (take n text ++ drop n text)) ≡ false = ap (λ lines. is_fault (reached P S lines)) (take-append-drop n text) ∙ ap is_fault (own-report policy b.0 b.1) in
            ap (λ lines. is_fault (reached P S lines)) b.2 ∙ sound-front (take n text) (drop n text) whole

    pub finds_reports : FindsReports P S
    finds_reports bytes H = (there, λ h. ap (λ text. reached P S (lines text)) (sym h.whole) ∙ own-report policy H h.legal)
      where
        there : reached P S (lines bytes) ≡ Rest H [] → IsReported P S bytes H
        there h =
            let s : Sound (lines bytes) (Rest H []) = subst (Sound (lines bytes)) h (sound [] (lines bytes) Title refl) in
            record { legal = s.0; whole = same_lines (report_by P H) bytes (s.1 ∙ append-nil (lines bytes)) }
