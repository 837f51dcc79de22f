-- The counts of what was found stand in their order, and its outcomes one after another, each with its number; and how an exploration ends.
-- By the number of the outcomes that stand before, by what the explorer tells, and by cases on the status.
use Rattle.std.proofs.Common.{◌≡◌, ℕ, ◌+◌, ◌<◌, Bool, true, false, List, [], ◌∷◌, ◌++◌, length, ◌≤◌, take, drop, get_or, refl, sym, ap, inl, inr, ◌∙◌, append-nil, append_assoc, arith}
use Rattle.std.specs.Prelude.{Option, Result, Ok, Err, OnOk, decimal}
use Rattle.std.proofs.lemmas.List.{take-append-drop, take_all, take_more, length-take-le}
use Rattle.audit_log.proofs.Writing.{wrote_front, wrote_more, wrote_nothing}
use Rattle.audit_log.specs.Written.{Wrote}
use Rattle.audit_log.specs.declared.error.ReportError.{ReportError}
use Rattle.delay_bounded.specs.Explored.{bound_of}
use Rattle.delay_bounded.specs.Laws.{AreFinished, AreLegal, IsCompleteOfFinished}
use Rattle.explorer.proofs.Taking.{taken_whole}
use Rattle.explorer.specs.Printed.{IsPrinted, blocks, outcome_block, told}
use Rattle.explorer.specs.Taken.{event_limit, none_left, taken}
use Rattle.explorer.specs.Tallies.{CountedOutcome}
use Rattle.explorer.specs.Telling.{Tells, TellsEither}
use Rattle.explorer.specs.declared.exploring.Exploration.{Exploration}
use Rattle.hist_model.specs.ScriptRules.{IsScript}
use Rattle.hist_model.specs.declared.event.Event.{Event}
use Rattle.hist_model.specs.declared.policy.Policy.{Policy}
use Rattle.hist_model.specs.declared.script.Script.{Script}
use Rattle.io_edge.specs.FileState.{FileState}
use Rattle.io_edge.specs.SinkState.{SinkState}
use Rattle.long_count.specs.Texts.{decimal_of}
use Rattle.sys_abi.specs.declared.memory.NoMemory.{NoMemory as MemoryFault}
use Rattle.explore_words.proofs.ComesTo.{is_whole}
use Rattle.program_files.specs.Printed.{Printed, status_of}
use Rattle.explore_words.specs.Explorations.{AreExplored, ExploreEnds, ExploredLaws, IsExploredText, exploration_text}
use Rattle.program_files.specs.Inputs.{PolicyIs, ScriptIs}
use Rattle.program_files.specs.Refusals.{InputRefused}
use Rattle.program_files.specs.declared.status.Status.{Status}
use Rattle.program_files.specs.declared.status.Status.TheVariants.{Done, NoMemory, WriteFault}

-- ---- The counts

-- four words with their numbers stand behind a text
pub counts_behind : (text one two three four t u v w : List ℕ) (h e l n m : ℕ) (r : Result (Unit {0}) MemoryFault)
    → one ≡ text ++ (t ++ decimal_of h) → two ≡ one ++ (u ++ decimal_of e) → three ≡ two ++ (v ++ decimal l) → n ≡ m → OnOk r (four ≡ three ++ (w ++ decimal n))
    → OnOk r (four ≡ text ++ (t ++ decimal_of h ++ u ++ decimal_of e ++ v ++ decimal l ++ w ++ decimal m))
counts_behind text one two three four t u v w h e l n m (Err x) p q s is last = tt
counts_behind text one two three four t u v w h e l n m (Ok y) p q s is last = rw (last, s, q, p, is) (simp append_assoc)

-- ---- The outcomes that were found

-- some, and others behind them
blocks_both : (n : ℕ) (os ps : List CountedOutcome) → blocks n (os ++ ps) ≡ blocks n os ++ blocks (n + length os) ps
unfolding blocks
blocks_both n [] ps = ap (λ k. blocks k ps) (omega arith)
blocks_both n (o ∷ os) ps =
    let place : n + 1 + length os ≡ n + length (o ∷ os) = omega arith in
    ap (λ text. outcome_block n o ++ text) (blocks_both (n + 1) os ps ∙ ap (λ k. blocks (n + 1) os ++ blocks k ps) place)
    ∙ sym (append_assoc (outcome_block n o) (blocks (n + 1) os) (blocks (n + length (o ∷ os)) ps))

-- one alone
block_alone : (n : ℕ) (o : CountedOutcome) → blocks n (o ∷ []) ≡ outcome_block n o
unfolding blocks
block_alone n o = append-nil (outcome_block n o)

-- one more
block_more : (os : List CountedOutcome) (i : ℕ) (o : CountedOutcome) → i < length os → o ≡ get_or os i o → blocks 1 (take (i + 1) os) ≡ blocks 1 (take i os) ++ outcome_block (i + 1) o
block_more os i o l is =
    let number : 1 + length (take i os) ≡ i + 1 = omega (arith, length-take-le i os (omega arith)) in
    ap (blocks 1) (take_more os i o l)
    ∙ (blocks_both 1 (take i os) (get_or os i o ∷ [])
    ∙ ap (λ text. blocks 1 (take i os) ++ text)
    (ap (λ k. blocks k (get_or os i o ∷ [])) number ∙ (block_alone (i + 1) (get_or os i o) ∙ ap (outcome_block (i + 1)) (sym is))))

-- none was written yet
pub none_written : (os : List CountedOutcome) (sink : SinkState) → Wrote sink (blocks 1 (take 0 os)) (Ok tt) sink
unfolding blocks
none_written os sink = wrote_nothing sink

-- one more was written
pub outcome_written : (os : List CountedOutcome) (i : ℕ) (o : CountedOutcome) (old mid new : SinkState) → i < length os → o ≡ get_or os i o
    → Wrote old (blocks 1 (take i os)) (Ok tt) mid → Wrote mid (outcome_block (i + 1) o) (Ok tt) new → Wrote old (blocks 1 (take (i + 1) os)) (Ok tt) new
outcome_written os i o old mid new l is before now =
    rw (block_more os i o l is) (wrote_more old mid new (blocks 1 (take i os)) (outcome_block (i + 1) o) (Ok tt) before now)

-- one more failed
pub outcome_failed : (os : List CountedOutcome) (i : ℕ) (o : CountedOutcome) (e : ReportError) (old mid new : SinkState) → i < length os → o ≡ get_or os i o
    → Wrote old (blocks 1 (take i os)) (Ok tt) mid → Wrote mid (outcome_block (i + 1) o) (Err e) new → Wrote old (blocks 1 os) (Err e) new
outcome_failed os i o e old mid new l is before now =
    let one = wrote_more old mid new (blocks 1 (take i os)) (outcome_block (i + 1) o) (Err e) before now in
    let rest = blocks (1 + length (take (i + 1) os)) (drop (i + 1) os) in
    let whole : blocks 1 os ≡ (blocks 1 (take i os) ++ outcome_block (i + 1) o) ++ rest =
    ap (blocks 1) (sym (take-append-drop (i + 1) os)) ∙ (blocks_both 1 (take (i + 1) os) (drop (i + 1) os) ∙ ap (λ text. text ++ rest) (block_more os i o l is)) in
    rw whole (wrote_front old new (blocks 1 (take i os) ++ outcome_block (i + 1) o) rest e one)

-- all were written
pub all_written : (os : List CountedOutcome) (i : ℕ) (old new : SinkState) → length os ≤ i → Wrote old (blocks 1 (take i os)) (Ok tt) new → Wrote old (blocks 1 os) (Ok tt) new
all_written os i old new l w = rw (take_all i os l) at w

-- ---- What is printed

-- what was found is told of the histories of a list, or of the first of them: what is printed of the list
module _ (P : Policy) (S : Script) (W : ℕ) (delays : Option ℕ) (L : List (List Event)) (x : Exploration) where
  same_text : (M : List (List Event)) (whole : Bool) → Tells P S M whole x → exploration_text W delays x ≡ told P S W delays M whole
  same_text M whole t = rw (t.histories, t.events, t.longest_is, t.whole_is, t.outcomes_are) refl

  pub is_printed : TellsEither P S L x → IsPrinted P S W delays L (exploration_text W delays x)
  is_printed (inl t) = inl (same_text L true t)
  is_printed (inr t) = by (none_left event_limit L) refl
    where
      text_is : exploration_text W delays x ≡ told P S W delays (taken event_limit L) (none_left event_limit L)
      text_is = same_text (taken event_limit L) (none_left event_limit L) t

      by : (none : Bool) → none_left event_limit L ≡ none → IsPrinted P S W delays L (exploration_text W delays x)
      by true e = inl (rw (taken_whole event_limit L e, e) at text_is)
      by false e = inr (e, rw e at text_is)

-- what two files come to was printed, or a part of it
pub explore_ends : (files after : FileState) (old new : SinkState) (policy script : List ℕ) (W : ℕ) (delays : Option ℕ) (P : Policy) (S : Script) (r : Result (Unit {0}) Status) → W ≤ 15
    → PolicyIs files policy (Ok P) → ScriptIs files script (Ok S) → IsScript S → AreLegal → AreFinished → IsCompleteOfFinished → (text : List ℕ) → IsExploredText W delays P S text → Printed text old new r
    → ExploreEnds files after old new policy script W delays (status_of r)
explore_ends files after old new policy script W delays P S r few policy_is script_is rules legal finished complete text is printed = by r printed
  where
    laws : ExploredLaws W delays P S
    laws = record {
      each = legal P S W (bound_of delays) (omega (arith, few));
      finished = finished P S W (bound_of delays) rules (omega (arith, few));
      whole = is_whole P S W (omega (arith, few)) complete delays;
    }

    are : AreExplored files policy script W delays P S
    are = record { policy_is = policy_is; script_is = script_is; laws = laws }

    by : (r : Result (Unit {0}) Status) → Printed text old new r → ExploreEnds files after old new policy script W delays (status_of r)
    by (Ok u) p = ((P, S, are, text, is, p.0), p.1)
    by (Err WriteFault) p = (p.0, (P, S, are, text, is, p.1))
    by (Err NoMemory) p = inr (P, S, are, text, is, p)
    by (Err status) p = absurd p

-- nothing was explored, since the policy or the script wasn't taken
pub explore_stops : (files after : FileState) (sink : SinkState) (policy script : List ℕ) (W : ℕ) (delays : Option ℕ) (status : Status) → InputRefused files after policy script status
    → ExploreEnds files after sink sink policy script W delays status
explore_stops files after sink policy script W delays NoMemory h = inl (λ t. refl)
explore_stops files after sink policy script W delays Done h = absurd h
explore_stops files after sink policy script W delays WriteFault h = absurd h
explore_stops files after sink policy script W delays status h = (h, λ t. refl)
