-- What is read of containers, which of their ranges overlap, and how a pod ends.
-- By cases on the status, and by induction on lists of pairs of files.
use Rattle.std.proofs.Common.{◌≡◌, ℕ, ◌+◌, ◌*◌, ◌<◌, ◌≤◌, true, false, List, [], ◌∷◌, ◌++◌, length, suc, take, drop, get_or, Option, Result, Ok, Err, inl, inr, refl, sym, subst, ◌∙◌, ap, ap₂, append-nil, append_assoc, arith, length-append}
use Rattle.std.specs.Prelude.{String, ◌-◌, ◌&&◌, ◌%◌, ◌==◌, nat_le}
use Rattle.std.specs.List.{AllZip}
use Rattle.std.specs.String.{string_bytes}
use Rattle.std.specs.declared.alloc.Global.{Global}
use Rattle.std.proofs.lemmas.List.{get_or-map, length-map, take_all}
use Rattle.std.proofs.lemmas.Bool.{and_parts, leb-true}
use Rattle.std.proofs.lemmas.Slice.Zip.{AllZip-long}
use Rattle.io_edge.specs.FileState.{FileState, SameFiles}
use Rattle.io_edge.specs.SinkState.{SinkState}
use Rattle.handover.specs.Handing.{Handed}
use Rattle.hist_model.specs.ReportAudit.{judging_by}
use Rattle.hist_model.specs.declared.event.Event.{Event}
use Rattle.hist_model.specs.declared.policy.Policy.{Policy}
use Rattle.hist_model.specs.declared.script.Script.{Script}
use Rattle.pod_broker.specs.Pods.{NoneOverlap, overlap}
use Rattle.pod_broker.specs.Serving.{AreServed, scripts}
use Rattle.pod_broker.specs.declared.container.Container.{Container}
use Rattle.worker_gate.specs.Endings.{HasEnded}
use Rattle.worker_gate.specs.declared.served.Played.{Played}
use Rattle.program_files.proofs.Reading.{input_before, policy_is_before, script_is_before}
use Rattle.program_files.specs.Printed.{Printed, status_of}
use Rattle.run_words.specs.Pairs.{texts, FilePair, are_pairs, in_pairs}
use Rattle.play_words.specs.Handovers.{report_and}
use Rattle.run_words.specs.PodText.{container_title, due_in, kept_in, parts, pod_text}
use Rattle.run_words.specs.Pods.{AreEnded, AreSeparate, AreServedApart, AreTaken, ContainerStops, HaveEnded, IsTaken, Overlapping, PairStops, PodEnds, in_container, scripts_of}
use Rattle.program_files.specs.Refusals.{InputRefused}
use Rattle.run_words.specs.Runs.{AreRun, Ending}
use Rattle.program_files.specs.declared.status.Status.{Status}
use Rattle.program_files.specs.declared.status.Status.TheVariants.{Refused, ContainerRefused, WriteFault, NoMemory, PidsOverlap}

-- ---- What was read

-- 1 to 8 pairs have 16 names at most
most_names : (count : ℕ) → are_pairs count ≡ true → count ≤ 16
most_names count pairs = leb-true count 16 (and_parts (nat_le 2 count) (nat_le count 16) (and_parts (nat_le 2 count && nat_le count 16) (count % 2 == 0) pairs).0).1

-- the policy or the script of a container wasn't taken
pub container_stops : (files after : FileState) (policy script : List ℕ) (number : ℕ) (status : Status) → InputRefused files after policy script status
    → ContainerStops files after (record { policy = policy; script = script }) number (in_container number status)
container_stops files after policy script number (Refused refusal) h = (refl, h)
container_stops files after policy script number NoMemory h = tt
container_stops files after policy script number status h = absurd h

-- two lists that are longer by one
pub zipped_more : {A B : Type 0} (R : A → B → Type 0) (xs : List A) (ys : List B) (x : A) (y : B) → AllZip R xs ys → R x y → AllZip R (xs ++ x ∷ []) (ys ++ y ∷ [])
zipped_more R [] [] x y h r = (r, tt)
zipped_more R [] (b ∷ ys) x y h r = absurd h
zipped_more R (a ∷ xs) [] x y h r = absurd h
zipped_more R (a ∷ xs) (b ∷ ys) x y h r = (h.0, zipped_more R xs ys x y h.1 r)

-- names that are two for each pair
pub two_each : (names : List (List ℕ)) → 2 * length (in_pairs names) ≤ length names
two_each [] = omega arith
two_each (policy ∷ []) = omega arith
two_each (policy ∷ script ∷ more) = let rest = two_each more in omega (arith, rest)

-- two names and those behind them
pub two_first : (names : List (String Global)) (policy script : String Global) → 2 ≤ length names → policy ≡ get_or names 0 policy → script ≡ get_or names 1 script
    → texts names ≡ string_bytes policy ∷ string_bytes script ∷ texts (take (length names - 2) (drop 2 names))
two_first [] policy script many p s = let no : ⊥ = omega (arith, many) in absurd no
two_first (a ∷ []) policy script many p s = let no : ⊥ = omega (arith, many) in absurd no
two_first (a ∷ b ∷ more) policy script many p s =
    let size : length more ≤ length (a ∷ b ∷ more) - 2 = omega arith in
    rw (p, s, take_all (length (a ∷ b ∷ more) - 2) more size) refl

-- fewer than two are no pair
pub no_pair : (names : List (String Global)) → length names < 2 → in_pairs (texts names) ≡ []
no_pair [] few = refl
no_pair (a ∷ []) few = refl
no_pair (a ∷ b ∷ more) few = let no : ⊥ = omega (arith, few) in absurd no

-- the pairs so far were taken, and these names are left
abbrev pub ReadSoFar : FileState → List (List ℕ) → List (List ℕ) → List Container → ℕ → Type 0
ReadSoFar files names rest cs number = (seen : List FilePair) × (in_pairs names ≡ seen ++ in_pairs rest) × (length seen ≡ number) × AreTaken files seen cs

-- one more pair was taken
pub one_read : (files mid after : FileState) (names rest : List (List ℕ)) (policy script : List ℕ) (cs : List Container) (c : Container) (number : ℕ) → SameFiles files mid
    → IsTaken mid (record { policy = policy; script = script }) c → ReadSoFar files names (policy ∷ script ∷ rest) cs number → ReadSoFar files names rest (cs ++ c ∷ []) (number + 1)
one_read files mid after names rest policy script cs c number same taken (seen, all, count, before) =
    let pair : FilePair = record { policy = policy; script = script } in
    let here : IsTaken files pair c = record { policy_is = policy_is_before files mid after policy same (Ok c.policy) taken.policy_is; script_is = script_is_before files mid after script same (Ok c.script) taken.script_is } in
    (seen ++ pair ∷ [], all ∙ sym (append_assoc seen (pair ∷ []) (in_pairs rest)), length-append seen (pair ∷ []) ∙ omega (arith, count), zipped_more (IsTaken files) seen cs pair c before here)

-- one more wasn't
pub one_refused : (files mid after : FileState) (names rest : List (List ℕ)) (policy script : List ℕ) (cs : List Container) (number : ℕ) (status : Status) → SameFiles files mid
    → ContainerStops mid after (record { policy = policy; script = script }) number status → ReadSoFar files names (policy ∷ script ∷ rest) cs number → PairStops files after (in_pairs names) status
one_refused files mid after names rest policy script cs number (ContainerRefused which refusal) same (is, refused) (seen, all, count, before) = record {
  before = seen;
  pair = record { policy = policy; script = script };
  behind = in_pairs rest;
  place = all;
  count = count ∙ sym is;
  taken = (cs, before);
  refused = input_before files mid after policy script refusal same refused;
}
one_refused files mid after names rest policy script cs number NoMemory same h r = tt
one_refused files mid after names rest policy script cs number status same h r = absurd h

-- there is room for one more
pub few_read : (files : FileState) (names rest : List (List ℕ)) (policy script : List ℕ) (cs : List Container) (number : ℕ) → are_pairs (length names) ≡ true
    → ReadSoFar files names (policy ∷ script ∷ rest) cs number → number < 8
few_read files names rest policy script cs number pairs (seen, all, count, before) =
    let all_names = two_each names in
    let sizes : length (in_pairs names) ≡ length seen + length (in_pairs (policy ∷ script ∷ rest)) = ap length all ∙ length-append seen (in_pairs (policy ∷ script ∷ rest)) in
    let most : length names ≤ 16 = most_names (length names) pairs in
    omega (arith, all_names, sizes, most, count)

-- no more than eight are taken
pub all_few : (files : FileState) (names rest : List (List ℕ)) (cs : List Container) (number : ℕ) → are_pairs (length names) ≡ true → ReadSoFar files names rest cs number → length cs ≤ 8
all_few files names rest cs number pairs (seen, all, count, before) =
    let all_names = two_each names in
    let sizes : length (in_pairs names) ≡ length seen + length (in_pairs rest) = ap length all ∙ length-append seen (in_pairs rest) in
    let most : length names ≤ 16 = most_names (length names) pairs in
    let long = AllZip-long (IsTaken files) seen cs before in
    omega (arith, all_names, sizes, most, long)

-- all were taken
pub all_read : (files : FileState) (names rest : List (List ℕ)) (cs : List Container) (number : ℕ) → in_pairs rest ≡ [] → ReadSoFar files names rest cs number → AreTaken files (in_pairs names) cs
all_read files names rest cs number none (seen, all, count, before) =
    subst (λ (pairs : List FilePair). AreTaken files pairs cs) (sym (all ∙ (ap (λ (pairs : List FilePair). seen ++ pairs) none ∙ append-nil seen))) before

-- ---- Ranges of PIDs

-- where no range overlaps one behind it, no two overlap
pub none_overlap : (cs : List Container) → AreSeparate cs (length cs) → NoneOverlap (scripts cs)
none_overlap [] separate = λ i j d behind within. let no : ⊥ = omega (arith, within) in absurd no
none_overlap (c ∷ more) separate = λ i j d behind within. by i j d behind (subst (λ (n : ℕ). j < n) (length-map (c ∷ more) script_of) within)
  where
    script_of : Container → Script
    script_of x = x.script

    by : (i j : ℕ) (d : Script) → i < j → j < length (c ∷ more) → overlap (get_or (scripts (c ∷ more)) i d) (get_or (scripts (c ∷ more)) j d) ≡ false
    by i j d behind within =
        let before : i < length (c ∷ more) = omega (arith, behind, within) in
        rw (get_or-map (λ (x : Container). x.script) (c ∷ more) i c d before, get_or-map (λ (x : Container). x.script) (c ∷ more) j c d within) (separate i before j behind within c)

-- ---- What was served

module _ (Ended : Ending) (every : Option ℕ) where
  -- what was served by a pod has such ends
  pub are-ended : (workers : ℕ) (Keeps : List Event → Type 0) → ((P : Policy) (S : Script) (H : List Event) → HasEnded P S workers H → Keeps H → Ended P S H) → (cs : List Container) (ps : List Played) → AreServed workers every Keeps cs ps
      → AreEnded Ended every cs ps
  are-ended workers Keeps end [] [] served = tt
  are-ended workers Keeps end [] (p ∷ ps) served = absurd served
  are-ended workers Keeps end (c ∷ cs) [] served = absurd served
  are-ended workers Keeps end (c ∷ cs) (p ∷ ps) (this, served) =
      (record { policy = this.policy; script = this.script; ended = end c.policy c.script p.history.events this.ended this.keeps; kept = this.handed }, are-ended workers Keeps end cs ps served)

  -- what was served are the containers that were read
  pub have_ended : (files : FileState) (pairs : List FilePair) (cs : List Container) (ps : List Played) → AreTaken files pairs cs → AreEnded Ended every cs ps → HaveEnded files Ended pairs ps
  have_ended files [] [] [] taken served = tt
  have_ended files [] [] (p ∷ ps) taken served = absurd served
  have_ended files [] (c ∷ cs) ps taken served = absurd taken
  have_ended files (pair ∷ pairs) [] ps taken served = absurd taken
  have_ended files (pair ∷ pairs) (c ∷ cs) [] taken served = absurd served
  have_ended files (pair ∷ pairs) (c ∷ cs) (p ∷ ps) (one, taken) (this, served) = (run, have_ended files pairs cs ps taken served)
    where
      run : AreRun files pair.policy pair.script Ended p.policy p.script p.history.events
      run = rw (this.policy, this.script) (record { policy_is = one.policy_is; script_is = one.script_is; ended = this.ended })

  -- by their own scripts
  pub same_scripts : (cs : List Container) (ps : List Played) → AreEnded Ended every cs ps → scripts cs ≡ scripts_of ps
  same_scripts [] [] served = refl
  same_scripts [] (p ∷ ps) served = absurd served
  same_scripts (c ∷ cs) [] served = absurd served
  same_scripts (c ∷ cs) (p ∷ ps) (this, served) = ap₂ (λ (S : Script) (more : List Script). S ∷ more) (sym this.script) (same_scripts cs ps served)

  -- the ledgers that were kept are theirs
  pub same_parts : (number : ℕ) (cs : List Container) (ps : List Played) → AreEnded Ended every cs ps → parts kept_in number ps ≡ parts (due_in every) number ps
  same_parts number [] [] served = refl
  same_parts number [] (p ∷ ps) served = absurd served
  same_parts number (c ∷ cs) [] served = absurd served
  same_parts number (c ∷ cs) (p ∷ ps) (this, served) =
      ap₂ (λ (all : Option (List Handed)) (more : List ℕ). (container_title number ++ report_and (judging_by p.policy.rules) p.history.events all) ++ more) this.kept (same_parts (suc number) cs ps served)

-- ---- How it ended

-- nothing was served, since a pair wasn't taken
pub pairs_stop : (files after : FileState) (sink : SinkState) (Ended : Ending) (every : Option ℕ) (pairs : List FilePair) (status : Status) → PairStops files after pairs status
    → PodEnds files after sink sink Ended every pairs status
pairs_stop files after sink Ended every pairs (ContainerRefused number refusal) h = (h, λ t. refl)
pairs_stop files after sink Ended every pairs NoMemory h = inl (λ t. refl)
pairs_stop files after sink Ended every pairs status h = absurd h

-- or since ranges overlap
pub ranges_stop : (files after : FileState) (sink : SinkState) (Ended : Ending) (every : Option ℕ) (pairs : List FilePair) (cs : List Container) (status : Status) → AreTaken files pairs cs → Overlapping cs status
    → PodEnds files after sink sink Ended every pairs status
ranges_stop files after sink Ended every pairs cs (PidsOverlap first second) taken h = ((cs, taken, h), λ t. refl)
ranges_stop files after sink Ended every pairs cs status taken h = absurd h

-- or nothing was printed, for want of memory
pub pod_unserved : (files after : FileState) (sink : SinkState) (Ended : Ending) (every : Option ℕ) (pairs : List FilePair) → PodEnds files after sink sink Ended every pairs NoMemory
pod_unserved files after sink Ended every pairs = inl (λ t. refl)

-- the reports, the ledgers and the sums were printed, or a part of them
pub pod_ends : (files after : FileState) (old new : SinkState) (Ended : Ending) (every : Option ℕ) (pairs : List FilePair) (ps : List Played) (r : Result (Unit {0}) Status) → AreServedApart files Ended pairs ps
    → Printed (pod_text (due_in every) ps) old new r → PodEnds files after old new Ended every pairs (status_of r)
pod_ends files after old new Ended every pairs ps (Ok u) served p = ((ps, served, p.0), p.1)
pod_ends files after old new Ended every pairs ps (Err WriteFault) served p = (p.0, (ps, served, p.1))
pod_ends files after old new Ended every pairs ps (Err NoMemory) served p = inr (ps, served, p)
pod_ends files after old new Ended every pairs ps (Err status) served p = absurd p
