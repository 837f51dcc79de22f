-- What a caller reads of a buffer where the status is 0.
-- By the lengths of lists, since the text fits.
use Rattle.std.proofs.Common.{◌≡◌, ℕ, ◌≤◌, Bool, true, false, List, ◌++◌, length, take, drop, ◌∙◌, ap, refl, sym, subst, arith}
use Rattle.std.specs.Prelude.{nat_lt}
use Rattle.std.proofs.lemmas.Bool.{ltb-false}
use Rattle.std.proofs.lemmas.List.{take_all}
use Rattle.std.proofs.lemmas.Grind.{common_steps}
use Rattle.play_words.specs.Handovers.{with_ledgers}
use Rattle.play_words.specs.Printings.{Printing}
use Rattle.program_files.specs.declared.status.Refusal.TheVariants.{ReadFault}
use Rattle.program_files.specs.declared.status.Status.{Status}
use Rattle.program_files.specs.declared.status.Status.TheVariants.{Done, ContainerRefused, Otherwise, Refused}
use Rattle.policy_classes.specs.declared.ending.Ending.TheVariants.{Alike, Otherwise as EndsOtherwise}
use Rattle.broker_c.specs.Buffers.{Holds, number_of}
use Rattle.broker_c.specs.Outcomes.{CheckGives, ExploreGives, HandoverGives, IsAskedExploration, IsFindings, IsHandover, IsJudgement, IsPlay, IsSummary, JudgeGives, PlayGives, StressGives}

-- a text that fits is read back
read_back : (text old new : List ℕ) (told : ℕ) → length text ≤ length old → Holds text old new told → take told new ≡ text
read_back text old new told fits held =
    let whole : take (length old) text ≡ text = take_all (length old) text fits in
    let front : take (length text) (text ++ drop (length text) old) ≡ text = grind (arith, common_steps) in
    rw (held.whole, held.bytes, whole) front

-- number 0 is status 0, with a text that fits
number-0 : (status : Status) (text size : ℕ) → number_of status text size ≡ 0 → (status ≡ Done) × (text ≤ size)
number-0 Done text size is = by (nat_lt size text) refl
  where
    by : (short : Bool) → nat_lt size text ≡ short → (Done ≡ Done) × (text ≤ size)
    by true s = let e = rw s at is in cc
    by false s = (refl, ltb-false size text s)
number-0 Otherwise text size is = by (nat_lt size text) refl
  where
    by : (short : Bool) → nat_lt size text ≡ short → (Otherwise ≡ Done) × (text ≤ size)
    by true s = let e = rw s at is in cc
    by false s = let e = rw s at is in cc
number-0 (Refused (ReadFault file)) text size is = cc
number-0 (ContainerRefused container (ReadFault file)) text size is = cc
number-0 status text size is = cc

-- and number 11 is status 11
number-11 : (status : Status) (text size : ℕ) → number_of status text size ≡ 11 → (status ≡ Otherwise) × (text ≤ size)
number-11 Otherwise text size is = by (nat_lt size text) refl
  where
    by : (short : Bool) → nat_lt size text ≡ short → (Otherwise ≡ Otherwise) × (text ≤ size)
    by true s = let e = rw s at is in absurd (omega arith)
    by false s = (refl, ltb-false size text s)
number-11 Done text size is = by (nat_lt size text) refl
  where
    by : (short : Bool) → nat_lt size text ≡ short → (Done ≡ Otherwise) × (text ≤ size)
    by true s = let e = rw s at is in absurd (omega arith)
    by false s = let e = rw s at is in absurd (omega arith)
number-11 (Refused (ReadFault file)) text size is = absurd (omega arith)
number-11 (ContainerRefused container (ReadFault file)) text size is = absurd (omega arith)
number-11 status text size is = absurd (omega arith)

-- what a play prints is read where the number is 0
pub play_told : (text : Printing) (policy script : List ℕ) (room : ℕ) (status : Status) (printed old new : List ℕ) (told number : ℕ) → PlayGives text policy script room printed status
    → number ≡ number_of status (length printed) (length old) → Holds printed old new told → number ≡ 0 → IsPlay text policy script (take told new)
play_told text policy script room status printed old new told number gives is held zero =
    let fits = number-0 status (length printed) (length old) (sym is ∙ zero) in
    let whole : PlayGives text policy script room printed Done = subst (λ s. PlayGives text policy script room printed s) fits.0 gives in
    subst (λ bytes. IsPlay text policy script bytes) (sym (read_back printed old new told fits.1 held)) whole.0

-- and what was found of a report
pub findings_told : (policy script report : List ℕ) (room : ℕ) (status : Status) (printed old new : List ℕ) (told number : ℕ) → CheckGives policy script report room printed status
    → number ≡ number_of status (length printed) (length old) → Holds printed old new told → number ≡ 0 → IsFindings policy script report (take told new)
findings_told policy script report room status printed old new told number gives is held zero =
    let fits = number-0 status (length printed) (length old) (sym is ∙ zero) in
    let whole : CheckGives policy script report room printed Done = subst (λ s. CheckGives policy script report room printed s) fits.0 gives in
    subst (λ text. IsFindings policy script report text) (sym (read_back printed old new told fits.1 held)) whole.0

-- and a summary
pub summary_told : (from count room : ℕ) (status : Status) (printed old new : List ℕ) (told number : ℕ) → StressGives from count room printed status
    → number ≡ number_of status (length printed) (length old) → Holds printed old new told → number ≡ 0 → IsSummary from count (take told new)
summary_told from count room status printed old new told number gives is held zero =
    let fits = number-0 status (length printed) (length old) (sym is ∙ zero) in
    let whole : StressGives from count room printed Done = subst (λ s. StressGives from count room printed s) fits.0 gives in
    subst (λ text. IsSummary from count text) (sym (read_back printed old new told fits.1 held)) whole.1

-- and a report with the ledgers behind it
pub handover_told : (policy script : List ℕ) (every room : ℕ) (status : Status) (printed old new : List ℕ) (told number : ℕ) → HandoverGives policy script every room printed status
    → number ≡ number_of status (length printed) (length old) → Holds printed old new told → number ≡ 0 → IsHandover policy script every (take told new)
handover_told policy script every room status printed old new told number gives is held zero =
    let fits = number-0 status (length printed) (length old) (sym is ∙ zero) in
    let whole : HandoverGives policy script every room printed Done = subst (λ s. HandoverGives policy script every room printed s) fits.0 gives in
    play_told (with_ledgers every) policy script room Done printed old new told 0 whole.1 (sym zero ∙ (is ∙ ap (λ s. number_of s (length printed) (length old)) fits.0)) held refl

-- and what a script can come to
pub exploration_told : (policy script : List ℕ) (workers delays room : ℕ) (status : Status) (printed old new : List ℕ) (told number : ℕ) → ExploreGives policy script workers delays room printed status
    → number ≡ number_of status (length printed) (length old) → Holds printed old new told → number ≡ 0 → IsAskedExploration policy script workers delays (take told new)
exploration_told policy script workers delays room status printed old new told number gives is held zero =
    let fits = number-0 status (length printed) (length old) (sym is ∙ zero) in
    let whole : ExploreGives policy script workers delays room printed Done = subst (λ s. ExploreGives policy script workers delays room printed s) fits.0 gives in
    subst (λ text. IsAskedExploration policy script workers delays text) (sym (read_back printed old new told fits.1 held)) (whole.0, whole.1, whole.2.0)

-- and that workers mediate
pub mediated_told : (policy script : List ℕ) (room : ℕ) (status : Status) (printed old new : List ℕ) (told number : ℕ) → JudgeGives policy script room printed status
    → number ≡ number_of status (length printed) (length old) → Holds printed old new told → number ≡ 0 → IsJudgement policy script Alike (take told new)
mediated_told policy script room status printed old new told number gives is held zero =
    let fits = number-0 status (length printed) (length old) (sym is ∙ zero) in
    let whole : JudgeGives policy script room printed Done = subst (λ s. JudgeGives policy script room printed s) fits.0 gives in
    subst (λ text. IsJudgement policy script Alike text) (sym (read_back printed old new told fits.1 held)) whole.0

-- or which clause they break, where the number is 11
pub broken_told : (policy script : List ℕ) (room : ℕ) (status : Status) (printed old new : List ℕ) (told number : ℕ) → JudgeGives policy script room printed status
    → number ≡ number_of status (length printed) (length old) → Holds printed old new told → number ≡ 11 → IsJudgement policy script EndsOtherwise (take told new)
broken_told policy script room status printed old new told number gives is held eleven =
    let fits = number-11 status (length printed) (length old) (sym is ∙ eleven) in
    let whole : JudgeGives policy script room printed Otherwise = subst (λ s. JudgeGives policy script room printed s) fits.0 gives in
    subst (λ text. IsJudgement policy script EndsOtherwise text) (sym (read_back printed old new told fits.1 held)) whole.0
