-- The words with which the program is called, and the forms that they may have.
use Rattle.std.specs.Prelude.{ℕ, ◌-◌, ◌^◌, if◌then◌else◌, List, [], ◌∷◌, length, Option, Some, None, bytes_eq, codes}
use Rattle.std.specs.Option.{option_map}
use Rattle.hist_model.specs.Words.{number_between}
use Rattle.run_words.specs.Pairs.{FilePair, are_pairs, in_pairs}

-- play a script, run it with threads or by lanes, play generated input, check a report, play a script with workers that are replaced, serve
-- containers side by side, explore a script's histories, step a script as requests ask for, explain calls, compare two policies,
-- check claims about a policy, or find what is likely a mistake in one. What threads serve may have workers that are replaced as well:
-- after how many of their steps, if they are
pub data Form : Type 0 where
  Play : List ℕ → List ℕ → Form
  Run : List ℕ → List ℕ → ℕ → ℕ → Option ℕ → Form
  Lanes : List ℕ → List ℕ → ℕ → Option ℕ → Form
  Stress : ℕ → ℕ → Form
  AuditCheck : List ℕ → List ℕ → List ℕ → Form
  Handover : List ℕ → List ℕ → ℕ → Form
  Pod : Option ℕ → ℕ → Option ℕ → List FilePair → Form
  Explore : List ℕ → List ℕ → ℕ → Option ℕ → Form
  Step : List ℕ → List ℕ → Form
  Judge : List ℕ → List ℕ → Form
  Explain : List ℕ → List ℕ → Form
  Compare : List ℕ → List ℕ → Option (List ℕ) → Form
  Check : List ℕ → List ℕ → Form
  Lint : List ℕ → Form

-- after how many steps of workers one is replaced, where the word before the number says so; nothing where it doesn't
abbrev pub every_of : List ℕ → List ℕ → Option (Option ℕ)
every_of word count = if bytes_eq word (codes "every") then option_map Some (number_between 1 200000 count) else None

abbrev pub run_form : List ℕ → List ℕ → Option ℕ → Option ℕ → Option (Option ℕ) → Option Form
run_form policy script (Some workers) (Some cpus) (Some every) = Some (Run policy script workers cpus every)
run_form policy script _ _ _ = None

abbrev pub lanes_form : List ℕ → List ℕ → Option ℕ → Option (Option ℕ) → Option Form
lanes_form policy script (Some cpus) (Some every) = Some (Lanes policy script cpus every)
lanes_form policy script _ _ = None

abbrev pub handover_form : List ℕ → List ℕ → Option ℕ → Option Form
handover_form policy script (Some every) = Some (Handover policy script every)
handover_form policy script None = None

-- who serves: workers up to this one, or lanes; nothing where the word is neither
abbrev pub servers_of : List ℕ → Option (Option ℕ)
servers_of word = if bytes_eq word (codes "lanes") then Some None else option_map Some (number_between 0 16 word)

abbrev pub pod_form : Option (Option ℕ) → Option ℕ → Option (Option ℕ) → List (List ℕ) → Option Form
pod_form (Some workers) (Some cpus) (Some every) names =
    if are_pairs (length names) then Some (Pod workers cpus every (in_pairs names)) else None
pod_form workers cpus every names = None

-- the form of the words after CPUS: `every` and a number, if workers are replaced, and the names
abbrev pub pod_words : Option (Option ℕ) → Option ℕ → List (List ℕ) → Option Form
pod_words workers cpus (word ∷ count ∷ names) =
    if bytes_eq word (codes "every") then pod_form workers cpus (every_of word count) names
    else pod_form workers cpus (Some None) (word ∷ count ∷ names)
pod_words workers cpus names = pod_form workers cpus (Some None) names

-- a bound of delays, or none where all are asked for; nothing where the word is neither
abbrev pub delays_of : List ℕ → Option (Option ℕ)
delays_of word = if bytes_eq word (codes "all") then Some None else option_map Some (number_between 0 8 word)

abbrev pub explore_form : List ℕ → List ℕ → Option ℕ → Option (Option ℕ) → Option Form
explore_form policy script (Some workers) (Some delays) = Some (Explore policy script workers delays)
explore_form policy script _ _ = None

abbrev pub stress_form : Option ℕ → Option ℕ → Option Form
stress_form (Some from) (Some count) = Some (Stress from count)
stress_form _ _ = None

abbrev pub two_words : List ℕ → List ℕ → Option Form
two_words command a = if bytes_eq command (codes "lint") then Some (Lint a) else None

abbrev pub three_words : List ℕ → List ℕ → List ℕ → Option Form
three_words command a b =
    if bytes_eq command (codes "play") then Some (Play a b)
    else (if bytes_eq command (codes "stress") then stress_form (number_between 0 (2 ^ 64 - 1) a) (number_between 1 4000 b)
    else (if bytes_eq command (codes "step") then Some (Step a b)
    else (if bytes_eq command (codes "judge") then Some (Judge a b)
    else (if bytes_eq command (codes "explain") then Some (Explain a b)
    else (if bytes_eq command (codes "compare") then Some (Compare a b None)
    else (if bytes_eq command (codes "check") then Some (Check a b) else None))))))

abbrev pub four_words : List ℕ → List ℕ → List ℕ → List ℕ → Option Form
four_words command a b c =
    if bytes_eq command (codes "audit-check") then Some (AuditCheck a b c)
    else (if bytes_eq command (codes "lanes") then lanes_form a b (number_between 0 16 c) (Some None)
    else (if bytes_eq command (codes "handover") then handover_form a b (number_between 1 200000 c)
    else (if bytes_eq command (codes "compare") then Some (Compare a b (Some c)) else None)))

abbrev pub five_words : List ℕ → List ℕ → List ℕ → List ℕ → List ℕ → Option Form
five_words command a b c d =
    if bytes_eq command (codes "run") then run_form a b (number_between 0 16 c) (number_between 0 16 d) (Some None)
    else (if bytes_eq command (codes "explore") then explore_form a b (number_between 0 15 c) (delays_of d) else None)

abbrev pub six_words : List ℕ → List ℕ → List ℕ → List ℕ → List ℕ → List ℕ → Option Form
six_words command a b c d e =
    if bytes_eq command (codes "lanes") then lanes_form a b (number_between 0 16 c) (every_of d e) else None

abbrev pub seven_words : List ℕ → List ℕ → List ℕ → List ℕ → List ℕ → List ℕ → List ℕ → Option Form
seven_words command a b c d e f =
    if bytes_eq command (codes "run") then run_form a b (number_between 0 16 c) (number_between 0 16 d) (every_of e f) else None

-- the form of six or seven words: lanes POLICY SCRIPT CPUS every EVERY, or run POLICY SCRIPT WORKERS CPUS every EVERY
abbrev pub more_words : List (List ℕ) → Option Form
more_words (command ∷ a ∷ b ∷ c ∷ d ∷ e ∷ []) = six_words command a b c d e
more_words (command ∷ a ∷ b ∷ c ∷ d ∷ e ∷ f ∷ []) = seven_words command a b c d e f
more_words _ = None

-- the form of three to five words: play POLICY SCRIPT, stress FROM COUNT, step POLICY SCRIPT, judge POLICY SCRIPT, explain POLICY CALLS,
-- compare OLD NEW [SCRIPT], check POLICY CLAIMS, audit-check POLICY SCRIPT REPORT, lanes POLICY SCRIPT CPUS, handover POLICY SCRIPT EVERY,
-- run POLICY SCRIPT WORKERS CPUS, or explore POLICY SCRIPT WORKERS DELAYS; or one of more words
abbrev pub few_words : List (List ℕ) → Option Form
few_words (command ∷ a ∷ b ∷ []) = three_words command a b
few_words (command ∷ a ∷ b ∷ c ∷ []) = four_words command a b c
few_words (command ∷ a ∷ b ∷ c ∷ d ∷ []) = five_words command a b c d
few_words words = more_words words

-- the form of two words: lint POLICY
abbrev pub short_words : List (List ℕ) → Option Form
short_words (command ∷ a ∷ []) = two_words command a
short_words _ = None

-- the form of the words: pod WORKERS CPUS [every EVERY] POLICY SCRIPT .., with 1 to 8 pairs of files, where WORKERS may be `lanes`,
-- one of three to seven words, or lint POLICY
abbrev pub form : List (List ℕ) → Option Form
form (command ∷ a ∷ b ∷ more) =
    if bytes_eq command (codes "pod") then pod_words (servers_of a) (number_between 0 16 b) more
    else few_words (command ∷ a ∷ b ∷ more)
form words = short_words words
