-- The forms of words, as the program's code has them.
use Rattle.std.specs.Prelude.{◌≡◌, ◌<◌, ◌≤◌, true, length, IfSome}
use Rattle.std.specs.Option.{option_copied}
use Rattle.broker_app.specs.Words.{Form as Meaning, AuditCheck as Checks, Explain as Explains, Explore as Explores, Handover as Hands}
use Rattle.broker_app.specs.Words.{Check as ChecksClaims, Compare as Compares, Judge as Judges, Lanes as RunsByLanes, Lint as Lints}
use Rattle.broker_app.specs.Words.{Play as Plays, Pod as ServesPod, Run as Runs, Step as Steps, Stress as Stresses}
use Rattle.play_words.specs.Handovers.{IsAfterSteps}
use Rattle.run_words.specs.Pairs.{are_pairs, in_pairs, texts}
use Rattle.broker_app.specs.declared.words.Form.{Form}
use Rattle.broker_app.specs.declared.words.Form.TheVariants.{Job as IsJob, Lanes, Pod, Run}
use Rattle.broker_app.specs.declared.words.Job.{Job}
use Rattle.broker_app.specs.declared.words.Job.TheVariants.{AuditCheck, Check, Compare, Explain, Explore, Handover, Lint, Judge, Play}
use Rattle.broker_app.specs.declared.words.Job.TheVariants.{Step, Stress}

-- the form of the words that ask for a job
abbrev pub job_of : Job → Meaning
job_of (Play policy script) = Plays policy.now script.now
job_of (Stress from count) = Stresses from count
job_of (AuditCheck policy script report) = Checks policy.now script.now report.now
job_of (Handover policy script every) = Hands policy.now script.now every
job_of (Explore policy script workers delays) = Explores policy.now script.now workers delays
job_of (Step policy script) = Steps policy.now script.now
job_of (Judge policy script) = Judges policy.now script.now
job_of (Explain policy calls) = Explains policy.now calls.now
job_of (Compare old new script) = Compares old.now new.now (option_copied script)
job_of (Check policy claims) = ChecksClaims policy.now claims.now
job_of (Lint policy) = Lints policy.now

-- the form that the words have
abbrev pub form_of : Form → Meaning
form_of (IsJob job) = job_of job
form_of (Run policy script workers cpus every) = Runs policy.now script.now workers cpus every
form_of (Lanes policy script cpus every) = RunsByLanes policy.now script.now cpus every
form_of (Pod workers cpus every pairs) = ServesPod workers cpus every (in_pairs (texts pairs.now))

-- generated input has at most 4000 calls, a worker is replaced after one step at the earliest,
-- and the workers of what is explored are 0 to 15 at most
abbrev pub IsJobInRange : Job → Type 0
IsJobInRange (Stress from count) = count ≤ 4000
IsJobInRange (Handover policy script every) = 0 < every
IsJobInRange (Explore policy script workers delays) = workers ≤ 15
IsJobInRange _ = Unit {0}

-- a run has at most 16 hands of either kind beside the calling one, and so has a pod, whose words name pairs of files
abbrev pub IsInRange : Form → Type 0
IsInRange (IsJob job) = IsJobInRange job
IsInRange (Run policy script workers cpus every) = (workers ≤ 16) × (cpus ≤ 16) × IsAfterSteps every
IsInRange (Lanes policy script cpus every) = (cpus ≤ 16) × IsAfterSteps every
IsInRange (Pod workers cpus every pairs) =
    IfSome workers (λ w. w ≤ 16) × (cpus ≤ 16) × IsAfterSteps every × (are_pairs (length pairs.now) ≡ true)
