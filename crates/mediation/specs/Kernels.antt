-- What the kernel keeps, whoever its workers are and whatever they ask for (seccomp_unotify(2)).
use Rattle.std.specs.Prelude.{List}
use Rattle.hist_model.specs.Laws.{PidsDiffer}
use Rattle.hist_model.specs.Mediated.{ActsOnTree, Arrives, Each, FailsAlone, FetchesOldest}
use Rattle.hist_model.specs.Mediated.{FindsNone, InstallsAlone, InstallsThere, NothingGoesPast}
use Rattle.hist_model.specs.Mediated.{OpensBase, OpensMemory, PassedWithoutRights}
use Rattle.hist_model.specs.Mediated.{PlantsWhereMapped, ReadsMemory, ReceivedAndAnsweredOnce, ReceivesFor}
use Rattle.hist_model.specs.Mediated.{SpentExactly}
use Rattle.hist_model.specs.declared.event.Event.{Event}
use Rattle.hist_model.specs.declared.script.Script.{Script}
use Rattle.mediation.specs.Facts.{CallIdsDiffer}
use Rattle.mediation.specs.KernelAnswers.{ChecksWaiting, PutsForWaiting, ReturnsAsAnswered, SendsToWaiting, StaysInCall, TakesItsRequest}

pub record KernelKeeps (S : Script) (K : List Event) : Type 0 where
  -- two calls have different ids, and two tasks that are not reaped different PIDs
  pub ids : CallIdsDiffer K
  pub pids : PidsDiffer K
  -- each notification is received and answered at most once
  pub once : ReceivedAndAnsweredOnce K
  -- a descriptor is installed where its request says, and there alone; and what was accepted for a call arrives
  pub installs_there : Each (InstallsThere S) K
  pub installs_alone : Each (InstallsAlone S) K
  pub fails_alone : Each (FailsAlone S) K
  pub arrives : Each Arrives K
  -- an id is valid, an answer and a descriptor are accepted, and a take and a call return, as the calls that wait say
  pub checks_waiting : Each ChecksWaiting K
  pub sends_to_waiting : Each SendsToWaiting K
  pub puts_for_waiting : Each (PutsForWaiting S) K
  pub takes_its_request : Each TakesItsRequest K
  pub returns_as_answered : Each ReturnsAsAnswered K
  -- and while a call waits, its task stays in it
  pub stays : Each StaysInCall K
  -- a worker is told what is so of what it receives, opens, reads and does
  pub fetches_oldest : Each FetchesOldest K
  pub finds_none : Each FindsNone K
  pub receives : Each ReceivesFor K
  pub opens_memory : Each OpensMemory K
  pub opens_base : Each (OpensBase S) K
  pub reads_memory : Each (ReadsMemory S) K
  pub acts_on_tree : Each (ActsOnTree S) K
  pub plants_where_mapped : Each (PlantsWhereMapped S) K
  -- an effect whose cap is spent is refused, and no other
  pub spent : Each SpentExactly K
  -- nothing goes past the broker, and a passed call runs without its rights
  pub past : NothingGoesPast S K
  pub passed : PassedWithoutRights S K
