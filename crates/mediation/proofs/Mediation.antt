-- Every legal history is mediated.
-- By what the kernel keeps whoever its workers are, and by theorems on this broker's workers in the files beside this one.
use Rattle.mediation.proofs.Common.{Event, IsLegal, length, List, Mediated, Policy, rules_of, Script, system_of, ◌<◌, ◌^◌}
use Rattle.mediation.proofs.Rows.{of-kernel}
use Rattle.mediation.proofs.KernelClauses.{kernel-keeps}
use Rattle.mediation.proofs.Order.{keeps_order}
use Rattle.mediation.proofs.Replies.{installs_own, resumes_own, returns_installed, names_own, lost_if_gone, errors_known, never_busy}
use Rattle.mediation.proofs.Causes.{has_cause, lets_go_at_end, receives_idle}
use Rattle.mediation.proofs.Effects.{times-kept, acts-are-granted, plants-are-granted, puts-are-injected, reads-are-own}
use Rattle.mediation.proofs.Told.{checks_own, puts_open, takes_installed}
use Rattle.mediation.proofs.Audited.{audit-names}

pub mediated : (P : Policy) (S : Script) (K : List Event) → IsLegal (system_of S) (rules_of P S.figures) K → length K < 2 ^ 64 → Mediated P S K
mediated P S K legal room =
    let T = system_of S in
    let R = rules_of P S.figures in
    let kernel = kernel-keeps S K (of-kernel T R K legal) room in
    record {
      once = kernel.once;
      reaches = record {
        own = names_own T R K legal room;
        never_busy = never_busy T R K legal room;
        errors = errors_known T R K legal room;
        installs = installs_own T R K legal room;
        installs_there = kernel.installs_there;
        installs_alone = kernel.installs_alone;
        fails_alone = kernel.fails_alone;
        resumes = resumes_own T R K legal room;
        returns_installed = returns_installed T R K legal room;
        arrives = kernel.arrives;
      };
      effects = record {
        reads = reads-are-own T R K legal room;
        ordered = keeps_order T R K legal;
        acts = acts-are-granted P S K legal room;
        plants = plants-are-granted P S K legal room;
        puts = puts-are-injected P S K legal room;
        times = times-kept P S K legal;
        spent = kernel.spent;
      };
      answers = record {
        cause = has_cause T R K legal room;
        audit = audit-names P S.figures S K legal room;
        lets_go = lets_go_at_end T R K legal room;
        receives_idle = receives_idle T R K legal room;
      };
      told = record {
        fetches_oldest = kernel.fetches_oldest;
        finds_none = kernel.finds_none;
        receives = kernel.receives;
        opens_memory = kernel.opens_memory;
        opens_base = kernel.opens_base;
        checks_own = checks_own T R K legal room;
        reads_memory = kernel.reads_memory;
        acts_on_tree = kernel.acts_on_tree;
        plants_where_mapped = kernel.plants_where_mapped;
        puts_open = puts_open P S K legal room;
        takes_installed = takes_installed T R K legal room;
        lost = lost_if_gone T R K legal room;
      };
      past = kernel.past;
      passed = kernel.passed;
    }
