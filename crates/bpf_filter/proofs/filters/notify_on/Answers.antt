use Rattle.std.proofs.Common.{◌≡◌, rules}
use Rattle.hist_model.specs.Filters.{notify_filter}
use Rattle.bpf_filter.proofs.Notifies.{notify_is_accepted, notify_answers}
use Rattle.bpf_filter.proofs.filters.notify_on.Goals as goal

built : (c : goal.After-push_call_tests) → c.push_call_tests.new.insns.items ≡ notify_filter c.args.calls.now
built c = search rules

pub invariant_of-result : goal.invariant_of-result
invariant_of-result c = rw (built c) (notify_is_accepted c.args.calls.now c.requires)

pub returns-clause-answers : goal.returns-clause-answers
returns-clause-answers c = λ call. rw (built c) (notify_answers c.args.calls.now call)
