-- The value that was read is the text's, and where none was read there is none.
use Rattle.std.proofs.Common.{Some, rules, tests}
use Rattle.std.proofs.lemmas.Str.{IsUtf8-from_is_utf8, is_utf8-from_IsUtf8}
use Rattle.policy_reader.proofs.Wholes.{accepts, policy_read, policy_unread, refuses}
use Rattle.policy_reader.specs.Policies.{policy, policy_of}
use Rattle.serde_json.specs.Errors.{IsMemory}
use Rattle.serde_json.specs.View.{view}
use Rattle.policy_reader.proofs.policies.read_policy.Goals as goal

pub returns-in-Ok-clause-accepted : goal.returns-in-Ok-clause-accepted
returns-in-Ok-clause-accepted c =
    let bytes = c.args.bytes.now in
    let d = view c.in-Ok.value in
    let read = c.in-Ok.ensures.ok in
    accepts c.read_value.result (policy_of (Some d)) (policy bytes) c.read_value.ensures (policy_read bytes d (is_utf8-from_IsUtf8 bytes read.0) read.1)

pub returns-in-Ok-clause-refused : goal.returns-in-Ok-clause-refused
returns-in-Ok-clause-refused c =
    let bytes = c.args.bytes.now in
    let d = view c.in-Ok.value in
    let read = c.in-Ok.ensures.ok in
    refuses c.read_value.result (policy_of (Some d)) (policy bytes) c.read_value.ensures (policy_read bytes d (is_utf8-from_IsUtf8 bytes read.0) read.1)

pub returns-in-Err-2-clause-refused : goal.returns-in-Err-2-clause-refused
returns-in-Err-2-clause-refused c =
    let other : ¬ (IsMemory c.in-Err.error) = search (rules, tests) in
    policy_unread c.args.bytes.now (λ u. c.in-Err.ensures.err other (IsUtf8-from_is_utf8 c.args.bytes.now u))
