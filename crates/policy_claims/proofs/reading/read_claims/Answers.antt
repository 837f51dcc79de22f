-- The value that was read is the text's, and where none was read there is none.
use Rattle.std.proofs.Common.{Some, rules, tests}
use Rattle.std.proofs.lemmas.Str.{IsUtf8-from_is_utf8, is_utf8-from_IsUtf8}
use Rattle.policy_claims.proofs.Wholes.{claims_read, claims_unread, given}
use Rattle.policy_claims.specs.Claims.{claims, claims_of}
use Rattle.serde_json.specs.Errors.{IsMemory}
use Rattle.serde_json.specs.View.{view}
use Rattle.policy_claims.proofs.reading.read_claims.Goals as goal

pub returns-in-Ok : goal.returns-in-Ok
returns-in-Ok c =
    let bytes = c.args.bytes.now in
    let d = view c.in-Ok.value in
    let read = c.in-Ok.ensures.ok in
    given c.read_value.result (claims_of (Some d)) (claims bytes) c.read_value.ensures (claims_read bytes d (is_utf8-from_IsUtf8 bytes read.0) read.1)

pub returns-in-Err-2 : goal.returns-in-Err-2
returns-in-Err-2 c =
    let other : ¬ (IsMemory c.in-Err.error) = search (rules, tests) in
    claims_unread c.args.bytes.now (λ u. c.in-Err.ensures.err other (IsUtf8-from_is_utf8 c.args.bytes.now u))
