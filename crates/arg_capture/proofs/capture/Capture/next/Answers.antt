-- A capture with a fault wants nothing.
use Rattle.std.proofs.Common.{rules, ◌≡◌, [], None}
use Rattle.std.specs.Prelude.{ℕ, Option}
use Rattle.arg_capture.specs.Captures.{continued, wanted}
use Rattle.arg_capture.proofs.Following.{follows_wants}
use Rattle.arg_capture.proofs.capture.Capture.next.Goals as goal

pub returns-in-Some-clause-follows : goal.returns-in-Some-clause-follows
returns-in-Some-clause-follows c = λ parts answers f.
    let e : ◌≡◌ {A = Option (ℕ × ℕ)} None (wanted (continued c.args.self.now [])) = search rules in
    follows_wants parts answers c.args.self.now None e f
