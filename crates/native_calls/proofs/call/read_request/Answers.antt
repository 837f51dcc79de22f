use Rattle.std.proofs.Common.{rules, ◌≡◌, w32, to_z, of_z}
use Rattle.hist_model.specs.Copies.{plan, copy_of}
use Rattle.hist_model.specs.Memory.{mapped_byte}
use Rattle.native_calls.proofs.Requested.{asked, not-asked}
use Rattle.native_calls.proofs.call.read_request.Goals as goal

pub returns-in-Ok : goal.returns-in-Ok
returns-in-Ok c S K living handles g T at =
    let number : to_z w32 (of_z w32 c.args.nr) ≡ c.args.nr = search rules in
    asked c.args.nr c.args.args.now (copy_of (mapped_byte S K g) (plan c.args.nr c.args.args.now)) c.in_ok-copy.field-0 c.in-Ok.copy c.request.result
    (rw number at (c.in_ok-copy.ensures S K living handles g T at)) c.in-Ok.is (rw number at c.request.ensures)

pub returns-in-Err : goal.returns-in-Err
returns-in-Err c S K living handles g T at =
    let number : to_z w32 (of_z w32 c.args.nr) ≡ c.args.nr = search rules in
    not-asked c.args.nr c.args.args.now (copy_of (mapped_byte S K g) (plan c.args.nr c.args.args.now)) c.in_ok-copy.field-0 c.in-Err.errno
    (rw number at (c.in_ok-copy.ensures S K living handles g T at)) c.in-Err.is
