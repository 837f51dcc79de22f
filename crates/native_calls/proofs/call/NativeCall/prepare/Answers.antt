use Rattle.std.proofs.Common.{rules, ◌≡◌, Some, sym, w32, to_z, of_z}
use Rattle.hist_model.specs.Requests.{base_dirfd}
use Rattle.native_calls.proofs.Requested.{prepared}
use Rattle.native_calls.proofs.call.NativeCall.prepare.Goals as goal

pub returns-in_ok-read_request-in-Some : goal.returns-in_ok-read_request-in-Some
returns-in_ok-read_request-in-Some c S K living handles g stands group =
    let number : to_z w32 (of_z w32 c.args.nr) ≡ c.args.nr = search rules in
    let from : to_z w32 (of_z w32 c.in-Some.dirfd) ≡ c.in-Some.dirfd = search rules in
    let base : base_dirfd c.args.nr c.args.args.now ≡ Some c.in-Some.dirfd = sym (rw number at c.in-Some.ensures) in
    let read = c.in_ok-read_request-in-Some.ensures S K living handles g stands group in
    rw from (prepared S K g c.args.nr c.args.args.now c.in-Some.dirfd base c.in_ok-read_request-in-Some.field-0 (rw number at read))
