use Rattle.std.proofs.Common.{sym, ◌∙◌}
use Rattle.std.specs.Prelude.{Err}
use Rattle.sys_abi.specs.Errnos.{efault}
use Rattle.arg_capture.specs.Captures.{answer_of}
use Rattle.task_groups.specs.Stands.{state}
use Rattle.task_groups.proofs.Answered.{reads}
use Rattle.task_groups.proofs.Stand.{live-held}
use Rattle.native_calls.proofs.Peeks.{has-more, answers-give, bytes-said}
use Rattle.native_calls.proofs.copies.read_piece.Goals as goal

pub feed-requires : goal.feed-requires
feed-requires c = rw c.requires.wanted (c.bytes_of.ensures.fits c.args.addr)

pub returns-in-Ok : goal.returns-in-Ok
returns-in-Ok c nr args count h =
    has-more c.args.groups.now c.args.group nr args count c.args.addr c.args.len (answer_of c.bytes_of.result) c.args.capture.now c.feed.new.self c.feed.result h c.requires.wanted
    (answers-give (c.args.addr, c.args.len) (answer_of c.bytes_of.result) (c.bytes_of.ensures.fits c.args.addr)) c.feed.ensures.follows
    (λ S K living handles g stands group l. bytes-said S K g c.args.addr c.args.len c.read.new.out.items c.deref.result.now (answer_of c.bytes_of.result)
    (sym (reads S K living handles c.args.group g group c.args.addr c.args.len) ∙ c.in-Ok.ensures.answer (state S K living handles) stands (live-held (state S K living handles) c.args.groups.now stands c.args.group c.requires.live)) c.deref.ensures.value l c.bytes_of.ensures.same)

pub returns-in-Err-Refused : goal.returns-in-Err-Refused
returns-in-Err-Refused c nr args count h =
    has-more c.args.groups.now c.args.group nr args count c.args.addr c.args.len (Err efault) c.args.capture.now c.feed-in-Err-Refused.new.self c.feed-in-Err-Refused.result h c.requires.wanted
    tt c.feed-in-Err-Refused.ensures.follows (λ S K living handles g stands group l. sym (sym (reads S K living handles c.args.group g group c.args.addr c.args.len) ∙ (rw c.in-Err-Refused.field-0-is at (c.in-Err-Refused.ensures.answer (state S K living handles) stands (live-held (state S K living handles) c.args.groups.now stands c.args.group c.requires.live)))))
