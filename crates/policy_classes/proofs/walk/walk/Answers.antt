-- The walk keeps what it begins with, and the frames that are left add up with those that were looked at. At the end none is left.
use Rattle.std.proofs.Common.{◌≡◌, ◌-◌, length, refl, ap, ◌∙◌, arith}
use Rattle.std.proofs.lemmas.List.{length-map}
use Rattle.policy_classes.specs.Frames.{frame_seen, frames_seen}
use Rattle.policy_classes.specs.Looked.{places_looked}
use Rattle.policy_classes.specs.Plain.{all_atoms}
use Rattle.policy_classes.proofs.Framed.{map_push}
use Rattle.policy_classes.proofs.Walked.{count_ends, count_on, count_starts, count_stops, looked_on, walk_ends, walk_least, walk_starts}
use Rattle.policy_classes.proofs.walk.walk.Goals as goal

pub loop-frame-init : goal.loop-frame-init
loop-frame-init c =
    rw (c.new-classes.ensures.items, c.requires.starts)
    (walk_starts c.args.old.now c.args.new.now c.requires.plain_old c.requires.plain_new, count_starts c.args.old.now c.args.new.now c.args.bound)

pub loop-frame-preserved : goal.loop-frame-preserved
loop-frame-preserved c =
    let popped = ap frames_seen c.in-Some.ensures.items ∙ map_push frame_seen c.pop.new.self.items c.in-Some.frame in (
      looked_on c.args.old.now c.args.new.now c.requires.plain_old c.requires.plain_new
          c.loop-frame.classes.items c.look.new.classes.items (frames_seen c.loop-frame.frames.items) (frames_seen c.pop.new.self.items)
          (frames_seen c.look.new.frames.items) (frame_seen c.in-Some.frame) c.loop-frame.invariant.0 popped c.in_ok-look.ensures,
      count_on (places_looked c.args.old.now c.args.new.now) (length (all_atoms c.args.old.now c.args.new.now)) c.args.bound c.loop-frame.left (c.loop-frame.left - 1)
          (length c.args.old.now) (length c.args.new.now) c.loop-frame.classes.items c.look.new.classes.items (frames_seen c.loop-frame.frames.items)
          (frames_seen c.pop.new.self.items) (frames_seen c.look.new.frames.items) (frame_seen c.in-Some.frame) (omega arith) c.loop-frame.invariant.1 popped c.in_ok-look.ensures,
    )

pub returns-then-left-eq0-clause-whole : goal.returns-then-left-eq0-clause-whole
returns-then-left-eq0-clause-whole c =
    let popped = ap frames_seen c.in-Some.ensures.items ∙ map_push frame_seen c.pop.new.self.items c.in-Some.frame in (
      (λ e. cc),
      λ l. absurd (count_stops (places_looked c.args.old.now c.args.new.now) (length (all_atoms c.args.old.now c.args.new.now)) c.args.bound c.loop-frame.left
          (frames_seen c.loop-frame.frames.items) (frames_seen c.pop.new.self.items) (frame_seen c.in-Some.frame) c.loop-frame.invariant.1 popped (omega arith) l),
    )

pub returns-clause-there : goal.returns-clause-there
returns-clause-there c =
    let none : length c.loop-frame.frames.items ≡ 0 = omega (arith, c.in_default.ensures.cases.0) in
    λ whole. rw c.new-2.ensures (walk_ends c.args.old.now c.args.new.now c.requires.plain_old c.requires.plain_new
    c.loop-frame.classes.items (frames_seen c.loop-frame.frames.items) (rw length-map none) c.loop-frame.invariant.0)

pub returns-clause-least : goal.returns-clause-least
returns-clause-least c =
    let none : length c.loop-frame.frames.items ≡ 0 = omega (arith, c.in_default.ensures.cases.0) in
    λ whole. rw c.new-2.ensures (walk_least c.args.old.now c.args.new.now c.requires.plain_old c.requires.plain_new
    c.loop-frame.classes.items (frames_seen c.loop-frame.frames.items) (rw length-map none) c.loop-frame.invariant.0)

pub returns-clause-whole : goal.returns-clause-whole
returns-clause-whole c =
    let none : length c.loop-frame.frames.items ≡ 0 = omega (arith, c.in_default.ensures.cases.0) in (
      (λ e. count_ends (places_looked c.args.old.now c.args.new.now) (length (all_atoms c.args.old.now c.args.new.now)) c.args.bound c.loop-frame.left
          (frames_seen c.loop-frame.frames.items) c.loop-frame.invariant.1 (rw length-map none)),
      λ l. refl,
    )
