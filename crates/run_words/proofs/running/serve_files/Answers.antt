-- What was read wasn't served, since ranges overlap; or it was, and was printed or a part of it.
use Rattle.std.proofs.Common.{rules, ◌≡◌, ◌++◌, ℕ, List, length, Err, subst}
use Rattle.hist_model.specs.declared.script.Script.{Script}
use Rattle.pod_broker.specs.Pods.{NoneOverlap}
use Rattle.pod_broker.specs.Serving.{scripts}
use Rattle.pod_broker.specs.declared.container.Container.{Container}
use Rattle.worker_gate.specs.declared.served.Played.{Played}
use Rattle.run_words.proofs.Containers.{have_ended, pod_ends, ranges_stop, same_parts, same_scripts}
use Rattle.program_files.specs.Printed.{Printed}
use Rattle.run_words.specs.Pairs.{texts}
use Rattle.run_words.specs.PodText.{kept_in, pod_line, pod_text, sums_of}
use Rattle.run_words.specs.Pods.{AreServedApart, Overlapping}
use Rattle.run_words.specs.Runs.{by_servers}
use Rattle.run_words.specs.Pairs.{in_pairs}
use Rattle.run_words.proofs.running.serve_files.Goals as goal

pub returns-in_err-see_ranges : goal.returns-in_err-see_ranges
returns-in_err-see_ranges g c =
    let stopped : c.from_residual-in_err-see_ranges.result ≡ Err c.in_err-see_ranges.field-0.0 = search rules in
    rw stopped
    (ranges_stop (g.F.Files.state c.args.files.now) (g.F.Files.state c.read_containers.new.files) (g.O.Sink.state c.args.out.now) (by_servers c.args.workers) c.args.every (in_pairs (texts c.args.names.now))
    c.in_ok-containers.containers.items c.in_err-see_ranges.field-0.0 c.in_ok-containers.ensures.read
    (subst (λ (cs : List Container). Overlapping cs c.in_err-see_ranges.field-0.0) c.as_slice.ensures.value c.in_err-see_ranges.ensures.refused))

pub returns : goal.returns
returns g c =
    let files = g.F.Files.state c.args.files.now in
    let pairs = in_pairs (texts c.args.names.now) in
    let containers = c.in_ok-containers.containers.items in
    let ended = c.in_ok-ended.ended.items in
    let separate : NoneOverlap (scripts containers) = subst (λ (cs : List Container). NoneOverlap (scripts cs)) c.as_slice.ensures.value c.in_ok-see_ranges.ensures.separate in
    let served : AreServedApart files (by_servers c.args.workers) pairs ended =
    record {
      ended = have_ended (by_servers c.args.workers) c.args.every files pairs containers ended c.in_ok-containers.ensures.read c.in_ok-ended.ensures.ended;
      ranges = subst (λ (Ss : List Script). NoneOverlap Ss) (same_scripts (by_servers c.args.workers) c.args.every containers ended c.in_ok-ended.ensures.ended) separate;
      apart = c.in_ok-ended.ensures.apart separate;
    } in
    let out = g.O.Sink.state c.args.out.now in
    let after = g.O.Sink.state c.print_containers.new.out in
    let kept : Printed (pod_text kept_in ended) out after c.print_containers.result =
    subst (λ (ps : List Played). Printed (pod_text kept_in ps) out after c.print_containers.result) c.as_slice-2.ensures.value c.print_containers.ensures in
    pod_ends files (g.F.Files.state c.read_containers.new.files) out after (by_servers c.args.workers) c.args.every pairs ended c.print_containers.result served
    (subst (λ (text : List ℕ). Printed (text ++ pod_line (length ended) (sums_of ended)) out after c.print_containers.result)
    (same_parts (by_servers c.args.workers) c.args.every 0 containers ended c.in_ok-ended.ensures.ended) kept)
