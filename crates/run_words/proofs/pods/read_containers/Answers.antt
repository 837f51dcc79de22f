-- One more pair was taken, or wasn't; and at the end all were: by the lemmas on what was read so far.
use Rattle.std.proofs.Common.{arith, rules, ◌≡◌, ◌-◌, ◌∷◌, ◌∙◌, List, ℕ, String, true, Err, ap, drop, length, subst, take}
use Rattle.std.proofs.lemmas.List.{length-map}
use Rattle.std.specs.declared.alloc.Global.{Global}
use Rattle.io_edge.proofs.Laws.{same_then}
use Rattle.run_words.proofs.Containers.{ReadSoFar, all_few, all_read, few_read, no_pair, one_read, one_refused, two_first}
use Rattle.run_words.specs.Pairs.{texts}
use Rattle.run_words.specs.Pairs.{are_pairs}
use Rattle.run_words.proofs.pods.read_containers.Goals as goal

-- the texts of names are as many as the names
pairs-of : (names : List (String Global)) → are_pairs (length names) ≡ true → are_pairs (length (texts names)) ≡ true
pairs-of names pairs = ap are_pairs (length-map names _) ∙ pairs

pub overflow_add-number : goal.overflow_add-number
overflow_add-number g c =
    let files = g.F.Files.state c.args.files.now in
    let left = two_first c.loop-rest.rest.now c.policy-item.result c.script-item.result c.in-len2-up.len_at_least c.policy-item.is c.script-item.is in
    let few = few_read files (texts c.args.names.now) _ _ _ c.loop-rest.containers.items c.loop-rest.number (pairs-of c.args.names.now c.requires.pairs)
    (subst (λ (names : List (List ℕ)). ReadSoFar files (texts c.args.names.now) names c.loop-rest.containers.items c.loop-rest.number) left c.loop-rest.invariant.read) in
    omega (arith, few)

pub returns-in_err-container-clause-refused : goal.returns-in_err-container-clause-refused
returns-in_err-container-clause-refused g c =
    let files = g.F.Files.state c.args.files.now in
    let names = texts c.args.names.now in
    let tail = texts (take (length c.loop-rest.rest.now - 2) (drop 2 c.loop-rest.rest.now)) in
    let first = two_first c.loop-rest.rest.now c.policy-item.result c.script-item.result c.in-len2-up.len_at_least c.policy-item.is c.script-item.is in
    let left : texts c.loop-rest.rest.now ≡ c.as_str.result.now ∷ c.as_str-in-len2-up.result.now ∷ tail = rw (c.as_str.ensures.value, c.as_str-in-len2-up.ensures.value) first in
    let stopped : c.from_residual.result ≡ Err c.in_err-container.field-0.0 = search rules in
    rw stopped
    (one_refused files (g.F.Files.state c.loop-rest.files) (g.F.Files.state c.read_container.new.files) names tail c.as_str.result.now c.as_str-in-len2-up.result.now
    c.loop-rest.containers.items c.loop-rest.number c.in_err-container.field-0.0 c.loop-rest.invariant.same c.in_err-container.ensures.refused
    (subst (λ (left : List (List ℕ)). ReadSoFar files names left c.loop-rest.containers.items c.loop-rest.number) left c.loop-rest.invariant.read))

pub loop-rest-preserved : goal.loop-rest-preserved
loop-rest-preserved g c =
    let files = g.F.Files.state c.args.files.now in
    let names = texts c.args.names.now in
    let tail = texts (take (length c.loop-rest.rest.now - 2) (drop 2 c.loop-rest.rest.now)) in
    let first = two_first c.loop-rest.rest.now c.policy-item.result c.script-item.result c.in-len2-up.len_at_least c.policy-item.is c.script-item.is in
    let left : texts c.loop-rest.rest.now ≡ c.as_str.result.now ∷ c.as_str-in-len2-up.result.now ∷ tail = rw (c.as_str.ensures.value, c.as_str-in-len2-up.ensures.value) first in
    let step = one_read files (g.F.Files.state c.loop-rest.files) (g.F.Files.state c.read_container.new.files) names tail c.as_str.result.now c.as_str-in-len2-up.result.now
    c.loop-rest.containers.items c.in_ok-container.container c.loop-rest.number c.loop-rest.invariant.same c.in_ok-container.ensures.read
    (subst (λ (left : List (List ℕ)). ReadSoFar files names left c.loop-rest.containers.items c.loop-rest.number) left c.loop-rest.invariant.read) in
    record {
      same = same_then files (g.F.Files.state c.loop-rest.files) (g.F.Files.state c.read_container.new.files) c.loop-rest.invariant.same c.in_ok-container.ensures.same;
      read = rw c.in_ok-keep.ensures step;
    }

pub returns-clause-read : goal.returns-clause-read
returns-clause-read g c =
    all_read (g.F.Files.state c.args.files.now) (texts c.args.names.now) (texts c.loop-rest.rest.now) c.loop-rest.containers.items c.loop-rest.number (no_pair c.loop-rest.rest.now c.in_default.len_below) c.loop-rest.invariant.read

pub returns-clause-few : goal.returns-clause-few
returns-clause-few g c =
    all_few (g.F.Files.state c.args.files.now) (texts c.args.names.now) (texts c.loop-rest.rest.now) c.loop-rest.containers.items c.loop-rest.number (pairs-of c.args.names.now c.requires.pairs) c.loop-rest.invariant.read
