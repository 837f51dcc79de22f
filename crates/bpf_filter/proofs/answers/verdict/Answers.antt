-- One more filter is newer than those before it.
-- By `chosen_more`, since the words that the filters load are those of the call's data.
use mir.Val.{SFits}
use mir.Syntax.{w32}
use Rattle.std.proofs.Common.{rules, ◌∙◌, sym, ap, reverse, take, ◌+◌}
use Rattle.std.proofs.lemmas.Int.{to_z-of_z}
use Rattle.bpf_filter.specs.Choices.{newer_filter}
use Rattle.std.specs.Prelude.{ℕ, Bool}
use Rattle.hist_model.specs.Filters.{entered, chosen, words}
use Rattle.bpf_filter.proofs.answers.verdict.Goals as goal
use Rattle.bpf_filter.proofs.Precedence.{chosen_more, chosen_none, chosen_all}

pub loop-filter-init : goal.loop-filter-init
loop-filter-init c = sym (chosen_none c.seccomp_data.result)

pub loop-filter-preserved : goal.loop-filter-preserved
loop-filter-preserved c =
    let call = c.seccomp_data.result in
    let item = c.filter-item.result in
    let older = c.loop-filter.invariant ∙ ap (chosen (reverse (take c.loop-filter.filter-index c.args.filters.now))) (sym c.seccomp_data.ensures) in
    c.newer_filter-chosen.ensures
    ∙ ap (λ ws. newer_filter item ws c.loop-filter.chosen) c.words-words.ensures
    ∙ ap (λ choice. newer_filter item (words call) choice) older
    ∙ sym (chosen_more c.args.filters.now c.loop-filter.filter-index item call c.loop-filter-test.true c.filter-item.is)
    ∙ ap (chosen (reverse (take (c.loop-filter.filter-index + 1) c.args.filters.now))) c.seccomp_data.ensures

pub returns : goal.returns
returns c =
    let call = c.seccomp_data.result in
    let fits : SFits w32 c.args.nr = search rules in
    let same = rw to_z-of_z at c.seccomp_data.ensures in
    let older = c.loop-filter.invariant ∙ ap (chosen (reverse (take c.loop-filter.filter-index c.args.filters.now))) (sym c.seccomp_data.ensures) in
    let all = older ∙ chosen_all c.args.filters.now c.loop-filter.filter-index call c.loop-filter-test.false c.loop-filter.auto.filter-index-end in
    c.entered.ensures ∙ ap (λ (b : ℕ × Bool). entered b.0 b.1) (all ∙ ap (chosen (reverse c.args.filters.now)) same)
