use Rattle.std.proofs.Common.{◌≡◌, ◌++◌, List, [], get_or, length, sum_by, sym, ap, ◌∙◌, arith, rules, subst}
use Rattle.std.proofs.lemmas.Iterator.Adapters.{YieldsList-from_vec}
use Rattle.std.proofs.lemmas.Iterator.Consumers.{YieldsList-end, YieldsList-turn}
use Rattle.std.proofs.lemmas.List.{length_push, take_all}
use Rattle.explorer.specs.Telling.{TellsOf}
use Rattle.explorer.specs.declared.tally.Tally.{Tally}
use Rattle.explorer.proofs.ByDelays.{events_there, few_there, more_told, told_there, whole_told}
use Rattle.explorer.proofs.by_delays.ByDelays.joined.Goals as goal

pub loop-tally-init : goal.loop-tally-init
loop-tally-init c = record {
  told = λ P S ws t. ([], c.none-all.ensures P S);
  tells = λ P S W t. c.none-all.ensures P S;
  events = (c.none-all.ensures c.requires.told.0 c.requires.told.1).events;
}

pub join-requires-clause-told : goal.join-requires-clause-told
join-requires-clause-told c =
    let road = YieldsList-from_vec {s = c.into_iter-tally-iterator.result} c.args.self.tallies.items (search rules) (search rules) in
    let turn = YieldsList-turn road c.loop-tally.yielded c.loop-tally.tally-iterator c.loop-tally.yielded_by c.next.result c.next.new.self c.in-Some.tally c.in-Some.is c.next.ensures.steps in
    let (P, S, ws, told) = c.requires.told in
    let (L, t) = c.loop-tally.invariant.told P S ws told in
    let (M, u) = told_there c.args.self P S ws told (length c.loop-tally.yielded) c.in-Some.tally turn.0 in
    (P, S, L, M, t, subst (TellsOf P S M) (sym turn.1) u)

pub join-requires-clause-few : goal.join-requires-clause-few
join-requires-clause-few c =
    let road = YieldsList-from_vec {s = c.into_iter-tally-iterator.result} c.args.self.tallies.items (search rules) (search rules) in
    let turn = YieldsList-turn road c.loop-tally.yielded c.loop-tally.tally-iterator c.loop-tally.yielded_by c.next.result c.next.new.self c.in-Some.tally c.in-Some.is c.next.ensures.steps in
    let (P, S, ws, told) = c.requires.told in
    let same : c.in-Some.tally.events ≡ (get_or c.args.self.tallies.items (length c.loop-tally.yielded) c.in-Some.tally).events = ap (λ (t : Tally). t.events) turn.1 in
    omega (arith, same, c.loop-tally.invariant.events, c.requires.few, few_there P S ws c.args.self told (length c.loop-tally.yielded) c.in-Some.tally turn.0)

pub loop-tally-preserved : goal.loop-tally-preserved
loop-tally-preserved c =
    let road = YieldsList-from_vec {s = c.into_iter-tally-iterator.result} c.args.self.tallies.items (search rules) (search rules) in
    let turn = YieldsList-turn road c.loop-tally.yielded c.loop-tally.tally-iterator c.loop-tally.yielded_by c.next.result c.next.new.self c.in-Some.tally c.in-Some.is c.next.ensures.steps in
    let at = length c.loop-tally.yielded in
    let i = c.loop-tally.invariant in
    let more = length_push c.loop-tally.yielded c.in-Some.tally in
    let same : c.in-Some.tally.events ≡ (get_or c.args.self.tallies.items at c.in-Some.tally).events = ap (λ (t : Tally). t.events) turn.1 in
    record {
      told = λ P S ws told.
          let (L, t) = i.told P S ws told in
          let (M, u) = told_there c.args.self P S ws told at c.in-Some.tally turn.0 in
          (L ++ M, c.in_ok-join.ensures.tells P S L M t (subst (TellsOf P S M) (sym turn.1) u));
      tells = λ P S W told. rw more (more_told P S W c.args.self told at c.in-Some.tally c.loop-tally.all c.join.new.self turn.0 (i.tells P S W told)
          (λ L M t u. c.in_ok-join.ensures.tells P S L M t (subst (TellsOf P S M) (sym turn.1) u)));
      events = rw more (omega (arith, c.in_ok-join.ensures.events, i.events, same, events_there c.args.self at c.in-Some.tally turn.0));
    }

pub returns-clause-tells : goal.returns-clause-tells
returns-clause-tells c =
    let end = YieldsList-end (YieldsList-from_vec {s = c.into_iter-tally-iterator.result} c.args.self.tallies.items (search rules) (search rules))
    c.loop-tally.yielded c.loop-tally.tally-iterator c.loop-tally.yielded_by c.next.result c.next.new.self c.in-None.is c.next.ensures.steps in
    λ P S W told. whole_told P S W c.args.self told (length c.loop-tally.yielded) c.loop-tally.all end.1 (c.loop-tally.invariant.tells P S W told)

pub returns-clause-events : goal.returns-clause-events
returns-clause-events c =
    let end = YieldsList-end (YieldsList-from_vec {s = c.into_iter-tally-iterator.result} c.args.self.tallies.items (search rules) (search rules))
    c.loop-tally.yielded c.loop-tally.tally-iterator c.loop-tally.yielded_by c.next.result c.next.new.self c.in-None.is c.next.ensures.steps in
    let (P, S, ws, told) = c.requires.told in
    c.loop-tally.invariant.events ∙ (ap (λ (ts : List Tally). sum_by (λ (t : Tally). t.events) ts) (take_all (length c.loop-tally.yielded) c.args.self.tallies.items (omega (arith, end.1))) ∙ sym told.events)
