-- What is found in a history, and that a judge finds it that hears one event after another.
-- By cases on what was found before an event, and on what the event breaks.
use Rattle.std.proofs.Common.{◌≡◌, ℕ, true, false, List, [], ◌∷◌, length, Option, Some, None, refl, sym, ap, ◌∙◌}
use Rattle.std.specs.Prelude.{is_some, reverse}
use Rattle.std.specs.Option.{option_map}
use Rattle.std.proofs.lemmas.List.{length-reverse}
use Rattle.broker_verdict.specs.Trusted.{at_place, broken_at, class_at, first_fault, or_later}
use Rattle.broker_verdict.specs.declared.clause.Clause.{Clause}
use Rattle.hist_model.specs.Legal.{started}
use Rattle.hist_model.specs.Look.{ev}
use Rattle.hist_model.specs.declared.event.Actor.TheVariants.{Listener}
use Rattle.hist_model.specs.declared.event.Event.{Event}
use Rattle.hist_model.specs.declared.event.What.TheVariants.{Close}
use Rattle.hist_model.specs.declared.policy.Policy.{Policy}
use Rattle.hist_model.specs.declared.script.Script.{Script}
use Rattle.judge_pass.specs.Finding.{as_finding, ClosesFaultless, Finding, finding, FindsTheFirst, found_here, or_here, StaysFound, Watches}
use Rattle.judge_pass.specs.Stands.{clause_in, Judges, Stands}
use Rattle.judge_pass.specs.declared.judge.Fault.{Fault}
use Rattle.judge_pass.specs.declared.judge.Judge.{Judge}
use Rattle.judge_pass.specs.declared.watch.FirstFault.{FirstFault}
use Rattle.judge_pass.specs.declared.watch.Watch.{Watch}

-- ---- what is found

same-here : (P : Policy) (S : Script) (K : List Event) (e : Event) (before : Option Finding) (clause : Option Clause)
    → option_map (λ (f : Finding). (f.place, f.clause)) (or_here before (found_here P S K e clause))
    ≡ or_later (option_map (λ (f : Finding). (f.place, f.clause)) before) (at_place (length K) clause)
same-here P S K e (Some f) clause = refl
same-here P S K e None (Some clause) = refl
same-here P S K e None None = refl

some-same : (f g : Finding) → Some f ≡ Some g → f ≡ g
some-same f g q = cc

pub finds_first : (P : Policy) (S : Script) (K : List Event) → FindsTheFirst P S K
unfolding finding first_fault
finds_first P S [] = refl
finds_first P S (e ∷ K) =
    same-here P S K e (finding P S K) (broken_at P S K e) ∙ ap (λ (o : Option (ℕ × Clause)). or_later o (at_place (length K) (broken_at P S K e))) (finds_first P S K)

pub stays_found : (P : Policy) (S : Script) (K : List Event) → StaysFound P S K
unfolding finding
stays_found P S K [] f h = h
stays_found P S K (e ∷ later) f h = rw (stays_found P S K later f h) refl

pub closes_faultless : (P : Policy) (S : Script) (K : List Event) → ClosesFaultless P S K
unfolding finding
closes_faultless P S K = by (finding P S K)
  where
    by : (o : Option Finding) → or_here o (found_here P S K (ev Listener Close) (broken_at P S K (ev Listener Close))) ≡ o
    by (Some f) = refl
    by None = refl

-- what is found first of the newest event is found at its place
pub found_newest : (P : Policy) (S : Script) (K : List Event) (e : Event) (f : Finding) → finding P S K ≡ None → finding P S (e ∷ K) ≡ Some f → f.place ≡ length K
unfolding finding
found_newest P S K e f none here = by (broken_at P S K e) refl (rw none at here)
  where
    by : (o : Option Clause) → broken_at P S K e ≡ o → found_here P S K e (broken_at P S K e) ≡ Some f → f.place ≡ length K
    by None q h = let no : None ≡ Some f = rw q at h in cc
    by (Some clause) q h =
        let same : Some (record { place = length K; class = class_at P S K e clause; clause = clause }) ≡ Some f = rw q at h in
        sym (ap (λ (g : Finding). g.place) (some-same _ f same))

pub finding_none : (P : Policy) (S : Script) → finding P S [] ≡ None
unfolding finding
finding_none P S = refl

-- ---- a judge that hears

-- before the first event
watches-none : (P : Policy) (S : Script) (j : Judge) → Stands P S [] j → Watches P S [] (record { judge = j; found = None })
unfolding finding
watches-none P S j h = record { found_is = refl; stands = λ q. h }

-- where an event before was at fault, the next changes nothing
pub watches_still : (P : Policy) (S : Script) (K : List Event) (e : Event) (w : Watch) → is_some w.found ≡ true → Watches P S K w → Watches P S (e ∷ K) w
unfolding finding
watches_still P S K e w some h = by w.found refl
  where
    by : (o : Option FirstFault) → w.found ≡ o → Watches P S (e ∷ K) w
    by None q = let no : false ≡ true = sym (ap (is_some {T = FirstFault}) q) ∙ some in cc
    by (Some f) q =
        let is : finding P S K ≡ Some (as_finding f) = sym h.found_is ∙ ap (option_map as_finding) q in
        record {
          found_is = h.found_is ∙ is ∙ sym (rw is refl);
          stands = λ none. let no : Some f ≡ None = sym q ∙ none in cc;
        }

pub none_found : (o : Option FirstFault) → is_some o ≡ false → o ≡ None
none_found None h = refl
none_found (Some f) h = cc

-- else it is judged
watches-next : (P : Policy) (S : Script) (K : List Event) (e : Event) (w : Watch) (fault : Option Fault) (new : Judge) → w.found ≡ None → Watches P S K w → Judges P S K e fault new
    → Watches P S (e ∷ K) (record { judge = new; found = option_map (λ (f : Fault). record { place = length K; fault = f }) fault })
unfolding finding
watches-next P S K e w fault new q h j = by fault refl
  where
    none-before : finding P S K ≡ None
    none-before = sym h.found_is ∙ ap (option_map as_finding) q

    by : (o : Option Fault) → fault ≡ o → Watches P S (e ∷ K) (record { judge = new; found = option_map (λ (f : Fault). record { place = length K; fault = f }) o })
    by None is =
        let clean : broken_at P S K e ≡ None = sym j.clause ∙ ap clause_in is in
        record { found_is = rw (none-before, clean) refl; stands = λ none. j.stands is }
    by (Some f) is =
        let broken : broken_at P S K e ≡ Some f.clause = sym j.clause ∙ ap clause_in is in
        let class = j.class f is in
        record {
          found_is = rw (none-before, broken, class) refl;
          stands = λ none. cc;
        }

pub watches_heard : (P : Policy) (S : Script) (H K : List Event) (e newest : Event) (older : List Event) (w : Watch) (fault : Option Fault) (new : Judge) (found : Option FirstFault) → H ≡ e ∷ K → H ≡ newest ∷ reverse older
    → w.found ≡ None → Watches P S K w → Judges P S K e fault new → found ≡ option_map (λ (f : Fault). record { place = length older; fault = f }) fault → Watches P S (e ∷ K) (record { judge = new; found = found })
watches_heard P S H K e newest older w fault new found at there none h j is =
    let both : e ∷ K ≡ newest ∷ reverse older = sym at ∙ there in
    let k : K ≡ reverse older = cc in
    let place : length older ≡ length K = sym (ap length k ∙ length-reverse older) in
    rw (is, place) (watches-next P S K e w fault new none h j)

-- the first event is heard after none
pub watches_started : (P : Policy) (S : Script) (H K : List Event) (e : Event) (j : Judge) → H ≡ started S → H ≡ e ∷ K → Stands P S [] j → Watches P S K (record { judge = j; found = None })
watches_started P S H K e j begun at stands =
    let both : e ∷ K ≡ started S = sym at ∙ begun in
    let none : K ≡ [] = cc in
    rw none (watches-none P S j stands)
