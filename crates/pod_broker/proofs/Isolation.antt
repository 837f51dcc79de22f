-- Legal histories of one policy and script with the same own steps are equal.
-- The oldest actor of a legal history is the start, so the own steps tell all actors, and these tell the history.
use Rattle.std.proofs.Common.{◌≡◌, List, [], ◌∷◌, ◌++◌, reverse, refl, sym, ap, ◌∙◌, arith}
use Rattle.std.proofs.lemmas.List.{reverse-append, reverse-reverse}
use Rattle.std.specs.Prelude.{drop}
use Rattle.hist_model.specs.Legal.{rules_of, system_of}
use Rattle.hist_model.specs.Sessions.{Rules}
use Rattle.hist_model.specs.Steps.{IsLegal}
use Rattle.hist_model.specs.Systems.{System}
use Rattle.hist_model.specs.declared.event.Actor.{Actor}
use Rattle.hist_model.specs.declared.event.Actor.TheVariants.{Start}
use Rattle.hist_model.specs.declared.event.Event.{Event}
use Rattle.hist_model.specs.declared.policy.Policy.{Policy}
use Rattle.hist_model.specs.declared.script.Script.{Script}
use Rattle.mediation.proofs.Journals.{determined}
use Rattle.mediation.specs.Journals.{actors}
use Rattle.pod_broker.specs.Pods.{FixedByOwn, own}

-- the actors begin with the start
begin : (S : System) (R : Rules) (e : Event) (K : List Event) → IsLegal S R (e ∷ K) → (more : List Actor) × (reverse (actors (e ∷ K)) ≡ Start ∷ more)
begin S R e [] legal = let q : e.who ≡ Start = ap (λ (d : Event). d.who) legal.0 in ([], rw q refl)
begin S R e (f ∷ K) legal = let r = begin S R f K legal.1 in (r.0 ++ e.who ∷ [], reverse-append (e.who ∷ []) (actors (f ∷ K)) ∙ ap (λ (more : List Actor). more ++ e.who ∷ []) r.1)

-- so they are the start, and then the own steps
starts : (S : System) (R : Rules) (e : Event) (K : List Event) → IsLegal S R (e ∷ K) → reverse (actors (e ∷ K)) ≡ Start ∷ own (e ∷ K)
starts S R e K legal = let r = begin S R e K legal in r.1 ∙ ap (λ (more : List Actor). Start ∷ more) (sym (ap (drop 1) r.1))

same-actors : (S : System) (R : Rules) (d e : Event) (K L : List Event) → IsLegal S R (d ∷ K) → IsLegal S R (e ∷ L) → own (d ∷ K) ≡ own (e ∷ L) → actors (d ∷ K) ≡ actors (e ∷ L)
same-actors S R d e K L p q h =
    let r : reverse (actors (d ∷ K)) ≡ reverse (actors (e ∷ L)) = starts S R d K p ∙ ap (λ (more : List Actor). Start ∷ more) h ∙ sym (starts S R e L q) in
    sym (reverse-reverse (actors (d ∷ K))) ∙ ap reverse r ∙ reverse-reverse (actors (e ∷ L))

pub fixed_by_own : (P : Policy) (S : Script) → FixedByOwn P S
fixed_by_own P S [] L p q h = let none = p.2 in absurd (omega arith)
fixed_by_own P S (d ∷ K) [] p q h = let none = q.2 in absurd (omega arith)
fixed_by_own P S (d ∷ K) (e ∷ L) p q h =
    let T = system_of S in
    let R = rules_of P S.figures in
    determined T R (d ∷ K) (e ∷ L) p.0 q.0 (same-actors T R d e K L p.0 q.0 h)
