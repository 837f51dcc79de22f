-- What a walk more changes of what is told of all walks within a bound.
-- By what its note comes to, and by which walks are left.
use Rattle.std.proofs.Common.{◌≡◌, ℕ, ◌-◌, ◌<◌, ◌≤◌, List, [], ◌∷◌, ◌++◌, length, All, refl, sym, ◌∙◌, ap, subst, arith, append-nil, append_assoc}
use Rattle.std.proofs.lemmas.List.Elements.{All-head, All-tail}
use Rattle.hist_model.specs.Legal.{started}
use Rattle.hist_model.specs.declared.event.Event.{Event}
use Rattle.hist_model.specs.declared.policy.Policy.{Policy}
use Rattle.hist_model.specs.declared.script.Script.{Script}
use Rattle.delay_bounded.specs.Explored.{Walk, most_events, walks_of}
use Rattle.delay_bounded.proofs.Left.{all_within}
use Rattle.explorer.specs.Taken.{event_limit}
use Rattle.explorer.specs.Telling.{TellsBy}
use Rattle.explorer.specs.Walking.{EndsFirst, GoesThrough, IsPartDone}
use Rattle.explorer.specs.declared.by_delays.ByDelays.{ByDelays}
use Rattle.explorer.specs.declared.walker.Walker.{Walker}

holds_inside : {X : Type 0} (Q : X → Type 0) (xs : List X) (y : X) (ys : List X) → All Q (xs ++ y ∷ ys) → Q y
holds_inside Q [] y ys h = All-head Q y ys h
holds_inside Q (x ∷ xs) y ys h = holds_inside Q xs y ys (All-tail Q x (xs ++ y ∷ ys) h)

module _ (P : Policy) (S : Script) (W d : ℕ) where
  pub none_done : (b : ByDelays) (w : Walker) → GoesThrough P S W (walks_of P S W d) w → TellsBy P S [] b → b.bound ≡ d → b.events ≡ 0 → IsPartDone P S W d b w
  none_done b w g t is z = record { done = []; more = walks_of P S W d; walks_are = refl; tells = t; goes_on = g; bound_is = is; few = omega arith }

  module _ (b : ByDelays) (w : Walker) (part : IsPartDone P S W d b w) where
    -- no walk is left
    pub whole : part.more ≡ [] → TellsBy P S (walks_of P S W b.bound) b
    whole none =
        let list : part.done ≡ walks_of P S W d = sym (append-nil part.done) ∙ (ap (λ (ws : List Walk). part.done ++ ws) (sym none) ∙ sym part.walks_are) in
        let told : TellsBy P S (walks_of P S W d) b = subst (λ (ws : List Walk). TellsBy P S ws b) list part.tells in
        subst (λ n. TellsBy P S (walks_of P S W n) b) (sym part.bound_is) told

    module _ (left : ℕ) (history : List Event) (places : List ℕ) (rest : Walker) (ended : EndsFirst P S W part.more left history places rest) where
      walks_here : walks_of P S W d ≡ part.done ++ ended.walk ∷ ended.more
      walks_here = part.walks_are ∙ ap (λ (ws : List Walk). part.done ++ ws) ended.walks_are

      pub within : left ≤ b.bound
      within =
          let all : All (λ (w : Walk). w.left ≤ d) (walks_of P S W d) = all_within P S W (most_events - length (started S)) (started S) 0 d in
          let here : ended.walk.left ≤ d = holds_inside (λ (w : Walk). w.left ≤ d) part.done ended.walk ended.more (subst (All (λ (w : Walk). w.left ≤ d)) walks_here all) in
          omega (arith, ended.left_is, part.bound_is)

      pub one_done : (new : ByDelays) → TellsBy P S (part.done ++ ended.walk ∷ []) new → new.bound ≡ b.bound → new.events < event_limit → IsPartDone P S W d new rest
      one_done new t is few = record {
        done = part.done ++ ended.walk ∷ [];
        more = ended.more;
        walks_are = walks_here ∙ sym (append_assoc part.done (ended.walk ∷ []) ended.more);
        tells = t;
        goes_on = ended.goes_on;
        bound_is = is ∙ part.bound_is;
        few = few;
      }
