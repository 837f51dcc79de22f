-- Which steps change a worker's base.
-- By cases of the step.
use Rattle.std.proofs.Common.{◌≡◌, ℕ, Bool, true, false, ◌&&◌, List, ◌∷◌, refl, arith, None}
use Rattle.std.specs.Prelude.{Ok, ℤ}
use Rattle.std.proofs.lemmas.Bool.{eq-eqb}
use Rattle.hist_model.specs.Files.{after_native, files}
use Rattle.hist_model.specs.Look.{is_worker}
use Rattle.hist_model.specs.Natives.{base_of, Files, NativeStep}
use Rattle.hist_model.specs.Steps.{opened, place_or}
use Rattle.hist_model.specs.Tasks.{holder}
use Rattle.hist_model.specs.declared.event.Actor.TheVariants.{Worker}
use Rattle.hist_model.specs.declared.event.Event.{Event}
use Rattle.hist_model.specs.declared.event.What.{What}
use Rattle.hist_model.specs.declared.event.What.TheVariants.{LetGo, OpenBase}
use Rattle.hist_model.specs.declared.script.Script.{Script}

-- the step opens or drops a base
abbrev pub moves_base : What → Bool
moves_base (OpenBase p d (Ok u)) = true
moves_base LetGo = true
moves_base w = false

native-base : (F : Files) (g : ℕ) (s : NativeStep) (w : ℕ) → (after_native F g s).base w ≡ F.base w
native-base F g s w = grind arith

pub base-same : (S : Script) (e : Event) (K : List Event) (w : ℕ) → (is_worker e.who w && moves_base e.what) ≡ false → (files S (e ∷ K)).base w ≡ (files S K).base w
unfolding files
base-same S e K w h = grind (arith, native-base)

pub base-dropped : (S : Script) (e : Event) (K : List Event) (w : ℕ) → is_worker e.who w ≡ true → e.what ≡ LetGo → (files S (e ∷ K)).base w ≡ None
unfolding files
base-dropped S e K w h q = grind arith

pub base-opened : (S : Script) (e : Event) (K : List Event) (w p : ℕ) (d : ℤ) (u : Unit {0}) → e.who ≡ Worker w → e.what ≡ OpenBase p d (Ok u)
    → (files S (e ∷ K)).base w ≡ base_of S (files S K) (place_or (opened K (holder K p))) d
unfolding files
base-opened S e K w p d u h q = rw (h, q, eq-eqb w w refl) refl
