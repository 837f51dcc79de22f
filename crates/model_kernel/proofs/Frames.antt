-- What one more event changes of a worker's memory, base and session.
-- By the one event that each definition looks at first, and by cases on it.
use Rattle.std.proofs.Common.{◌≡◌, ◌≢◌, ℕ, Bool, true, false, ◌&&◌, List, [], ◌∷◌, Option, not, refl, sym, ◌∙◌, ◌==◌, if◌then◌else◌, Ok}
use Rattle.std.proofs.lemmas.Bool.{both_ways, eq-eqb, ne_eqb, and_left, and_right, and_from}
use Rattle.hist_model.specs.Files.{files, files_after, after_spawn, after_native, with_base}
use Rattle.hist_model.specs.Kinds.{starts, skips, is_letgo}
use Rattle.hist_model.specs.Legal.{is_open_session}
use Rattle.hist_model.specs.Look.{is_worker, task_name}
use Rattle.hist_model.specs.Memory.{own_group}
use Rattle.hist_model.specs.Natives.{Files, NativeStep, Changes, Opens, Closes, native_step}
use Rattle.hist_model.specs.Sessions.{joined, session}
use Rattle.hist_model.specs.Steps.{mem, mem_after}
use Rattle.hist_model.specs.declared.event.SpawnKind.{SpawnKind}
use Rattle.hist_model.specs.declared.event.SpawnKind.TheVariants.{New, Copied, Shared}
use Rattle.model_kernel.proofs.Words.{Act, Actor, Event, Install, LetGo, Native, OpenBase, OpenMem, Recv, Script, Spawn, What, Worker}
use Rattle.model_kernel.specs.Kinds.{opens}

-- ---- which events change what is kept of a worker

abbrev pub changes_of : Actor → What → ℕ → Bool
changes_of who what v = is_worker who v && opens what

pub worker-stays : (w : ℕ) (what : What) (v : ℕ) → opens what ≡ false → changes_of (Worker w) what v ≡ false
worker-stays w what v h = and_right (w == v) (opens what) h

is-own : (a : Actor) (w : ℕ) → a ≡ Worker w → is_worker a w ≡ true
is-own a w h = rw h (eq-eqb w w refl)

pub apart-changes : (a : Actor) (what : What) (w v : ℕ) → a ≡ Worker w → v ≢ w → changes_of a what v ≡ false
apart-changes a what w v h n = and_left (is_worker a v) (opens what) (rw h (ne_eqb w v (λ q. n (cc))))

-- ---- the memory

pub mem-own : (e : Event) (K : List Event) (w : ℕ) → e.who ≡ Worker w → mem (e ∷ K) w ≡ mem_after K e.what (mem K w)
unfolding mem
mem-own e K w h = rw (is-own e.who w h)

mem-plain : (K : List Event) (what : What) (m : Option ℕ) → opens what ≡ false → mem_after K what m ≡ m
mem-plain K (OpenMem p (Ok u)) m h = cc
mem-plain K LetGo m h = cc
mem-plain K what m h = cc

pub mem-kept : (e : Event) (K : List Event) (v : ℕ) → changes_of e.who e.what v ≡ false → mem (e ∷ K) v ≡ mem K v
unfolding mem
mem-kept e K v h = go (is_worker e.who v) h
  where
    go : (b : Bool) → (b && opens e.what) ≡ false → (if b then mem_after K e.what (mem K v) else mem K v) ≡ mem K v
    go true q = mem-plain K e.what (mem K v) q
    go false q = refl

-- ---- the session

abbrev pub is_open_after : What → Bool → Bool
is_open_after what on = if starts what then true else (if is_letgo what then false else on)

joined-open : (what : What) (own : List What) → is_open_session (joined what own) ≡ is_open_after what (is_open_session own)
joined-open (Recv (Ok n)) [] = refl
joined-open (Recv (Ok n)) (b ∷ own) = refl
joined-open what [] = refl
joined-open what (b ∷ own) = refl

pub session-own : (e : Event) (K : List Event) (w : ℕ) → e.who ≡ Worker w → skips e.what ≡ false → is_open_session (session (e ∷ K) w) ≡ is_open_after e.what (is_open_session (session K w))
unfolding session
session-own e K w h s = rw (is-own e.who w h, s) (joined-open e.what (session K w))

plain-open : (what : What) (on : Bool) → opens what ≡ false → is_open_after what on ≡ on
plain-open (Recv (Ok n)) on h = cc
plain-open LetGo on h = cc
plain-open what on h = cc

pub session-kept : (e : Event) (K : List Event) (v : ℕ) → changes_of e.who e.what v ≡ false → is_open_session (session (e ∷ K) v) ≡ is_open_session (session K v)
unfolding session
session-kept e K v h = go (is_worker e.who v) (skips e.what) h
  where
    go : (b s : Bool) → (b && opens e.what) ≡ false → is_open_session (if b && not s then joined e.what (session K v) else session K v) ≡ is_open_session (session K v)
    go true false q = joined-open e.what (session K v) ∙ plain-open e.what (is_open_session (session K v)) q
    go true true q = refl
    go false s q = refl

-- ---- the base

with-other : (base : ℕ → Option ℕ) (w v : ℕ) (b : Option ℕ) → ((w == v) && true) ≡ false → with_base base w b v ≡ base v
with-other base w v b h = rw (ne_eqb v w (λ q. both_ways ((w == v) && true) h (and_from (w == v) true (eq-eqb w v (sym q)) refl)))

base-spawn : (K : List Event) (F : Files) (a : Actor) (kind : SpawnKind) (v : ℕ) → (after_spawn K F a kind).base v ≡ F.base v
base-spawn K F a New v = refl
base-spawn K F a Copied v = refl
base-spawn K F a Shared v = refl

base-native : (F : Files) (g : ℕ) (n : NativeStep) (v : ℕ) → (after_native F g n).base v ≡ F.base v
base-native F g (Changes T) v = refl
base-native F g (Opens n x) v = refl
base-native F g (Closes n) v = refl
base-native F g n v = refl

base-after : (S : Script) (K : List Event) (F : Files) (a : Actor) (what : What) (v : ℕ) → changes_of a what v ≡ false → (files_after S K F a what).base v ≡ F.base v
base-after S K F a (Spawn n (Ok made)) v h = base-spawn K F a made.1 v
base-after S K F a (Native (Ok n)) v h = base-native F (own_group K a) (native_step S K F (task_name a)) v
base-after S K F a (Install (Ok m)) v h = refl
base-after S K F (Worker w) (Act q cap (Ok u)) v h = refl
base-after S K F (Worker w) (OpenBase p d (Ok u)) v h = with-other F.base w v _ h
base-after S K F (Worker w) LetGo v h = with-other F.base w v _ h
base-after S K F a what v h = refl

pub base-kept : (S : Script) (e : Event) (K : List Event) (v : ℕ) → changes_of e.who e.what v ≡ false → (files S (e ∷ K)).base v ≡ (files S K).base v
unfolding files
base-kept S e K v h = base-after S K (files S K) e.who e.what v h

pub base-own : (S : Script) (e : Event) (K : List Event) (w : ℕ) (what : What) → e.who ≡ Worker w → e.what ≡ what → (files S (e ∷ K)).base w ≡ (files_after S K (files S K) (Worker w) what).base w
unfolding files
base-own S e K w what h q = rw (h, q)
