-- No request, and no writing of an answer, has the error EDQUOT of its own: an effect has it exactly where its rule's times were spent.
-- By the cases of the walk of a path, and of what is done where it ends.
use Rattle.mediation.proofs.Common.{[], Act, arith, Bool, Err, false, Files, if◌then◌else◌, List, None, Ok, Option, outcome, Plant, refl, Result, Script, Some, suc}
use Rattle.mediation.proofs.Common.{true, zero, ℕ, ◌&&◌, ◌==◌, ◌∷◌, ◌≡◌}
use Rattle.hist_model.specs.Legal.{done}
use Rattle.hist_model.specs.Natives.{root}
use Rattle.hist_model.specs.Effects.{attributed, effect, made, mounted, opened, perform}
use Rattle.hist_model.specs.Paths.{Place, Refused, Last, Create, Follow, Turn, Ends, Goes, Follows, turn, turned, walk_parts, walk, walked_from, reaches, creates, none_left, link_start, components, looped}
use Rattle.hist_model.specs.Kinds.{is_spent as was_spent}
use Rattle.hist_model.specs.declared.policy.Cap.{Cap}
use Rattle.hist_model.specs.Trees.{are_attr_flags, Tree}
use Rattle.hist_model.specs.declared.request.MountRow.{MountRow}
use Rattle.hist_model.specs.declared.request.Node.{Node}
use Rattle.hist_model.specs.declared.request.Request.{Request}
use Rattle.hist_model.specs.TreeOps.{TreeOp, Fail, Make, Mount, SetAttr, Open}
use Rattle.sys_abi.specs.Errnos.{efault, einval, edquot}

-- the walk ends with EDQUOT
abbrev is_quota : Place → Bool
is_quota (Refused e) = e == edquot
is_quota p = false

abbrev is_quota_turn : Turn → Bool
is_quota_turn (Ends p) = is_quota p
is_quota_turn t = false

abbrev fails_quota : {A : Type 0} → Result A ℕ → Bool
fails_quota (Err e) = e == edquot
fails_quota (Ok x) = false

-- no component of a path has this error
turn-other : (T : Tree) (root : ℕ) (names : Bool) (n : ℕ) (c : List ℕ) → is_quota_turn (turn T root names n c) ≡ false
turn-other T root names n c = grind arith

turned-other : (follow : ℕ → List (List ℕ) → Place) (rest : ℕ → Place) (root n : ℕ) (cs : List (List ℕ)) → ((m : ℕ) (ds : List (List ℕ)) → is_quota (follow m ds) ≡ false)
    → ((m : ℕ) → is_quota (rest m) ≡ false) → (t : Turn) → is_quota_turn t ≡ false → is_quota (turned follow rest root n cs t) ≡ false
turned-other follow rest root n cs f g (Ends p) h = h
turned-other follow rest root n cs f g (Goes m) h = g m
turned-other follow rest root n cs f g (Follows target) h = f (link_start root n target) _

-- and so no walk
parts-other : (follow : ℕ → List (List ℕ) → Place) (T : Tree) (root : ℕ) (last : Last) → ((n : ℕ) (cs : List (List ℕ)) → is_quota (follow n cs) ≡ false)
    → (cs : List (List ℕ)) (n : ℕ) → is_quota (walk_parts follow T root last n cs) ≡ false
unfolding walk_parts
parts-other follow T root last f [] n = grind arith
parts-other follow T root last f (c ∷ cs) n =
    let ih = parts-other follow T root last f cs in
    turned-other follow (λ m. walk_parts follow T root last m cs) root n cs f ih (turn T root (creates last && none_left cs) n c) (turn-other T root (creates last && none_left cs) n c)

walk-other : (links : ℕ) (T : Tree) (root : ℕ) (last : Last) (cs : List (List ℕ)) (n : ℕ) → is_quota (walk links T root last n cs) ≡ false
unfolding walk
walk-other zero T root last cs n = parts-other looped T root last (λ m ds. refl) cs n
walk-other (suc links) T root last cs n = parts-other (walk links T root last) T root last (λ m ds. walk-other links T root last ds m) cs n

reaches-other : (T : Tree) (root : ℕ) (base : Option ℕ) (path : List ℕ) (last : Last) → is_quota (reaches T root base path last) ≡ false
reaches-other T root base [] last = refl
reaches-other T root base (b ∷ bs) last = from (if b == 47 then Some root else base)
  where
    from : (o : Option ℕ) → is_quota (walked_from T root last (components (b ∷ bs)) o) ≡ false
    from None = refl
    from (Some n) = walk-other 40 T root last (components (b ∷ bs)) n

-- nor a request
abbrev fails_so : TreeOp → Bool
fails_so (Fail e) = e == edquot
fails_so op = false

effect-other : (q : Request) → fails_so (effect q) ≡ false
effect-other q = grind arith

made-other : (T : Tree) (k : Node) (p : Place) → is_quota p ≡ false → fails_quota (made T k p) ≡ false
made-other T k p h = grind arith

mounted-other : (T : Tree) (row : MountRow) (p : Place) → is_quota p ≡ false → fails_quota (mounted T row p) ≡ false
mounted-other T row p h = grind arith

attributed-other : (T : Tree) (name value : List ℕ) (flags : ℕ) (p : Place) → is_quota p ≡ false → fails_quota (attributed T name value flags p) ≡ false
attributed-other T name value flags p h = grind arith

opened-other : (T : Tree) (p : Place) → is_quota p ≡ false → fails_quota (opened T p) ≡ false
opened-other T p h = grind arith

if-other : (b : Bool) (x : Result Tree ℕ) → fails_quota x ≡ false → fails_quota (if b then x else Err einval) ≡ false
if-other true x h = h
if-other false x h = refl

operation-other : (T : Tree) (root : ℕ) (base : Option ℕ) (op : TreeOp) → fails_so op ≡ false → fails_quota (perform T root base op) ≡ false
operation-other T root base (Fail e) h = h
operation-other T root base (Make path k) h = made-other T k (reaches T root base path Create) (reaches-other T root base path Create)
operation-other T root base (Mount target row) h = mounted-other T row (reaches T root base target Follow) (reaches-other T root base target Follow)
operation-other T root base (SetAttr path name value flags) h = if-other (are_attr_flags flags) (attributed T name value flags (reaches T root base path Follow)) (attributed-other T name value flags (reaches T root base path Follow) (reaches-other T root base path Follow))
operation-other T root base (Open path cloexec) h = opened-other T (reaches T root base path Follow) (reaches-other T root base path Follow)

perform-other : (T : Tree) (root : ℕ) (base : Option ℕ) (q : Request) → fails_quota (perform T root base (effect q)) ≡ false
perform-other T root base q = operation-other T root base (effect q) (effect-other q)

pub outcome-other : (S : Script) (F : Files) (w : ℕ) (q : Request) → fails_quota (outcome S F w q) ≡ false
outcome-other S F w q = done-other (perform F.tree (root S) (F.base w) (effect q)) (perform-other F.tree (root S) (F.base w) q)
  where
    done-other : (r : Result Tree ℕ) → fails_quota r ≡ false → fails_quota (done r) ≡ false
    done-other (Ok T) h = refl
    done-other (Err e) h = h

-- so an effect has it exactly where it was answered before that
pub answered-so : (s : Bool) (r a : Result (Unit {0}) ℕ) → fails_quota r ≡ false → a ≡ (if s then Err edquot else r) → fails_quota a ≡ s
answered-so true r a h q = rw q refl
answered-so false r a h q = rw q h

pub written-other : (b : Bool) → fails_quota {A = Unit {0}} (if b then Ok tt else Err efault) ≡ false
written-other true = refl
written-other false = refl

pub act-spent : (q : Request) (cap : Option Cap) (a : Result (Unit {0}) ℕ) → was_spent (Act q cap a) ≡ fails_quota a
act-spent q cap (Ok u) = refl
act-spent q cap (Err e) = refl

pub plant-spent : (x : ℕ) (b : List ℕ) (cap : Option Cap) (a : Result (Unit {0}) ℕ) → was_spent (Plant x b cap a) ≡ fails_quota a
plant-spent x b cap (Ok u) = refl
plant-spent x b cap (Err e) = refl
