-- What is heard of the reads of a session, answer by answer.
-- By what a capture follows, and by induction on the answers.
use Rattle.std.proofs.Common.{◌≡◌, ℕ, true, List, [], ◌∷◌, ◌++◌, sym, ap, subst, ◌∙◌, append-nil, refl}
use Rattle.std.specs.Prelude.{Result, OnOk}
use Rattle.hist_model.specs.Copies.{progress, wanted, fits_piece, heard, with_heard}
use Rattle.hist_model.specs.ReportAudit.{read_in}
use Rattle.hist_model.specs.declared.copy.Part.{Part}
use Rattle.hist_model.specs.declared.event.What.{What}
use Rattle.hist_model.specs.declared.event.What.TheVariants.{Read}
use Rattle.sys_abi.specs.declared.memory.NoMemory.{NoMemory}
use Rattle.arg_capture.specs.Captures.{Captured, continued, Follows}

so-far : (parts : List Part) (answers : List (Result (List ℕ) ℕ)) (c : Captured) → Follows parts answers c → progress parts answers ≡ continued c []
so-far parts answers c f = sym (f [] ∙ ap (progress parts) (append-nil answers))

-- an answer that fits is heard
pub taken : (parts : List Part) (answers : List (Result (List ℕ) ℕ)) (c : Captured) (a : Result (List ℕ) ℕ) → Follows parts answers c
    → fits_piece (wanted (continued c [])) a ≡ true → with_heard parts answers a ≡ answers ++ a ∷ []
taken parts answers c a f h = rw (so-far parts answers c f, h) refl

-- with an answer that fits, the capture follows those that are heard
pub follows_taken : (parts : List Part) (answers : List (Result (List ℕ) ℕ)) (old new : Captured) (a b : Result (List ℕ) ℕ) (r : Result (Unit {0}) NoMemory) → Follows parts answers old
    → fits_piece (wanted (continued old [])) a ≡ true → a ≡ b → OnOk r (Follows parts (answers ++ b ∷ []) new) → OnOk r (Follows parts (with_heard parts answers a) new)
follows_taken parts answers old new a b r f h e g = subst (λ xs. OnOk r (Follows parts xs new)) (sym (taken parts answers old a f h ∙ ap (λ x. answers ++ x ∷ []) e)) g

heard-more : (parts : List Part) (before answers : List (Result (List ℕ) ℕ)) (a : Result (List ℕ) ℕ) → heard parts before (answers ++ a ∷ []) ≡ with_heard parts (heard parts before answers) a
unfolding heard
heard-more parts before [] a = refl
heard-more parts before (b ∷ answers) a = heard-more parts (with_heard parts before b) answers a

pub follows_read : (parts : List Part) (answers : List (Result (List ℕ) ℕ)) (what : What) (addr len : ℕ) (a : Result (List ℕ) ℕ) (new : Captured) (r : Result (Unit {0}) NoMemory) → what ≡ Read addr len a
    → OnOk r (Follows parts (with_heard parts (heard parts [] answers) a) new) → OnOk r (Follows parts (heard parts [] (answers ++ read_in what)) new)
follows_read parts answers what addr len a new r e g = rw e (subst (λ xs. OnOk r (Follows parts xs new)) (sym (heard-more parts [] answers a)) g)
