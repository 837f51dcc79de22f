-- Frames that refer to atoms, one after another.
-- By induction on the frames.
use Rattle.std.proofs.Common.{◌≡◌, List, [], ◌∷◌, ◌++◌, map, refl, ap, sym, ◌∙◌, append_assoc}
use Rattle.hist_model.specs.declared.request.Request.{Request}
use Rattle.policy_classes.specs.declared.atoms.Field.{Field}
use Rattle.policy_classes.specs.declared.frames.Frame.{Frame}
use Rattle.policy_classes.specs.Frames.{frame_seen, frames_seen}
use Rattle.policy_classes.specs.Looked.{Looked, with_choice}

pub map_push : {A B : Type 0} (f : A → B) (xs : List A) (x : A) → map f (xs ++ x ∷ []) ≡ map f xs ++ f x ∷ []
map_push f [] x = refl
map_push f (y ∷ ys) x = ap (λ zs. f y ∷ zs) (map_push f ys x)

-- one more frame, where the field has one more value
pub frame_added : (f : Field) (frame : Looked) (all before after : List Frame) (made : Frame) (tried : List Request) (q : Request)
    → frames_seen before ≡ frames_seen all ++ map (with_choice f frame) tried → after ≡ before ++ made ∷ [] → frame_seen made ≡ with_choice f frame q
    → frames_seen after ≡ frames_seen all ++ map (with_choice f frame) (tried ++ q ∷ [])
frame_added f frame all before after made tried q was grows is =
    ap frames_seen grows ∙ map_push frame_seen before made ∙ ap (λ zs. zs ++ frame_seen made ∷ []) was
    ∙ append_assoc (frames_seen all) (map (with_choice f frame) tried) (frame_seen made ∷ [])
    ∙ ap (λ x. frames_seen all ++ (map (with_choice f frame) tried ++ x ∷ [])) is
    ∙ ap (λ zs. frames_seen all ++ zs) (sym (map_push (with_choice f frame) tried q))
