-- Where the first line ends.
-- By the place of the first byte 10, with the lemmas on the elements of `take` and `drop`.
use Rattle.std.proofs.Common.{◌≡◌, ℕ, suc, ◌<◌, Bool, true, false, Option, Some, None, List, ◌∷◌, ◌++◌, length, take, drop, get_or, refl, sym, ap, ◌∙◌, arith, add-one}
use Rattle.std.specs.Prelude.{MatchOption, ◌==◌}
use Rattle.std.proofs.Math.Seq.{drop-cons}
use Rattle.std.proofs.lemmas.Bool.{eqb-true}
use Rattle.std.proofs.lemmas.List.{get_or-take, take-append-drop, length-take-le}
use Rattle.std.proofs.lemmas.List.Elements.{All-from_get_or}
use Rattle.std.proofs.lemmas.List.Folds.{list_any_none}
use Rattle.memchr.specs.Find.{IsFirstByte, is_byte}
use Rattle.step_requests.specs.Laws.{is_line_end}
use Rattle.step_session.specs.Lines.{EndsAt, has_end}

fails : (b : Bool) → (b ≡ true → ⊥) → b ≡ false
fails true n = absurd (n refl)
fails false n = refl

-- no line ends among bytes of which none is 10
none-ends : (text : List ℕ) → ((k : ℕ) → k < length text → (get_or text k 0 == 10) ≡ true → ⊥) → has_end text ≡ false
none-ends text none = list_any_none is_line_end text (All-from_get_or (λ b. is_line_end b ≡ false) text 0 (λ k l. fails (get_or text k 0 == 10) (none k l)))

-- the first byte 10 ends the first line
pub first_end : (text : List ℕ) (r : Option ℕ) → IsFirstByte (is_byte 10) text r → MatchOption r (has_end text ≡ false) (λ place. EndsAt text place)
first_end text None first = none-ends text (λ k l. first k (omega arith) l)
first_end text (Some place) first =
    let within : place < length text = first.0.high in
    let long : length (take place text) ≡ place = length-take-le place text (omega arith) in
    let here : get_or text place 0 ≡ 10 = eqb-true (get_or text place 0) 10 first.1 in
    record {
      within = within;
      line = none-ends (take place text) (λ k l ends. first.0.before k (omega arith) (omega arith) (ap (λ b. b == 10) (sym (get_or-take place text k 0 (omega arith))) ∙ ends));
      cut = sym (take-append-drop place text) ∙ ap (λ rest. take place text ++ rest) (drop-cons text place 0 within ∙ ap (λ b. b ∷ drop (suc place) text) here ∙ ap (λ k. 10 ∷ drop k text) (sym (add-one place)));
    }
