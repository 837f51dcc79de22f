-- What is told of a fault begins with the line of its event.
-- By the newest event, which stands last where the oldest stands first.
use Rattle.std.proofs.Common.{◌≡◌, ℕ, List, [], ◌∷◌, ◌++◌, length, reverse, ap, sym, ◌∙◌}
use Rattle.std.proofs.lemmas.List.{length-reverse}
use Rattle.hist_model.specs.ReportJournal.{event_line}
use Rattle.hist_model.specs.declared.event.Event.{Event}
use Rattle.hist_model.proofs.Scans.{reverse_push}
use Rattle.judge_pass.specs.Reasons.{BeginsWith}

same_event : (a b : Event) (K H : List Event) → a ∷ K ≡ b ∷ H → a ≡ b
same_event a b K H h = cc

same_before : (a b : Event) (K H : List Event) → a ∷ K ≡ b ∷ H → K ≡ H
same_before a b K H h = cc

-- the line of the last event, which is the newest
pub newest_line : (past before events : List Event) (event e : Event) (K : List Event) → past ≡ reverse events → events ≡ before ++ event ∷ [] → past ≡ e ∷ K
    → event_line (length before) event ≡ event_line (length K) e
newest_line past before events event e K seen split is =
    let same : e ∷ K ≡ event ∷ reverse before = sym is ∙ seen ∙ ap reverse split ∙ reverse_push before event in
    let long : length K ≡ length before = ap length (same_before e event K (reverse before) same) ∙ length-reverse before in
    ap (λ (n : ℕ). event_line n event) (sym long) ∙ ap (event_line (length K)) (sym (same_event e event K (reverse before) same))

-- with more behind it
pub begins : (old new more bytes line first : List ℕ) → line ≡ old ++ first → new ≡ line ++ bytes → first ≡ more → BeginsWith new (old ++ more)
begins old new more bytes line first a b same = (bytes, b ∙ ap (λ (l : List ℕ). l ++ bytes) (a ∙ ap (λ (x : List ℕ). old ++ x) same))
