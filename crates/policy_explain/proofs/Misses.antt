-- Nothing is missed exactly where a rule fits.
-- By induction on the conditions, and by cases on whether the rule is for the call.
use Rattle.std.proofs.Common.{◌≡◌, Bool, true, false, ◌&&◌, List, [], ◌∷◌, Some, cond, not, refl}
use Rattle.std.specs.Prelude.{is_none}
use Rattle.std.specs.List.{list_all}
use Rattle.std.specs.Option.{option_map}
use Rattle.hist_model.specs.Decisions.{covers, fits, meets}
use Rattle.hist_model.specs.Requests.{call_of_request}
use Rattle.hist_model.specs.declared.policy.Cond.{Cond}
use Rattle.hist_model.specs.declared.policy.Rule.{Rule}
use Rattle.hist_model.specs.declared.request.Request.{Request}
use Rattle.policy_explain.specs.Missed.{call, condition, missed, unmet}

-- no condition is unmet exactly where each is met
unmet_none : (conds : List Cond) (q : Request) → is_none (option_map condition (unmet conds q)) ≡ list_all (λ c. meets c q) conds
unmet_none [] q = refl
unmet_none (c ∷ conds) q = first (meets c q) (unmet_none conds q)
  where
    first : (b : Bool) → is_none (option_map condition (unmet conds q)) ≡ list_all (λ c. meets c q) conds
        → is_none (option_map condition (cond (not b) (Some c) (unmet conds q))) ≡ (b && list_all (λ c. meets c q) conds)
    first true h = h
    first false h = refl

pub fits_where_nothing_is_missed : (rule : Rule) (q : Request) → is_none (missed rule q) ≡ fits rule q
unfolding fits
fits_where_nothing_is_missed rule q = by_call (covers rule.calls (call_of_request q)) (unmet_none rule.conds q)
  where
    by_call : (b : Bool) → is_none (option_map condition (unmet rule.conds q)) ≡ list_all (λ c. meets c q) rule.conds
        → is_none (cond b (option_map condition (unmet rule.conds q)) (Some call)) ≡ (b && list_all (λ c. meets c q) rule.conds)
    by_call true h = h
    by_call false h = refl
