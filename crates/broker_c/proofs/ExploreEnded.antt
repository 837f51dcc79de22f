-- How an exploration of bytes ended, from how the top call ended over them as files, and a sink in memory.
-- By cases on the status, since the files tell their bytes and are always there, and by whether the workers and the bound can be asked for.
use Rattle.std.proofs.Common.{◌≡◌, ℕ, ◌≤◌, Bool, true, false, List, [], length, ◌⊎◌, Option, None, Some, inl, inr, refl, sym, subst, ◌∙◌, arith}
use Rattle.std.specs.Prelude.{codes, nat_le, nat_lt, if◌then◌else◌}
use Rattle.std.proofs.lemmas.Bool.{leb-false, leb-true, ltb-true}
use Rattle.io_edge.specs.FileState.{FileState}
use Rattle.io_edge.specs.SinkState.{SinkState}
use Rattle.hist_model.specs.declared.policy.Policy.{Policy}
use Rattle.hist_model.specs.declared.script.Script.{Script}
use Rattle.broker_app.specs.Answers.{Answers, IsUsage}
use Rattle.explore_words.specs.Explorations.{AreExplored as AreFilesExplored, ExploreEnds, IsExploredText, TookExploredPrefix}
use Rattle.broker_app.specs.Words.{Form, Explore}
use Rattle.program_files.specs.declared.status.Status.{Status}
use Rattle.program_files.specs.declared.status.Status.TheVariants.{Done, Usage, WriteFault, NoMemory}
use Rattle.broker_c.proofs.Inputs.{input_gives}
use Rattle.broker_c.proofs.Prefixes.{adds_whole}
use Rattle.broker_c.proofs.Settled.{by_room}
use Rattle.broker_c.specs.Given.{files_of}
use Rattle.broker_c.specs.Held.{empty_sink}
use Rattle.broker_c.specs.Outcomes.{AreExplored, BeginsExploration, ExplorationGives, ExploreGives, IsAsked, IsExploration, bound_meant, explore_asked, settled}

-- ---- By workers up to W, within a bound

module _ (policy script : List ℕ) (W : ℕ) (bound : Option ℕ) (after : FileState) (new : SinkState) where
  -- how the top call ends over the bytes
  abbrev Ends : Status → Type 0
  Ends status = ExploreEnds (files_of policy script []) after empty_sink new (codes "policy") (codes "script") W bound status

  -- what is read of the files is read of the bytes
  are_explored : (P : Policy) (S : Script) → AreFilesExplored (files_of policy script []) (codes "policy") (codes "script") W bound P S → AreExplored policy script W bound P S
  are_explored P S are = record { policy_is = are.policy_is refl; script_is = are.script_is refl; laws = are.laws }

  -- a sink that took a prefix of what is printed of the files took one of what is printed of the bytes
  took_beginning : TookExploredPrefix (files_of policy script []) (codes "policy") (codes "script") W bound empty_sink new → BeginsExploration policy script W bound new.taken
  took_beginning p = (p.0, p.1, are_explored p.0 p.1 p.2, p.3, p.4, p.5 refl)

  -- with status 0 all of it was printed
  done : Ends Done → IsExploration policy script W bound new.taken
  done e = let p = e.0 in (p.0, p.1, are_explored p.0 p.1 p.2, subst (IsExploredText W bound p.0 p.1) (sym (p.5 refl)) p.4)

  -- the whole of it begins it
  begins_whole : IsExploration policy script W bound new.taken → BeginsExploration policy script W bound new.taken
  begins_whole p = (p.0, p.1, p.2, new.taken, p.3, adds_whole new.taken new.taken refl)

  -- nothing was printed, or a prefix of it
  begun : (status : Status) → Ends status → (new.taken ≡ []) ⊎ BeginsExploration policy script W bound new.taken
  begun Done e = inr (begins_whole (done e))
  begun WriteFault e = inr (took_beginning e.1)
  begun NoMemory e = elim e [ inl nothing ↦ inl (nothing refl) | inr part ↦ inr (took_beginning part) ]
  begun status e = inl (e.1 refl)

  -- all that was printed fits
  fitting : (room : ℕ) (failed : Bool) (status : Status) → length new.taken ≤ room → Ends status → ExplorationGives policy script W bound room new.taken (settled false failed status)
  fitting room failed WriteFault le e = begun WriteFault e
  fitting room true status le e = begun status e
  fitting room false Done le e = (done e, le)
  fitting room false NoMemory le e = begun NoMemory e
  fitting room false status le e = input_gives policy script [] new.taken after status e.0 (e.1 refl)

  -- what an exploration gave whose top call ended so
  ended_gives : (room : ℕ) (failed : Bool) (status : Status) → Ends status → ExplorationGives policy script W bound room new.taken (settled (nat_lt room (length new.taken)) failed status)
  ended_gives room failed status e =
      by_room (ExplorationGives policy script W bound room new.taken) (BeginsExploration policy script W bound) room failed new.taken status (begun status e) (λ part longer. (part, longer))
      (λ fits. fitting room failed status fits e)

-- ---- By the numbers that were given

module _ (policy script : List ℕ) (workers delays room : ℕ) where
  -- where they can be asked for, it ends so
  explored : (bound : Option ℕ) (printed : List ℕ) (status : Status) → IsAsked workers delays bound → ExplorationGives policy script workers bound room printed status
      → ExploreGives policy script workers delays room printed status
  explored bound printed Usage asked gives = absurd gives
  explored bound printed NoMemory asked gives = elim gives [ inl nothing ↦ inl nothing | inr part ↦ inr (bound, asked, part) ]
  explored bound printed status asked gives = (bound, asked, gives)

  -- nothing is printed where they can't
  unexplored : (over failed : Bool) (new : SinkState) (status : Status) → nat_lt room (length new.taken) ≡ over → ((bound : Option ℕ) → ¬ (IsAsked workers delays bound)) → IsUsage status → new.taken ≡ []
      → ExploreGives policy script workers delays room new.taken (settled over failed status)
  unexplored true failed new Usage is none usage nothing = let over = ltb-true room (length new.taken) is in absurd (grind arith)
  unexplored false true new Usage is none usage nothing = inl nothing
  unexplored false false new Usage is none usage nothing = (none, nothing)
  unexplored over failed new status is none usage nothing = absurd usage

  -- by whether there is such a bound, and there are such workers
  by_asked : (failed : Bool) (after : FileState) (new : SinkState) (status : Status) → Answers (explore_asked workers (bound_meant delays)) (files_of policy script []) after empty_sink new status
      → ExploreGives policy script workers delays room new.taken (settled (nat_lt room (length new.taken)) failed status)
  by_asked failed after new status answers = by_bound (bound_meant delays) refl answers
    where
      by_workers : (bound : Option ℕ) (few : Bool) → bound_meant delays ≡ Some bound → nat_le workers 15 ≡ few
          → Answers (if few then Some (Explore (codes "policy") (codes "script") workers bound) else None) (files_of policy script []) after empty_sink new status
          → ExploreGives policy script workers delays room new.taken (settled (nat_lt room (length new.taken)) failed status)
      by_workers bound true meant is e = explored bound new.taken _ (leb-true workers 15 is, meant) (ended_gives policy script workers bound after new room failed status e)
      by_workers bound false meant is e =
          let many = leb-false workers 15 is in
          unexplored (nat_lt room (length new.taken)) failed new status refl (λ other asked. omega (arith, many, asked.0)) e.0 (e.1 refl)

      by_bound : (meant : Option (Option ℕ)) → bound_meant delays ≡ meant → Answers (explore_asked workers meant) (files_of policy script []) after empty_sink new status
          → ExploreGives policy script workers delays room new.taken (settled (nat_lt room (length new.taken)) failed status)
      by_bound None is e = unexplored (nat_lt room (length new.taken)) failed new status refl (λ bound asked. let other = sym is ∙ asked.1 in cc) e.0 (e.1 refl)
      by_bound (Some bound) is e = by_workers bound (nat_le workers 15) is refl e

-- what the exploration of the bytes gave
pub explore_gives : (policy script printed : List ℕ) (workers delays room : ℕ) (failed : Bool) (form : Option Form) (files after : FileState) (old new : SinkState) (ended status : Status)
    → form ≡ explore_asked workers (bound_meant delays) → files ≡ files_of policy script [] → old ≡ empty_sink → Answers form files after old new ended
    → printed ≡ new.taken → status ≡ settled (nat_lt room (length new.taken)) failed ended → ExploreGives policy script workers delays room printed status
explore_gives policy script printed workers delays room failed form files after old new ended status asked given empty e taken told =
    let form_of = explore_asked workers (bound_meant delays) in
    let asked-for : Answers form_of files after old new ended = subst (λ f. Answers f files after old new ended) asked e in
    let begin : Answers form_of files after empty_sink new ended = subst (λ sink. Answers form_of files after sink new ended) empty asked-for in
    let over : Answers form_of (files_of policy script []) after empty_sink new ended = subst (λ f. Answers form_of f after empty_sink new ended) given begin in
    let gives = by_asked policy script workers delays room failed after new ended over in
    subst (λ text. ExploreGives policy script workers delays room text status) (sym taken) (subst (λ s. ExploreGives policy script workers delays room new.taken s) (sym told) gives)
