-- Groups of one ordinal that have the same in two histories still have it after an event that does the same to both.
-- By what an event makes of the state of groups.
use Rattle.std.proofs.Common.{◌≡◌, ◌≢◌, ◌⊎◌, inl, inr, ℕ, ◌+◌, ◌<◌, true, List, ◌∷◌, Option, Some, sym, ap, ◌∙◌, subst, arith}
use Rattle.std.proofs.lemmas.Bool.{cases_eq}
use Rattle.hist_model.specs.Files.{files}
use Rattle.hist_model.specs.Memory.{byte, byte_or, byte_stored, is_mapped}
use Rattle.hist_model.specs.Steps.{place_or}
use Rattle.hist_model.specs.declared.event.Event.{Event}
use Rattle.hist_model.specs.declared.request.Obj.{Obj}
use Rattle.hist_model.specs.declared.script.Script.{Script}
use Rattle.history_frames.specs.Ordinals.{group_of, groups_made}
use Rattle.task_groups.specs.Stands.{contents, state}
use Rattle.task_groups.specs.State.{Agree, Contents, State, after, set_contents, slot_set, with_change, with_copy}
use Rattle.task_groups.proofs.Sets.{set-here, set-other}
use Rattle.same_futures.specs.Groups.{SameBytes, SameGroup}

-- the groups of an ordinal have the same bytes, and the same numbers
abbrev pub HaveBytes : Script → List Event → List Event → ℕ → Type 0
HaveBytes S K L o = (a : ℕ) → is_mapped S.map a ≡ true → (contents S L o).byte a ≡ (contents S K o).byte a

abbrev pub HaveSlots : Script → List Event → List Event → ℕ → Type 0
HaveSlots S K L o = (n : ℕ) → (contents S L o).slot n ≡ (contents S K o).slot n

abbrev pub none_live : ℕ → ℕ
none_live o = 0

abbrev pub state-of : Script → List Event → State
state-of S K = state S K none_live none_live

-- ---- by places and by ordinals

module _ (S : Script) (K L : List Event) (o g h : ℕ) (here : group_of K o ≡ Some g) (there : group_of L o ≡ Some h) where
  pub bytes-at : HaveBytes S K L o → SameBytes S K L g h
  bytes-at b a m = sym (ap (λ (p : Option ℕ). byte S L (place_or p) a) there) ∙ (b a m ∙ ap (λ (p : Option ℕ). byte S K (place_or p) a) here)

  pub bytes-of : SameBytes S K L g h → HaveBytes S K L o
  bytes-of b a m = ap (λ (p : Option ℕ). byte S L (place_or p) a) there ∙ (b a m ∙ sym (ap (λ (p : Option ℕ). byte S K (place_or p) a) here))

  pub group-at : HaveBytes S K L o → HaveSlots S K L o → SameGroup S K L g h
  group-at b s = record {
    bytes = bytes-at b;
    slots = λ n. sym (ap (λ (p : Option ℕ). (files S L).slot (place_or p) n) there) ∙ (s n ∙ ap (λ (p : Option ℕ). (files S K).slot (place_or p) n) here);
  }

  pub slots-of : SameGroup S K L g h → HaveSlots S K L o
  slots-of s n = ap (λ (p : Option ℕ). (files S L).slot (place_or p) n) there ∙ (s.slots n ∙ sym (ap (λ (p : Option ℕ). (files S K).slot (place_or p) n) here))

-- ---- after an event

module _ (S : Script) (K L : List Event) (e : Event) where
  -- it changes no group
  module _ (k : Agree (state-of S K) (state-of S (e ∷ K))) (l : Agree (state-of S L) (state-of S (e ∷ L))) where
    pub bytes-left : (o : ℕ) → o < groups_made K → o < groups_made L → HaveBytes S K L o → HaveBytes S (e ∷ K) (e ∷ L) o
    bytes-left o m n b a is = (l.contents o n).byte a ∙ (b a is ∙ sym ((k.contents o m).byte a))

    pub slots-left : (o : ℕ) → o < groups_made K → o < groups_made L → HaveSlots S K L o → HaveSlots S (e ∷ K) (e ∷ L) o
    slots-left o m n s i = (l.contents o n).slot i ∙ (s i ∙ sym ((k.contents o m).slot i))

  -- it changes the group of one ordinal
  module _ (p : ℕ) (bytes : Option (ℕ × List ℕ)) (slot : Option (ℕ × Option Obj))
      (k : Agree (with_change p bytes slot (state-of S K)) (state-of S (e ∷ K))) (l : Agree (with_change p bytes slot (state-of S L)) (state-of S (e ∷ L))) where
    abbrev now : List Event → ℕ → Contents
    now M o = set_contents p (after bytes slot (contents S M p)) (contents S M) o

    changed-byte : (o a : ℕ) → is_mapped S.map a ≡ true → HaveBytes S K L o → (now L o).byte a ≡ (now K o).byte a
    changed-byte o a is b = elim (cases_eq o p) [
      | inl q ↦
          let x : (contents S L p).byte a ≡ (contents S K p).byte a = subst (λ (i : ℕ). (contents S L i).byte a ≡ (contents S K i).byte a) q (b a is) in
          ap (λ (c : Contents). c.byte a) (set-here p o (after bytes slot (contents S L p)) (contents S L) q)
          ∙ (ap (byte_or (byte_stored bytes a)) x ∙ sym (ap (λ (c : Contents). c.byte a) (set-here p o (after bytes slot (contents S K p)) (contents S K) q)))
      | inr d ↦ ap (λ (c : Contents). c.byte a) (set-other p o (after bytes slot (contents S L p)) (contents S L) d)
          ∙ (b a is ∙ sym (ap (λ (c : Contents). c.byte a) (set-other p o (after bytes slot (contents S K p)) (contents S K) d)))
    ]

    changed-slot : (o n : ℕ) → HaveSlots S K L o → (now L o).slot n ≡ (now K o).slot n
    changed-slot o n s = elim (cases_eq o p) [
      | inl q ↦
          let x : (contents S L p).slot n ≡ (contents S K p).slot n = subst (λ (i : ℕ). (contents S L i).slot n ≡ (contents S K i).slot n) q (s n) in
          ap (λ (c : Contents). c.slot n) (set-here p o (after bytes slot (contents S L p)) (contents S L) q)
          ∙ (ap (slot_set slot n) x ∙ sym (ap (λ (c : Contents). c.slot n) (set-here p o (after bytes slot (contents S K p)) (contents S K) q)))
      | inr d ↦ ap (λ (c : Contents). c.slot n) (set-other p o (after bytes slot (contents S L p)) (contents S L) d)
          ∙ (s n ∙ sym (ap (λ (c : Contents). c.slot n) (set-other p o (after bytes slot (contents S K p)) (contents S K) d)))
    ]

    pub bytes-changed : (o : ℕ) → o < groups_made K → o < groups_made L → HaveBytes S K L o → HaveBytes S (e ∷ K) (e ∷ L) o
    bytes-changed o m n b a is = (l.contents o n).byte a ∙ (changed-byte o a is b ∙ sym ((k.contents o m).byte a))

    pub slots-changed : (o : ℕ) → o < groups_made K → o < groups_made L → HaveSlots S K L o → HaveSlots S (e ∷ K) (e ∷ L) o
    slots-changed o m n s i = (l.contents o n).slot i ∙ (changed-slot o i s ∙ sym ((k.contents o m).slot i))

  -- it makes a group that begins with a copy of one
  module _ (p : ℕ) (f g : ℕ → ℕ) (same : groups_made L ≡ groups_made K) (k : Agree (with_copy p (state-of S K)) (state S (e ∷ K) f none_live))
      (l : Agree (with_copy p (state-of S L)) (state S (e ∷ L) g none_live)) where
    abbrev fresh : List Event → ℕ → Contents
    fresh M o = set_contents (groups_made M) (contents S M p) (contents S M) o

    pub bytes-copied : (o : ℕ) → o < groups_made K + 1 → ((o ≡ groups_made K) × HaveBytes S K L p) ⊎ ((o ≢ groups_made K) × HaveBytes S K L o) → HaveBytes S (e ∷ K) (e ∷ L) o
    bytes-copied o m b a is = (l.contents o (omega (arith, same, m))).byte a ∙ (by b ∙ sym ((k.contents o m).byte a))
      where
        by : ((o ≡ groups_made K) × HaveBytes S K L p) ⊎ ((o ≢ groups_made K) × HaveBytes S K L o) → (fresh L o).byte a ≡ (fresh K o).byte a
        by (inl x) = ap (λ (c : Contents). c.byte a) (set-here (groups_made L) o (contents S L p) (contents S L) (x.0 ∙ sym same)) ∙ (x.1 a is ∙ sym (ap (λ (c : Contents). c.byte a) (set-here (groups_made K) o (contents S K p) (contents S K) x.0)))
        by (inr x) = ap (λ (c : Contents). c.byte a) (set-other (groups_made L) o (contents S L p) (contents S L) (λ q. x.0 (q ∙ same))) ∙ (x.1 a is ∙ sym (ap (λ (c : Contents). c.byte a) (set-other (groups_made K) o (contents S K p) (contents S K) x.0)))

    pub slots-copied : (o : ℕ) → o < groups_made K + 1 → ((o ≡ groups_made K) × HaveSlots S K L p) ⊎ ((o ≢ groups_made K) × HaveSlots S K L o) → HaveSlots S (e ∷ K) (e ∷ L) o
    slots-copied o m b n = (l.contents o (omega (arith, same, m))).slot n ∙ (by b ∙ sym ((k.contents o m).slot n))
      where
        by : ((o ≡ groups_made K) × HaveSlots S K L p) ⊎ ((o ≢ groups_made K) × HaveSlots S K L o) → (fresh L o).slot n ≡ (fresh K o).slot n
        by (inl x) = ap (λ (c : Contents). c.slot n) (set-here (groups_made L) o (contents S L p) (contents S L) (x.0 ∙ sym same)) ∙ (x.1 n ∙ sym (ap (λ (c : Contents). c.slot n) (set-here (groups_made K) o (contents S K p) (contents S K) x.0)))
        by (inr x) = ap (λ (c : Contents). c.slot n) (set-other (groups_made L) o (contents S L p) (contents S L) (λ q. x.0 (q ∙ same))) ∙ (x.1 n ∙ sym (ap (λ (c : Contents). c.slot n) (set-other (groups_made K) o (contents S K p) (contents S K) x.0)))
