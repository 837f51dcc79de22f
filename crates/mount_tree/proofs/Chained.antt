-- The chains of keys: what a search finds by them, and how one more key is put in its chain.
-- By induction on how many of the oldest keys are taken, with cases on whether the newest of them is in the bucket.
use Rattle.std.proofs.Common.{◌≡◌, inl, inr, ℕ, zero, suc, ◌+◌, ◌-◌, ◌<◌, ◌≤◌, true, false, List, [], ◌∷◌, ◌++◌, length, reverse, take, set, get_or, replicate, map, Option, Some, None, add-one, refl, sym, ap, ◌∙◌, arith}
use Rattle.std.specs.Prelude.{if◌then◌else◌, bytes_eq}
use Rattle.std.proofs.lemmas.Bool.{cases_Bool, cases_eq, cases_lt, and_parts, eqb-true, eq-eqb, ne_eqb}
use Rattle.std.proofs.lemmas.List.{get_or_default, get_or-set_same, get_or-set_other, get_or_append_left, get_or-map, take-append-le, length-append, length-set, length-map, length-reverse, map-append, reverse-append, get_or-replicate, length-replicate}
use Rattle.std.proofs.lemmas.Slice.Eq.{bytes_eq-Decides}
use Rattle.std.proofs.Math.Seq.{take-length, take-append_seam, get_or-append_seam}
use Rattle.hist_model.proofs.Scans.{past_more, reverse_push}
use Rattle.mount_tree.proofs.Places.{length_past}
use Rattle.mount_tree.proofs.Newest.{newest_here, newest_passed}
use Rattle.mount_tree.specs.Keys.{Key, is_key, is_owner, newest}
use Rattle.mount_tree.specs.Chains.{Chains, AreChains, bucket_of, is_owned_in, is_in, head}

-- keys that are one are in one bucket
owned_alike : (count b : ℕ) (o p : Option ℕ) (name other : List ℕ) → is_owner o p ≡ true → bytes_eq name other ≡ true → is_owned_in count p other b ≡ true
    → is_owned_in count o name b ≡ true
owned_alike count b o None name other e f h = cc
owned_alike count b None (Some n) name other e f h = cc
owned_alike count b (Some m) (Some n) name other e f h =
    let q : m ≡ n = eqb-true m n e in
    let r : name ≡ other = (bytes_eq-Decides name other).0 f in
    rw (q, r) h

in_alike : (count b : ℕ) (a k : Key) → is_key a k ≡ true → is_in count k b ≡ true → is_in count a b ≡ true
in_alike count b a k e h = let p = and_parts _ _ e in owned_alike count b a.owner k.owner a.name k.name p.0 p.1 h

-- a search among the `all` oldest keys that comes to the `n` oldest: it has passed no key that is sought, and the newest left is in the bucket
pub record Leads (ks : List Key) (k : Key) (count b all n : ℕ) : Type 0 where
  pub within : n ≤ all
  pub same : newest (λ (x : Key). x) (reverse (take n ks)) k ≡ newest (λ (x : Key). x) (reverse (take all ks)) k
  pub here : (d : Key) → 0 < n → is_in count (get_or ks (n - 1) d) b ≡ true

head_more : (ks : List Key) (count b j : ℕ) (d : Key) → j < length ks
    → head count (reverse (take (suc j) ks)) b ≡ (if is_in count (get_or ks j d) b then suc j else head count (reverse (take j ks)) b)
unfolding head
head_more ks count b j d l =
    let q : reverse (take (suc j) ks) ≡ get_or ks j d ∷ reverse (take j ks) = rw add-one at (past_more ks j d l) in
    rw (q, length_past ks j (omega arith)) refl

module _ (ks : List Key) (k : Key) (count b : ℕ) (sought : is_in count k b ≡ true) where
  head_leads : (j : ℕ) → j ≤ length ks → Leads ks k count b j (head count (reverse (take j ks)) b)
  unfolding head
  head_leads zero l = record { within = omega arith; same = refl; here = λ d h. absurd (omega arith) }
  head_leads (suc j) l =
      let rest = head_leads j (omega arith) in
      let more = head_more ks count b j k (omega arith) in
      elim (cases_Bool (is_in count (get_or ks j k) b)) [
        | inl e ↦
            let q : head count (reverse (take (suc j) ks)) b ≡ suc j = more ∙ rw e refl in
            rw q (record { within = omega arith; same = refl; here = λ d h. let p : suc j - 1 ≡ j = omega arith in rw (p, get_or_default ks j d k (omega arith)) e })
        | inr e ↦
            let q : head count (reverse (take (suc j) ks)) b ≡ head count (reverse (take j ks)) b = more ∙ rw e refl in
            rw q (record {
              within = let w = rest.within in omega arith;
              same = rest.same ∙ sym (passed j (omega arith) e);
              here = rest.here;
            })
      ]
    where
      passed : (j : ℕ) → j < length ks → is_in count (get_or ks j k) b ≡ false
          → newest (λ (x : Key). x) (reverse (take (suc j) ks)) k ≡ newest (λ (x : Key). x) (reverse (take j ks)) k
      passed j l e =
          elim (cases_Bool (is_key (get_or ks j k) k)) [
            | inl h ↦ let i = in_alike count b (get_or ks j k) k h sought in cc
            | inr h ↦ newest_passed (λ (x : Key). x) k ks j (suc j) k (sym (add-one j)) l h
          ]

-- a search among all keys begins at the bucket's head
pub first_leads : (ks : List Key) (k : Key) (c : Chains) (b n : ℕ) → AreChains ks c → is_in (length c.heads) k b ≡ true → b < length c.heads → n ≡ get_or c.heads b n
    → Leads ks k (length c.heads) b (length ks) n
first_leads ks k c b n are sought l e =
    let q : head (length c.heads) (reverse (take (length ks) ks)) b ≡ n = rw take-length (sym (e ∙ are.heads b n l)) in
    rw q at (head_leads ks k (length c.heads) b sought (length ks) (omega arith))

-- and goes on with the next older row, where the newest left isn't the one that is sought
pub next_leads : {T : Type 0} (f : T → Key) (xs : List T) (k : Key) (c : Chains) (b n m : ℕ) (d : T) → AreChains (map f xs) c → is_in (length c.heads) k b ≡ true → 0 < n
    → Leads (map f xs) k (length c.heads) b (length (map f xs)) n → is_key (f (get_or xs (n - 1) d)) k ≡ false → m ≡ get_or c.older (n - 1) m
    → (m < n) × Leads (map f xs) k (length c.heads) b (length (map f xs)) m
next_leads f xs k c b n m d are sought s at other e =
    let w = at.within in
    let l : n - 1 < length (map f xs) = omega arith in
    let l' : n - 1 < length xs = rw length-map at l in
    let q : head (length c.heads) (reverse (take (n - 1) (map f xs))) b ≡ m = sym (e ∙ are.older (n - 1) b m (f d) l (at.here (f d) s)) in
    let r = rw q at (head_leads (map f xs) k (length c.heads) b sought (n - 1) (omega arith)) in
    let v = r.within in
    let here : is_key (get_or (map f xs) (n - 1) (f d)) k ≡ false = rw (get_or-map f xs (n - 1) d (f d) l') other in
    let more = newest_passed (λ (x : Key). x) k (map f xs) (n - 1) n (f d) (omega arith) l here in
    (omega arith, record { within = omega arith; same = r.same ∙ sym more ∙ at.same; here = r.here })

map_reverse : {A B : Type 0} (f : A → B) (xs : List A) → map f (reverse xs) ≡ reverse (map f xs)
map_reverse f [] = refl
map_reverse f (x ∷ xs) =
    let e : reverse (x ∷ xs) ≡ reverse xs ++ x ∷ [] = reverse-append (x ∷ []) xs in
    let g : reverse (f x ∷ map f xs) ≡ reverse (map f xs) ++ f x ∷ [] = reverse-append (f x ∷ []) (map f xs) in
    rw (e, g, map-append, map_reverse f xs) refl

newest_mapped : {T : Type 0} (f : T → Key) (rs : List T) (k : Key) → newest (λ (x : Key). x) (map f rs) k ≡ newest f rs k
unfolding newest
newest_mapped f [] k = refl
newest_mapped f (r ∷ rs) k = rw (newest_mapped f rs k, length-map rs f) refl

newest_keys : {T : Type 0} (f : T → Key) (xs : List T) (k : Key) → newest (λ (x : Key). x) (reverse (map f xs)) k ≡ newest f (reverse xs) k
newest_keys f xs k = rw (← map_reverse f xs) (newest_mapped f (reverse xs) k)

-- the row at which a search ends, and none
pub found_chained : {T : Type 0} (f : T → Key) (xs : List T) (k : Key) (count b n : ℕ) (d : T) → 0 < n → Leads (map f xs) k count b (length (map f xs)) n
    → is_key (f (get_or xs (n - 1) d)) k ≡ true → Some (n - 1) ≡ newest f (reverse xs) k
found_chained f xs k count b n d s at e =
    let w = at.within in
    let l : n - 1 < length (map f xs) = omega arith in
    let m : n - 1 < length xs = rw length-map at l in
    let here : is_key (get_or (map f xs) (n - 1) (f d)) k ≡ true = rw (get_or-map f xs (n - 1) d (f d) m) e in
    let more = newest_here (λ (x : Key). x) k (map f xs) (n - 1) n (f d) (omega arith) l here in
    sym more ∙ at.same ∙ rw take-length (newest_keys f xs k)

pub none_chained : {T : Type 0} (f : T → Key) (xs : List T) (k : Key) (count b n : ℕ) → n ≡ 0 → Leads (map f xs) k count b (length (map f xs)) n → None ≡ newest f (reverse xs) k
unfolding newest
none_chained f xs k count b n z at = let e = rw (z, take-length) at at.same in e ∙ newest_keys f xs k

-- no keys yet
pub chains_none : (n : ℕ) → AreChains [] (record { heads = replicate n 0; older = [] })
unfolding head
chains_none n = record {
  count = refl;
  heads = λ b d l. get_or-replicate n b 0 d (rw length-replicate at l);
  older = λ i b d k l e. absurd (omega arith);
}

-- one more key, with the new heads of the buckets, and with what the key leads to
chains_more : (ks : List Key) (x : Key) (c : Chains) (heads : List ℕ) (l : ℕ) → AreChains ks c → length heads ≡ length c.heads
    → ((b d : ℕ) → b < length c.heads → get_or heads b d ≡ head (length c.heads) (x ∷ reverse ks) b)
    → ((b : ℕ) → is_in (length c.heads) x b ≡ true → l ≡ head (length c.heads) (reverse ks) b)
    → AreChains (ks ++ x ∷ []) (record { heads = heads; older = c.older ++ l ∷ [] })
chains_more ks x c heads l are same led leads = record {
  count = rw (length-append, length-append, are.count);
  heads = λ b d m. rw (same, reverse_push ks x) (led b d (rw same at m));
  older = λ i b d k m e. elim (cases_lt i (length ks)) [
    | inl q ↦
        let p : i < length c.older = rw are.count q in
        let f = rw (same, get_or_append_left ks (x ∷ []) k i q) at e in
        rw (same, get_or_append_left c.older (l ∷ []) d i p, take-append-le i ks (x ∷ []) (omega arith)) (are.older i b d k q f)
    | inr q ↦
        let n : length (ks ++ x ∷ []) ≡ length ks + 1 = length-append ks (x ∷ []) in
        let p : i ≡ length ks = omega arith in
        let f = rw (p, same, get_or-append_seam ks x [] k) at e in
        rw (p, same, take-append_seam ks (x ∷ []), ← are.count, get_or-append_seam c.older l [] d) (leads b f)
  ];
}

pub chains_unowned : (ks : List Key) (x : Key) (c : Chains) (l : ℕ) (older : List ℕ) → AreChains ks c → None ≡ x.owner → older ≡ c.older ++ l ∷ []
    → AreChains (ks ++ x ∷ []) (record { heads = c.heads; older = older })
unfolding head
chains_unowned ks x c l older are none put =
    rw put (chains_more ks x c c.heads l are refl (λ b d m. rw (← none) (are.heads b d m)) (λ b e. let off : false ≡ true = rw (← none) at e in cc))

pub chains_owned : (ks : List Key) (x : Key) (owner : ℕ) (name : List ℕ) (c : Chains) (b n l : ℕ) (older : List ℕ) → AreChains ks c → Some owner ≡ x.owner → name ≡ x.name
    → b ≡ bucket_of (length c.heads) owner name → b < length c.heads → n ≡ length c.older + 1 → l ≡ get_or c.heads b l → older ≡ c.older ++ l ∷ []
    → AreChains (ks ++ x ∷ []) (record { heads = set c.heads b n; older = older })
unfolding head
chains_owned ks x owner name c b n l older are owned named q below s led put =
    rw put (chains_more ks x c (set c.heads b n) l are (length-set c.heads b n)
    (λ a e m. rw (← owned, ← named, ← q) (elim (cases_eq b a) [
      | inl p ↦
          let t : n ≡ suc (length (reverse ks)) = s ∙ ap (λ (v : ℕ). v + 1) (are.count ∙ sym (length-reverse ks)) ∙ add-one (length (reverse ks)) in
          rw (eq-eqb b a p, ← p, get_or-set_same c.heads b n e below) t
      | inr p ↦ rw (ne_eqb b a p, get_or-set_other c.heads b a n e (λ y. p (sym y))) (are.heads a e m)
    ]))
    (λ a e. let p : b ≡ a = eqb-true b a (rw (← owned, ← named, ← q) at e) in led ∙ rw (← p) (are.heads b l below)))
