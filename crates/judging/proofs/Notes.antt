-- An annotation leaves the engine standing for the list with it.
use Rattle.std.proofs.Common.{◌≡◌, ◌⊎◌, ◌↔◌, ◌==◌, ◌&&◌, ◌||◌, ◌<◌, ◌≤◌, ◌++◌, ℕ, suc, Bool, true, false, cond, not, nat_lt, is_none, ltb-true, List, [], ◌∷◌, Option, Some, None, length, map, refl, ap, sym, subst, inl, inr, ◌∙◌, arith}
use Rattle.std.specs.List.{filter, list_any}
use Rattle.std.specs.BTreeMap.{is_at}
use Rattle.std.specs.Map.{lookup}
use Rattle.std.specs.Ordering.{nat_cmp}
use Rattle.std.specs.Str.{bytes_eq}
use Rattle.octets.specs.BytesMap.{by_bytes}
use Rattle.std.specs.Cmp.Lexicographic.{bytes_decides}
use Rattle.std.proofs.lemmas.Bool.{and_parts, cases_Bool, cases_eq, cases_lt, eq-eqb, lt-ltb, true≢false}
use Rattle.std.proofs.lemmas.Bool.Decides.{Decides-eqb, same_from_decides}
use Rattle.std.proofs.lemmas.List.{append-nil, map_push}
use Rattle.git_object.specs.Ids.{zeros}
use Rattle.rsl_chain.specs.Entries.{Taken, is_of, shares, skips_id, target_of}
use Rattle.git_object.specs.References.{attestations_name, policy_name}
use Rattle.rsl_chain.specs.declared.entries.EntryBody.{EntryBody}
use Rattle.rsl_chain.specs.declared.entries.EntryBody.TheVariants.{Reference, Annotation}
use Rattle.recovery.specs.Lanes.{Lane, is_in, is_skipped_in, lane_of}
use Rattle.judging.specs.Books.{HasNote, Kept, next_number, place_of}
use Rattle.judging.specs.Engines.{IsTaken, KeepsNote, Stands}
use Rattle.judging.specs.Hits.{IsHit, IsHitBy, IsHitOf, some_hit, without}
use Rattle.judging.specs.Rules.{Rules}
use Rattle.judging.specs.Logs.{above_of, attested_after, body_fault, body_signers, completes, entry_at, fault_at, fault_of, has_id, is_entry_of, key_may_skip, lane, may_skip, numbers, opened, policy_after, share, skipped, skips}
use Rattle.judging.specs.Verdicts.{body_verdict}
use Rattle.judging.specs.declared.verdicts.EntryVerdict.TheVariants.{Noted}
use Rattle.judging.specs.declared.engine.Engine.{Engine}
use Rattle.judging.proofs.Appends.{fault_new, fault_old, long, no_entry, rescues_now}
use Rattle.judging.proofs.Counting.{filter_same, filter_twice, number_some, some_number}
use Rattle.judging.proofs.LaneSteps.{pending_step, pushed_step, unskipped_step}
use Rattle.judging.proofs.Takes.{attested_push, next_is, places_push, policy_push, signers_push}

-- a number that stands in a filter of the numbers
in_filter : (p : ℕ → Bool) (ns : List ℕ) (n : ℕ) → is_in n (filter p ns) ≡ list_any (λ m. p m && (m == n)) ns
in_filter p [] n = refl
in_filter p (m ∷ ns) n =
    elim (p m) as (λ b. is_in n (cond b (m ∷ filter p ns) (filter p ns)) ≡ ((b && (m == n)) || list_any (λ k. p k && (k == n)) ns)) [
      | true ↦ ap (λ b. (m == n) || b) (in_filter p ns n)
      | false ↦ in_filter p ns n
    ]

pub in_numbers : (p : ℕ → Bool) (k n : ℕ) → is_in n (filter p (numbers k)) ≡ true → (0 < n) × (n ≤ k) × (p n ≡ true)
in_numbers p k n h =
    let w = some_number (λ m. p m && (m == n)) k (sym (in_filter p (numbers k) n) ∙ h) in
    let q = and_parts (p w.0) (w.0 == n) w.3 in
    let e : w.0 ≡ n = (Decides-eqb w.0 n).0 q.1 in
    (let a = w.1 in omega arith, let b = w.2 in omega arith, ap p (sym e) ∙ q.0)

pub numbers_in : (p : ℕ → Bool) (k n : ℕ) → 0 < n → n ≤ k → p n ≡ true → is_in n (filter p (numbers k)) ≡ true
numbers_in p k n a b h = in_filter p (numbers k) n ∙ number_some (λ m. p m && (m == n)) k n a b (ap (λ c. c && (n == n)) h ∙ eq-eqb n n refl)

same_bytes : (a b : List ℕ) → bytes_eq a b ≡ bytes_eq b a
same_bytes a b = same_from_decides (bytes_eq a b) (bytes_eq b a) (λ h. (bytes_decides a b).0 h, λ e. (bytes_decides a b).1 e) (λ h. sym ((bytes_decides b a).0 h), λ e. (bytes_decides b a).1 (sym e))

any_and : (f : List ℕ → Bool) (m : Bool) (ids : List (List ℕ)) → list_any (λ id. f id && m) ids ≡ (list_any f ids && m)
any_and f m [] = refl
any_and f m (id ∷ ids) = ap (λ b. (f id && m) || b) (any_and f m ids) ∙ spread (f id) (list_any f ids) m where
  spread : (a b m : Bool) → ((a && m) || (b && m)) ≡ ((a || b) && m)
  spread true b true = refl
  spread true true false = refl
  spread true false false = refl
  spread false b m = refl

any_agree : (f h : List ℕ → Bool) → ((id : List ℕ) → f id ≡ h id) → (ids : List (List ℕ)) → list_any f ids ≡ list_any h ids
any_agree f h e [] = refl
any_agree f h e (id ∷ ids) = ap (λ b. b || list_any f ids) (e id) ∙ ap (λ b. h id || b) (any_agree f h e ids)

module _ {P F : Type 0} (rules : Rules P F) (log : List Taken) (t : Taken) where
  -- whether the annotation may skip an entry, whatever it lists
  abbrev pub may : Option Taken → Bool
  may None = false
  may (Some x) = may_skip rules (policy_after rules log) t.entry x.entry.body

  abbrev pub hits : List ℕ → ℕ → Bool
  hits id n = nat_lt 0 n && (has_id (entry_at log n) id && may (entry_at log n))

  module _ (ids : List (List ℕ)) (skip : Bool) (message : List ℕ) (body : t.entry.body ≡ Annotation ids skip message) where
    pub shares_nothing : (e : Option Taken) → share (Some t) e ≡ false
    shares_nothing None = refl
    shares_nothing (Some x) = ap (λ b. shares b x.entry.body) body

    keeps : (p : ℕ → Bool) → ((n : ℕ) → p n ≡ true) → (ns : List ℕ) → filter p ns ≡ ns
    keeps p h [] = refl
    keeps p h (n ∷ ns) = ap (λ b. cond b (n ∷ filter p ns) (filter p ns)) (h n) ∙ ap (λ xs. n ∷ xs) (keeps p h ns)

    pub pushed_note : (name : List ℕ) → (lane rules (log ++ t ∷ []) name).pushed ≡ (lane rules log name).pushed
    pushed_note name = pushed_step rules log t name ∙ ap (λ b. (lane rules log name).pushed ++ cond (is_of b name) (suc (length log) ∷ []) []) body ∙ append-nil (lane rules log name).pushed

    pub pending_note : (name : List ℕ) → (lane rules (log ++ t ∷ []) name).pending ≡ (lane rules log name).pending
    pending_note name =
        pending_step rules log t name
        ∙ ap (λ xs. xs ++ cond (is_of t.entry.body name && not (is_none (fault_of rules log (Some t)))) (suc (length log) ∷ []) []) (keeps (λ i. not (rescues_now rules log t i)) (λ i. ap (λ b. not (b && (completes rules log (Some t) && (nat_lt (above_of rules log (Some t)) i && nat_lt i (suc (length log)))))) (shares_nothing (entry_at log i))) (lane rules log name).pending)
        ∙ ap (λ b. (lane rules log name).pending ++ cond (is_of b name && not (is_none (fault_of rules log (Some t)))) (suc (length log) ∷ []) []) body ∙ append-nil (lane rules log name).pending

    pub skips_is : (e : Option Taken) → skips rules log (Some t) e ≡ (skip && (list_any (λ id. has_id e id) ids && may e))
    skips_is None = sym (by_ids skip ids) where
      by_ids : (s : Bool) (xs : List (List ℕ)) → (s && (list_any (λ id. false) xs && false)) ≡ false
      by_ids true [] = refl
      by_ids true (x ∷ xs) = by_ids true xs
      by_ids false xs = refl
    skips_is (Some x) =
        ap (λ b. skips_id b x.entry.id && may (Some x)) body
        ∙ ap (λ b. (skip && b) && may (Some x)) (any_agree (λ listed. bytes_eq listed x.entry.id) (λ id. bytes_eq x.entry.id id) (λ id. same_bytes id x.entry.id) ids)
        ∙ assoc skip (list_any (λ id. bytes_eq x.entry.id id) ids) (may (Some x)) where
          assoc : (a b c : Bool) → ((a && b) && c) ≡ (a && (b && c))
          assoc true b c = refl
          assoc false b c = refl

    hit_is : (n : ℕ) → 0 < n → some_hit hits ids n ≡ (list_any (λ id. has_id (entry_at log n) id) ids && may (entry_at log n))
    hit_is n h =
        any_agree (λ id. hits id n) (λ id. has_id (entry_at log n) id && may (entry_at log n)) (λ id. ap (λ b. b && (has_id (entry_at log n) id && may (entry_at log n))) (lt-ltb 0 n h)) ids
        ∙ any_and (λ id. has_id (entry_at log n) id) (may (entry_at log n)) ids

    -- what is left where the hits are skipped, if the annotation skips
    pub unskipped_note : (name : List ℕ) → (lane rules (log ++ t ∷ []) name).unskipped ≡ filter (λ n. not (skip && some_hit hits ids n)) (lane rules log name).unskipped
    unskipped_note name =
        let q : ℕ → Bool = λ i. is_entry_of (entry_at log i) name && not (skipped rules log i) in
        unskipped_step rules log t name
        ∙ ap (λ b. filter (λ i. not (skips rules log (Some t) (entry_at log i))) (lane rules log name).unskipped ++ cond (is_of b name) (suc (length log) ∷ []) []) body
        ∙ append-nil (filter (λ i. not (skips rules log (Some t) (entry_at log i))) (lane rules log name).unskipped)
        ∙ filter_twice q (λ i. not (skips rules log (Some t) (entry_at log i))) (numbers (length log))
        ∙ filter_same (λ i. q i && not (skips rules log (Some t) (entry_at log i))) (λ i. q i && not (skip && some_hit hits ids i)) (length log) (λ i a b. ap (λ c. q i && not c) (skips_is (entry_at log i) ∙ ap (λ c. skip && c) (sym (hit_is i a))))
        ∙ sym (filter_twice q (λ i. not (skip && some_hit hits ids i)) (numbers (length log)))

  -- the test says what the engine keeps once the annotation is kept
  module _ (e : Engine P F) (stands : Stands rules log e) (fresh : place_of e.book t.entry.id ≡ None) (mid : Kept F) (noted : HasNote t.entry.id e.book mid) where
    hit_parts : (id : List ℕ) (m : ℕ) → hits id m ≡ true → (0 < m) × (m ≤ length log) × (has_id (entry_at log m) id ≡ true)
    hit_parts id m h =
        let p = and_parts (nat_lt 0 m) (has_id (entry_at log m) id && may (entry_at log m)) h in
        let q = and_parts (has_id (entry_at log m) id) (may (entry_at log m)) p.1 in (
          ltb-true 0 m p.0,
          elim (cases_lt (length log) m) [
            | inl past ↦ absurd (true≢false (sym q.0 ∙ ap (λ x. has_id x id) (no_entry log m past)))
            | inr within ↦ within
          ],
          q.0,
        )

    old_or_new : (id : List ℕ) → (place_of mid id ≡ Some (suc (length log))) ⊎ (place_of mid id ≡ place_of e.book id)
    old_or_new id =
        let put = noted.place id ∙ ap (λ k. cond (bytes_eq t.entry.id id) (Some k) (place_of e.book id)) (next_is rules log t e stands) in
        elim (cases_Bool (bytes_eq t.entry.id id)) [
          | inl is ↦ inl (put ∙ ap (λ b. cond b (Some (suc (length log))) (place_of e.book id)) is)
          | inr isnt ↦ inr (put ∙ ap (λ b. cond b (Some (suc (length log))) (place_of e.book id)) isnt)
        ]

    -- an id that an entry has is not the annotation's
    known_id : (id : List ℕ) (m : ℕ) → hits id m ≡ true → place_of mid id ≡ Some m
    known_id id m h =
        let w = hit_parts id m h in
        let old : place_of e.book id ≡ Some m = (stands.places id m).1 w in
        let apart : bytes_eq t.entry.id id ≡ false = elim (cases_Bool (bytes_eq t.entry.id id)) [
          | inl is ↦ absurd (let clash : None ≡ Some m = sym fresh ∙ ap (place_of e.book) ((bytes_decides t.entry.id id).0 is) ∙ old in cc)
          | inr isnt ↦ isnt
        ] in
        noted.place id ∙ ap (λ b. cond b (Some (next_number e.book)) (place_of e.book id)) apart ∙ old

    of_lane : (n : ℕ) (name : List ℕ) → is_in n (lane_of mid.marks name).pushed ≡ is_in n (lane rules log name).pushed
    of_lane n name = ap (λ (l : Lane). is_in n l.pushed) (noted.lanes name ∙ stands.lanes name)

    not_true : (b : Bool) → (b ≡ true → ⊥) → b ≡ false
    not_true true h = absurd (h refl)
    not_true false h = refl

    pub hit_key : (policy : P) (key : List ℕ) → policy_after rules log ≡ Some policy → rules.skipper policy t.entry ≡ Some key → IsHit rules policy key mid hits
    hit_key policy key in_force signed =
        let may_is : (name target : List ℕ) → may_skip rules (policy_after rules log) t.entry (Reference name target) ≡ rules.may_skip policy key name =
        λ name target. ap (λ p. may_skip rules p t.entry (Reference name target)) in_force ∙ ap (λ k. key_may_skip rules policy k name) signed in
        let of_entry : (x : Option Taken) (name : List ℕ) → is_entry_of x name ≡ true → may x ≡ rules.may_skip policy key name = λ x name own. by_entry x name own may_is in
        record {
          some = λ id n name at own.
              let w = in_numbers (λ i. is_entry_of (entry_at log i) name) (length log) n (sym (of_lane n name) ∙ own) in
              let old : place_of e.book id ≡ Some n = elim (old_or_new id) [
                | inl new ↦ absurd (let same : Some (suc (length log)) ≡ Some n = sym new ∙ at in let k : suc (length log) ≡ n = cc in let l = w.1 in omega arith)
                | inr same ↦ sym same ∙ at
              ] in
              let known = (stands.places id n).0 old in
              ap (λ b. b && (has_id (entry_at log n) id && may (entry_at log n))) (lt-ltb 0 n w.0) ∙ ap (λ b. b && may (entry_at log n)) known.2 ∙ of_entry (entry_at log n) name w.2;
          other = λ id n at none. not_true (hits id n) (λ h.
              let w = hit_parts id n h in
              let p = and_parts (nat_lt 0 n) (has_id (entry_at log n) id && may (entry_at log n)) h in
              let q = and_parts (has_id (entry_at log n) id) (may (entry_at log n)) p.1 in
              let r = reference_of (entry_at log n) q.1 in
              true≢false (sym (numbers_in (λ i. is_entry_of (entry_at log i) r.0) (length log) n w.0 w.1 r.1) ∙ sym (of_lane n r.0) ∙ none r.0));
          one = λ id n m at h. let same : Some m ≡ Some n = sym (known_id id m h) ∙ at in cc;
          none = λ id m at. not_true (hits id m) (λ h. let clash : None ≡ Some m = sym at ∙ known_id id m h in cc);
        } where
          by_entry : (x : Option Taken) (name : List ℕ) → is_entry_of x name ≡ true → ((n target : List ℕ) → may_skip rules (policy_after rules log) t.entry (Reference n target) ≡ rules.may_skip policy key n) → may x ≡ rules.may_skip policy key name
          by_entry None name own is = absurd (true≢false (sym own))
          by_entry (Some x) name own is = by_body x.entry.body own where
            by_body : (b : EntryBody) → is_of b name ≡ true → may_skip rules (policy_after rules log) t.entry b ≡ rules.may_skip policy key name
            by_body (Reference n target) own = is n target ∙ ap (rules.may_skip policy key) ((bytes_decides n name).0 own)
            by_body (Annotation ids skip message) own = absurd (true≢false (sym own))

          reference_of : (x : Option Taken) → may x ≡ true → (name : List ℕ) × (is_entry_of x name ≡ true)
          reference_of None h = absurd (true≢false (sym h))
          reference_of (Some x) h = by_body (policy_after rules log) x.entry.body h where
            by_body : (p : Option P) (b : EntryBody) → may_skip rules p t.entry b ≡ true → (name : List ℕ) × (is_of b name ≡ true)
            by_body None b h = absurd (true≢false (sym h))
            by_body (Some p) (Reference n target) h = (n, (bytes_decides n n).1 refl)
            by_body (Some p) (Annotation ids skip message) h = absurd (true≢false (sym h))

    never : (p : Option P) (k : (policy : P) → p ≡ Some policy → rules.skipper policy t.entry ≡ None) → policy_after rules log ≡ p → (id : List ℕ) (n : ℕ) → hits id n ≡ false
    never p k in_force id n = not_true (hits id n) (λ h.
        let a = and_parts (nat_lt 0 n) (has_id (entry_at log n) id && may (entry_at log n)) h in
        let b = and_parts (has_id (entry_at log n) id) (may (entry_at log n)) a.1 in
        true≢false (sym b.1 ∙ by_entry (entry_at log n))) where
          by_body : (q : Option P) (b : EntryBody) → ((policy : P) → q ≡ Some policy → rules.skipper policy t.entry ≡ None) → may_skip rules q t.entry b ≡ false
          by_body None b h = refl
          by_body (Some policy) (Reference name target) h = ap (λ key. key_may_skip rules policy key name) (h policy refl)
          by_body (Some policy) (Annotation ids skip message) h = refl

          by_entry : (x : Option Taken) → may x ≡ false
          by_entry None = refl
          by_entry (Some x) = ap (λ q. may_skip rules q t.entry x.entry.body) in_force ∙ by_body p x.entry.body k

    pub hit_by : IsHitBy rules e.policy t.entry mid hits
    hit_by = subst (λ (p : Option P). IsHitBy rules p t.entry mid hits) (sym stands.policy) (by_policy (policy_after rules log) refl) where
      by_key : (policy : P) (key : Option (List ℕ)) → policy_after rules log ≡ Some policy → rules.skipper policy t.entry ≡ key → IsHitOf rules policy key mid hits
      by_key policy None in_force signed = never (Some policy) (λ q is. let same : policy ≡ q = cc in ap (λ x. rules.skipper x t.entry) (sym same) ∙ signed) in_force
      by_key policy (Some key) in_force signed = hit_key policy key in_force signed

      by_policy : (p : Option P) → policy_after rules log ≡ p → IsHitBy rules p t.entry mid hits
      by_policy None in_force = never None (λ q is. absurd (let clash : None ≡ Some q = is in cc)) in_force
      by_policy (Some policy) in_force = by_key policy (rules.skipper policy t.entry) in_force refl

  module _ (ids : List (List ℕ)) (skip : Bool) (message : List ℕ) (body : t.entry.body ≡ Annotation ids skip message) (e now : Engine P F) where
    pub stands_note : Stands rules log e → place_of e.book t.entry.id ≡ None → KeepsNote rules t.entry ids skip e now → Stands rules (log ++ t ∷ []) now
    stands_note stands fresh keeps =
        let has = keeps.skipped hits (hit_by e stands fresh keeps.mid keeps.noted) in
        let test : ℕ → Bool = λ n. skip && some_hit hits ids n in
        let place : (id : List ℕ) → place_of now.book id ≡ place_of keeps.mid id = λ id. ap (lookup (is_at (by_bytes id))) has.place in
        let n = next_is rules log t e stands in
        record {
          policy = keeps.policy ∙ stands.policy ∙ sym (policy_push rules log t ∙ ap (λ b. cond (is_of b policy_name) (opened rules (policy_after rules log) (rules.epoch t.repository (policy_after rules log) t.entry)) (policy_after rules log)) body);
          attested = keeps.attested ∙ stands.attested ∙ sym (attested_push rules log t ∙ ap (λ b. cond (is_of b attestations_name) (Some (target_of b)) (attested_after log)) body);
          signers = keeps.signers ∙ sym (signers_push rules log t ∙ ap (body_signers rules log t) body);
          lanes = λ name.
              let l = keeps.noted.lanes name ∙ stands.lanes name in
              let p = pushed_note ids skip message body name in
              let u = unskipped_note ids skip message body name in
              let q = pending_note ids skip message body name in
              has.lanes name ∙ ap (without test) l ∙ sym (λ i. record { pushed = p i; unskipped = u i; pending = q i });
          targets = has.target ∙ keeps.noted.target ∙ ap (λ xs. xs ++ zeros ∷ []) stands.targets ∙ sym (map_push (λ u. target_of u.entry.body) log t ∙ ap (λ b. map (λ u. target_of u.entry.body) log ++ target_of b ∷ []) body);
          places = places_push rules log t (place_of e.book) (place_of now.book) fresh (λ id. place id ∙ keeps.noted.place id ∙ ap (λ k. cond (bytes_eq t.entry.id id) (Some k) (place_of e.book id)) n) stands.places;
          faults = λ i fault a b is.
              elim (cases_eq i (suc (length log))) [
                | inl at ↦ absurd (let clash : None ≡ Some fault = sym (ap (fault_at rules (log ++ t ∷ [])) at ∙ fault_new rules log t ∙ ap (body_fault rules log t) body) ∙ is in cc)
                | inr apart ↦
                    let l = long log t in
                    let within : i ≤ length log = omega arith in
                    ap (lookup (is_at (nat_cmp i))) has.fault ∙ keeps.noted.fault i ∙ stands.faults i fault a within (sym (fault_old rules log (t ∷ []) i a within) ∙ is)
              ];
        }

    -- an annotation that was kept is taken
    pub taken_note : Stands rules log e → place_of e.book t.entry.id ≡ None → KeepsNote rules t.entry ids skip e now → IsTaken rules log t now Noted
    taken_note stands fresh keeps = record { stands = stands_note stands fresh keeps; answer = ap (body_verdict (fault_of rules log (Some t))) (sym body) }

-- ---- whether an entry is skipped
module _ {P F : Type 0} (rules : Rules P F) (log : List Taken) (e : Engine P F) (stands : Stands rules log e) where
  pub skipped_is : (n : ℕ) → ((name : List ℕ) × (is_skipped_in n (lane_of e.book.marks name) ≡ true)) ↔ ((0 < n) × (name : List ℕ) × (is_entry_of (entry_at log n) name ≡ true) × (skipped rules log n ≡ true))
  skipped_is n = (
    λ w.
        let name = w.0 in
        let p = and_parts (is_in n (lane rules log name).pushed) (not (is_in n (lane rules log name).unskipped)) (ap (is_skipped_in n) (sym (stands.lanes name)) ∙ w.1) in
        let q = in_numbers (λ i. is_entry_of (entry_at log i) name) (length log) n p.0 in (
          q.0,
          name,
          q.2,
          elim (cases_Bool (skipped rules log n)) [
            | inl is ↦ is
            | inr isnt ↦ absurd (true≢false (sym p.1 ∙ ap not (numbers_in (λ i. is_entry_of (entry_at log i) name && not (skipped rules log i)) (length log) n q.0 q.1 (ap (λ b. b && not (skipped rules log n)) q.2 ∙ ap not isnt))))
          ],
        ),
    λ w.
        let name = w.1 in
        let within : n ≤ length log = elim (cases_lt (length log) n) [
          | inl past ↦ absurd (true≢false (sym w.2 ∙ ap (λ x. is_entry_of x name) (no_entry log n past)))
          | inr within ↦ within
        ] in
        let pushed : is_in n (lane rules log name).pushed ≡ true = numbers_in (λ i. is_entry_of (entry_at log i) name) (length log) n w.0 within w.2 in
        let out : is_in n (lane rules log name).unskipped ≡ false = elim (cases_Bool (is_in n (lane rules log name).unskipped)) [
          | inl is ↦
              let q = in_numbers (λ i. is_entry_of (entry_at log i) name && not (skipped rules log i)) (length log) n is in
              let r = and_parts (is_entry_of (entry_at log n) name) (not (skipped rules log n)) q.2 in
              absurd (true≢false (sym r.1 ∙ ap not w.3))
          | inr isnt ↦ isnt
        ] in
        (name, ap (is_skipped_in n) (stands.lanes name) ∙ ap (λ b. b && not (is_in n (lane rules log name).unskipped)) pushed ∙ ap not out),
  )
