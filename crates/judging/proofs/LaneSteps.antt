-- What one entry more makes of each reference's lane.
use Rattle.std.proofs.Common.{◌≡◌, ◌⊎◌, ◌&&◌, ◌||◌, ◌≤◌, ◌++◌, ℕ, suc, Bool, true, false, cond, not, nat_lt, nat_le, is_none, is_some, ltb-false, List, [], ◌∷◌, Option, Some, None, length, refl, ap, sym, subst, inl, inr, ◌∙◌, arith}
use Rattle.std.specs.List.{filter, list_any}
use Rattle.std.specs.Str.{bytes_eq}
use Rattle.std.specs.Cmp.Lexicographic.{bytes_decides}
use Rattle.std.proofs.lemmas.Bool.{and_parts, cases_Bool, cases_lt, le-leb, lt-leb, le-ltb, lt-ltb, true≢false}
use Rattle.std.proofs.lemmas.List.{append-nil}
use Rattle.rsl_chain.specs.Entries.{Taken, is_of, shares, skips_id}
use Rattle.rsl_chain.specs.declared.entries.EntryBody.{EntryBody}
use Rattle.rsl_chain.specs.declared.entries.EntryBody.TheVariants.{Reference, Annotation}
use Rattle.recovery.specs.Lanes.{Lane, is_outside}
use Rattle.judging.specs.Rules.{Rules}
use Rattle.judging.specs.Logs.{above, above_of, body_above, may_skip, policy_after, completes, entry_at, fault_of, is_entry_of, keeps_tree, lane, numbers, pending, share, skipped, skips}
use Rattle.judging.specs.Steps.{recorded}
use Rattle.judging.proofs.Appends.{entry_new, entry_old, long, pending_new, pending_old, rescues_now, skipped_new, skipped_old}
use Rattle.judging.proofs.Counting.{filter_same, filter_suc, filter_twice}

not_true : (b : Bool) → (b && not false) ≡ b
not_true true = refl
not_true false = refl

and_not_or : (o s n : Bool) → (o && not (s || n)) ≡ ((o && not s) && not n)
and_not_or true true n = refl
and_not_or true false n = refl
and_not_or false s n = refl

and_assoc : (a b c : Bool) → (a && (b && c)) ≡ ((a && b) && c)
and_assoc true b c = refl
and_assoc false b c = refl

-- a number strictly between is a number that is not outside
outside_is : (a n i : ℕ) → i ≤ n → not (nat_lt a i && nat_lt i (suc n)) ≡ is_outside a (suc n) i
outside_is a n i h =
    elim (cases_lt a i) [
      | inl less ↦
          ap (λ b. not (b && nat_lt i (suc n))) (lt-ltb a i less) ∙ ap not (lt-ltb i (suc n) (omega arith))
          ∙ sym (ap (λ b. b || nat_le (suc n) i) (lt-leb i a less) ∙ lt-leb (suc n) i (omega arith))
      | inr more ↦
          ap (λ b. not (b && nat_lt i (suc n))) (le-ltb a i more) ∙ sym (ap (λ b. b || nat_le (suc n) i) (le-leb i a more))
    ]

module _ {P F : Type 0} (rules : Rules P F) (log : List Taken) (t : Taken) where
  -- for numbers from the log, and for the new one
  pub pushed_step : (name : List ℕ) → (lane rules (log ++ t ∷ []) name).pushed ≡ (lane rules log name).pushed ++ cond (is_of t.entry.body name) (suc (length log) ∷ []) []
  pushed_step name =
      let now = log ++ t ∷ [] in
      let p : ℕ → Bool = λ i. is_entry_of (entry_at now i) name in
      let q : ℕ → Bool = λ i. is_entry_of (entry_at log i) name in
      ap (λ n. filter p (numbers n)) (long log t) ∙ filter_suc p (length log)
      ∙ ap (λ xs. xs ++ cond (p (suc (length log))) (suc (length log) ∷ []) []) (filter_same p q (length log) (λ i a b. ap (λ x. is_entry_of x name) (entry_old log (t ∷ []) i a b)))
      ∙ ap (λ x. (lane rules log name).pushed ++ cond (is_entry_of x name) (suc (length log) ∷ []) []) (entry_new log t)

  pub unskipped_step : (name : List ℕ) → (lane rules (log ++ t ∷ []) name).unskipped ≡ filter (λ i. not (skips rules log (Some t) (entry_at log i))) (lane rules log name).unskipped ++ cond (is_of t.entry.body name) (suc (length log) ∷ []) []
  unskipped_step name =
      let now = log ++ t ∷ [] in
      let n = length log in
      let p : ℕ → Bool = λ i. is_entry_of (entry_at now i) name && not (skipped rules now i) in
      let q : ℕ → Bool = λ i. is_entry_of (entry_at log i) name && not (skipped rules log i) in
      let s : ℕ → Bool = λ i. not (skips rules log (Some t) (entry_at log i)) in
      ap (λ k. filter p (numbers k)) (long log t) ∙ filter_suc p n
      ∙ ap (λ xs. xs ++ cond (p (suc n)) (suc n ∷ []) []) (
      filter_same p (λ i. q i && s i) n (λ i a b.
      ap (λ x. is_entry_of x name && not (skipped rules now i)) (entry_old log (t ∷ []) i a b)
      ∙ ap (λ k. is_entry_of (entry_at log i) name && not k) (skipped_old rules log t i a b)
      ∙ and_not_or (is_entry_of (entry_at log i) name) (skipped rules log i) (skips rules log (Some t) (entry_at log i)))
      ∙ sym (filter_twice q s (numbers n)))
      ∙ ap (λ b. filter s (lane rules log name).unskipped ++ cond b (suc n ∷ []) []) (
      ap (λ k. is_entry_of (entry_at now (suc n)) name && not k) (skipped_new rules log t)
      ∙ not_true (is_entry_of (entry_at now (suc n)) name) ∙ ap (λ x. is_entry_of x name) (entry_new log t))

  pub pending_step : (name : List ℕ) → (lane rules (log ++ t ∷ []) name).pending ≡ filter (λ i. not (rescues_now rules log t i)) (lane rules log name).pending ++ cond (is_of t.entry.body name && not (is_none (fault_of rules log (Some t)))) (suc (length log) ∷ []) []
  pending_step name =
      let now = log ++ t ∷ [] in
      let n = length log in
      let p : ℕ → Bool = λ i. is_entry_of (entry_at now i) name && pending rules now i in
      let q : ℕ → Bool = λ i. is_entry_of (entry_at log i) name && pending rules log i in
      let s : ℕ → Bool = λ i. not (rescues_now rules log t i) in
      ap (λ k. filter p (numbers k)) (long log t) ∙ filter_suc p n
      ∙ ap (λ xs. xs ++ cond (p (suc n)) (suc n ∷ []) []) (
      filter_same p (λ i. q i && s i) n (λ i a b.
      ap (λ x. is_entry_of x name && pending rules now i) (entry_old log (t ∷ []) i a b)
      ∙ ap (λ k. is_entry_of (entry_at log i) name && k) (pending_old rules log t i a b)
      ∙ and_assoc (is_entry_of (entry_at log i) name) (pending rules log i) (s i))
      ∙ sym (filter_twice q s (numbers n)))
      ∙ ap (λ b. filter s (lane rules log name).pending ++ cond b (suc n ∷ []) []) (
      ap (λ x. is_entry_of x name && pending rules now (suc n)) (entry_new log t)
      ∙ ap (λ k. is_of t.entry.body name && k) (pending_new rules log t))

is_some_not : {X : Type 0} (o : Option X) → not (is_none o) ≡ is_some o
is_some_not None = refl
is_some_not (Some x) = refl

keeps_all : {X : Type 0} (p : X → Bool) → ((x : X) → p x ≡ true) → (xs : List X) → filter p xs ≡ xs
keeps_all p h [] = refl
keeps_all p h (x ∷ xs) = ap (λ b. cond b (x ∷ filter p xs) (filter p xs)) (h x) ∙ ap (λ ys. x ∷ ys) (keeps_all p h xs)

or_parts : (a b : Bool) → (a || b) ≡ false → (a ≡ false) × (b ≡ false)
or_parts true b h = absurd (true≢false h)
or_parts false b h = (refl, h)

no_passes : (a : ℕ) (ns : List ℕ) (b : ℕ) → list_any (nat_lt a) ns ≡ false → filter (is_outside a b) ns ≡ ns
no_passes a [] b h = refl
no_passes a (n ∷ ns) b h =
    let p = or_parts (nat_lt a n) (list_any (nat_lt a) ns) h in
    let low : nat_le n a ≡ true = le-leb n a (ltb-false a n p.0) in
    ap (λ c. cond (c || nat_le b n) (n ∷ filter (is_outside a b) ns) (filter (is_outside a b) ns)) low ∙ ap (λ ys. n ∷ ys) (no_passes a ns b p.1)

module _ {P F : Type 0} (rules : Rules P F) (log : List Taken) (t : Taken) (name target : List ℕ) (body : t.entry.body ≡ Reference name target) where
  abbrev done : Bool
  done = completes rules log (Some t)

  of_body : (other : List ℕ) → is_of t.entry.body other ≡ bytes_eq name other
  of_body other = ap (λ b. is_of b other) body

  pub skips_nothing : (e : Option Taken) → skips rules log (Some t) e ≡ false
  skips_nothing None = refl
  skips_nothing (Some x) = ap (λ b. skips_id b x.entry.id && may_skip rules (policy_after rules log) t.entry x.entry.body) body

  pub shared : (e : Option Taken) → share (Some t) e ≡ is_entry_of e name
  shared None = refl
  shared (Some x) = ap (λ b. shares b x.entry.body) body

  one_name : (e : Option Taken) (other : List ℕ) → is_entry_of e name ≡ true → is_entry_of e other ≡ true → name ≡ other
  one_name None other a b = absurd (true≢false (sym a))
  one_name (Some x) other a b = by_body x.entry.body a b where
    by_body : (c : EntryBody) → is_of c name ≡ true → is_of c other ≡ true → name ≡ other
    by_body (Reference n to) a b = sym ((bytes_decides n name).0 a) ∙ (bytes_decides n other).0 b
    by_body (Annotation ids skip message) a b = absurd (true≢false (sym a))

  unskipped_reference : (other : List ℕ) → (lane rules (log ++ t ∷ []) other).unskipped ≡ (lane rules log other).unskipped ++ cond (bytes_eq name other) (suc (length log) ∷ []) []
  unskipped_reference other =
      unskipped_step rules log t other
      ∙ ap (λ xs. xs ++ cond (is_of t.entry.body other) (suc (length log) ∷ []) []) (keeps_all (λ i. not (skips rules log (Some t) (entry_at log i))) (λ i. ap not (skips_nothing (entry_at log i))) (lane rules log other).unskipped)
      ∙ ap (λ b. (lane rules log other).unskipped ++ cond b (suc (length log) ∷ []) []) (of_body other)

  pushed_reference : (other : List ℕ) → (lane rules (log ++ t ∷ []) other).pushed ≡ (lane rules log other).pushed ++ cond (bytes_eq name other) (suc (length log) ∷ []) []
  pushed_reference other = pushed_step rules log t other ∙ ap (λ b. (lane rules log other).pushed ++ cond b (suc (length log) ∷ []) []) (of_body other)

  -- another reference's pending entries
  pending_other : (other : List ℕ) → bytes_eq name other ≡ false → (lane rules (log ++ t ∷ []) other).pending ≡ (lane rules log other).pending
  pending_other other apart =
      let q : ℕ → Bool = λ i. is_entry_of (entry_at log i) other && pending rules log i in
      let s : ℕ → Bool = λ i. not (rescues_now rules log t i) in
      pending_step rules log t other
      ∙ ap (λ xs. xs ++ cond (is_of t.entry.body other && not (is_none (fault_of rules log (Some t)))) (suc (length log) ∷ []) []) (
      filter_twice q s (numbers (length log))
      ∙ filter_same (λ i. q i && s i) q (length log) (λ i a b. elim (cases_Bool (is_entry_of (entry_at log i) other)) [
        | inl own ↦
            let not_mine : is_entry_of (entry_at log i) name ≡ false = elim (cases_Bool (is_entry_of (entry_at log i) name)) [
              | inl mine ↦ absurd (true≢false (sym ((bytes_decides name other).1 (one_name (entry_at log i) other mine own)) ∙ apart))
              | inr isnt ↦ isnt
            ] in
            ap (λ c. q i && not (c && (done && (nat_lt (above_of rules log (Some t)) i && nat_lt i (suc (length log)))))) (shared (entry_at log i) ∙ not_mine) ∙ not_true (q i)
        | inr isnt ↦ ap (λ c. (c && pending rules log i) && s i) isnt ∙ sym (ap (λ c. c && pending rules log i) isnt)
      ]))
      ∙ ap (λ b. (lane rules log other).pending ++ cond (b && not (is_none (fault_of rules log (Some t)))) (suc (length log) ∷ []) []) (of_body other ∙ apart)
      ∙ append-nil (lane rules log other).pending

  and_keeps : (o p d : Bool) → ((o && p) && not (o && d)) ≡ ((o && p) && not d)
  and_keeps true p d = refl
  and_keeps false p d = refl

  -- the reference's own pending entries
  pending_own : (lane rules (log ++ t ∷ []) name).pending ≡ cond done (filter (is_outside (above rules log name) (suc (length log))) (lane rules log name).pending) (lane rules log name).pending ++ cond (is_some (fault_of rules log (Some t))) (suc (length log) ∷ []) []
  pending_own =
      let n = length log in
      let q : ℕ → Bool = λ i. is_entry_of (entry_at log i) name && pending rules log i in
      let s : ℕ → Bool = λ i. not (rescues_now rules log t i) in
      let up : above_of rules log (Some t) ≡ above rules log name = ap (body_above rules log) body in
      let u : ℕ → Bool = λ i. not (done && (nat_lt (above rules log name) i && nat_lt i (suc n))) in
      let own : bytes_eq name name ≡ true = (bytes_decides name name).1 refl in
      pending_step rules log t name
      ∙ ap (λ xs. xs ++ cond (is_of t.entry.body name && not (is_none (fault_of rules log (Some t)))) (suc n ∷ []) []) (
      filter_twice q s (numbers n)
      ∙ filter_same (λ i. q i && s i) (λ i. q i && u i) n (λ i a b.
      ap (λ c. q i && not (c && (done && (nat_lt (above_of rules log (Some t)) i && nat_lt i (suc n))))) (shared (entry_at log i))
      ∙ ap (λ k. q i && not (is_entry_of (entry_at log i) name && (done && (nat_lt k i && nat_lt i (suc n))))) up
      ∙ and_keeps (is_entry_of (entry_at log i) name) (pending rules log i) (done && (nat_lt (above rules log name) i && nat_lt i (suc n))))
      ∙ by_done done)
      ∙ ap (λ b. cond done (filter (is_outside (above rules log name) (suc n)) (lane rules log name).pending) (lane rules log name).pending ++ cond b (suc n ∷ []) []) (
      ap (λ b. b && not (is_none (fault_of rules log (Some t)))) (of_body name ∙ own) ∙ is_some_not (fault_of rules log (Some t))) where
        and_true : (b : Bool) → (b && true) ≡ b
        and_true true = refl
        and_true false = refl

        by_done : (d : Bool) → filter (λ i. (is_entry_of (entry_at log i) name && pending rules log i) && not (d && (nat_lt (above rules log name) i && nat_lt i (suc (length log))))) (numbers (length log)) ≡ cond d (filter (is_outside (above rules log name) (suc (length log))) (lane rules log name).pending) (lane rules log name).pending
        by_done true =
            filter_same (λ i. (is_entry_of (entry_at log i) name && pending rules log i) && not (nat_lt (above rules log name) i && nat_lt i (suc (length log)))) (λ i. (is_entry_of (entry_at log i) name && pending rules log i) && is_outside (above rules log name) (suc (length log)) i) (length log)
            (λ i a b. ap (λ c. (is_entry_of (entry_at log i) name && pending rules log i) && c) (outside_is (above rules log name) (length log) i b))
            ∙ sym (filter_twice (λ i. is_entry_of (entry_at log i) name && pending rules log i) (is_outside (above rules log name) (suc (length log))) (numbers (length log)))
        by_done false =
            filter_same (λ i. (is_entry_of (entry_at log i) name && pending rules log i) && true) (λ i. is_entry_of (entry_at log i) name && pending rules log i) (length log) (λ i a b. and_true (is_entry_of (entry_at log i) name && pending rules log i))

  done_unrefused : done ≡ true → is_some (fault_of rules log (Some t)) ≡ false
  done_unrefused h =
      let p = and_parts (is_none (fault_of rules log (Some t))) (keeps_tree rules log t t.entry.body) h in
      sym (is_some_not (fault_of rules log (Some t))) ∙ ap not p.0

  cond_push : (b : Bool) (ns : List ℕ) (n : ℕ) → ns ++ cond b (n ∷ []) [] ≡ cond b (ns ++ n ∷ []) ns
  cond_push true ns n = refl
  cond_push false ns n = append-nil ns

  -- what the code decides of a recovery: exactly, or that there is none to complete where nothing is pending
  abbrev pub Decides : Bool → Type 0
  Decides finishes = (finishes ≡ completes rules log (Some t)) ⊎ ((finishes ≡ false) × (list_any (nat_lt (above rules log name)) (lane rules log name).pending ≡ false))

  own_pending : (finishes : Bool) → Decides finishes → (lane rules (log ++ t ∷ []) name).pending ≡ (recorded (suc (length log)) (is_some (fault_of rules log (Some t))) finishes (above rules log name) (lane rules log name)).pending
  own_pending finishes (inl is) = pending_own ∙ by_done done refl ∙ ap (λ d. (recorded (suc (length log)) (is_some (fault_of rules log (Some t))) d (above rules log name) (lane rules log name)).pending) (sym is) where
    by_done : (d : Bool) → done ≡ d → cond d (filter (is_outside (above rules log name) (suc (length log))) (lane rules log name).pending) (lane rules log name).pending ++ cond (is_some (fault_of rules log (Some t))) (suc (length log) ∷ []) [] ≡ (recorded (suc (length log)) (is_some (fault_of rules log (Some t))) d (above rules log name) (lane rules log name)).pending
    by_done true h =
        let un = done_unrefused h in
        ap (λ b. filter (is_outside (above rules log name) (suc (length log))) (lane rules log name).pending ++ cond b (suc (length log) ∷ []) []) un
        ∙ append-nil (filter (is_outside (above rules log name) (suc (length log))) (lane rules log name).pending)
        ∙ ap (λ b. filter (is_outside (above rules log name) (suc (length log))) (cond b ((lane rules log name).pending ++ suc (length log) ∷ []) (lane rules log name).pending)) (sym un)
    by_done false h = cond_push (is_some (fault_of rules log (Some t))) (lane rules log name).pending (suc (length log))
  own_pending finishes (inr (isnt, none)) = pending_own ∙ ap (λ ns. ns ++ cond (is_some (fault_of rules log (Some t))) (suc (length log) ∷ []) []) (by_done done) ∙ cond_push (is_some (fault_of rules log (Some t))) (lane rules log name).pending (suc (length log)) ∙ ap (λ d. (recorded (suc (length log)) (is_some (fault_of rules log (Some t))) d (above rules log name) (lane rules log name)).pending) (sym isnt) where
    by_done : (d : Bool) → cond d (filter (is_outside (above rules log name) (suc (length log))) (lane rules log name).pending) (lane rules log name).pending ≡ (lane rules log name).pending
    by_done true = no_passes (above rules log name) (lane rules log name).pending (suc (length log)) none
    by_done false = refl

  same_rest : (number above : ℕ) (refused finishes : Bool) (l : Lane) → ((recorded number refused finishes above l).pushed ≡ l.pushed ++ number ∷ []) × ((recorded number refused finishes above l).unskipped ≡ l.unskipped ++ number ∷ [])
  same_rest number above refused true l = (refl, refl)
  same_rest number above refused false l = (refl, refl)

  own_lane : (finishes : Bool) → Decides finishes → lane rules (log ++ t ∷ []) name ≡ recorded (suc (length log)) (is_some (fault_of rules log (Some t))) finishes (above rules log name) (lane rules log name)
  own_lane finishes d =
      let own : bytes_eq name name ≡ true = (bytes_decides name name).1 refl in
      let r = same_rest (suc (length log)) (above rules log name) (is_some (fault_of rules log (Some t))) finishes (lane rules log name) in
      let p = pushed_reference name ∙ ap (λ b. (lane rules log name).pushed ++ cond b (suc (length log) ∷ []) []) own ∙ sym r.0 in
      let u = unskipped_reference name ∙ ap (λ b. (lane rules log name).unskipped ++ cond b (suc (length log) ∷ []) []) own ∙ sym r.1 in
      let e = own_pending finishes d in
      λ i. record { pushed = p i; unskipped = u i; pending = e i }

  other_lane : (other : List ℕ) → bytes_eq name other ≡ false → lane rules (log ++ t ∷ []) other ≡ lane rules log other
  other_lane other apart =
      let p = pushed_reference other ∙ ap (λ b. (lane rules log other).pushed ++ cond b (suc (length log) ∷ []) []) apart ∙ append-nil (lane rules log other).pushed in
      let u = unskipped_reference other ∙ ap (λ b. (lane rules log other).unskipped ++ cond b (suc (length log) ∷ []) []) apart ∙ append-nil (lane rules log other).unskipped in
      let e = pending_other other apart in
      λ i. record { pushed = p i; unskipped = u i; pending = e i }

  -- what an entry of a reference makes of each lane
  pub reference_lanes : (finishes : Bool) → Decides finishes → (other : List ℕ) → lane rules (log ++ t ∷ []) other ≡ cond (bytes_eq name other) (recorded (suc (length log)) (is_some (fault_of rules log (Some t))) finishes (above rules log name) (lane rules log other)) (lane rules log other)
  reference_lanes finishes d other =
      elim (cases_Bool (bytes_eq name other)) [
        | inl is ↦
            let same : name ≡ other = (bytes_decides name other).0 is in
            let at : lane rules (log ++ t ∷ []) other ≡ recorded (suc (length log)) (is_some (fault_of rules log (Some t))) finishes (above rules log name) (lane rules log other) = subst (λ (x : List ℕ). lane rules (log ++ t ∷ []) x ≡ recorded (suc (length log)) (is_some (fault_of rules log (Some t))) finishes (above rules log name) (lane rules log x)) same (own_lane finishes d) in
            at ∙ ap (λ b. cond b (recorded (suc (length log)) (is_some (fault_of rules log (Some t))) finishes (above rules log name) (lane rules log other)) (lane rules log other)) (sym is)
        | inr isnt ↦ other_lane other isnt ∙ ap (λ b. cond b (recorded (suc (length log)) (is_some (fault_of rules log (Some t))) finishes (above rules log name) (lane rules log other)) (lane rules log other)) (sym isnt)
      ]
