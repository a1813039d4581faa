-- What a keeper's calls leave of its content and of what a stop may leave.
use Rattle.std.proofs.Common.{◌≡◌, inl, inr, ◌≤◌, ◌&&◌, ◌||◌, Bool, true, false, cond, Option, Some, None, Ok, Err, Result, IsSome, IsTrue, refl, sym, ap, ◌∙◌, arith}
use Rattle.octets.specs.Content.{Told}
use Rattle.git_object.specs.Repository.{Repository}
use Rattle.keeper_api.specs.Changes.{changed}
use Rattle.keeper_api.specs.Keepers.{Commits, Leaves, LeavesBy}
use Rattle.keeper_api.specs.declared.changes.Change.{Change}
use Rattle.keeper_api.specs.declared.keeper_faults.KeeperFault.{KeeperFault}
use Rattle.keeper_api.specs.declared.keeper_faults.KeeperFault.TheVariants.{Failed, Memory}
use Rattle.sqlite.specs.Effect.{Database}
use Rattle.sqlite.specs.State.{State, HasCleanDisk, Survives}
use Rattle.sqlite.specs.Tree.{Trees}
use Rattle.sqlite_trees.specs.View.{doubt}
use Rattle.sqlite_trees.proofs.Doubt.{no_doubt, clean_of as clean_if}
use Rattle.keeper_sqlite.specs.Rows.{repository_in}
use Rattle.sqlite.specs.Held.{Held, state}
use Rattle.sqlite.specs.Store.{Ghosts}
use Rattle.keeper_sqlite.specs.Keepers.{Kept, content_of, left_of}
use Rattle.keeper_sqlite.specs.Answering.{IsAnswered}
use Rattle.keeper_sqlite.specs.States.{IsStore}
use Rattle.keeper_sqlite.specs.Telling.{Looks, TellsAfter}

left_of_and : (a b : Bool) → (a && b) ≡ true → a ≡ true
left_of_and true b h = refl
left_of_and false b h = cc

right_of_and : (a b : Bool) → (a && b) ≡ true → b ≡ true
right_of_and true b h = h
right_of_and false b h = cc

both_true : (a b : Bool) → a ≡ true → b ≡ true → (a && b) ≡ true
both_true true true p q = refl
both_true true false p q = cc
both_true false b p q = cc

or_false : (a : Bool) → (a || false) ≡ a
or_false true = refl
or_false false = refl

told_is : {X : Type 0} (b : Bool) (r x : X) → cond b (Some r) None ≡ Some x → (b ≡ true) × (r ≡ x)
told_is true r x e = let same : r ≡ x = cc in (refl, same)
told_is false r x e = cc

some_told : {X : Type 0} (b : Bool) (r : X) → b ≡ true → IsSome (cond b (Some r) None)
some_told true r is = refl
some_told false r is = is

told_if : {X : Type 0} (b : Bool) (r : X) → IsSome (cond b (Some r) None) → b ≡ true
told_if true r some = refl
told_if false r some = some

was_clean : (old new : Bool) → doubt old ≤ doubt new → new ≡ true → old ≡ true
was_clean old new falls is = clean_if old (let none = no_doubt new is in omega (arith, falls, none))

-- a failure tells nothing on
pub failed_after : {T : Type 0} (before after : Option Repository) (told told_now : Bool) (s t : State) → doubt s.is_clean ≤ doubt t.is_clean → TellsAfter {T = T} (Err Failed) before after told told_now s.is_clean t.is_clean
failed_after before after told told_now s t falls = record {
  was_clean = was_clean s.is_clean t.is_clean falls;
  content = λ clean is. absurd is;
  left = λ clean is. absurd is;
}

abbrev pub content_at : Bool → State → Option Repository
content_at known s = cond (known && s.is_open) (Some (repository_in s.committed.trees)) None

abbrev pub tells_at : Bool → Bool → State → Bool
tells_at known in_doubt s = known && (s.is_clean && (s.is_open || in_doubt))

abbrev pub left_at : State → Repository → Type 0
left_at s r = (db : Trees) × s.may_leave db × (r ≡ repository_in db)

-- what the laws of a store say of the state of a connection
pub record IsLawful (s : State) : Type 0 where
  pub clean : IsTrue s.is_open → s.is_clean ≡ true
  pub settled : (db : Trees) → IsTrue s.is_open → s.may_leave db → db ≡ s.committed.trees
  pub stays : IsTrue s.is_open → s.may_leave s.committed.trees

pub content_told : (known : Bool) (s : State) → IsTrue known → IsTrue s.is_open → content_at known s ≡ Some (repository_in s.committed.trees)
content_told known s is now = ap (λ b. cond b (Some (repository_in s.committed.trees)) None) (both_true known s.is_open is now)

-- what a call that was answered leaves open it tells on
module _ (known : Bool) (s t : State) (falls : doubt s.is_clean ≤ doubt t.is_clean) {T : Type 0} (result : Result T KeeperFault) where
  pub told_after : (HasCleanDisk t → IsAnswered result → IsTrue t.is_open) → TellsAfter result (content_at known s) (content_at known t) (tells_at known false s) (tells_at known false t) s.is_clean t.is_clean
  told_after answered = record {
    was_clean = was_clean s.is_clean t.is_clean falls;
    content = λ clean is some. some_told (known && t.is_open) _ (both_true known t.is_open (left_of_and known s.is_open (told_if (known && s.is_open) _ some)) (answered (no_doubt t.is_clean clean) is));
    left = λ clean is told.
        let o = answered (no_doubt t.is_clean clean) is in
        both_true known _ (left_of_and known _ told) (both_true t.is_clean _ clean (ap (λ b. b || false) o));
  }

module _ (known : Bool) (s t : State) (lawful_s : IsLawful s) (lawful_t : IsLawful t) (opened : IsTrue t.is_open → IsTrue s.is_open) (same : IsTrue known → IsTrue t.is_open → t.committed ≡ s.committed) where
  content_stays : (now : Repository) → content_at known t ≡ Some now → content_at known s ≡ Some now
  content_stays now e =
      let told = told_is (known && t.is_open) _ now e in
      let k = left_of_and known t.is_open told.0 in
      let o = right_of_and known t.is_open told.0 in
      content_told known s k (opened o) ∙ ap (λ (d : Database). Some (repository_in d.trees)) (sym (same k o)) ∙ ap Some told.1

  left_stays : IsTrue known → IsTrue t.is_open → (r : Repository) → left_at t r → left_at s r
  left_stays k o r h = (s.committed.trees, lawful_s.stays (opened o), h.2 ∙ ap repository_in (lawful_t.settled h.0 o h.1 ∙ ap (λ (d : Database). d.trees) (same k o)))

  tells_open : (u : State) → tells_at known false u ≡ true → IsTrue known × IsTrue u.is_open
  tells_open u e =
      let rest = right_of_and known _ e in
      (left_of_and known _ e, sym (or_false u.is_open) ∙ right_of_and u.is_clean _ rest)

  tells_from : (in_doubt : Bool) → IsTrue known → IsTrue s.is_open → tells_at known in_doubt s ≡ true
  tells_from in_doubt k o = both_true known _ k (both_true s.is_clean _ (lawful_s.clean o) (ap (λ b. b || in_doubt) o))

  -- a call that makes no commit
  pub looked : (falls : doubt s.is_clean ≤ doubt t.is_clean) {T : Type 0} (result : Result T KeeperFault) → (HasCleanDisk t → IsAnswered result → IsTrue t.is_open)
      → Looks result (content_at known s) (content_at known t) (tells_at known false s) (tells_at known false t) s.is_clean t.is_clean (left_at s) (left_at t)
  looked falls result answered = record {
    content = content_stays;
    tells = λ e. let k = tells_open t e in tells_from false k.0 (opened k.1);
    left = λ e. let k = tells_open t e in left_stays k.0 k.1;
    on = told_after known s t falls result answered;
  }

-- what is told is what the last commit left, and it is open
pub held_is : (known : Bool) (s : State) (r : Repository) → content_at known s ≡ Some r → IsTrue s.is_open × (repository_in s.committed.trees ≡ r)
held_is known s r told = let both = told_is (known && s.is_open) _ r told in (right_of_and known s.is_open both.0, both.1)

-- where it is told, a stop leaves what is held and nothing else
pub left_alone : (known : Bool) (s : State) → IsLawful s → tells_at known false s ≡ true → (r : Repository) → left_at s r → content_at known s ≡ Some r
left_alone known s lawful e r h =
    let k = left_of_and known _ e in
    let o : IsTrue s.is_open = sym (or_false s.is_open) ∙ right_of_and s.is_clean _ (right_of_and known _ e) in
    content_told known s k o ∙ ap Some (ap repository_in (sym (lawful.settled h.0 o h.1)) ∙ sym h.2)

clean_of : (s : State) → s.is_clean ≡ true → HasCleanDisk s
clean_of s is = no_doubt s.is_clean is

-- a commit
module _ (change : Change) (known : Bool) (s t : State) (lawful_s : IsLawful s) (lawful_t : IsLawful t) (opened : IsTrue t.is_open → IsTrue s.is_open) where
  -- that was made
  module _ (made : IsTrue known → IsTrue s.is_open → IsTrue t.is_open → repository_in t.committed.trees ≡ changed change (repository_in s.committed.trees)) where
    pub made_content : {T : Type 0} (x : T) → Told (Commits change {T = T} (Ok x)) (content_at known s) (content_at known t)
    made_content x now e =
        let told = told_is (known && t.is_open) _ now e in
        let k = left_of_and known t.is_open told.0 in
        let o = right_of_and known t.is_open told.0 in
        (repository_in s.committed.trees, content_told known s k (opened o), sym told.1 ∙ made k (opened o) o)

    pub made_leaves : {T : Type 0} (x : T) → Leaves change {T = T} (Ok x) (content_at known s) (tells_at known false s) (tells_at known false t) (left_at s) (left_at t)
    made_leaves x = record {
      tells = λ e. let k = tells_open known t t lawful_t lawful_t (λ o. o) (λ _ _. refl) t e in tells_from known s s lawful_s lawful_s (λ o. o) (λ _ _. refl) false k.0 (opened k.1);
      left = λ e was had r.
          let k = tells_open known t t lawful_t lawful_t (λ o. o) (λ _ _. refl) t e in
          let was_is : repository_in s.committed.trees ≡ was = (told_is (known && s.is_open) _ was had).1 in
          let now_is : repository_in t.committed.trees ≡ changed change was = made k.0 (opened k.1) k.1 ∙ ap (changed change) was_is in
          λ h. h.2 ∙ ap repository_in (lawful_t.settled h.0 k.1 h.1) ∙ now_is;
    }

  -- that was refused, while the connection stays open
  module _ (same : IsTrue known → IsTrue t.is_open → t.committed ≡ s.committed) where
    pub refused_content : (T : Type 0) (fault : KeeperFault) → Told (Commits change {T = T} (Err fault)) (content_at known s) (content_at known t)
    refused_content T Failed now e = (now, content_stays known s t lawful_s lawful_t opened same now e, inl refl)
    refused_content T Memory now e = (now, content_stays known s t lawful_s lawful_t opened same now e, refl)

    left_by : (T : Type 0) (fault : KeeperFault) → IsTrue known → IsTrue t.is_open → LeavesBy change {T = T} (Err fault) (content_at known s) (left_at s) (left_at t)
    left_by T Failed k o = λ r h. inl (left_stays known s t lawful_s lawful_t opened same k o r h)
    left_by T Memory k o = left_stays known s t lawful_s lawful_t opened same k o

    pub refused_leaves : (T : Type 0) (fault : KeeperFault) → Leaves change {T = T} (Err fault) (content_at known s) (tells_at known false s) (tells_at known false t) (left_at s) (left_at t)
    refused_leaves T fault = record {
      tells = λ e. let k = tells_open known s t lawful_s lawful_t opened same t e in tells_from known s t lawful_s lawful_t opened same false k.0 (opened k.1);
      left = λ e. let k = tells_open known s t lawful_s lawful_t opened same t e in left_by T fault k.0 k.1;
    }

    -- or that has shut it: a stop may leave what it could, or the new repository
    module _ (was_open : IsTrue known → HasCleanDisk t → IsTrue s.is_open) (idle : IsTrue s.is_open → s.now ≡ s.committed)
        (store : IsTrue known → IsTrue s.is_open → IsStore s.now) (survives : Survives s t (λ db. IsStore s.now → repository_in db ≡ changed change (repository_in s.now.trees))) where
      pub doubted_leaves : (T : Type 0) → Leaves change {T = T} (Err Failed) (content_at known s) (tells_at known false s) (tells_at known true t) (left_at s) (left_at t)
      doubted_leaves T = record {
        tells = λ e.
            let k = left_of_and known _ e in
            let clean = clean_of t (left_of_and t.is_clean _ (right_of_and known _ e)) in tells_from known s t lawful_s lawful_t opened same false k (was_open k clean);
        left = λ e r h.
            let k = left_of_and known _ e in
            let clean = clean_of t (left_of_and t.is_clean _ (right_of_and known _ e)) in
            let o = was_open k clean in
            elim (survives.crash clean h.0 h.1) [
              | inl was ↦ inl (h.0, was, h.2)
              | inr new ↦ inr (repository_in s.committed.trees, content_told known s k o, h.2 ∙ new (store k o) ∙ ap (λ (d : Database). changed change (repository_in d.trees)) (idle o))
            ];
      }

-- what is held may be left: the law of every keeper, by that of the store
pub held_left : {S : Type 0} (g : Ghosts S) (k : Kept S) (r : Repository) → ((s : S) → IsTrue (g.view s).is_open → g.recovers s (g.view s).committed) → content_of g k ≡ Some r → left_of g k r
held_left g k r stays is =
    let told = told_is (k.known && (g.view k.conn.store).is_open) _ r is in
    ((g.view k.conn.store).committed, stays k.conn.store (right_of_and k.known _ told.0), sym told.1)

pub clean_true : (clean open_now : Bool) → (clean ≡ false → open_now ≡ false) → IsTrue open_now → clean ≡ true
clean_true true open_now shut is = refl
clean_true false open_now shut is = let e : true ≡ false = sym is ∙ shut refl in cc

-- a store's laws, of the state of a connection over it
pub lawful_by : {S : Type 0} (g : Ghosts S) (h : Held S) → ((s : S) → (g.view s).is_clean ≡ false → (g.view s).is_open ≡ false)
    → ((s : S) (db : Trees) → IsTrue (g.view s).is_open → g.recovers s db → db ≡ (g.view s).committed) → ((s : S) → IsTrue (g.view s).is_open → g.recovers s (g.view s).committed) → IsLawful (state g h)
lawful_by g h shut settled stays = record {
  clean = λ o. clean_true (g.view h.store).is_clean (g.view h.store).is_open (shut h.store) o;
  settled = λ db o m. settled h.store db o m;
  stays = λ o. stays h.store o;
}
