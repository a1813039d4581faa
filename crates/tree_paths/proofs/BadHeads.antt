-- Where peeling ends, by the tags that lead there.
use Rattle.std.proofs.Common.{◌≡◌, ◌≤◌, ◌-◌, ℕ, zero, suc, Bool, true, false, cond, List, Option, Some, None, refl, sym, ap, subst, ◌∙◌, inl, inr, arith}
use Rattle.std.specs.Bool.{Decides}
use Rattle.std.proofs.lemmas.Bool.{false≢true}
use Rattle.git_object.specs.declared.kinds.Kind.{Kind}
use Rattle.git_object.specs.declared.kinds.Kind.TheVariants as kind
use Rattle.tree_paths.specs.Broken.{IsBadHead, LeadToBad, LeadToCommit, MayBe, TagsLead}
use Rattle.tree_paths.specs.Readings.{Heads}
use Rattle.tree_paths.specs.States.{may_be_commit, may_be_tag, peel_step, peeled}
use Rattle.tree_paths.specs.declared.heads.TargetHead.{TargetHead}
use Rattle.tree_paths.specs.declared.heads.TargetHead.TheVariants.{Next, Other, Root}
use Rattle.tree_paths.specs.declared.heads.Peeled.{Peeled}
use Rattle.tree_paths.specs.declared.heads.Peeled.TheVariants.{At, Bad}
use Rattle.tree_paths.proofs.Peels.{next_of, peel_last, peel_next, peel_no_commit, peel_no_tag, peel_other, peel_root, peeled_at}

may_commit : (wanted : Option Kind) → Decides (may_be_commit wanted) (MayBe wanted kind.Commit)
may_commit None = (λ e. tt, λ m. refl)
may_commit (Some kind.Commit) = (λ e. refl, λ m. refl)
may_commit (Some kind.Blob) = (λ e. absurd (false≢true e), λ m. absurd (let clash : kind.Blob ≡ kind.Commit = m in cc))
may_commit (Some kind.Tree) = (λ e. absurd (false≢true e), λ m. absurd (let clash : kind.Tree ≡ kind.Commit = m in cc))
may_commit (Some kind.Tag) = (λ e. absurd (false≢true e), λ m. absurd (let clash : kind.Tag ≡ kind.Commit = m in cc))

may_tag : (wanted : Option Kind) → Decides (may_be_tag wanted) (MayBe wanted kind.Tag)
may_tag None = (λ e. tt, λ m. refl)
may_tag (Some kind.Tag) = (λ e. refl, λ m. refl)
may_tag (Some kind.Blob) = (λ e. absurd (false≢true e), λ m. absurd (let clash : kind.Blob ≡ kind.Tag = m in cc))
may_tag (Some kind.Tree) = (λ e. absurd (false≢true e), λ m. absurd (let clash : kind.Tree ≡ kind.Tag = m in cc))
may_tag (Some kind.Commit) = (λ e. absurd (false≢true e), λ m. absurd (let clash : kind.Commit ≡ kind.Tag = m in cc))

not_by : (b : Bool) (P : Type 0) → Decides b P → b ≡ false → P → ⊥
not_by b P decides isnt p = false≢true (sym isnt ∙ decides.1 p)

false_by : (b : Bool) (P : Type 0) → Decides b P → (P → ⊥) → b ≡ false
false_by true P decides never = absurd (never (decides.0 refl))
false_by false P decides never = refl

-- ---- a tag more

one_more : (most tags : ℕ) (last : Option Kind) (head : TargetHead) → IsBadHead most tags last head → IsBadHead (suc most) (suc tags) last head
one_more most tags last Other b = tt
one_more most tags last (Root tree) b = b
one_more most tags last (Next object named) b = elim b [ inl other ↦ inl other | inr e ↦ inr (ap suc e) ]

one_less : (most tags : ℕ) (last : Option Kind) (head : TargetHead) → IsBadHead (suc most) (suc tags) last head → IsBadHead most tags last head
one_less most tags last Other b = tt
one_less most tags last (Root tree) b = b
one_less most tags last (Next object named) b = elim b [ inl other ↦ inl other | inr e ↦ inr (omega (arith, e)) ]

module _ (heads : Heads) where
  bad_here : (n : ℕ) (wanted : Option Kind) (id bad : List ℕ) (head : TargetHead) → heads id ≡ head → IsBadHead n 0 wanted head → Bad id ≡ Bad bad → LeadToBad heads n wanted id bad
  bad_here n wanted id bad head is b e =
      let at : id ≡ bad = cc in
      record {
        tags = 0;
        few = omega arith;
        last = wanted;
        lead = (at, refl);
        is_bad = subst (λ (x : List ℕ). IsBadHead n 0 wanted (heads x)) at (subst (IsBadHead n 0 wanted) (sym is) b);
      }

  -- what a step says of a bad end
  by_head : (n : ℕ) (wanted : Option Kind) (id bad : List ℕ) (next : List ℕ → Kind → Peeled) (head : TargetHead) → heads id ≡ head
      → ((object : List ℕ) (named : Kind) → heads id ≡ Next object named → MayBe wanted kind.Tag → next object named ≡ Bad bad → LeadToBad heads n wanted id bad)
      → peel_step next id wanted head ≡ Bad bad → LeadToBad heads n wanted id bad
  by_head n wanted id bad next Other is later e = bad_here n wanted id bad Other is tt e
  by_head n wanted id bad next (Root tree) is later e = by_test (may_be_commit wanted) refl e where
    by_test : (b : Bool) → may_be_commit wanted ≡ b → cond b (At id tree) (Bad id) ≡ Bad bad → LeadToBad heads n wanted id bad
    by_test true may f = absurd (let clash : At id tree ≡ Bad bad = f in cc)
    by_test false may f = bad_here n wanted id bad (Root tree) is (not_by (may_be_commit wanted) (MayBe wanted kind.Commit) (may_commit wanted) may) f
  by_head n wanted id bad next (Next object named) is later e = by_test (may_be_tag wanted) refl e where
    by_test : (b : Bool) → may_be_tag wanted ≡ b → cond b (next object named) (Bad id) ≡ Bad bad → LeadToBad heads n wanted id bad
    by_test true may f = later object named is ((may_tag wanted).0 may) f
    by_test false may f = bad_here n wanted id bad (Next object named) is (inl (not_by (may_be_tag wanted) (MayBe wanted kind.Tag) (may_tag wanted) may)) f

  pub bad_leads : (n : ℕ) (wanted : Option Kind) (id bad : List ℕ) → peeled heads n wanted id ≡ Bad bad → LeadToBad heads n wanted id bad
  bad_leads zero wanted id bad e =
      by_head 0 wanted id bad (next_of heads 0 id) (heads id) refl
      (λ object named is may f. bad_here 0 wanted id bad (Next object named) is (inr refl) f)
      (sym (peeled_at heads 0 wanted id) ∙ e)
  bad_leads (suc n) wanted id bad e =
      by_head (suc n) wanted id bad (next_of heads (suc n) id) (heads id) refl
      (λ object named is may f.
      let rest = bad_leads n (Some named) object bad f in
      record {
        tags = suc rest.tags;
        few = let few = rest.few in omega (arith, few);
        last = rest.last;
        lead = (may, (object, named, is, rest.lead));
        is_bad = one_more n rest.tags rest.last (heads bad) rest.is_bad;
      })
      (sym (peeled_at heads (suc n) wanted id) ∙ e)

  bad_at : (n : ℕ) (wanted : Option Kind) (id : List ℕ) (head : TargetHead) → heads id ≡ head → IsBadHead n 0 wanted head → Bad id ≡ peeled heads n wanted id
  bad_at n wanted id Other is b = peel_other heads n wanted id (sym is)
  bad_at n wanted id (Root tree) is b = peel_no_commit heads n wanted id tree (sym is) (false_by (may_be_commit wanted) (MayBe wanted kind.Commit) (may_commit wanted) b)
  bad_at n wanted id (Next object named) is b = elim b [
    | inl other ↦ peel_no_tag heads n wanted id object named (sym is) (false_by (may_be_tag wanted) (MayBe wanted kind.Tag) (may_tag wanted) other)
    | inr none ↦ peel_last heads n wanted id object named (sym none) (sym is)
  ]

  -- a tag that may be followed is
  follow : (n : ℕ) (wanted : Option Kind) (id object : List ℕ) (named : Kind) (end : Peeled) → MayBe wanted kind.Tag → heads id ≡ Next object named → peeled heads n (Some named) object ≡ end
      → peeled heads (suc n) wanted id ≡ end
  follow n wanted id object named end may is rest =
      sym (peel_next heads (suc n) wanted id object named end (λ none. omega (arith, none)) (sym is) ((may_tag wanted).1 may)
      (sym rest ∙ ap (λ (m : ℕ). peeled heads m (Some named) object) (let e : n ≡ suc n - 1 = omega arith in e)))

  pub leads_bad : (n tags : ℕ) (wanted : Option Kind) (id : List ℕ) (last : Option Kind) (bad : List ℕ) → tags ≤ n → TagsLead heads tags wanted id last bad → IsBadHead n tags last (heads bad)
      → peeled heads n wanted id ≡ Bad bad
  leads_bad n zero wanted id last bad few lead b =
      sym (bad_at n wanted id (heads id) refl
      (subst (λ (w : Option Kind). IsBadHead n 0 w (heads id)) (sym lead.1) (subst (λ (x : List ℕ). IsBadHead n 0 last (heads x)) (sym lead.0) b)))
      ∙ ap Bad lead.0
  leads_bad zero (suc k) wanted id last bad few lead b = absurd (omega (arith, few))
  leads_bad (suc n) (suc k) wanted id last bad few lead b =
      follow n wanted id lead.1.0 lead.1.1 (Bad bad) lead.0 lead.1.2
      (leads_bad n k (Some lead.1.1) lead.1.0 last bad (omega (arith, few)) lead.1.3 (one_less n k last (heads bad) b))

  -- ---- the same of a commit
  commit_here : (n : ℕ) (wanted : Option Kind) (id commit tree root : List ℕ) → heads id ≡ Root root → MayBe wanted kind.Commit → At id root ≡ At commit tree → LeadToCommit heads n wanted id commit tree
  commit_here n wanted id commit tree root is may e =
      let at : id ≡ commit = cc in
      let same : root ≡ tree = cc in
      record { tags = 0; few = omega arith; last = wanted; lead = (at, refl); may = may; is_commit = ap heads (sym at) ∙ is ∙ ap Root same }

  to_commit : (n : ℕ) (wanted : Option Kind) (id commit tree : List ℕ) (next : List ℕ → Kind → Peeled) (head : TargetHead) → heads id ≡ head
      → ((object : List ℕ) (named : Kind) → heads id ≡ Next object named → MayBe wanted kind.Tag → next object named ≡ At commit tree → LeadToCommit heads n wanted id commit tree)
      → peel_step next id wanted head ≡ At commit tree → LeadToCommit heads n wanted id commit tree
  to_commit n wanted id commit tree next Other is later e = absurd (let clash : Bad id ≡ At commit tree = e in cc)
  to_commit n wanted id commit tree next (Root root) is later e = by_test (may_be_commit wanted) refl e where
    by_test : (b : Bool) → may_be_commit wanted ≡ b → cond b (At id root) (Bad id) ≡ At commit tree → LeadToCommit heads n wanted id commit tree
    by_test true may f = commit_here n wanted id commit tree root is ((may_commit wanted).0 may) f
    by_test false may f = absurd (let clash : Bad id ≡ At commit tree = f in cc)
  to_commit n wanted id commit tree next (Next object named) is later e = by_test (may_be_tag wanted) refl e where
    by_test : (b : Bool) → may_be_tag wanted ≡ b → cond b (next object named) (Bad id) ≡ At commit tree → LeadToCommit heads n wanted id commit tree
    by_test true may f = later object named is ((may_tag wanted).0 may) f
    by_test false may f = absurd (let clash : Bad id ≡ At commit tree = f in cc)

  pub commit_leads : (n : ℕ) (wanted : Option Kind) (id commit tree : List ℕ) → peeled heads n wanted id ≡ At commit tree → LeadToCommit heads n wanted id commit tree
  commit_leads zero wanted id commit tree e =
      to_commit 0 wanted id commit tree (next_of heads 0 id) (heads id) refl
      (λ object named is may f. absurd (let clash : Bad id ≡ At commit tree = f in cc))
      (sym (peeled_at heads 0 wanted id) ∙ e)
  commit_leads (suc n) wanted id commit tree e =
      to_commit (suc n) wanted id commit tree (next_of heads (suc n) id) (heads id) refl
      (λ object named is may f.
      let rest = commit_leads n (Some named) object commit tree f in
      record {
        tags = suc rest.tags;
        few = let few = rest.few in omega (arith, few);
        last = rest.last;
        lead = (may, (object, named, is, rest.lead));
        may = rest.may;
        is_commit = rest.is_commit;
      })
      (sym (peeled_at heads (suc n) wanted id) ∙ e)

  pub leads_commit : (n tags : ℕ) (wanted : Option Kind) (id : List ℕ) (last : Option Kind) (commit tree : List ℕ) → tags ≤ n → TagsLead heads tags wanted id last commit → MayBe last kind.Commit → heads commit ≡ Root tree
      → peeled heads n wanted id ≡ At commit tree
  leads_commit n zero wanted id last commit tree few lead may is =
      sym (peel_root heads n wanted id tree (sym is ∙ ap heads (sym lead.0)) ((may_commit wanted).1 (subst (λ (w : Option Kind). MayBe w kind.Commit) (sym lead.1) may)))
      ∙ ap (λ (x : List ℕ). At x tree) lead.0
  leads_commit zero (suc k) wanted id last commit tree few lead may is = absurd (omega (arith, few))
  leads_commit (suc n) (suc k) wanted id last commit tree few lead may is =
      follow n wanted id lead.1.0 lead.1.1 (At commit tree) lead.0 lead.1.2
      (leads_commit n k (Some lead.1.1) lead.1.0 last commit tree (omega (arith, few)) lead.1.3 may is)
