-- Where peeling ends, by what is found at an id.
use Rattle.std.proofs.Common.{◌≡◌, ℕ, zero, suc, ◌-◌, Bool, true, false, cond, List, Option, Some, refl, sym, ap, ◌∙◌, arith}
use Rattle.git_object.specs.declared.kinds.Kind.{Kind}
use Rattle.tree_paths.specs.Readings.{Heads}
use Rattle.tree_paths.specs.States.{may_be_commit, may_be_tag, peel_step, peeled}
use Rattle.tree_paths.specs.declared.heads.TargetHead.{TargetHead}
use Rattle.tree_paths.specs.declared.heads.TargetHead.TheVariants.{Next, Other, Root}
use Rattle.tree_paths.specs.declared.heads.Peeled.{Peeled}
use Rattle.tree_paths.specs.declared.heads.Peeled.TheVariants.{At, Bad}

abbrev pub next_of : Heads → ℕ → List ℕ → List ℕ → Kind → Peeled
next_of heads zero id object names = Bad id
next_of heads (suc n) id object names = peeled heads n (Some names) object

pub peeled_at : (heads : Heads) (n : ℕ) (wanted : Option Kind) (id : List ℕ) → peeled heads n wanted id ≡ peel_step (next_of heads n id) id wanted (heads id)
unfolding peeled
peeled_at heads zero wanted id = refl
peeled_at heads (suc n) wanted id = refl

module _ (heads : Heads) (n : ℕ) (wanted : Option Kind) (id : List ℕ) where
  at : (head : TargetHead) → head ≡ heads id → peel_step (next_of heads n id) id wanted head ≡ peeled heads n wanted id
  at head is = ap (peel_step (next_of heads n id) id wanted) is ∙ sym (peeled_at heads n wanted id)

  pub peel_other : Other ≡ heads id → Bad id ≡ peeled heads n wanted id
  peel_other is = at Other is

  pub peel_root : (tree : List ℕ) → Root tree ≡ heads id → may_be_commit wanted ≡ true → At id tree ≡ peeled heads n wanted id
  peel_root tree is may = ap (λ (b : Bool). cond b (At id tree) (Bad id)) (sym may) ∙ at (Root tree) is

  pub peel_no_commit : (tree : List ℕ) → Root tree ≡ heads id → may_be_commit wanted ≡ false → Bad id ≡ peeled heads n wanted id
  peel_no_commit tree is may = ap (λ (b : Bool). cond b (At id tree) (Bad id)) (sym may) ∙ at (Root tree) is

  pub peel_no_tag : (object : List ℕ) (names : Kind) → Next object names ≡ heads id → may_be_tag wanted ≡ false → Bad id ≡ peeled heads n wanted id
  peel_no_tag object names is may = ap (λ (b : Bool). cond b (next_of heads n id object names) (Bad id)) (sym may) ∙ at (Next object names) is

-- the ninth tag
pub peel_last : (heads : Heads) (n : ℕ) (wanted : Option Kind) (id object : List ℕ) (names : Kind) → n ≡ 0 → Next object names ≡ heads id → Bad id ≡ peeled heads n wanted id
peel_last heads zero wanted id object names none is = always (may_be_tag wanted) ∙ at heads 0 wanted id (Next object names) is
  where
    always : (b : Bool) → Bad id ≡ cond b (Bad id) (Bad id)
    always true = refl
    always false = refl
peel_last heads (suc n) wanted id object names none is = absurd (omega arith)

pub peel_next : (heads : Heads) (n : ℕ) (wanted : Option Kind) (id object : List ℕ) (names : Kind) (end : Peeled) → (n ≡ 0 → ⊥) → Next object names ≡ heads id → may_be_tag wanted ≡ true
    → end ≡ peeled heads (n - 1) (Some names) object → end ≡ peeled heads n wanted id
peel_next heads zero wanted id object names end some is may rest = absurd (some refl)
peel_next heads (suc n) wanted id object names end some is may rest =
    rest ∙ ap (λ (m : ℕ). peeled heads m (Some names) object) (let e : suc n - 1 ≡ n = omega arith in e)
    ∙ ap (λ (b : Bool). cond b (peeled heads n (Some names) object) (Bad id)) (sym may) ∙ at heads (suc n) wanted id (Next object names) is
