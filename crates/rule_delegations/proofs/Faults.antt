-- Names that stand once, and the fault of files.
use Rattle.std.proofs.Common.{◌≡◌, ◌+◌, ◌^◌, ◌<◌, ◌≤◌, ℕ, suc, Bool, cond, List, [], ◌∷◌, Option, Some, None, refl, sym, ap, subst, ◌∙◌, inl, inr, arith, length, drop, drop-cons, get_or, add-one}
use Prim.Native.Nat as Nat
use Rattle.std.specs.Prelude.{slice_get}
use Rattle.std.specs.List.{AllByRecursion}
use Rattle.std.specs.Str.{bytes_eq}
use Rattle.std.proofs.Math.ListN.{drop_of_length-le}
use Rattle.std.proofs.lemmas.Bool.{cases_lt}
use Rattle.std.proofs.lemmas.List.Sums.{sum_by-append}
use Rattle.std.proofs.lemmas.Slice.Eq.{bytes_eq-Decides}
use Rattle.rule_files.specs.declared.rules.RuleFile.{RuleFile}
use Rattle.rule_delegations.specs.declared.assembling.AssembleFault.{AssembleFault}
use Rattle.rule_delegations.specs.declared.assembling.AssembleFault.TheVariants.{DuplicateName, Unreachable, TooDeep, TooMany, Memory}
use Rattle.rule_delegations.specs.Assembling.{HasFault, IsFirstName, IsCutOff, IsDeep, IsFirstDeep, IsLeast, IsTwice, NoName, excess, file_names, times}
use Rattle.rule_delegations.specs.Chains.{IsChain}
use Rattle.rule_delegations.specs.Forests.{AreDistinct, AreFew, IsPolicy, IsShort}
use Rattle.rule_delegations.specs.Deep.{IsDeepName}
use Rattle.rule_delegations.proofs.Deepening.{all_shallow}
use Rattle.rule_delegations.proofs.Orders.{Chain}

-- ---- no two files have one name

times_front : (q name : List ℕ) (names : List (List ℕ)) → times q (name ∷ names) ≡ 0 + cond (bytes_eq q name) 1 0 + times q names
times_front q name names = sum_by-append (λ x. cond (bytes_eq q x) 1 0) (name ∷ []) names

once_there : (files : List RuleFile) (q : List ℕ) (at : ℕ) (file : RuleFile) → slice_get files at ≡ Some file → file.name ≡ q → 1 ≤ times q (file_names files)
once_there [] q at file is named = absurd (cc is)
once_there (f ∷ fs) q Nat.zero file is named =
    let one : f ≡ file = cc in
    let same = (bytes_eq-Decides q f.name).1 (sym named ∙ ap (λ (x : RuleFile). x.name) (sym one)) in
    let e = times_front q f.name (file_names fs) ∙ ap (λ (b : Bool). 0 + cond b 1 0 + times q (file_names fs)) same in omega (arith, e)
once_there (f ∷ fs) q (suc at) file is named = let more = once_there fs q at file is named in let e = times_front q f.name (file_names fs) in omega (arith, e, more)

twice_there : (files : List RuleFile) (q : List ℕ) (i j : ℕ) (a b : RuleFile) → i < j → slice_get files i ≡ Some a → a.name ≡ q → slice_get files j ≡ Some b → b.name ≡ q → 2 ≤ times q (file_names files)
twice_there [] q i j a b less first an second bn = absurd (cc first)
twice_there (f ∷ fs) q i Nat.zero a b less first an second bn = absurd (omega (arith, less))
twice_there (f ∷ fs) q Nat.zero (suc j) a b less first an second bn =
    let one : f ≡ a = cc in
    let same = (bytes_eq-Decides q f.name).1 (sym an ∙ ap (λ (x : RuleFile). x.name) (sym one)) in
    let more = once_there fs q j b second bn in
    let e = times_front q f.name (file_names fs) ∙ ap (λ (b : Bool). 0 + cond b 1 0 + times q (file_names fs)) same in omega (arith, e, more)
twice_there (f ∷ fs) q (suc i) (suc j) a b less first an second bn =
    let more = twice_there fs q i j a b (omega (arith, less)) first an second bn in let e = times_front q f.name (file_names fs) in omega (arith, e, more)

pub once_distinct : (files : List RuleFile) → NoName (IsTwice files) → AreDistinct files
once_distinct files none i j name a b = elim (cases_lt i j) [
  | inl before ↦ absurd (none name (inr (twice_there files name i j a.file b.file before a.is a.named b.is b.named)))
  | inr not_before ↦ elim (cases_lt j i) [
    | inl after ↦ absurd (none name (inr (twice_there files name j i b.file a.file after b.is b.named a.is a.named)))
    | inr not_after ↦ omega (arith, not_before, not_after)
  ]
]

-- ---- no file is a policy without rules

pub no_file : (files : List RuleFile) → length files ≡ 0 → IsPolicy files × ((fault : AssembleFault) → HasFault files fault → ⊥)
no_file [] count = (record { distinct = λ i j name a b. let e = a.is in absurd (cc e); shallow = λ chain leads. absurd (no_chain chain leads) }, no_fault) where
  no_chain : (chain : Chain) → IsChain [] chain → ⊥
  no_chain [] leads = leads
  no_chain (p ∷ []) leads = let e = leads.is in cc
  no_chain (p ∷ q ∷ qs) leads = let e = leads.0.is in cc

  no_fault : (fault : AssembleFault) → HasFault [] fault → ⊥
  no_fault (DuplicateName name) has = elim has.has [ inl rules ↦ absurd (omega (arith, rules)) | inr names ↦ absurd (omega (arith, names)) ]
  no_fault (Unreachable name) has = let e = has.1.has.is.is in cc
  no_fault (TooDeep name) has = no_chain has.2.chain has.2.deep.is_chain
  no_fault (TooMany count) has = let e = has.3 in cc
  no_fault Memory has = has
no_file (f ∷ fs) count = absurd (omega (arith, count))

-- ---- what can be numbered in 32 bits

pub few_more : (files : List RuleFile) (at : ℕ) (file : RuleFile) → at < length files → file ≡ get_or files at file → IsShort file → (AllByRecursion IsShort (drop at files) → AllByRecursion IsShort files)
    → AllByRecursion IsShort (drop (at + 1) files) → AllByRecursion IsShort files
few_more files at file less is short before rest =
    let parts : drop at files ≡ file ∷ drop (at + 1) files = rw (add-one, drop-cons files at file, ← is) refl in
    before (rw parts (short, rest))

pub few_all : (files : List RuleFile) (at : ℕ) → length files < 2 ^ 32 → length files ≤ at → (AllByRecursion IsShort (drop at files) → AllByRecursion IsShort files) → AreFew files
few_all files at count end before = record { files_are = count; each = before (rw (drop_of_length-le files end) tt) }

-- ---- one test after the other

pub no_name : (P : List RuleFile → List ℕ → Type 0) (read files : List RuleFile) (found : Option (List ℕ)) → read ≡ files → IsFirstName (P read) found → found ≡ None → NoName (P files)
no_name P read files found same first none =
    let there : NoName (P read) = subst (IsFirstName (P read)) none first in
    λ name has. there name (subst (λ (fs : List RuleFile). P fs name) (sym same) has)

pub least_name : (P : List RuleFile → List ℕ → Type 0) (read files : List RuleFile) (found : Option (List ℕ)) (name : List ℕ) → read ≡ files → IsFirstName (P read) found → found ≡ Some name → IsLeast (P files) name
least_name P read files found name same first some =
    let there : IsLeast (P read) name = subst (IsFirstName (P read)) some first in
    subst (λ (fs : List RuleFile). IsLeast (P fs) name) same there

pub not_deep : (files : List RuleFile) (found : Option (List ℕ)) → IsDeepName files found → found ≡ None → (chain : Chain) → IsDeep files chain → ⊥
not_deep files found first none = subst (IsDeepName files) none first

pub none_first_deep : (files : List RuleFile) → ((chain : Chain) → IsDeep files chain → ⊥) → NoName (IsFirstDeep files)
none_first_deep files none name first = none first.chain first.deep

pub too_many : (read files : List RuleFile) (found : Option ℕ) (count : ℕ) → read ≡ files → found ≡ excess read → found ≡ Some count → excess files ≡ Some count
too_many read files found count same is some = ap excess (sym same) ∙ sym is ∙ some

-- files that pass each test are those of a policy
pub passed : (read files : List RuleFile) (found : Option ℕ) → NoName (IsTwice files) → NoName (IsCutOff files) → ((chain : Chain) → IsDeep files chain → ⊥) → read ≡ files → found ≡ excess read → found ≡ None
    → IsPolicy files × ((fault : AssembleFault) → HasFault files fault → ⊥)
passed read files found twice cut deep same is none = (record { distinct = once_distinct files twice; shallow = all_shallow files deep }, no_fault) where
  no_fault : (fault : AssembleFault) → HasFault files fault → ⊥
  no_fault (DuplicateName name) has = twice name has.has
  no_fault (Unreachable name) has = cut name has.1.has
  no_fault (TooDeep name) has = none_first_deep files deep name has.2
  no_fault (TooMany count) has = let e : None ≡ Some count = sym none ∙ is ∙ ap excess same ∙ has.3 in cc
  no_fault Memory has = has
