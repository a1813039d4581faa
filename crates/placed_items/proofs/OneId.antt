-- Keys that are alike, places that are let go, and one id in each case of a put and of a place that is let go.
use Rattle.std.proofs.Common.{◌≡◌, ℕ, ◌<◌, Bool, true, false, cond, List, [], ◌∷◌, ◌++◌, Option, Some, None, suc, length, refl, sym, ap}
use Rattle.std.proofs.Common.{subst, ◌∙◌, arith}
use Prim.Native.Nat as Nat
use lib.Dec.{eqb}
use Rattle.std.specs.Cmp.{eq_by_cmp_equiv}
use Rattle.std.specs.Cmp.Lexicographic.{bytes_decides, nat_list_cmp_total}
use Rattle.std.specs.FinMap.{nat_cmp-IsAntisymmetric, slice_cmp-IsAntisymmetric}
use Rattle.std.specs.Option.{option_or}
use Rattle.std.specs.Ordering.{is_eq}
use Rattle.std.specs.Prelude.{slice_get}
use Rattle.std.specs.Str.{bytes_eq}
use Rattle.std.specs.declared.cmp.Ordering.{Ordering}
use Rattle.std.specs.declared.cmp.Ordering.TheVariants.{Equal, Less, Greater}
use Rattle.std.proofs.lemmas.Bool.{true≢false, eq-eqb, ne_eqb}
use Rattle.std.proofs.lemmas.Bool.Decides.{same_from_decides}
use Rattle.std.proofs.lemmas.Option.{slice_get_past}
use Rattle.octets.specs.BytesMap.{by_bytes}
use Rattle.placed_items.specs.Places.{placed_last}
use Rattle.placed_items.specs.Fronts.{HasLetGo, other_than}

-- ---- keys that are alike

is_equal : (o : Ordering) → is_eq o ≡ true → o ≡ Equal
is_equal Less e = absurd (true≢false (sym e))
is_equal Equal e = refl
is_equal Greater e = absurd (true≢false (sym e))

same_key : (a b : List ℕ) → is_eq (by_bytes a b) ≡ true → a ≡ b
same_key a b e = slice_cmp-IsAntisymmetric nat_cmp-IsAntisymmetric a b (is_equal (by_bytes a b) e)

pub same_test : (a b : List ℕ) → is_eq (by_bytes a b) ≡ bytes_eq a b
same_test a b =
    same_from_decides (is_eq (by_bytes a b)) (bytes_eq a b)
    (same_key a b, λ e. subst (λ (x : List ℕ). is_eq (by_bytes a x) ≡ true) e ((eq_by_cmp_equiv nat_list_cmp_total).refl a)) (bytes_decides a b)

-- ---- a place that is let go

pub other_same : (m n : ℕ) → eqb m n ≡ true → other_than n (Some m) ≡ None
other_same m n e = ap (λ (b : Bool). cond b None (Some m)) e

pub other_self : (n : ℕ) → other_than n (Some n) ≡ None
other_self n = other_same n n (eq-eqb n n refl)

pub other_stays : (m n : ℕ) → eqb m n ≡ false → other_than n (Some m) ≡ Some m
other_stays m n e = ap (λ (b : Bool). cond b None (Some m)) e

other_less : (m n : ℕ) → m < n → other_than n (Some m) ≡ Some m
other_less m n less = other_stays m n (ne_eqb m n (λ e. absurd (omega (arith, less, e))))

-- a map under whose key just this place goes has let it go
pub let_go_had : (was now : List ℕ → Option ℕ) (key : List ℕ) (n : ℕ) → was key ≡ Some n
    → ((q : List ℕ) → now q ≡ cond (is_eq (by_bytes key q)) None (was q)) → HasLetGo was now key n
let_go_had was now key n had gone q = gone q ∙ by_test (is_eq (by_bytes key q)) refl
  where
    by_test : (b : Bool) → is_eq (by_bytes key q) ≡ b → cond b None (was q) ≡ cond b (other_than n (was q)) (was q)
    by_test true is =
        let has : was q ≡ Some n = ap was (sym (same_key key q is)) ∙ had in
        sym (ap (other_than n) has ∙ other_self n)
    by_test false is = refl

-- and one that has another there, or none, has it not
pub let_go_other : (was : List ℕ → Option ℕ) (key : List ℕ) (n : ℕ) → (was key ≡ Some n → ⊥) → HasLetGo was was key n
let_go_other was key n other q = by_test (is_eq (by_bytes key q)) refl (was q) refl
  where
    by_test : (b : Bool) → is_eq (by_bytes key q) ≡ b → (o : Option ℕ) → was q ≡ o → o ≡ cond b (other_than n o) o
    by_test true is None e = refl
    by_test true is (Some m) e = sym (other_stays m n (ne_eqb m n (λ same. other (ap was (same_key key q is) ∙ e ∙ ap Some same))))
    by_test false is o e = refl

-- ---- a list's items by their places

pub get_other : {X : Type 0} (xs : List X) (x : X) (n : ℕ) → (n ≡ length xs → ⊥) → slice_get (xs ++ x ∷ []) n ≡ slice_get xs n
get_other [] x Nat.zero other = absurd (other refl)
get_other [] x (suc n) other = refl
get_other (y ∷ ys) x Nat.zero other = refl
get_other (y ∷ ys) x (suc n) other = get_other ys x n (λ e. other (ap suc e))

pub get_last : {X : Type 0} (xs : List X) (x : X) → slice_get (xs ++ x ∷ []) (length xs) ≡ Some x
get_last [] x = refl
get_last (y ∷ ys) x = get_last ys x

pub get_past : {X : Type 0} (xs : List X) → slice_get xs (length xs) ≡ None
get_past xs = slice_get_past xs (length xs) (omega arith)

-- ---- one id, in the cases of a put and of one that is let go

last_no : (o : Option ℕ) (n : ℕ) → placed_last o false n ≡ o
last_no None n = refl
last_no (Some m) n = refl

pub front_case : (b c : Bool) (x o : Option ℕ) (now was : Option ℕ → Option ℕ) (n : ℕ)
    → now (Some n) ≡ cond b (Some n) None → was None ≡ None → now o ≡ was o
    → (c ≡ true → o ≡ None) → (b ≡ true → c ≡ true) → (b ≡ true → x ≡ None)
    → option_or x (now (cond c (Some n) o)) ≡ placed_last (option_or x (was o)) b n
front_case true true x o now was n last none same free front whole =
    ap (λ (y : Option ℕ). option_or y (now (Some n))) (whole refl) ∙ last
    ∙ sym (ap (λ (y : Option ℕ). placed_last y true n) (ap (λ (y : Option ℕ). option_or y (was o)) (whole refl) ∙ ap was (free refl) ∙ none))
front_case true false x o now was n last none same free front whole = absurd (true≢false (sym (front refl)))
front_case false true x o now was n last none same free front whole =
    ap (option_or x) (last ∙ sym (ap was (free refl) ∙ none)) ∙ sym (last_no (option_or x (was o)) n)
front_case false false x o now was n last none same free front whole = ap (option_or x) same ∙ sym (last_no (option_or x (was o)) n)

pub whole_case : (b : Bool) (x y z : Option ℕ) (n : ℕ) → y ≡ z → (b ≡ true → option_or x z ≡ None)
    → option_or (cond b (Some n) x) y ≡ placed_last (option_or x z) b n
whole_case true x y z n same none = sym (ap (λ (o : Option ℕ). placed_last o true n) (none refl))
whole_case false x y z n same none = ap (option_or x) same ∙ sym (last_no (option_or x z) n)

pub had_case : (b : Bool) (o : Option ℕ) (m n : ℕ) → (b ≡ true → o ≡ Some m) → o ≡ placed_last o b n
had_case true o m n had = had refl ∙ sym (ap (λ (o : Option ℕ). placed_last o true n) (had refl))
had_case false o m n had = sym (last_no o n)

pub gone_case : (b : Bool) (y z r : Option ℕ) (n : ℕ) → option_or y z ≡ placed_last r b n → ((k : ℕ) → r ≡ Some k → k < n)
    → (r ≡ None → other_than n z ≡ None) → option_or (cond b (other_than n y) y) (other_than n z) ≡ r
gone_case true None z None n told within none = none refl
gone_case true None z (Some k) n told within none = ap (other_than n) told ∙ other_less k n (within k refl)
gone_case true (Some m) z None n told within none =
    let same : m ≡ n = cc told in
    ap (λ (o : Option ℕ). option_or o (other_than n z)) (ap (λ (i : ℕ). other_than n (Some i)) same ∙ other_self n) ∙ none refl
gone_case true (Some m) z (Some k) n told within none =
    let same : m ≡ k = cc told in
    ap (λ (o : Option ℕ). option_or o (other_than n z)) (ap (λ (i : ℕ). other_than n (Some i)) same ∙ other_less k n (within k refl))
gone_case false (Some m) z r n told within none = told ∙ last_no r n
gone_case false None z None n told within none = none refl
gone_case false None z (Some k) n told within none = ap (other_than n) told ∙ other_less k n (within k refl)
