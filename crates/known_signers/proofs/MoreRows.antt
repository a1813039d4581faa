-- What is kept of texts, after a text more.
use Rattle.std.proofs.Common.{◌≡◌, ℕ, Bool, true, false, cond, List, Option, Some, refl, sym, subst, ◌∙◌}
use Rattle.std.specs.BTreeMap as tree
use Rattle.std.specs.BTreeMap.{BTreeMap}
use Rattle.std.specs.FinMap.{nat_cmp-IsAntisymmetric, slice_cmp-IsAntisymmetric}
use Rattle.std.specs.Ordering.{is_eq}
use Rattle.std.specs.declared.cmp.Ordering.{Ordering}
use Rattle.std.specs.declared.cmp.Ordering.TheVariants.{Equal, Less, Greater}
use Rattle.std.proofs.lemmas.Bool.{false≢true}
use Rattle.std.proofs.lemmas.Option.{same_Some}
use Rattle.octets.specs.BytesMap.{by_bytes}
use Rattle.known_signers.specs.ReadTexts.{AreRead}

is_equal : (o : Ordering) → is_eq o ≡ true → o ≡ Equal
is_equal Less e = absurd (false≢true e)
is_equal Equal e = refl
is_equal Greater e = absurd (false≢true e)

same_key : (a b : List ℕ) → is_eq (by_bytes a b) ≡ true → a ≡ b
same_key a b e = slice_cmp-IsAntisymmetric nat_cmp-IsAntisymmetric a b (is_equal (by_bytes a b) e)

-- a text more is kept beside what it is read as
pub read_more : {T : Type 0} (reading : List ℕ → Option T) (was now : BTreeMap (List ℕ) (Option T)) (text : List ℕ) (found : Option T)
    → ((q : List ℕ) → tree.get by_bytes now q ≡ cond (is_eq (by_bytes text q)) (Some found) (tree.get by_bytes was q))
    → AreRead reading was → found ≡ reading text → AreRead reading now
read_more {T} reading was now text found put are is = λ q other at. by_key q other (is_eq (by_bytes text q)) refl (sym (put q) ∙ at)
  where
    by_key : (q : List ℕ) (other : Option T) (b : Bool) → is_eq (by_bytes text q) ≡ b → cond b (Some found) (tree.get by_bytes was q) ≡ Some other → other ≡ reading q
    by_key q other true same at = subst (λ (k : List ℕ). other ≡ reading k) (same_key text q same) (sym (same_Some found other at) ∙ is)
    by_key q other false same at = are q other at
