-- Where entries are in order, one search for a name tells whether an entry has it.
use Rattle.std.proofs.Common.{◌≡◌, ◌≢◌, ℕ, zero, suc, ◌+◌, ◌<◌, false, List, [], ◌∷◌, ◌++◌, length, refl, sym, ap, subst, ◌∙◌, arith, inl, inr}
use Rattle.std.specs.Prelude.{slice_index_or}
use Rattle.std.specs.List.{AllWithin, HoldsAt}
use Rattle.std.specs.List.Sorted.{IsSortedBy}
use Rattle.std.specs.FinMap.{nat_cmp-IsAntisymmetric, slice_cmp-IsAntisymmetric}
use Rattle.std.specs.Ordering.{is_lt, nat_cmp, ordering_reverse, ordering_then}
use Rattle.std.specs.declared.cmp.Ordering.{Ordering}
use Rattle.std.specs.declared.cmp.Ordering.TheVariants.{Less, Equal, Greater}
use Rattle.std.proofs.lemmas.Bool.{cases_lt, false≢true}
use Rattle.std.proofs.lemmas.Cmp.{nat_cmp_total, nat_list_cmp_total}
use Rattle.std.proofs.lemmas.List.{append-nil}
use Rattle.octets.specs.BytesMap.{by_bytes}
use Rattle.text_reader.specs.Line.{has_byte}
use Rattle.text_reader.proofs.Unique.{has_byte_here}
use Rattle.git_object.specs.Modes.{key_end}
use Rattle.git_object.specs.Trees.{AreInOrder, sort_key}
use Rattle.git_object.specs.EntryParts.{AllLess, AllOther}
use Rattle.git_object.specs.declared.modes.Mode.{Mode}
use Rattle.git_object.specs.declared.modes.Mode.TheVariants.{Dir, File, Exec, Link, Module}
use Rattle.git_object.specs.declared.trees.TreeEntry.{TreeEntry}

-- ---- keys

-- a file's key is its name
abbrev pub file_key : List ℕ → List ℕ
file_key name = name ++ key_end File

same_text : (a b : List ℕ) → a ++ [] ≡ b ++ [] → a ≡ b
same_text a b e = sym (append-nil a) ∙ e ∙ append-nil b

-- a key that is a name without a slash is a file's
name_of_key : (mode : Mode) (name other : List ℕ) → has_byte 47 name ≡ false → other ++ key_end mode ≡ name ++ [] → other ≡ name
name_of_key Dir name other plain e =
    absurd (false≢true (sym plain ∙ ap (has_byte 47) (sym (append-nil name) ∙ sym e) ∙ has_byte_here 47 other []))
name_of_key File name other plain e = same_text other name e
name_of_key Exec name other plain e = same_text other name e
name_of_key Link name other plain e = same_text other name e
name_of_key Module name other plain e = same_text other name e

own_reverse : (o : Ordering) → o ≡ ordering_reverse o → o ≡ Equal
own_reverse Less e = cc
own_reverse Equal e = refl
own_reverse Greater e = cc

equal_itself : (n : ℕ) → nat_cmp n n ≡ Equal
equal_itself n = own_reverse (nat_cmp n n) (nat_cmp_total.antisymm n n)

-- an equal front decides nothing
front_cancels : (name a b : List ℕ) → by_bytes (name ++ a) (name ++ b) ≡ by_bytes a b
front_cancels [] a b = refl
front_cancels (n ∷ name) a b = ap (λ (o : Ordering). ordering_then o (by_bytes (name ++ a) (name ++ b))) (equal_itself n) ∙ front_cancels name a b

-- a directory's key is less than no key of the same name
not_less : (mode : Mode) → by_bytes (47 ∷ []) (key_end mode) ≢ Less
not_less Dir e = cc
not_less File e = cc
not_less Exec e = cc
not_less Link e = cc
not_less Module e = cc

-- an entry of the same name and a smaller key is no directory, so its key is the name
key_of_name : (mode other : Mode) (name : List ℕ) → by_bytes (name ++ key_end mode) (name ++ key_end other) ≡ Less → by_bytes (name ++ key_end mode) (file_key name) ≡ Equal
key_of_name Dir other name less = absurd (not_less other (sym (front_cancels name (47 ∷ []) (key_end other)) ∙ less))
key_of_name File other name less = front_cancels name [] []
key_of_name Exec other name less = front_cancels name [] []
key_of_name Link other name less = front_cancels name [] []
key_of_name Module other name less = front_cancels name [] []

-- ---- the search

-- neighbours of entries in order
neighbours : (es : List TreeEntry) (d : TreeEntry) (k : ℕ) → AreInOrder es → suc k < length es
    → by_bytes (sort_key (slice_index_or es k d)) (sort_key (slice_index_or es (suc k) d)) ≡ Less
neighbours [] d k ordered short = absurd (omega arith)
neighbours (x ∷ []) d k ordered short = absurd (omega arith)
neighbours (x ∷ y ∷ es) d zero ordered short = ordered.0.0.rising
neighbours (x ∷ y ∷ es) d (suc k) ordered short = neighbours (y ∷ es) d k ordered.1 (omega arith)

reversed : (o r : Ordering) → r ≡ ordering_reverse o → o ≡ Less → is_lt r ≡ false
reversed o r e less = ap is_lt (e ∙ ap ordering_reverse less)

pub keys_sorted : (es : List TreeEntry) → AreInOrder es → IsSortedBy (λ a b. is_lt (by_bytes (sort_key a) (sort_key b))) es
keys_sorted es ordered k d low short =
    let next : k + 1 ≡ suc k = omega arith in
    let here : by_bytes (sort_key (slice_index_or es k d)) (sort_key (slice_index_or es (k + 1) d)) ≡ Less =
    ap (λ (j : ℕ). by_bytes (sort_key (slice_index_or es k d)) (sort_key (slice_index_or es j d))) next ∙ neighbours es d k ordered (omega arith) in
    reversed (by_bytes (sort_key (slice_index_or es k d)) (sort_key (slice_index_or es (k + 1) d))) (by_bytes (sort_key (slice_index_or es (k + 1) d)) (sort_key (slice_index_or es k d)))
    (nat_list_cmp_total.antisymm (sort_key (slice_index_or es (k + 1) d)) (sort_key (slice_index_or es k d))) here

-- where a key is found that is the name, an entry has the name
pub found_no_new : (es : List TreeEntry) (e : TreeEntry) (i : ℕ) → has_byte 47 e.name ≡ false → i < length es → HoldsAt (λ x. by_bytes (sort_key x) (file_key e.name) ≡ Equal) es i
    → AllOther es e → ⊥
found_no_new [] e i plain short found other = absurd (omega arith)
found_no_new (x ∷ es) e zero plain short found other =
    other.0 (name_of_key x.mode e.name x.name plain (slice_cmp-IsAntisymmetric nat_cmp-IsAntisymmetric (sort_key x) (file_key e.name) (found x)))
found_no_new (x ∷ es) e (suc i) plain short found other = found_no_new es e i plain (omega arith) (λ d. found d) other.1

none_equal : (es : List TreeEntry) (e : TreeEntry) → AllLess es e → ((k : ℕ) (d : TreeEntry) → k < length es → by_bytes (sort_key (slice_index_or es k d)) (file_key e.name) ≢ Equal)
    → AllOther es e
none_equal [] e less none = tt
none_equal (x ∷ es) e less none = (
  (λ same.
      let at_name : by_bytes (e.name ++ key_end x.mode) (e.name ++ key_end e.mode) ≡ Less =
      subst (λ (name : List ℕ). by_bytes (name ++ key_end x.mode) (e.name ++ key_end e.mode) ≡ Less) same less.0 in
      none 0 x (omega arith) (subst (λ (name : List ℕ). by_bytes (name ++ key_end x.mode) (file_key e.name) ≡ Equal) (sym same) (key_of_name x.mode e.mode e.name at_name))),
  none_equal es e less.1 (λ k d short. none (suc k) d (omega arith)),
)

less_is_not_equal : (o : Ordering) → o ≡ Less → o ≢ Equal
less_is_not_equal o less equal = cc

greater_is_not_equal : (o : Ordering) → o ≡ Greater → o ≢ Equal
greater_is_not_equal o greater equal = cc

-- where no key is the name, no entry has the name
pub not_found_new : (es : List TreeEntry) (e : TreeEntry) (i : ℕ) → AllLess es e
    → AllWithin (λ x. by_bytes (sort_key x) (file_key e.name) ≡ Less) es 0 i → AllWithin (λ x. by_bytes (sort_key x) (file_key e.name) ≡ Greater) es i (length es) → AllOther es e
not_found_new es e i less below above = none_equal es e less (λ k d short. elim (cases_lt k i) [
  | inl before ↦ less_is_not_equal _ (below k d (omega arith) before)
  | inr after ↦ greater_is_not_equal _ (above k d after short)
])
