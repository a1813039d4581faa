-- What a write of one leaf's byte does to the leaves of a key file.
use Rattle.std.proofs.Common.{◌≡◌, ◌≢◌, ◌<◌, ◌≤◌, ◌+◌, ◌^◌, ℕ, List, [], ◌∷◌, length, take, get_or, inl, inr, sym, ap, ◌∙◌, subst, arith}
use Rattle.std.specs.Prelude.{Option, Some, slice_set}
use Rattle.std.proofs.lemmas.Bool.{cases_eq, cases_lt}
use Rattle.std.proofs.lemmas.List.{ext_get_or, get_or-drop, get_or-set_other, get_or-set_same, get_or-take, get_or_past, length-set, length-take-le}
use Rattle.octets.specs.Content.{Told}
use Rattle.edge_io.specs.Disk.{Only, Torn, Written}
use Rattle.lms_keys.specs.HssSecret.{Secret, height_of}
use Rattle.leaf_journal.specs.KeyFile.{IsHeader, IsKeyFile, IsUsedFrom, KeepsUsed, Used, UsedInAll, start_in, start_of}
use Rattle.leaf_journal.specs.Runs.{Marks, Opens}
use Rattle.leaf_journal.specs.Signing.{Covers, IsLeast, IsLoaded, IsMarked, IsTornImage, Signing, marking}
use Rattle.leaf_journal.proofs.Fronts.{header_moves, start_is, start_least, start_same}
use Rattle.leaf_journal.proofs.Writing.{written_one}

-- a byte that is not zero is there
pub within : (xs : List ℕ) (i : ℕ) → get_or xs i 0 ≢ 0 → i < length xs
within xs i used = elim (cases_lt i (length xs)) [
  | inl below ↦ below
  | inr past ↦ absurd (used (get_or_past xs i 0 past))
]

-- a leaf's byte stands behind the header
pub byte_is : (file : List ℕ) (secret : Secret) (q : ℕ) → IsKeyFile file secret → get_or file (start_in file + q) 0 ≡ get_or file (start_of secret.below + q) 0
byte_is file secret q is = ap (λ (s : ℕ). get_or file (s + q) 0) (start_is file secret is.header)

-- a used leaf is one of the key's
pub is_leaf : (file : List ℕ) (secret : Secret) (q : ℕ) → IsKeyFile file secret → Used file q → q < 2 ^ height_of secret
is_leaf file secret q is used =
    let there : start_of secret.below + q < length file = within file (start_of secret.below + q) (λ none. used (byte_is file secret q is ∙ none)) in
    omega (arith, is.size, there)

-- another byte is as it was
elsewhere : (was now : List ℕ) (at p : ℕ) → Torn at 1 was now → p ≢ at → p < length was → get_or now p 0 ≡ get_or was p 0
elsewhere was now at p torn other low = elim (cases_lt p at) [
  | inl before ↦ torn.below p low before
  | inr after ↦ torn.above p low (omega (arith, after, other))
]

-- what stands before the place is as it was
same_front : (n at : ℕ) (was now : List ℕ) → n ≤ at → n ≤ length was → Torn at 1 was now → take n was ≡ take n now
same_front n at was now low long torn =
    let one : length (take n was) ≡ n = length-take-le n was long in
    let two : length (take n now) ≡ n = length-take-le n now (omega (arith, long, torn.no_shorter)) in
    ext_get_or 0 (take n was) (take n now) (one ∙ sym two) (λ i less.
    let below : i < n = omega (arith, less, one) in
    get_or-take n was i 0 below ∙ sym (torn.below i (omega (arith, below, long)) (omega (arith, below, low))) ∙ sym (get_or-take n now i 0 below))

-- and so is the place where leaves begin
torn_start : (at : ℕ) (was now : List ℕ) → 64 ≤ at → 64 ≤ length was → Torn at 1 was now → start_in was ≡ start_in now
torn_start at was now low long torn = start_same was now (same_front 8 at was now (omega (arith, low)) (omega (arith, long)) torn)

torn_covers : (signing : Signing) (was now : List ℕ) (leaf : ℕ) → leaf < length signing.marks → length signing.marks ≡ 2 ^ height_of signing.secret
    → Covers signing was → Torn (start_of signing.secret.below + leaf) 1 was now → Covers (marking signing leaf) now
torn_covers signing was now leaf low each covers torn =
    let s : ℕ = start_of signing.secret.below in
    let least : 64 ≤ s = start_least signing.secret.below in
    let size : length was ≡ s + 2 ^ height_of signing.secret = covers.is.size in
    let inside : s + leaf < length was = omega (arith, size, low, each) in
    let same : length now ≡ length was = omega (arith, torn.no_shorter, torn.no_longer, inside) in
    let front : take s was ≡ take s now = same_front s (s + leaf) was now (omega arith) (omega (arith, inside)) torn in
    let header : IsHeader now signing.secret = header_moves was now signing.secret front (omega (arith, same, inside)) covers.is.header in
    let is : IsKeyFile now signing.secret = record { header = header; size = same ∙ size } in
    record {
      is = is;
      used = λ q least used. elim (cases_eq q leaf) [
        | inl one ↦ λ none. (let set : get_or (slice_set signing.marks leaf 1) q 0 ≡ 1 = ap (λ (k : ℕ). get_or (slice_set signing.marks leaf 1) k 0) one ∙ get_or-set_same signing.marks leaf 1 0 low in omega (arith, none, set))
        | inr other ↦ λ none. (
            let here : get_or now (s + q) 0 ≢ 0 = λ zero. used (byte_is now signing.secret q is ∙ zero) in
            let there : s + q < length was = omega (arith, within now (s + q) here, same) in
            let apart : s + q ≢ s + leaf = λ e. other (omega (arith, e)) in
            let before : Used was q = λ zero. here (elsewhere was now (s + leaf) (s + q) torn apart there ∙ sym (byte_is was signing.secret q covers.is) ∙ zero) in
            let small : q < length signing.marks = omega (arith, there, size, each) in
            covers.used q small before (sym (get_or-set_other signing.marks leaf q 1 0 other) ∙ none))
      ];
    }

pub torn_covers_from : (start : ℕ) (signing : Signing) (was now : List ℕ) (leaf : ℕ) → start ≡ start_of signing.secret.below → leaf < length signing.marks → length signing.marks ≡ 2 ^ height_of signing.secret
    → Covers signing was → Torn (start + leaf) 1 was now → Covers (marking signing leaf) now
torn_covers_from start signing was now leaf begins low each covers torn =
    torn_covers signing was now leaf low each covers (subst (λ (s : ℕ). Torn (s + leaf) 1 was now) begins torn)

-- a leaf that is used in all outcomes is used in what is read, and so marked
used_is_marked : (signing : Signing) (file : List ℕ) (q : ℕ) → length signing.marks ≡ 2 ^ height_of signing.secret → Covers signing file → Used file q → IsMarked signing.marks q
used_is_marked signing file q each covers used = covers.used q (omega (arith, is_leaf file signing.secret q covers.is used, each)) used

-- what was used in all outcomes stays used, whatever is left of the write
keeps_used : (signing : Signing) (leaf : ℕ) (seen : Option (List ℕ)) (images : List ℕ → Type 0) → IsLeast signing.marks leaf → length signing.marks ≡ 2 ^ height_of signing.secret
    → ((file : List ℕ) → seen ≡ Some file → Covers signing file) → ((bytes : List ℕ) → seen ≡ Some bytes → images bytes)
    → ((c : List ℕ) → images c → (bytes : List ℕ) × (seen ≡ Some bytes)) → (c : List ℕ) → IsTornImage (start_of signing.secret.below + leaf) 1 images c → KeepsUsed images c
keeps_used signing leaf seen images free each covers stays told c (inl may) start q used = used c may
keeps_used signing leaf seen images free each covers stays told c (inr step) start q used =
    let s : ℕ = start_of signing.secret.below in
    let low : 64 ≤ s = start_least signing.secret.below in
    let bytes = told step.0 step.1 in
    let held : Covers signing bytes.0 = covers bytes.0 bytes.1 in
    let here : IsUsedFrom start bytes.0 q = used bytes.0 (stays bytes.0 bytes.1) in
    let begins : start ≡ s = sym here.begins ∙ start_is bytes.0 signing.secret held.is.header in
    let marked = used_is_marked signing bytes.0 q each held here.used in
    let other : q ≢ leaf = λ same. marked (ap (λ (k : ℕ). get_or signing.marks k 0) same ∙ free.free) in
    let before : IsUsedFrom start step.0 q = used step.0 step.1 in
    let place : start_in step.0 + q ≡ s + q = ap (λ (k : ℕ). k + q) (before.begins ∙ begins) in
    let byte : get_or step.0 (s + q) 0 ≢ 0 = λ zero. before.used (ap (λ (k : ℕ). get_or step.0 k 0) place ∙ zero) in
    let there : s + q < length step.0 = within step.0 (s + q) byte in
    let moved : start_in step.0 ≡ start_in c = torn_start (s + leaf) step.0 c (omega (arith, low)) (omega (arith, there, low)) step.2 in
    let apart : s + q ≢ s + leaf = λ e. other (omega (arith, e)) in
    record {
      begins = sym moved ∙ before.begins;
      used = λ zero. byte (sym (elsewhere step.0 c (s + leaf) (s + q) step.2 apart there) ∙ ap (λ (k : ℕ). get_or c k 0) (sym place ∙ ap (λ (k : ℕ). k + q) moved) ∙ zero);
    }

pub keeps_used_from : (start : ℕ) (signing : Signing) (leaf : ℕ) (seen : Option (List ℕ)) (images : List ℕ → Type 0) → start ≡ start_of signing.secret.below → IsLeast signing.marks leaf
    → length signing.marks ≡ 2 ^ height_of signing.secret
    → ((file : List ℕ) → seen ≡ Some file → Covers signing file) → ((bytes : List ℕ) → seen ≡ Some bytes → images bytes)
    → ((c : List ℕ) → images c → (bytes : List ℕ) × (seen ≡ Some bytes)) → (c : List ℕ) → IsTornImage (start + leaf) 1 images c → KeepsUsed images c
keeps_used_from start signing leaf seen images begins free each covers stays told c torn =
    keeps_used signing leaf seen images free each covers stays told c (subst (λ (s : ℕ). IsTornImage (s + leaf) 1 images c) begins torn)

mark_is : (file : List ℕ) (signing : Signing) (q : ℕ) → IsLoaded file signing → get_or signing.marks q 0 ≡ get_or file (start_in file + q) 0
mark_is file signing q loaded =
    ap (λ (l : List ℕ). get_or l q 0) loaded.marked ∙ get_or-drop (start_of signing.secret.below) file q 0 ∙ sym (byte_is file signing.secret q loaded.is)

-- a signer that was loaded has each used leaf marked
pub loaded_covers : (signing : Signing) (file : List ℕ) → IsLoaded file signing → Covers signing file
loaded_covers signing file loaded = record {
  is = loaded.is;
  used = λ q low used none. used (sym (mark_is file signing q loaded) ∙ none);
}

-- where a leaf's byte was written and synced, the leaf is used in what a crash may leave
pub used_in_all : (start : ℕ) (signing : Signing) (images : List ℕ → Type 0) (was now : Option (List ℕ)) (leaf : ℕ) → start ≡ start_of signing.secret.below
    → ((file : List ℕ) → now ≡ Some file → Only file images) → ((c : List ℕ) → images c → (bytes : List ℕ) × (now ≡ Some bytes))
    → ((file : List ℕ) → now ≡ Some file → Covers (marking signing leaf) file) → Told (Written (start + leaf) (1 ∷ [])) was now → UsedInAll images leaf
used_in_all start signing images was now leaf begins only told covers written = record {
  start = start_of signing.secret.below;
  all = λ c may.
      let file = told c may in
      let same : c ≡ file.0 = only file.0 file.1 c may in
      let key : IsKeyFile c signing.secret = subst (λ (l : List ℕ). IsKeyFile l signing.secret) (sym same) (covers file.0 file.1).is in
      let before = written file.0 file.1 in
      let set : get_or file.0 (start + leaf) 0 ≡ 1 = written_one (start + leaf) before.0 file.0 before.2 in
      let one : get_or c (start_of signing.secret.below + leaf) 0 ≡ 1 = ap (λ (l : List ℕ). get_or l (start_of signing.secret.below + leaf) 0) same ∙ ap (λ (s : ℕ). get_or file.0 (s + leaf) 0) (sym begins) ∙ set in
      record {
        begins = start_is c signing.secret key.header;
        used = λ zero. (let none : get_or c (start_of signing.secret.below + leaf) 0 ≡ 0 = sym (byte_is c signing.secret leaf key) ∙ zero in omega (arith, one, none));
      };
}

module _ {D : Type 0} (may_leave : D → List ℕ → Type 0) where
  -- a signer that was loaded is one that was opened
  pub opens : (old new : D) (file : List ℕ) (signing : Signing) → ((c : List ℕ) → may_leave new c → may_leave old c) → may_leave new file → IsLoaded file signing
      → Opens (λ (d : D) (q : ℕ). UsedInAll (may_leave d) q) old new signing.marks
  opens old new file signing less here loaded = record {
    kept = λ q used. record { start = used.start; all = λ c may. used.all c (less c may) };
    covered = λ q used zero. (used.all file here).used (sym (mark_is file signing q loaded) ∙ zero);
  }

  -- a leaf that was to sign is marked
  pub marks : (old new : D) (file : List ℕ) (signing : Signing) (leaf : ℕ) → IsLeast signing.marks leaf → length signing.marks ≡ 2 ^ height_of signing.secret
      → ((c : List ℕ) → may_leave new c → KeepsUsed (may_leave old) c) → may_leave new file → Covers (marking signing leaf) file
      → Marks (λ (d : D) (q : ℕ). UsedInAll (may_leave d) q) old new signing.marks leaf
  marks old new file signing leaf least each keeps here covers = record {
    least = least;
    kept = λ k used. record { start = used.start; all = λ c may. keeps c may used.start k used.all };
    covered = λ k used. (
        let there : Used file k = (used.all file here).used in
        inr (covers.used k (omega (arith, is_leaf file signing.secret k covers.is there, each, length-set signing.marks leaf 1)) there));
  }
