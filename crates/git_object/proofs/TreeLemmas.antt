-- The entries of a tree: read in one way, and in order.
use Rattle.std.proofs.Common.{◌≡◌, ◌≢◌, ℕ, ◌-◌, ◌<◌, Bool, true, false, List, [], ◌∷◌, ◌++◌, length, slice_index, refl, sym, ap, subst, ◌∙◌, append_assoc, arith, length-append}
use Rattle.std.specs.Prelude.{Some, slice_get, IsTrue, if◌then◌else◌, nat_eq}
use Rattle.std.specs.List.{AllByRecursion}
use Rattle.std.specs.Ordering.{is_lt}
use Rattle.std.specs.declared.cmp.Ordering.{Ordering}
use Rattle.std.specs.declared.cmp.Ordering.TheVariants.{Less, Equal, Greater}
use Rattle.std.proofs.lemmas.Cmp.{nat_list_cmp_total}
use Rattle.octets.specs.BytesMap.{by_bytes}
use Rattle.text_reader.specs.Line.{has_byte}
use Rattle.text_reader.proofs.Unique.{same_fronts, same_until}
use Rattle.git_object.specs.Ids.{IsId}
use Rattle.git_object.specs.Modes.{mode_text}
use Rattle.git_object.specs.Trees.{AreEntries, AreInOrder, AreWellFormed, HasFirstEntry, IsEntryName, IsTreeFault, IsTreeFront, IsTreeText, Precedes, entries_text, entry_text, sort_key}
use Rattle.git_object.specs.EntryParts.{AllLess, AllPrecede}
use Rattle.git_object.specs.declared.modes.Mode.{Mode}
use Rattle.git_object.specs.declared.modes.Mode.TheVariants.{Dir, File, Exec, Link, Module}
use Rattle.git_object.specs.declared.trees.Tree.{Tree}
use Rattle.git_object.specs.declared.trees.TreeEntry.{TreeEntry}
use Rattle.git_object.proofs.Runs.{all_front, all_last, all_push, flat_push, one_run}

no_more : (xs : List ℕ) → xs ++ [] ≡ xs
no_more [] = refl
no_more (x ∷ xs) = ap (λ (rest : List ℕ). x ∷ rest) (no_more xs)

-- ---- one entry

-- the mode of the second and the fourth digit
mode_of : ℕ → ℕ → Mode
mode_of b d = if nat_eq d 54 then File else if nat_eq d 55 then Exec else if nat_eq b 50 then Link else if nat_eq b 54 then Module else Dir

digits_tell : (mode : Mode) → mode_of (slice_index (mode_text mode) 1) (slice_index (mode_text mode) 3) ≡ mode
unfolding mode_of
digits_tell Dir = refl
digits_tell File = refl
digits_tell Exec = refl
digits_tell Link = refl
digits_tell Module = refl

mode_has_no_space : (mode : Mode) → has_byte 32 (mode_text mode) ≡ false
mode_has_no_space Dir = refl
mode_has_no_space File = refl
mode_has_no_space Exec = refl
mode_has_no_space Link = refl
mode_has_no_space Module = refl

pub same_mode : (m n : Mode) (x y : List ℕ) → mode_text m ++ 32 ∷ x ≡ mode_text n ++ 32 ∷ y → (m ≡ n) × (x ≡ y)
same_mode m n x y e =
    let words = same_until 32 (mode_text m) (mode_text n) x y (mode_has_no_space m) (mode_has_no_space n) e in
    (sym (digits_tell m) ∙ ap (λ (word : List ℕ). mode_of (slice_index word 1) (slice_index word 3)) words.0 ∙ digits_tell n, words.1)

-- an entry and what follows it
pub entry_then : (e : TreeEntry) (more : List ℕ) → entry_text e ++ more ≡ mode_text e.mode ++ 32 ∷ (e.name ++ 0 ∷ (e.id ++ more))
unfolding entry_text
entry_then e more =
    append_assoc (mode_text e.mode) (32 ∷ (e.name ++ 0 ∷ e.id)) more ∙ ap (λ (rest : List ℕ). mode_text e.mode ++ 32 ∷ rest) (append_assoc e.name (0 ∷ e.id) more)

-- an entry that was added in five pieces
pub entry_added : (text : List ℕ) (e : TreeEntry) (a b c d f : List ℕ) → a ≡ text ++ mode_text e.mode → b ≡ a ++ 32 ∷ [] → c ≡ b ++ e.name → d ≡ c ++ 0 ∷ [] → f ≡ d ++ e.id → f ≡ text ++ entry_text e
unfolding entry_text
entry_added text e a b c d f first second third fourth fifth =
    fifth ∙ (λ i. (fourth i) ++ e.id) ∙ (λ i. (third i ++ 0 ∷ []) ++ e.id) ∙ (λ i. ((second i ++ e.name) ++ 0 ∷ []) ++ e.id) ∙ (λ i. (((first i ++ 32 ∷ []) ++ e.name) ++ 0 ∷ []) ++ e.id)
    ∙ regroup text (mode_text e.mode) (32 ∷ []) e.name (0 ∷ []) e.id
  where
    regroup : (t m s n z i : List ℕ) → ((((t ++ m) ++ s) ++ n) ++ z) ++ i ≡ t ++ (m ++ (s ++ (n ++ (z ++ i))))
    regroup t m s n z i = simp append_assoc

-- an entry is not empty
pub entry_shorter : (e : TreeEntry) (more text : List ℕ) → text ≡ entry_text e ++ more → length more < length text
entry_shorter e more text same =
    omega (arith, ap length (same ∙ entry_then e more), length-append (mode_text e.mode) (32 ∷ (e.name ++ 0 ∷ (e.id ++ more))), length-append e.name (0 ∷ (e.id ++ more)), length-append e.id more)

pub same_entry : (e f : TreeEntry) (x y : List ℕ) → has_byte 0 e.name ≡ false → has_byte 0 f.name ≡ false → IsId e.id → IsId f.id
    → entry_text e ++ x ≡ entry_text f ++ y → (e ≡ f) × (x ≡ y)
same_entry e f x y ne nf first second same =
    let modes = same_mode e.mode f.mode (e.name ++ 0 ∷ (e.id ++ x)) (f.name ++ 0 ∷ (f.id ++ y)) (sym (entry_then e x) ∙ same ∙ entry_then f y) in
    let names = same_until 0 e.name f.name (e.id ++ x) (f.id ++ y) ne nf modes.1 in
    let ids = same_fronts e.id f.id x y (first.length ∙ sym second.length) names.1 in
    (λ i. record { mode = modes.0 i; name = names.0 i; id = ids.0 i }, ids.1)

-- ---- order

-- entries in order, and one that comes after all of them
pub order_push : (es : List TreeEntry) (e : TreeEntry) → AreInOrder es → AllPrecede es e → AreInOrder (es ++ e ∷ [])
order_push [] e ordered all = (tt, tt)
order_push (x ∷ es) e ordered all = (all_push (Precedes x) es e ordered.0 all.0, order_push es e ordered.1 all.1)

pub order_front : (es fs : List TreeEntry) → AreInOrder (es ++ fs) → AreInOrder es
order_front [] fs ordered = tt
order_front (x ∷ es) fs ordered = (all_front (Precedes x) es fs ordered.0, order_front es fs ordered.1)

pub order_last : (es : List TreeEntry) (e : TreeEntry) → AreInOrder (es ++ e ∷ []) → AllPrecede es e
order_last [] e ordered = tt
order_last (x ∷ es) e ordered = (all_last (Precedes x) es e ordered.0, order_last es e ordered.1)

is_less : (o : Ordering) → is_lt o ≡ true → o ≡ Less
is_less Less e = refl
is_less Equal e = cc
is_less Greater e = cc

-- what holds of all holds of the last
at_last : (P : TreeEntry → Type 0) (x : TreeEntry) (es : List TreeEntry) (l : TreeEntry) → AllByRecursion P (x ∷ es) → Some l ≡ slice_get (x ∷ es) (length es) → P l
at_last P x [] l all e = let same : l ≡ x = cc in subst P (sym same) all.0
at_last P x (y ∷ es) l all e = at_last P y es l all.1 e

less_than_last : (x : TreeEntry) (es : List TreeEntry) (l e : TreeEntry) → AreInOrder (x ∷ es) → Some l ≡ slice_get (x ∷ es) (length es)
    → by_bytes (sort_key l) (sort_key e) ≡ Less → AllLess (x ∷ es) e
less_than_last x [] l e ordered last less =
    let same : l ≡ x = cc in
    (ap (λ (f : TreeEntry). by_bytes (sort_key f) (sort_key e)) (sym same) ∙ less, tt)
less_than_last x (y ∷ es) l e ordered last less = (
  nat_list_cmp_total.trans (sort_key x) (sort_key l) (sort_key e) (at_last (Precedes x) y es l ordered.0 last).rising less,
  less_than_last y es l e ordered.1 last less,
)

-- where entries are in order, the last decides whether all have smaller keys
pub last_decides : (es : List TreeEntry) (l e : TreeEntry) (b : Bool) → AreInOrder es → Some l ≡ slice_get es (length es - 1)
    → b ≡ is_lt (by_bytes (sort_key l) (sort_key e)) → (IsTrue b → AllLess es e) × (AllLess es e → IsTrue b)
last_decides [] l e b ordered last test = absurd (cc)
last_decides (x ∷ es) l e b ordered last test =
    let place : length (x ∷ es) - 1 ≡ length es = omega arith in
    let there : Some l ≡ slice_get (x ∷ es) (length es) = last ∙ ap (slice_get (x ∷ es)) place in
    (λ is. less_than_last x es l e ordered there (is_less (by_bytes (sort_key l) (sort_key e)) (sym test ∙ is)), λ all. test ∙ ap is_lt (at_last (λ f. by_bytes (sort_key f) (sort_key e) ≡ Less) x es l all there))

-- ---- runs of entries

-- entries with one more are well formed exactly where it is well named and each of them may stand before it
pub formed_push : (es : List TreeEntry) (e : TreeEntry) → AreWellFormed es → IsEntryName e.name → AllPrecede es e → AreWellFormed (es ++ e ∷ [])
formed_push es e formed name all = record { named = all_push (λ g. IsEntryName g.name) es e formed.named name; ordered = order_push es e formed.ordered all }

pub formed_last : (es : List TreeEntry) (e : TreeEntry) → AreWellFormed (es ++ e ∷ []) → IsEntryName e.name × AllPrecede es e
formed_last es e formed = (all_last (λ f. IsEntryName f.name) es e formed.named, order_last es e formed.ordered)

pub entries_front : (es fs : List TreeEntry) → AreEntries (es ++ fs) → AreEntries es
entries_front es fs are = record {
  formed = record { named = all_front (λ e. IsEntryName e.name) es fs are.formed.named; ordered = order_front es fs are.formed.ordered };
  ids = all_front (λ e. IsId e.id) es fs are.ids;
}

-- the name and the id of the last
pub name_of_last : (es : List TreeEntry) (e : TreeEntry) → AreEntries (es ++ e ∷ []) → IsEntryName e.name
name_of_last es e are = all_last (λ f. IsEntryName f.name) es e are.formed.named

pub id_of_last : (es : List TreeEntry) (e : TreeEntry) → AreEntries (es ++ e ∷ []) → IsId e.id
id_of_last es e are = all_last (λ f. IsId f.id) es e are.ids

same_last : (es : List TreeEntry) (e f : TreeEntry) (x y : List ℕ) → AreEntries (es ++ e ∷ []) → AreEntries (es ++ f ∷ [])
    → entry_text e ++ x ≡ entry_text f ++ y → (e ≡ f) × (x ≡ y)
same_last es e f x y ae af same =
    same_entry e f x y (name_of_last es e ae).no_zero (name_of_last es f af).no_zero (id_of_last es e ae) (id_of_last es f af) same

-- one entry more
pub entries_push : (es : List TreeEntry) (e : TreeEntry) (body rest more : List ℕ) → IsTreeFront es body rest → IsEntryName e.name → IsId e.id
    → AllPrecede es e → rest ≡ entry_text e ++ more → IsTreeFront (es ++ e ∷ []) body more
entries_push es e body rest more f name id all next = record {
  entries_are = record {
    formed = record { named = all_push (λ g. IsEntryName g.name) es e f.entries_are.formed.named name; ordered = order_push es e f.entries_are.formed.ordered all };
    ids = all_push (λ g. IsId g.id) es e f.entries_are.ids id;
  };
  front = f.front ∙ ap (λ (r : List ℕ). entries_text es ++ r) next ∙ sym (append_assoc (entries_text es) (entry_text e) more) ∙ ap (λ (r : List ℕ). r ++ more) (sym (flat_push entry_text es e));
}

-- the first of some entries, and what follows it
first_of : (e : TreeEntry) (es : List TreeEntry) (body rest : List ℕ) → IsTreeFront (e ∷ es) body rest → HasFirstEntry body
first_of e es body rest f = record {
  first = e;
  rest = entries_text es ++ rest;
  front = record {
    entries_are = entries_front (e ∷ []) es f.entries_are;
    front = f.front ∙ append_assoc (entry_text e) (entries_text es) rest ∙ ap (λ (text : List ℕ). text ++ (entries_text es ++ rest)) (sym (no_more (entry_text e)));
  };
}

-- where one more entry is read, there is a first
pub first_there : (es : List TreeEntry) (e : TreeEntry) (body rest more : List ℕ) → IsTreeFront es body rest → IsEntryName e.name → IsId e.id
    → AllPrecede es e → rest ≡ entry_text e ++ more → HasFirstEntry body
first_there [] e body rest more f name id all next = first_of e [] body more (entries_push [] e body rest more f name id all next)
first_there (x ∷ es) e body rest more f name id all next = first_of x es body rest f

-- an entry that may not stand after those before it is no further one
pub not_next : (es : List TreeEntry) (e : TreeEntry) (rest more : List ℕ) → IsEntryName e.name → IsId e.id → rest ≡ entry_text e ++ more → (AllPrecede es e → ⊥)
    → (f : TreeEntry) (after : List ℕ) → AreEntries (es ++ f ∷ []) → rest ≢ entry_text f ++ after
not_next es e rest more name id there late f after are same =
    let one = same_entry e f more after name.no_zero (name_of_last es f are).no_zero id (id_of_last es f are) (sym there ∙ same) in
    late (subst (AllPrecede es) (sym one.0) (order_last es f are.formed.ordered))

-- an entry is not the empty text
no_entry_in_nothing : (e : TreeEntry) (more : List ℕ) → [] ≢ entry_text e ++ more
no_entry_in_nothing e more same = let short = entry_shorter e more [] same in absurd (omega arith)

-- where an entry is read that may not stand next, the body is first wrong
pub fault_of_order : (es : List TreeEntry) (e : TreeEntry) (body rest more : List ℕ) → IsTreeFront es body rest → IsEntryName e.name → IsId e.id → rest ≡ entry_text e ++ more
    → (AllPrecede es e → ⊥) → IsTreeFault body (length body - length rest)
fault_of_order es e body rest more f name id there late = record {
  entries = es;
  rest = rest;
  front = f;
  place = omega (arith, ap length f.front, length-append (entries_text es) rest);
  left = λ empty. no_entry_in_nothing e more (sym empty ∙ there);
  no_entry = not_next es e rest more name id there late;
}

-- ---- the grammar

pub one_text : (v : Tree) (a b : List ℕ) → IsTreeText v a → IsTreeText v b → a ≡ b
one_text v a b ia ib = ia.text ∙ sym ib.text

pub one_value : (v w : Tree) (text : List ℕ) → IsTreeText v text → IsTreeText w text → v ≡ w
one_value v w text iv iw =
    let run = one_run entry_text AreEntries entries_front same_last [] v.entries w.entries [] [] iv.entries_are iw.entries_are
    (λ e more _ same. no_entry_in_nothing e more same) (λ e more _ same. no_entry_in_nothing e more same)
    (no_more (entries_text v.entries) ∙ sym iv.text ∙ iw.text ∙ sym (no_more (entries_text w.entries))) in
    λ i. record { entries = run.0 i }

pub apart : (v : Tree) (text : List ℕ) (at : ℕ) → IsTreeText v text → IsTreeFault text at → ⊥
apart v text at iv fault =
    let run = one_run entry_text AreEntries entries_front same_last [] v.entries fault.entries [] fault.rest iv.entries_are fault.front.entries_are
    (λ e more _ same. no_entry_in_nothing e more same) fault.no_entry (no_more (entries_text v.entries) ∙ sym iv.text ∙ fault.front.front) in
    fault.left (sym run.1)

pub one_place : (text : List ℕ) (m n : ℕ) → IsTreeFault text m → IsTreeFault text n → m ≡ n
one_place text m n f g =
    let run = one_run entry_text AreEntries entries_front same_last [] f.entries g.entries f.rest g.rest f.front.entries_are g.front.entries_are
    f.no_entry g.no_entry (sym f.front.front ∙ g.front.front) in
    f.place ∙ ap (λ (es : List TreeEntry). length (entries_text es)) run.0 ∙ sym g.place
