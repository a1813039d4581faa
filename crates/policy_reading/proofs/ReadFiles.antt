-- Which file of a directory is a policy's, and what it is read as.
use Rattle.std.proofs.Common.{◌≡◌, ◌+◌, ◌-◌, ◌≤◌, ◌++◌, ◌&&◌, ℕ, Bool, true, false, List, [], ◌∷◌, Option, Some, None, Result, Ok, Err, refl, sym, ap, subst, ◌∙◌, inl, inr, arith, length, take, drop, take-append-drop, length-append}
use Rattle.std.specs.Prelude.{◌⊎◌, ◌↔◌, codes, nat_le, option_and_then}
use Rattle.std.specs.Bool.{nat_eq}
use Rattle.std.specs.FinMap.{get}
use Rattle.std.specs.List.{AllByRecursion, ends_with, find}
use Rattle.std.specs.Option.{option_map}
use Rattle.std.specs.Result.{result_ok}
use Rattle.std.specs.Str.{bytes_eq}
use Rattle.std.specs.Cmp.Derive.{both_true}
use Rattle.std.specs.Cmp.Lexicographic.{same_text}
use Rattle.std.proofs.Math.Seq.{drop-append_seam, take-append_seam}
use Rattle.std.proofs.lemmas.Bool.{and_parts, false≢true, le-leb, leb-true}
use Rattle.std.proofs.lemmas.Slice.Eq.{bytes_eq-Decides}
use Rattle.git_object.specs.Objects.{Pair, pair_id}
use Rattle.git_object.specs.Repository.{HasObject, IsObject, Repository, if_own, largest_body, object_at, own_pair}
use Rattle.git_object.specs.Trees.{AreInOrder, Precedes}
use Rattle.git_object.specs.declared.kinds.Kind.{Kind}
use Rattle.git_object.specs.declared.kinds.Kind.TheVariants as kind
use Rattle.git_object.specs.declared.modes.Mode.{Mode}
use Rattle.git_object.specs.declared.modes.Mode.TheVariants.{Dir, Exec, File, Link, Module}
use Rattle.git_object.specs.declared.trees.TreeEntry.{TreeEntry}
use Rattle.git_object.proofs.ObjectAt.{object_there}
use Rattle.tree_paths.specs.Leading.{Among}
use Rattle.dsse_envelope.specs.Envelopes as envelopes
use Rattle.dsse_envelope.specs.declared.envelope.Envelope.{Envelope}
use Rattle.root_metadata.specs.Roots as roots
use Rattle.root_metadata.specs.Shapes.{only_if}
use Rattle.root_metadata.specs.declared.roots.Root.{Root}
use Rattle.rule_files.specs.Files as texts
use Rattle.rule_files.specs.declared.rules.RuleFile.{RuleFile}
use Rattle.policy_epochs.specs.declared.faults.PolicyFault.{PolicyFault}
use Rattle.policy_epochs.specs.declared.faults.PolicyFault.TheVariants.{BadFile}
use Rattle.policy_reading.specs.Metadata.{is_called, is_file, is_policy_file, stem_of}
use Rattle.policy_reading.specs.Signed.{envelope_in, file_in, of_stem, of_type, payload_type, put_first, read_files, root_at, root_in, rule_file_at, with_root}
use Rattle.tree_paths.specs.Blobs.{blob_at, is_blob, is_small_blob, small_blob}
use Rattle.policy_reading.specs.Valid.{AreRead, IsEnvelopeAt, IsFileOf, IsRootAt, IsRuleFileAt}
use Rattle.policy_reading.specs.declared.found_files.FileAt.{FileAt}
use Rattle.policy_reading.specs.declared.signed_files.SignedFile.{SignedFile}
use Rattle.policy_reading.specs.declared.signed_files.SignedRoot.{SignedRoot}
use Rattle.policy_reading.proofs.Holders.{found_there, only_found}

-- ---- options

then_some : {A B : Type 0} (f : A → Option B) (o : Option A) (y : B) → option_and_then f o ≡ Some y → (x : A) × (o ≡ Some x) × (f x ≡ Some y)
then_some f None y e = absurd (let clash : None ≡ Some y = e in cc)
then_some f (Some x) y e = (x, refl, e)

map_some : {A B : Type 0} (f : A → B) (o : Option A) (y : B) → option_map f o ≡ Some y → (x : A) × (o ≡ Some x) × (f x ≡ y)
map_some f None y e = absurd (let clash : None ≡ Some y = e in cc)
map_some f (Some x) y e = let same : f x ≡ y = cc in (x, refl, same)

only_some : {A : Type 0} (b : Bool) (x y : A) → only_if b x ≡ Some y → (b ≡ true) × (x ≡ y)
only_some true x y e = let same : x ≡ y = cc in (refl, same)
only_some false x y e = absurd (let clash : None ≡ Some y = e in cc)

some_only : {A : Type 0} (b : Bool) (x : A) → b ≡ true → only_if b x ≡ Some x
some_only b x is = ap (λ (c : Bool). only_if c x) is

ok_some : {A E : Type 0} (o : Result A E) (x : A) → result_ok o ≡ Some x → o ≡ Ok x
ok_some (Ok y) x e = let same : y ≡ x = cc in ap Ok same
ok_some (Err why) x e = absurd (let clash : None ≡ Some x = e in cc)

-- ---- names

is_a_file : (mode : Mode) → is_file mode ≡ true → (mode ≡ File) ⊎ (mode ≡ Exec)
is_a_file File e = inl refl
is_a_file Exec e = inr refl
is_a_file Dir e = absurd (false≢true e)
is_a_file Link e = absurd (false≢true e)
is_a_file Module e = absurd (false≢true e)

a_file_is : (mode : Mode) → (mode ≡ File) ⊎ (mode ≡ Exec) → is_file mode ≡ true
a_file_is mode (inl is) = ap is_file is
a_file_is mode (inr is) = ap is_file is

ends_named : (stem name : List ℕ) → ends_with nat_eq name (codes ".json") ≡ true → stem_of name ≡ stem → name ≡ stem ++ codes ".json"
ends_named stem name ends is =
    sym (take-append-drop (length name - 5) name)
    ∙ ap (λ (front : List ℕ). front ++ drop (length name - 5) name) is
    ∙ ap (λ (back : List ℕ). stem ++ back) (sym (same_text (codes ".json") (drop (length name - 5) name) (sym ends)))

front_of : (stem : List ℕ) → length (stem ++ codes ".json") - 5 ≡ length stem
front_of stem = let e : length (stem ++ codes ".json") ≡ length stem + 5 = length-append stem (codes ".json") in omega (arith, e)

named_ends : (stem : List ℕ) → ends_with nat_eq (stem ++ codes ".json") (codes ".json") ≡ true
named_ends stem =
    let back : drop (length (stem ++ codes ".json") - 5) (stem ++ codes ".json") ≡ codes ".json" =
    ap (λ (n : ℕ). drop n (stem ++ codes ".json")) (front_of stem) ∙ drop-append_seam stem (codes ".json") in
    ap (λ (text : List ℕ). bytes_eq (codes ".json") text) back

named_stem : (stem : List ℕ) → stem_of (stem ++ codes ".json") ≡ stem
named_stem stem = ap (λ (n : ℕ). take n (stem ++ codes ".json")) (front_of stem) ∙ take-append_seam stem (codes ".json")

all_among : {X : Type 0} (P : X → Type 0) (xs : List X) (x : X) → AllByRecursion P xs → Among x xs → P x
all_among P [] x all there = absurd there
all_among P (y ∷ ys) x all there = elim there [ inl here ↦ subst P here all.0 | inr later ↦ all_among P ys x all.1 later ]

-- each name stands once
one_entry : (entries : List TreeEntry) (a b : TreeEntry) → AreInOrder entries → Among a entries → Among b entries → a.name ≡ b.name → a ≡ b
one_entry [] a b order first second same = absurd first
one_entry (e ∷ es) a b order first second same = elim first [
  | inl here ↦ elim second [
    | inl there ↦ sym here ∙ there
    | inr later ↦ absurd ((all_among (Precedes e) es b order.0 later).other (ap (λ (x : TreeEntry). x.name) here ∙ same))
  ]
  | inr late ↦ elim second [
    | inl there ↦ absurd ((all_among (Precedes e) es a order.0 late).other (ap (λ (x : TreeEntry). x.name) there ∙ sym same))
    | inr later ↦ one_entry es a b order.1 late later same
  ]
]

module _ (entries : List TreeEntry) (stem : List ℕ) where
  called_is : (entry : TreeEntry) → Among entry entries → is_called stem entry ≡ true → IsFileOf entries stem entry
  called_is entry there called =
      let parts = and_parts (is_policy_file entry) (bytes_eq (stem_of entry.name) stem) called in
      let file = and_parts (is_file entry.mode) (ends_with nat_eq entry.name (codes ".json")) parts.0 in
      record { there = there; mode = is_a_file entry.mode file.0; named = ends_named stem entry.name file.1 ((bytes_eq-Decides (stem_of entry.name) stem).0 parts.1) }

  is_called_so : (entry : TreeEntry) → IsFileOf entries stem entry → is_called stem entry ≡ true
  is_called_so entry is =
      both_true (both_true (a_file_is entry.mode is.mode) (ap (λ (name : List ℕ). ends_with nat_eq name (codes ".json")) is.named ∙ named_ends stem))
      ((bytes_eq-Decides (stem_of entry.name) stem).1 (ap stem_of is.named ∙ named_stem stem))

  pub called_where : AreInOrder entries → (entry : TreeEntry) → (find (is_called stem) entries ≡ Some entry) ↔ IsFileOf entries stem entry
  called_where order entry = (
    λ e. let found = found_there (is_called stem) entries entry e in called_is entry found.there found.passes,
    λ is.
        only_found (is_called stem) entries entry is.there (is_called_so entry is)
        (λ other there called. let same = called_is other there called in one_entry entries other entry order there is.there (same.named ∙ sym is.named)),
  )

-- ---- envelopes

object_has : (r : Repository) (id : List ℕ) (pair : Pair) → object_at r id ≡ Some pair → HasObject r id pair
object_has r id pair e =
    let kept = then_some (own_pair id) (get r.objects id) pair e in
    by_own kept.0 kept.1 (bytes_eq (pair_id kept.0) id && nat_le (length kept.0.body) largest_body) refl kept.2
  where
    by_own : (found : Pair) → get r.objects id ≡ Some found → (b : Bool) → (bytes_eq (pair_id found) id && nat_le (length found.body) largest_body) ≡ b → if_own b found ≡ Some pair → HasObject r id pair
    by_own found kept true own f =
        let same : found ≡ pair = cc in
        let parts = and_parts (bytes_eq (pair_id found) id) (nat_le (length found.body) largest_body) own in
        let is : IsObject id found = record { own = (bytes_eq-Decides (pair_id found) id).0 parts.0; small = leb-true (length found.body) largest_body parts.1 } in
        record { kept = kept ∙ ap Some same; is = subst (IsObject id) same is }
    by_own found kept false own f = absurd (let clash : None ≡ Some pair = f in cc)

is_a_blob : (k : Kind) → is_blob k ≡ true → k ≡ kind.Blob
is_a_blob kind.Blob e = refl
is_a_blob kind.Tree e = absurd (false≢true e)
is_a_blob kind.Commit e = absurd (false≢true e)
is_a_blob kind.Tag e = absurd (false≢true e)

-- the bytes of a small blob
record IsText (r : Repository) (id text : List ℕ) : Type 0 where
  pair : Pair
  has : HasObject r id pair
  blob : pair.kind ≡ kind.Blob
  small : length pair.body ≤ 1048576
  body : pair.body ≡ text

text_is : (r : Repository) (id text : List ℕ) → blob_at r id ≡ Some text → IsText r id text
text_is r id text e =
    let found = then_some small_blob (object_at r id) text e in
    let small = only_some (is_small_blob found.0) found.0.body text found.2 in
    let parts = and_parts (is_blob found.0.kind) (nat_le (length found.0.body) 1048576) small.0 in
    record { pair = found.0; has = object_has r id found.0 found.1; blob = is_a_blob found.0.kind parts.0; small = leb-true (length found.0.body) 1048576 parts.1; body = small.1 }

is_text : (r : Repository) (id : List ℕ) (pair : Pair) → HasObject r id pair → pair.kind ≡ kind.Blob → length pair.body ≤ 1048576 → blob_at r id ≡ Some pair.body
is_text r id pair has blob small =
    ap (option_and_then small_blob) (object_there r id pair has)
    ∙ some_only (is_small_blob pair) pair.body (both_true (ap is_blob blob) (le-leb (length pair.body) 1048576 small))

envelope_of : (text : List ℕ) (envelope : Envelope) → envelope_in text ≡ Some envelope → (envelopes.reading text ≡ Ok envelope) × (envelope.payload_type ≡ payload_type)
unfolding envelope_in
envelope_of text envelope e =
    let found = then_some of_type (result_ok (envelopes.reading text)) envelope e in
    let typed = only_some (bytes_eq found.0.payload_type payload_type) found.0 envelope found.2 in (
      ok_some (envelopes.reading text) found.0 found.1 ∙ ap Ok typed.1,
      ap (λ (x : Envelope). x.payload_type) (sym typed.1) ∙ (bytes_eq-Decides found.0.payload_type payload_type).0 typed.0,
    )

of_envelope : (text : List ℕ) (envelope : Envelope) → envelopes.reading text ≡ Ok envelope → envelope.payload_type ≡ payload_type → envelope_in text ≡ Some envelope
unfolding envelope_in
of_envelope text envelope read typed =
    ap (λ (x : Result Envelope _). option_and_then of_type (result_ok x)) read
    ∙ some_only (bytes_eq envelope.payload_type payload_type) envelope ((bytes_eq-Decides envelope.payload_type payload_type).1 typed)

module _ {A : Type 0} (f : Envelope → Option A) (r : Repository) (id : List ℕ) where
  abbrev read_by : Option (List ℕ) → Option A
  read_by text = option_and_then (λ bytes. option_and_then f (envelope_in bytes)) text

  enveloped : (x : A) → read_by (blob_at r id) ≡ Some x → (envelope : Envelope) × IsEnvelopeAt r id envelope × (f envelope ≡ Some x)
  enveloped x e =
      let found = then_some (λ bytes. option_and_then f (envelope_in bytes)) (blob_at r id) x e in
      let text = text_is r id found.0 found.1 in
      let within = then_some f (envelope_in found.0) x found.2 in
      let is = envelope_of found.0 within.0 within.1 in (
        within.0,
        record { pair = text.pair; has = text.has; blob = text.blob; small = text.small; read = ap envelopes.reading text.body ∙ is.0; typed = is.1 },
        within.2,
      )

  in_envelope : (envelope : Envelope) (x : A) → IsEnvelopeAt r id envelope → f envelope ≡ Some x → read_by (blob_at r id) ≡ Some x
  in_envelope envelope x is value =
      ap read_by (is_text r id is.pair is.has is.blob is.small)
      ∙ ap (option_and_then f) (of_envelope is.pair.body envelope is.read is.typed) ∙ value

-- ---- the root

root_of : (envelope : Envelope) (signed : SignedRoot) → root_in envelope ≡ Some signed → (envelope ≡ signed.envelope) × (roots.reading envelope.payload ≡ Ok signed.root)
unfolding root_in
root_of envelope signed e =
    let found = map_some (λ (root : Root). record { envelope = envelope; root = root }) (result_ok (roots.reading envelope.payload)) signed e in
    (ap (λ (x : SignedRoot). x.envelope) found.2, ok_some (roots.reading envelope.payload) found.0 found.1 ∙ ap (λ (x : SignedRoot). Ok x.root) found.2)

of_root : (signed : SignedRoot) → roots.reading signed.envelope.payload ≡ Ok signed.root → root_in signed.envelope ≡ Some signed
unfolding root_in
of_root signed read = ap (λ (x : Result Root _). with_root signed.envelope (result_ok x)) read

pub root_where : (r : Repository) (id : List ℕ) (signed : SignedRoot) → (root_at r id ≡ Some signed) ↔ IsRootAt r id signed
root_where r id signed = (
  λ e.
      let found = enveloped root_in r id signed e in
      let is = root_of found.0 signed found.2 in
      record { envelope = subst (IsEnvelopeAt r id) is.0 found.1; read = ap (λ (x : Envelope). roots.reading x.payload) (sym is.0) ∙ is.1 },
  λ is. in_envelope root_in r id signed.envelope signed is.envelope (of_root signed is.read),
)

-- ---- rule files

rule_file_of : (stem : List ℕ) (envelope : Envelope) (signed : SignedFile) → file_in stem envelope ≡ Some signed
    → (envelope ≡ signed.envelope) × (texts.reading envelope.payload ≡ Ok signed.file) × (signed.file.name ≡ stem)
unfolding file_in
rule_file_of stem envelope signed e =
    let found = then_some (of_stem stem envelope) (result_ok (texts.reading envelope.payload)) signed e in
    let named = only_some (bytes_eq found.0.name stem) (record { envelope = envelope; file = found.0 }) signed found.2 in (
      ap (λ (x : SignedFile). x.envelope) named.1,
      ok_some (texts.reading envelope.payload) found.0 found.1 ∙ ap (λ (x : SignedFile). Ok x.file) named.1,
      ap (λ (x : SignedFile). x.file.name) (sym named.1) ∙ (bytes_eq-Decides found.0.name stem).0 named.0,
    )

of_rule_file : (stem : List ℕ) (signed : SignedFile) → texts.reading signed.envelope.payload ≡ Ok signed.file → signed.file.name ≡ stem → file_in stem signed.envelope ≡ Some signed
unfolding file_in
of_rule_file stem signed read named =
    ap (λ (x : Result RuleFile _). option_and_then (of_stem stem signed.envelope) (result_ok x)) read
    ∙ some_only (bytes_eq signed.file.name stem) signed ((bytes_eq-Decides signed.file.name stem).1 named)

rule_file_where : (r : Repository) (at : FileAt) (signed : SignedFile) → (rule_file_at r at ≡ Some signed) ↔ IsRuleFileAt r at signed
rule_file_where r at signed = (
  λ e.
      let found = enveloped (file_in at.stem) r at.id signed e in
      let is = rule_file_of at.stem found.0 signed found.2 in
      record { envelope = subst (IsEnvelopeAt r at.id) is.0 found.1; read = ap (λ (x : Envelope). texts.reading x.payload) (sym is.0) ∙ is.1; named = is.2 },
  λ is. in_envelope (file_in at.stem) r at.id signed.envelope signed is.envelope (of_rule_file at.stem signed is.read is.named),
)

put_is : (stem : List ℕ) (found : Option SignedFile) (rest : Result (List SignedFile) PolicyFault) (files : List SignedFile) → put_first stem found rest ≡ Ok files
    → (signed : SignedFile) × (more : List SignedFile) × (found ≡ Some signed) × (rest ≡ Ok more) × (signed ∷ more ≡ files)
put_is stem None rest files e = absurd (let clash : Err (BadFile stem) ≡ Ok files = e in cc)
put_is stem (Some signed) (Err fault) files e = absurd (let clash : Err fault ≡ Ok files = e in cc)
put_is stem (Some signed) (Ok more) files e = let same : signed ∷ more ≡ files = cc in (signed, more, refl, refl, same)

files_read : (r : Repository) (ats : List FileAt) (files : List SignedFile) → read_files r ats ≡ Ok files → AreRead r ats files
files_read r [] [] e = tt
files_read r [] (f ∷ fs) e = absurd (let same : [] ≡ f ∷ fs = cc in let clash : [] ≡ f ∷ fs = same in cc)
files_read r (at ∷ ats) files e =
    let put = put_is at.stem (rule_file_at r at) (read_files r ats) files e in
    subst (AreRead r (at ∷ ats)) put.4 ((rule_file_where r at put.0).0 put.2, files_read r ats put.1 put.3)

read_all : (r : Repository) (ats : List FileAt) (files : List SignedFile) → AreRead r ats files → read_files r ats ≡ Ok files
read_all r [] [] are = refl
read_all r [] (f ∷ fs) are = absurd are
read_all r (at ∷ ats) [] are = absurd are
read_all r (at ∷ ats) (f ∷ fs) are =
    ap (λ (found : Option SignedFile). put_first at.stem found (read_files r ats)) ((rule_file_where r at f).1 are.0)
    ∙ ap (put_first at.stem (Some f)) (read_all r ats fs are.1)

pub read_where : (r : Repository) (ats : List FileAt) (files : List SignedFile) → (read_files r ats ≡ Ok files) ↔ AreRead r ats files
read_where r ats files = (files_read r ats files, read_all r ats files)
