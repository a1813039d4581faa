-- Each body is a commit, a tag, a tree, or is refused at a place.
use Rattle.std.proofs.Common.{◌≡◌, ◌≢◌, ◌⊎◌, inl, inr, ℕ, zero, suc, ◌-◌, ◌<◌, ◌≤◌, ◌==◌, ◌||◌, Bool, true, false, List, [], ◌∷◌, ◌++◌, length, take, drop, refl, sym, ap, subst, ◌∙◌, append_assoc, arith, length-append}
use Rattle.std.specs.Prelude.{codes, slice_index}
use Rattle.std.specs.List.{AllByRecursion}
use Rattle.std.specs.declared.cmp.Ordering.{Ordering}
use Rattle.std.specs.declared.cmp.Ordering.TheVariants.{Less, Equal, Greater}
use Rattle.std.proofs.Math.Nat.{le_refl}
use Rattle.std.proofs.lemmas.Bool.{cases_eq, cases_lt, true≢false}
use Rattle.std.proofs.lemmas.List.{append-nil, take-append-drop, take_at}
use Rattle.hex.specs.Hex.{IsBytes, encode_lower}
use Rattle.octets.specs.BytesMap.{by_bytes}
use Rattle.text_reader.specs.Line.{has_byte}
use Rattle.text_reader.proofs.Unique.{same_front, same_until}
use Rattle.git_object.specs.Commits.{HasParents, IsCommitFault, IsCommitText, parent_line, tree_line}
use Rattle.git_object.specs.EntryParts.{AllPrecede}
use Rattle.git_object.specs.HeaderLines.{id_line, type_line}
use Rattle.git_object.specs.Ids.{IsId}
use Rattle.git_object.specs.Modes.{mode_text}
use Rattle.git_object.specs.Tags.{IsTagFault, IsTagText, object_line}
use Rattle.git_object.specs.Trees.{IsEntryName, IsTreeFault, IsTreeFront, IsTreeText, Precedes, entries_text, entry_text, sort_key}
use Rattle.git_object.specs.declared.commits.Commit.{Commit}
use Rattle.git_object.specs.declared.kinds.Kind.{Kind}
use Rattle.git_object.specs.declared.kinds.Kind.TheVariants as kind
use Rattle.git_object.specs.declared.modes.Mode.{Mode}
use Rattle.git_object.specs.declared.modes.Mode.TheVariants.{Dir, File, Exec, Link, Module}
use Rattle.git_object.specs.declared.tags.Tag.{Tag}
use Rattle.git_object.specs.declared.trees.Tree.{Tree}
use Rattle.git_object.specs.declared.trees.TreeEntry.{TreeEntry}
use Rattle.git_object.proofs.CommitLemmas.{EndsParents, bad_parent_there, commit_there, parents_push}
use Rattle.git_object.proofs.Decisions.{Decided, FirstByte, begins, both, first_byte, id_front, is_empty, is_false, is_text, same_fact}
use Rattle.git_object.proofs.LineLemmas.{id_line_then, line_shorter, same_id}
use Rattle.git_object.proofs.TreeLemmas.{entries_push, entry_shorter, entry_then, fault_of_order, id_of_last, name_of_last, same_mode}

-- ---- the line of an id in front of a text

pub record IdLineFront (word text : List ℕ) : Type 0 where
  pub id : List ℕ
  pub more : List ℕ
  pub is : IsId id
  pub whole : text ≡ id_line word id ++ more

id_line_front : (word text : List ℕ) → Decided (IdLineFront word text)
id_line_front word text = elim (begins word text) [
  | inl front ↦
      let after = λ (h : IdLineFront word text). same_front word front.0 (encode_lower h.id ++ 10 ∷ h.more) (sym front.1 ∙ h.whole ∙ id_line_then word h.id h.more) in
      elim (id_front front.0) [
        | inl found ↦ elim (begins (10 ∷ []) found.more) [
          | inl feed ↦
              let rest : front.0 ≡ encode_lower found.id ++ 10 ∷ feed.0 = found.whole ∙ ap (λ (t : List ℕ). encode_lower found.id ++ t) feed.1 in
              inl (record { id = found.id; more = feed.0; is = found.is; whole = front.1 ∙ ap (λ (t : List ℕ). word ++ t) rest ∙ sym (id_line_then word found.id feed.0) })
          | inr none ↦ inr (λ h. none (h.more, (same_id found.id h.id found.more (10 ∷ h.more) found.is h.is (sym found.whole ∙ after h)).1))
        ]
        | inr none ↦ inr (λ h. none (record { id = h.id; more = 10 ∷ h.more; is = h.is; whole = after h }))
      ]
  | inr none ↦ inr (λ h. none (encode_lower h.id ++ 10 ∷ h.more, h.whole ∙ id_line_then word h.id h.more))
]

-- ---- commits

-- all lines of parents in front of a text, and what follows them
record ParentsRead (text : List ℕ) : Type 0 where
  end : List ℕ
  had : HasParents text end
  ends : EndsParents end

no_more_parents : (text rest : List ℕ) → HasParents text rest → (IdLineFront (codes "parent ") rest → ⊥) → ParentsRead text
no_more_parents text rest had none = record { end = rest; had = had; ends = λ id more is whole. none (record { id = id; more = more; is = is; whole = whole }) }

parents_read : (n : ℕ) (text rest : List ℕ) → length rest ≤ n → HasParents text rest → ParentsRead text
parents_read zero text rest few had = elim (id_line_front (codes "parent ") rest) [
  | inl found ↦ let shorter = line_shorter (codes "parent ") found.id found.more rest found.whole in absurd (omega arith)
  | inr none ↦ no_more_parents text rest had none
]
parents_read (suc n) text rest few had = elim (id_line_front (codes "parent ") rest) [
  | inl found ↦
      let shorter = line_shorter (codes "parent ") found.id found.more rest found.whole in
      parents_read n text found.more (omega arith) (parents_push text rest found.id found.more had found.is found.whole)
  | inr none ↦ no_more_parents text rest had none
]

pub commit_decided : (body : List ℕ) → ((v : Commit) × IsCommitText v body) ⊎ ((at : ℕ) × IsCommitFault body at)
commit_decided body = elim (id_line_front (codes "tree ") body) [
  | inl tree ↦
      let read = parents_read (length tree.more) tree.more tree.more (le_refl (length tree.more)) (record { parents = []; parents_are = tt; front = refl }) in
      elim (begins (codes "parent ") read.end) [
        | inl bad ↦ inr (length body - length read.end, inr (bad_parent_there tree.id body tree.more read.end tree.is tree.whole read.had bad read.ends))
        | inr none ↦
            let found = commit_there tree.id body tree.more read.end tree.is tree.whole read.had (λ more e. none (more, e)) in
            inl (found.commit, found.text)
      ]
  | inr none ↦ inr (0, inl (record { place = refl; no_tree = λ id more is e. none (record { id = id; more = more; is = is; whole = e }) }))
]

-- ---- tags

record TypeLineFront (text : List ℕ) : Type 0 where
  kind : Kind
  more : List ℕ
  whole : text ≡ type_line kind ++ more

type_line_front : (text : List ℕ) → Decided (TypeLineFront text)
type_line_front text = elim (begins (type_line kind.Blob) text) [
  | inl blob ↦ inl (record { kind = kind.Blob; more = blob.0; whole = blob.1 })
  | inr no_blob ↦ elim (begins (type_line kind.Tree) text) [
    | inl tree ↦ inl (record { kind = kind.Tree; more = tree.0; whole = tree.1 })
    | inr no_tree ↦ elim (begins (type_line kind.Commit) text) [
      | inl commit ↦ inl (record { kind = kind.Commit; more = commit.0; whole = commit.1 })
      | inr no_commit ↦ elim (begins (type_line kind.Tag) text) [
        | inl tag ↦ inl (record { kind = kind.Tag; more = tag.0; whole = tag.1 })
        | inr no_tag ↦ inr (λ h. none no_blob no_tree no_commit no_tag h.kind h.more h.whole)
      ]
    ]
  ]
]
  where
    none : (((rest : List ℕ) × (text ≡ type_line kind.Blob ++ rest)) → ⊥) → (((rest : List ℕ) × (text ≡ type_line kind.Tree ++ rest)) → ⊥) → (((rest : List ℕ) × (text ≡ type_line kind.Commit ++ rest)) → ⊥)
        → (((rest : List ℕ) × (text ≡ type_line kind.Tag ++ rest)) → ⊥) → (k : Kind) (more : List ℕ) → text ≡ type_line k ++ more → ⊥
    none b t c g kind.Blob more e = b (more, e)
    none b t c g kind.Tree more e = t (more, e)
    none b t c g kind.Commit more e = c (more, e)
    none b t c g kind.Tag more e = g (more, e)

pub tag_decided : (body : List ℕ) → ((v : Tag) × IsTagText v body) ⊎ ((at : ℕ) × IsTagFault body at)
tag_decided body = elim (id_line_front (codes "object ") body) [
  | inl object ↦ elim (type_line_front object.more) [
    | inl type ↦ inl (record { object = object.id; kind = type.kind; rest = type.more }, record { object_is = object.is; text = object.whole ∙ ap (λ (t : List ℕ). object_line object.id ++ t) type.whole })
    | inr none ↦ inr (
      length (object_line object.id),
      inr (record {
        object = object.id;
        rest = object.more;
        object_is = object.is;
        front = object.whole;
        place = refl;
        no_type = λ k more e. none (record { kind = k; more = more; whole = e });
      }),
    )
  ]
  | inr none ↦ inr (0, inl (record { place = refl; no_object = λ id more is e. none (record { id = id; more = more; is = is; whole = e }) }))
]

-- ---- an entry of a tree in front of a text

record ModeFront (text : List ℕ) : Type 0 where
  mode : Mode
  more : List ℕ
  whole : text ≡ mode_text mode ++ 32 ∷ more

at_mode : (text : List ℕ) (m : Mode) → Decided ((more : List ℕ) × (text ≡ mode_text m ++ 32 ∷ more))
at_mode text m =
    same_fact ((rest : List ℕ) × (text ≡ (mode_text m ++ 32 ∷ []) ++ rest)) ((more : List ℕ) × (text ≡ mode_text m ++ 32 ∷ more))
    (λ p. (p.0, p.1 ∙ append_assoc (mode_text m) (32 ∷ []) p.0)) (λ p. (p.0, p.1 ∙ sym (append_assoc (mode_text m) (32 ∷ []) p.0))) (begins (mode_text m ++ 32 ∷ []) text)

mode_front : (text : List ℕ) → Decided (ModeFront text)
mode_front text = elim (at_mode text Dir) [
  | inl dir ↦ inl (record { mode = Dir; more = dir.0; whole = dir.1 })
  | inr no_dir ↦ elim (at_mode text File) [
    | inl file ↦ inl (record { mode = File; more = file.0; whole = file.1 })
    | inr no_file ↦ elim (at_mode text Exec) [
      | inl exec ↦ inl (record { mode = Exec; more = exec.0; whole = exec.1 })
      | inr no_exec ↦ elim (at_mode text Link) [
        | inl link ↦ inl (record { mode = Link; more = link.0; whole = link.1 })
        | inr no_link ↦ elim (at_mode text Module) [
          | inl module_ ↦ inl (record { mode = Module; more = module_.0; whole = module_.1 })
          | inr no_module ↦ inr (λ h. none no_dir no_file no_exec no_link no_module h.mode h.more h.whole)
        ]
      ]
    ]
  ]
]
  where
    none : (((more : List ℕ) × (text ≡ mode_text Dir ++ 32 ∷ more)) → ⊥) → (((more : List ℕ) × (text ≡ mode_text File ++ 32 ∷ more)) → ⊥) → (((more : List ℕ) × (text ≡ mode_text Exec ++ 32 ∷ more)) → ⊥)
        → (((more : List ℕ) × (text ≡ mode_text Link ++ 32 ∷ more)) → ⊥) → (((more : List ℕ) × (text ≡ mode_text Module ++ 32 ∷ more)) → ⊥) → (m : Mode) (more : List ℕ) → text ≡ mode_text m ++ 32 ∷ more → ⊥
    none d f e l o Dir more is = d (more, is)
    none d f e l o File more is = f (more, is)
    none d f e l o Exec more is = e (more, is)
    none d f e l o Link more is = l (more, is)
    none d f e l o Module more is = o (more, is)

not_text : (a b : List ℕ) → Decided (a ≢ b)
not_text a b = elim (is_text a b) [ inl same ↦ inr (λ other. other same) | inr other ↦ inl other ]

not_empty : (a : List ℕ) → Decided (a ≢ [])
not_empty a = elim (is_empty a) [ inl none ↦ inr (λ some. some none) | inr some ↦ inl some ]

is_entry_name : (name : List ℕ) → Decided (IsEntryName name)
is_entry_name name =
    let Plain : Type 0 = (has_byte 47 name ≡ false) × (has_byte 0 name ≡ false) in
    let Own : Type 0 = (name ≢ codes ".") × ((name ≢ codes "..") × (name ≢ codes ".git")) in
    same_fact ((name ≢ []) × (Plain × Own)) (IsEntryName name)
    (λ p. record { some = p.0; no_slash = p.1.0.0; no_zero = p.1.0.1; no_dot = p.1.1.0; no_dots = p.1.1.1.0; no_git = p.1.1.1.1 })
    (λ n. (n.some, ((n.no_slash, n.no_zero), (n.no_dot, (n.no_dots, n.no_git)))))
    (both (name ≢ []) (Plain × Own) (not_empty name)
    (both Plain Own (both (has_byte 47 name ≡ false) (has_byte 0 name ≡ false) (is_false (has_byte 47 name)) (is_false (has_byte 0 name)))
    (both (name ≢ codes ".") ((name ≢ codes "..") × (name ≢ codes ".git")) (not_text name (codes "."))
    (both (name ≢ codes "..") (name ≢ codes ".git") (not_text name (codes "..")) (not_text name (codes ".git"))))))

bytes_cons : (x : ℕ) (xs : List ℕ) → x < 256 → IsBytes xs → IsBytes (x ∷ xs)
bytes_cons x xs low rest zero = low
bytes_cons x xs low rest (suc i) = rest i

are_bytes : (xs : List ℕ) → Decided (IsBytes xs)
are_bytes [] = inl none
  where
    none : IsBytes []
    none zero = omega arith
    none (suc i) = omega arith
are_bytes (x ∷ xs) = elim (cases_lt 255 x) [
  | inl past ↦ inr (λ all. let first : x < 256 = all 0 in absurd (omega arith))
  | inr within ↦ elim (are_bytes xs) [
    | inl rest ↦ inl (bytes_cons x xs (omega arith) rest)
    | inr none ↦ inr (λ all. none (λ i. all (suc i)))
  ]
]

record IdBytesFront (text : List ℕ) : Type 0 where
  id : List ℕ
  more : List ℕ
  is : IsId id
  whole : text ≡ id ++ more

id_bytes_front : (text : List ℕ) → Decided (IdBytesFront text)
id_bytes_front text =
    let front = λ (h : IdBytesFront text). ap (take 32) h.whole ∙ take_at h.id h.more 32 h.is.length in
    elim (cases_eq (length (take 32 text)) 32) [
      | inl long ↦ elim (are_bytes (take 32 text)) [
        | inl bytes ↦ inl (record { id = take 32 text; more = drop 32 text; is = record { length = long; bytes = bytes }; whole = sym (take-append-drop 32 text) })
        | inr none ↦ inr (λ h. none (subst IsBytes (sym (front h)) h.is.bytes))
      ]
      | inr short ↦ inr (λ h. short (ap length (front h) ∙ h.is.length))
    ]

record EntryFront (text : List ℕ) : Type 0 where
  entry : TreeEntry
  more : List ℕ
  name : IsEntryName entry.name
  id : IsId entry.id
  whole : text ≡ entry_text entry ++ more

cons_tail : (x y : ℕ) (xs ys : List ℕ) → x ∷ xs ≡ y ∷ ys → xs ≡ ys
cons_tail x y xs ys e = cc

or_right : (a b : Bool) → b ≡ true → (a || b) ≡ true
or_right true b e = refl
or_right false b e = e

zero_here : (before after : List ℕ) → has_byte 0 (before ++ 0 ∷ after) ≡ true
zero_here [] after = refl
zero_here (c ∷ before) after = or_right (c == 0) (has_byte 0 (before ++ 0 ∷ after)) (zero_here before after)

no_zero : (text before after : List ℕ) → has_byte 0 text ≡ false → text ≡ before ++ 0 ∷ after → ⊥
no_zero text before after none e = true≢false (sym (zero_here before after) ∙ ap (has_byte 0) (sym e) ∙ none)

entry_front : (text : List ℕ) → Decided (EntryFront text)
entry_front text = elim (mode_front text) [
  | inl mode ↦
      let after = λ (h : EntryFront text).
      (same_mode mode.mode h.entry.mode mode.more (h.entry.name ++ 0 ∷ (h.entry.id ++ h.more)) (sym mode.whole ∙ h.whole ∙ entry_then h.entry h.more)).1 in
      elim (first_byte 0 mode.more) [
        | inl zero_there ↦
            let parts = λ (h : EntryFront text).
            same_until 0 zero_there.before h.entry.name zero_there.after (h.entry.id ++ h.more) zero_there.none h.name.no_zero (sym zero_there.whole ∙ after h) in
            elim (is_entry_name zero_there.before) [
              | inl name ↦ elim (id_bytes_front zero_there.after) [
                | inl id ↦
                    let e : TreeEntry = record { mode = mode.mode; name = zero_there.before; id = id.id } in
                    let rest : mode.more ≡ zero_there.before ++ 0 ∷ (id.id ++ id.more) = zero_there.whole ∙ ap (λ (t : List ℕ). zero_there.before ++ 0 ∷ t) id.whole in
                    inl (record { entry = e; more = id.more; name = name; id = id.is; whole = mode.whole ∙ ap (λ (t : List ℕ). mode_text mode.mode ++ 32 ∷ t) rest ∙ sym (entry_then e id.more) })
                | inr none ↦ inr (λ h. none (record { id = h.entry.id; more = h.more; is = h.id; whole = (parts h).1 }))
              ]
              | inr none ↦ inr (λ h. none (subst IsEntryName (sym (parts h).0) h.name))
            ]
        | inr none ↦ inr (λ h. absurd (no_zero mode.more h.entry.name (h.entry.id ++ h.more) none (after h)))
      ]
  | inr none ↦ inr (λ h. none (record { mode = h.entry.mode; more = h.entry.name ++ 0 ∷ (h.entry.id ++ h.more); whole = h.whole ∙ entry_then h.entry h.more }))
]

-- ---- the order of entries

is_less : (o : Ordering) → Decided (o ≡ Less)
is_less Less = inl refl
is_less Equal = inr (λ e. cc e)
is_less Greater = inr (λ e. cc e)

precedes : (first second : TreeEntry) → Decided (Precedes first second)
precedes first second =
    same_fact ((by_bytes (sort_key first) (sort_key second) ≡ Less) × (first.name ≢ second.name)) (Precedes first second)
    (λ p. record { rising = p.0; other = p.1 }) (λ p. (p.rising, p.other))
    (both (by_bytes (sort_key first) (sort_key second) ≡ Less) (first.name ≢ second.name) (is_less (by_bytes (sort_key first) (sort_key second))) (not_text first.name second.name))

all_precede : (es : List TreeEntry) (e : TreeEntry) → Decided (AllPrecede es e)
all_precede [] e = inl tt
all_precede (x ∷ es) e = both (Precedes x e) (AllPrecede es e) (precedes x e) (all_precede es e)

-- ---- trees

abbrev TreeRead : List ℕ → Type 0
TreeRead body = ((v : Tree) × IsTreeText v body) ⊎ ((at : ℕ) × IsTreeFault body at)

-- nothing is left, or no entry that may stand next
all_read : (body : List ℕ) (es : List TreeEntry) (rest : List ℕ) → IsTreeFront es body rest → rest ≡ [] → TreeRead body
all_read body es rest front none = inl (record { entries = es }, record { entries_are = front.entries_are; text = front.front ∙ ap (λ (t : List ℕ). entries_text es ++ t) none ∙ append-nil (entries_text es) })

no_entry_left : (body : List ℕ) (es : List TreeEntry) (rest : List ℕ) → IsTreeFront es body rest → rest ≢ [] → (EntryFront rest → ⊥) → TreeRead body
no_entry_left body es rest front some none = inr (
  length (entries_text es),
  record {
    entries = es;
    rest = rest;
    front = front;
    place = refl;
    left = some;
    no_entry = λ e more are whole. none (record { entry = e; more = more; name = name_of_last es e are; id = id_of_last es e are; whole = whole });
  },
)

late_entry : (body : List ℕ) (es : List TreeEntry) (rest : List ℕ) → IsTreeFront es body rest → (found : EntryFront rest) → (AllPrecede es found.entry → ⊥) → TreeRead body
late_entry body es rest front found late = inr (length body - length rest, fault_of_order es found.entry body rest found.more front found.name found.id found.whole late)

tree_read : (n : ℕ) (body : List ℕ) (es : List TreeEntry) (rest : List ℕ) → length rest ≤ n → IsTreeFront es body rest → TreeRead body
tree_read zero body es rest few front = elim (is_empty rest) [
  | inl none ↦ all_read body es rest front none
  | inr some ↦ elim (entry_front rest) [
    | inl found ↦ let shorter = entry_shorter found.entry found.more rest found.whole in absurd (omega arith)
    | inr none ↦ no_entry_left body es rest front some none
  ]
]
tree_read (suc n) body es rest few front = elim (is_empty rest) [
  | inl none ↦ all_read body es rest front none
  | inr some ↦ elim (entry_front rest) [
    | inl found ↦ elim (all_precede es found.entry) [
      | inl all ↦
          let shorter = entry_shorter found.entry found.more rest found.whole in
          tree_read n body (es ++ found.entry ∷ []) found.more (omega arith) (entries_push es found.entry body rest found.more front found.name found.id all found.whole)
      | inr late ↦ late_entry body es rest front found late
    ]
    | inr none ↦ no_entry_left body es rest front some none
  ]
]

pub tree_decided : (body : List ℕ) → ((v : Tree) × IsTreeText v body) ⊎ ((at : ℕ) × IsTreeFault body at)
tree_decided body = tree_read (length body) body [] body (le_refl (length body)) (record { entries_are = record { formed = record { named = tt; ordered = tt }; ids = tt }; front = refl })
