-- The places of files by their names.
use Rattle.std.proofs.Common.{◌≡◌, ◌+◌, ◌++◌, ◌<◌, ℕ, Bool, true, false, cond, List, [], ◌∷◌, Option, Some, None, refl, sym, ap, ◌∙◌, arith, length, map, take, get_or, Bor}
use Rattle.std.specs.Prelude.{is_some}
use Rattle.std.specs.Option.{option_copied}
use Rattle.std.specs.List.{position_from}
use Rattle.std.specs.Ordering.{is_eq}
use Rattle.std.specs.Str.{bytes_eq}
use Rattle.std.specs.BTreeMap as tree
use Rattle.std.specs.BTreeMap.{BTreeMap}
use Rattle.std.proofs.lemmas.Bool.{false≢true}
use Rattle.std.proofs.lemmas.List.{length-take-le, map-append, take_more}
use Rattle.std.proofs.lemmas.Slice.Eq.{bytes_eq-Decides}
use Rattle.octets.specs.BytesMap.{by_bytes}
use Rattle.rule_files.specs.declared.rules.Rule.{Rule}
use Rattle.rule_files.specs.declared.rules.RuleFile.{RuleFile}
use Rattle.rule_delegations.specs.Forests.{links_of, or_place, place_named}
use Rattle.rule_delegations.proofs.Seeing.{is_at_name}

pub not_there : (read : Option (Bor ℕ)) (found : Option ℕ) (there : Bool) → there ≡ is_some read → there ≡ false → option_copied read ≡ found → found ≡ None
not_there None found there is no_one same = sym same
not_there (Some at) found there is no_one same = absurd (false≢true (sym no_one ∙ is))

put_place : (found : Option ℕ) (passes : Bool) (at : ℕ) → (passes ≡ true → found ≡ None) → cond passes (Some at) found ≡ or_place found passes at
put_place None true at free = refl
put_place None false at free = refl
put_place (Some other) true at free = absurd (let e = free refl in cc)
put_place (Some other) false at free = refl

pub place_put : (name key : List ℕ) (at : ℕ) (old new : BTreeMap (List ℕ) ℕ) → key ≡ name → tree.get by_bytes old name ≡ None → ((q : List ℕ) → tree.get by_bytes new q ≡ cond (is_eq (by_bytes key q)) (Some at) (tree.get by_bytes old q))
    → (q : List ℕ) → tree.get by_bytes new q ≡ or_place (tree.get by_bytes old q) (bytes_eq q name) at
place_put name key at old new same free put q =
    put q ∙ ap (λ (k : List ℕ). cond (is_eq (by_bytes k q)) (Some at) (tree.get by_bytes old q)) same ∙ ap (λ (b : Bool). cond b (Some at) (tree.get by_bytes old q)) (is_at_name name q)
    ∙ put_place (tree.get by_bytes old q) (bytes_eq q name) at (λ e. ap (tree.get by_bytes old) ((bytes_eq-Decides q name).0 e) ∙ free)

position_push : {X : Type 0} (test : X → Bool) (i : ℕ) (x : X) (xs : List X) → position_from test i (xs ++ x ∷ []) ≡ or_place (position_from test i xs) (test x) (i + length xs)
position_push test i x [] = ap (λ (n : ℕ). cond (test x) (Some n) None) (omega arith)
position_push test i x (y ∷ ys) = by_first (test y) (position_push test (i + 1) x ys) where
  by_first : (b : Bool) → position_from test (i + 1) (ys ++ x ∷ []) ≡ or_place (position_from test (i + 1) ys) (test x) (i + 1 + length ys)
      → cond b (Some i) (position_from test (i + 1) (ys ++ x ∷ [])) ≡ or_place (cond b (Some i) (position_from test (i + 1) ys)) (test x) (i + length (y ∷ ys))
  by_first true more = refl
  by_first false more = more ∙ ap (or_place (position_from test (i + 1) ys) (test x)) (omega arith)

pub named_more : (files : List RuleFile) (at : ℕ) (file : RuleFile) (name : List ℕ) → at < length files → file ≡ get_or files at file
    → place_named (take (at + 1) files) name ≡ or_place (place_named (take at files) name) (bytes_eq name file.name) at
named_more files at file name less is =
    let parts : take (at + 1) files ≡ take at files ++ file ∷ [] = take_more files at file less ∙ ap (λ y. take at files ++ y ∷ []) (sym is) in
    let place : 0 + length (take at files) ≡ at = let e = length-take-le at files (omega arith) in omega (arith, e) in
    ap (λ fs. place_named fs name) parts ∙ position_push (λ (f : RuleFile). bytes_eq name f.name) 0 file (take at files)
    ∙ ap (or_place (place_named (take at files) name) (bytes_eq name file.name)) place

map_same : {X Y : Type 0} (f g : X → Y) (xs : List X) → ((x : X) → f x ≡ g x) → map f xs ≡ map g xs
map_same f g [] same = refl
map_same f g (x ∷ xs) same = let e = same x in let es = map_same f g xs same in cc

pub links_more : (files : List RuleFile) (places : BTreeMap (List ℕ) ℕ) (at : ℕ) (file : RuleFile) (below : List (List (Option ℕ))) (links : List (Option ℕ)) → ((q : List ℕ) → tree.get by_bytes places q ≡ place_named files q)
    → at < length files → file ≡ get_or files at file → below ≡ map (links_of files) (take at files) → links ≡ map (λ (rule : Rule). tree.get by_bytes places rule.name) file.rules
    → below ++ links ∷ [] ≡ map (links_of files) (take (at + 1) files)
links_more files places at file below links are less is before these =
    let parts : take (at + 1) files ≡ take at files ++ file ∷ [] = take_more files at file less ∙ ap (λ y. take at files ++ y ∷ []) (sym is) in
    let own : links ≡ links_of files file = these ∙ map_same _ _ file.rules (λ rule. are rule.name) in
    ap (λ x. x ++ links ∷ []) before ∙ ap (λ x. map (links_of files) (take at files) ++ x ∷ []) own ∙ sym (ap (map (links_of files)) parts ∙ map-append (links_of files) (take at files) (file ∷ []))
