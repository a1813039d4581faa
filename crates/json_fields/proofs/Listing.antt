-- The text of a list, an item at a time.
use Rattle.std.proofs.Common.{◌≡◌, ◌<◌, ◌≤◌, ◌+◌, ◌++◌, ℕ, Bool, true, List, [], ◌∷◌, append_assoc, ap, drop, get_or, length, map, sym, ◌∙◌}
use Rattle.std.proofs.lemmas.List.{at_drop_all, at_drop_more}
use Rattle.serde_json.specs.Data.{Data}
use Rattle.serde_json.specs.View.{items_of}
use Rattle.serde_json.specs.Written.{comma_if, compact_text, items_text}

-- the items from one on, and the bracket that closes the list
abbrev pub rest_text : {T : Type 0} → (T → Data) → Bool → List T → List ℕ
rest_text data_of later items = items_text later (items_of (map data_of items))

pub one_more : {T : Type 0} (data_of : T → Data) (items : List T) (at : ℕ) (item : T) (later : Bool) (old mid new whole : List ℕ) → at < length items → item ≡ get_or items at item
    → mid ≡ old ++ comma_if later → new ≡ mid ++ compact_text (data_of item) → old ++ rest_text data_of later (drop at items) ≡ whole → new ++ rest_text data_of true (drop (at + 1) items) ≡ whole
one_more data_of items at item later old mid new whole within is comma written before =
    let rest = rest_text data_of true (drop (at + 1) items) in
    let first = compact_text (data_of item) in
    let split : rest_text data_of later (drop at items) ≡ comma_if later ++ (first ++ rest) =
    at_drop_more (rest_text data_of later) items at item within ∙ ap (λ x. comma_if later ++ (compact_text (data_of x) ++ rest)) (sym is) in
    ap (λ text. text ++ rest) (written ∙ ap (λ text. text ++ first) comma) ∙ append_assoc (old ++ comma_if later) first rest ∙ append_assoc old (comma_if later) (first ++ rest)
    ∙ ap (λ text. old ++ text) (sym split) ∙ before

pub no_more : {T : Type 0} (data_of : T → Data) (items : List T) (at : ℕ) (later : Bool) (old whole : List ℕ) → length items ≤ at → old ++ rest_text data_of later (drop at items) ≡ whole → old ++ 93 ∷ [] ≡ whole
no_more data_of items at later old whole past before = ap (λ text. old ++ text) (sym (at_drop_all (rest_text data_of later) items at past)) ∙ before
