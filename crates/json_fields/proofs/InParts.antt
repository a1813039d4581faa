-- The text of an object, some fields at a time.
use Rattle.std.proofs.Common.{◌≡◌, ◌++◌, List, [], ◌∷◌, ℕ, append_assoc, ap, refl, true, ◌∙◌}
use Rattle.json.specs.Print.{quoted}
use Rattle.serde_json.specs.Data.{Data, Members, member, no_members, object}
use Rattle.serde_json.specs.Written.{compact_text, members_text}
use Rattle.json_fields.specs.Writing.{Follows, Opens}

-- a mark, the name and its colon, and the value
one_field : (mark : ℕ) (name : List ℕ) (d : Data) (old mid new rest : List ℕ) → mid ≡ old ++ mark ∷ (quoted name ++ 58 ∷ []) → new ≡ mid ++ compact_text d → new ++ rest ≡ old ++ mark ∷ (quoted name ++ 58 ∷ (compact_text d ++ rest))
one_field mark name d old mid new rest named written =
    let text = compact_text d in
    let front : List ℕ = mark ∷ (quoted name ++ 58 ∷ []) in
    ap (λ t. t ++ rest) (written ∙ ap (λ t. t ++ text) named) ∙ append_assoc (old ++ front) text rest ∙ append_assoc old front (text ++ rest) ∙ ap (λ t. old ++ mark ∷ t) (append_assoc (quoted name) (58 ∷ []) (text ++ rest))

pub opened : (name : List ℕ) (d : Data) (old mid new : List ℕ) → mid ≡ old ++ 123 ∷ (quoted name ++ 58 ∷ []) → new ≡ mid ++ compact_text d → Opens (member name d) old new
opened name d old mid new named written = record { is = λ rest. one_field 123 name d old mid new (members_text true rest) named written }

pub followed : (name : List ℕ) (d : Data) (old mid new : List ℕ) → mid ≡ old ++ 44 ∷ (quoted name ++ 58 ∷ []) → new ≡ mid ++ compact_text d → Follows (member name d) old new
followed name d old mid new named written = record { is = λ rest. one_field 44 name d old mid new (members_text true rest) named written }

-- fields, and those that follow them
pub opens_more : {first second : Members → Members} {old mid new : List ℕ} → Opens first old mid → Follows second mid new → Opens (λ rest. first (second rest)) old new
opens_more {second = second} opens follows = record { is = λ rest. follows.is rest ∙ opens.is (second rest) }

pub follows_more : {first second : Members → Members} {old mid new : List ℕ} → Follows first old mid → Follows second mid new → Follows (λ rest. first (second rest)) old new
follows_more {second = second} before follows = record { is = λ rest. follows.is rest ∙ before.is (second rest) }

-- none
pub follows_none : (text : List ℕ) → Follows (λ rest. rest) text text
follows_none text = record { is = λ rest. refl }

-- the bracket that closes the object
pub closed : {fields : Members → Members} {old mid : List ℕ} (new : List ℕ) → Opens fields old mid → new ≡ mid ++ 125 ∷ [] → new ≡ old ++ compact_text (object (fields no_members))
closed new opens is = is ∙ opens.is no_members
