-- A reply at its places in bytes.
use Rattle.std.proofs.Common.{◌≡◌, ◌≢◌, ◌≤◌, ℕ, List, [], ◌∷◌, length, take, drop, map, refl, sym, ap, subst, ◌∙◌}
use Rattle.httparse.specs.Spans.{name_and_value}
use Rattle.httparse.specs.declared.spans.HeaderSpan.{HeaderSpan}
use Rattle.httparse.specs.declared.spans.ResponseSpans.{ResponseSpans}
use Rattle.desk_messages.specs.Parts.{pairs_at}
use Rattle.desk_messages.specs.ClientHeads.{HasHead, IsHeadAt, Says, SaysIn, largest_body}
use Rattle.desk_messages.specs.Replies.{HasNoLength, HasOther, IsReply}

pub same_first : (a b : List ℕ) → a ∷ [] ≡ b ∷ [] → a ≡ b
same_first a b e = cc

module _ (bytes : List ℕ) (fields front : List HeaderSpan) (spans : ResponseSpans) (at : IsHeadAt bytes fields spans) (is : front ≡ take spans.headers fields) where
  -- what the fields at their places are, the head's fields are
  same_fields : pairs_at bytes front ≡ map name_and_value at.head.fields
  same_fields = ap (pairs_at bytes) is ∙ at.places.fields

  says_here : (len : ℕ) → SaysIn (pairs_at bytes front) len → len ≤ largest_body → Says at.head len
  says_here len said within = record { said = subst (λ (fs : List (List ℕ × List ℕ)). SaysIn fs len) same_fields said; within = within }

  says_there : (len : ℕ) → Says at.head len → SaysIn (pairs_at bytes front) len
  says_there len says = subst (λ (fs : List (List ℕ × List ℕ)). SaysIn fs len) (sym same_fields) says.said

  module _ (body : List ℕ) (rest : body ≡ drop spans.len bytes) where
    has_body : HasHead bytes at.head body
    has_body = subst (HasHead bytes at.head) (sym rest) at.has

    pub whole : (len : ℕ) → SaysIn (pairs_at bytes front) len → len ≤ largest_body → len ≡ length body → IsReply bytes spans.code body
    whole len said within same = record {
      head = at.head;
      has = has_body;
      says = subst (Says at.head) same (says_here len said within);
      code_is = at.places.code;
    }

    pub other_length : (len : ℕ) → SaysIn (pairs_at bytes front) len → len ≤ largest_body → len ≢ length body → HasOther bytes len (length body)
    other_length len said within other = record {
      head = at.head;
      rest = body;
      has = has_body;
      says = says_here len said within;
      found_is = refl;
      other = other;
    }

  pub no_length : ((len : ℕ) → len ≤ largest_body → SaysIn (pairs_at bytes front) len → ⊥) → HasNoLength bytes
  no_length none = record {
    head = at.head;
    rest = drop spans.len bytes;
    has = at.has;
    none = λ len says. none len says.within (says_there len says);
  }
