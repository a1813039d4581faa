-- What a reader gives to its end, as a front and a rest.
use Rattle.std.proofs.Common.{◌≡◌, ◌≢◌, ℕ, ◌+◌, ◌-◌, ◌<◌, ◌≤◌, ◌^◌, List, [], ◌∷◌, ◌++◌, length, take, drop, Option, Some, None, IfSome, sym, ap, ◌∙◌, append_assoc, append-nil, take-append-drop, arith}
use Rattle.std.specs.Io.KnownBytes.{Consumes, IsAtEnd}
use Rattle.std.proofs.lemmas.List.{length-append, length-take, take-append-le, take_all}
use Rattle.std.proofs.Math.Seq.{take-append_seam}
use Rattle.hex.specs.Hex.{encode_lower}
use Rattle.git_object.specs.Ids.{IsId}
use Rattle.git_object.specs.Objects.{object_text}
use Rattle.git_object.specs.Repository.{largest_body}
use Rattle.git_object.specs.declared.kinds.Kind.{Kind}
use Rattle.git_object.proofs.IdLemmas.{length-hexadecimal}
use Rattle.keeper_directory.specs.Files.{IsNoObject, IsNoRef, object_head, ref_text}
use Rattle.keeper_directory.proofs.Heads.{head_is_short, same_head, text_is}

-- what was read of an object's file: its head, what came with it, and the rest of the body up to a limit
pub record IsRead (kind : Kind) (size limit : ℕ) (came body text : List ℕ) : Type 0 where
  pub more : List ℕ
  pub all : text ≡ object_head kind size ++ (came ++ more)
  pub got : body ≡ came ++ take limit more

pub headed : (a b : Option (List ℕ)) (front came body : List ℕ) (kind : Kind) (size limit : ℕ) → Consumes a b front → front ≡ object_head kind size ++ came
    → IfSome b (λ more. body ≡ came ++ take limit more) → IfSome a (IsRead kind size limit came body)
headed None b front came body kind size limit read head tail = tt
headed (Some x) None front came body kind size limit read head tail = absurd read
headed (Some x) (Some y) front came body kind size limit read head tail = record {
  more = y;
  all = read ∙ ap (λ (t : List ℕ). t ++ y) head ∙ append_assoc (object_head kind size) came y;
  got = tail;
}

-- a limit past the size cuts nothing of a body that has it
uncut : (size limit : ℕ) (came more : List ℕ) → limit ≡ (size - length came) + 1 → length (came ++ take limit more) ≡ size → take limit more ≡ more
uncut size limit came more is long =
    let taken = length-take limit more in
    let both = length-append came (take limit more) in
    let fits : length more ≤ limit = omega (arith, taken, both, long, is) in
    take_all limit more fits

same_size : (size limit : ℕ) (came more : List ℕ) → limit ≡ (size - length came) + 1 → length (came ++ more) ≡ size → length (came ++ take limit more) ≡ size
same_size size limit came more is long =
    let both = length-append came more in
    let fits : length more ≤ limit = omega (arith, both, long, is) in
    ap (λ (t : List ℕ). length (came ++ t)) (take_all limit more fits) ∙ long

-- with a body of the size that its head says it is an object's file
pub whole : (a : Option (List ℕ)) (came body : List ℕ) (kind : Kind) (size limit : ℕ) → IfSome a (IsRead kind size limit came body) → limit ≡ (size - length came) + 1 → length body ≡ size
    → IfSome a (λ text. text ≡ object_text kind body)
whole None came body kind size limit read is long = tt
whole (Some x) came body kind size limit read is long =
    let all : body ≡ came ++ read.more = read.got ∙ ap (λ (t : List ℕ). came ++ t) (uncut size limit came read.more is (sym (ap length read.got) ∙ long)) in
    read.all ∙ ap (λ (t : List ℕ). object_head kind size ++ t) (sym all) ∙ ap (λ (n : ℕ). object_head kind n ++ body) (sym long) ∙ sym (text_is kind body)

-- and with a body of another size it is none
pub other_size : (a : Option (List ℕ)) (came body : List ℕ) (kind : Kind) (size limit : ℕ) → size < 2 ^ 64 → IfSome a (IsRead kind size limit came body) → limit ≡ (size - length came) + 1
    → length body ≢ size → IfSome a IsNoObject
other_size None came body kind size limit fits read is long = tt
other_size (Some x) came body kind size limit fits read is long = λ other text small same.
    let parts = same_head kind other size (length text) (came ++ read.more) text fits (omega arith) (sym read.all ∙ same ∙ text_is other text) in
    long (ap length read.got ∙ same_size size limit came read.more is (ap length parts.rest ∙ sym parts.size))

-- nor with a head that says a size past the limit of a body
pub too_large : (a b : Option (List ℕ)) (front came : List ℕ) (kind : Kind) (size : ℕ) → size < 2 ^ 64 → Consumes a b front → front ≡ object_head kind size ++ came → largest_body < size
    → IfSome a IsNoObject
too_large None b front came kind size fits read head large = tt
too_large (Some x) None front came kind size fits read head large = absurd read
too_large (Some x) (Some y) front came kind size fits read head large = λ other text small same.
    let all : x ≡ object_head kind size ++ (came ++ y) = read ∙ ap (λ (t : List ℕ). t ++ y) head ∙ append_assoc (object_head kind size) came y in
    let parts = same_head kind other size (length text) (came ++ y) text fits (omega arith) (sym all ∙ same ∙ text_is other text) in
    let e : size ≡ length text = parts.size in
    omega arith

starts : (front more head body : List ℕ) → length head ≤ length front → front ++ more ≡ head ++ body → front ≡ head ++ drop (length head) front
starts front more head body long e =
    let same : take (length head) front ≡ head = sym (take-append-le (length head) front more long) ∙ ap (take (length head)) e ∙ take-append_seam head body in
    sym (take-append-drop (length head) front) ∙ ap (λ (t : List ℕ). t ++ drop (length head) front) same

-- a front with no head, that is all or longer than any head, is none's
pub no_head : (a b : Option (List ℕ)) (front : List ℕ) → Consumes a b front → (length front < 32 → IsAtEnd b)
    → ((kind : Kind) (size : ℕ) (rest : List ℕ) → size < 2 ^ 64 → front ≢ object_head kind size ++ rest) → IfSome a IsNoObject
no_head None b front read end none = tt
no_head (Some x) None front read end none = absurd read
no_head (Some x) (Some y) front read end none = λ kind body small is.
    let less : length body < 2 ^ 64 = omega arith in
    let short = head_is_short kind (length body) less in
    let same : front ++ y ≡ object_head kind (length body) ++ body = sym read ∙ is ∙ text_is kind body in
    let long : length (object_head kind (length body)) ≤ length front → ⊥ = λ le. none kind (length body) _ less (starts front y (object_head kind (length body)) body le same) in
    let all : y ≡ [] = end (omega (arith, long)) in
    none kind (length body) body less (sym (append-nil front) ∙ ap (λ (t : List ℕ). front ++ t) (sym all) ∙ same)

-- a front at whose end nothing is left is all
pub ended : (a b : Option (List ℕ)) (front all : List ℕ) → Consumes a b front → IsAtEnd b → front ≡ all → IfSome a (λ text. text ≡ all)
ended None b front all read end is = tt
ended (Some x) None front all read end is = absurd read
ended (Some x) (Some y) front all read end is = read ∙ ap (λ (t : List ℕ). front ++ t) end ∙ append-nil front ∙ is

pub length-ref_text : (id : List ℕ) → IsId id → length (ref_text id) ≡ 65
length-ref_text id is = length-append (encode_lower id) (10 ∷ []) ∙ ap (λ (n : ℕ). n + 1) (length-hexadecimal id is)

-- a front that is no reference's file, and is all or longer than any, is none's
pub no_ref : (a b : Option (List ℕ)) (front : List ℕ) → Consumes a b front → (length front < 66 → IsAtEnd b) → IsNoRef front → IfSome a IsNoRef
no_ref None b front read end none = tt
no_ref (Some x) None front read end none = absurd read
no_ref (Some x) (Some y) front read end none = λ id is same.
    let long : length (front ++ y) ≡ 65 = ap length (sym read ∙ same) ∙ length-ref_text id is in
    let all : y ≡ [] = end (omega (arith, long, length-append front y)) in
    none id is (sym (append-nil front) ∙ ap (λ (t : List ℕ). front ++ t) (sym all) ∙ sym read ∙ same)
