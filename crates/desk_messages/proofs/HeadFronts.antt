-- Heads in front of bytes: one at most, and more bytes do not change it.
use Rattle.std.proofs.Common.{◌≡◌, ◌≤◌, ◌<◌, ℕ, List, [], ◌++◌, length, take, drop, sym, ap, subst, ◌∙◌, arith, length-append}
use Rattle.std.proofs.lemmas.List.{append-nil, take-append-drop, take-append-le, take_all}
use Rattle.httparse.specs.Grammar.{RequestHead, print_request}
use Rattle.httparse.specs.Spans.{RequestOverflows}
use Rattle.httparse.proofs.GrammarLemmas.{ReadsRequest-append, request_unique}
use Rattle.desk_messages.specs.Heads.{HasHead, HasNoHead, NeverHasHead, largest_head, most_fields}

print_some : (h : RequestHead) → 0 < length (print_request h)
unfolding print_request
print_some h = simp length-append (omega arith)

take_front : (front rest : List ℕ) → take (length front) (front ++ rest) ≡ front
take_front front rest = take-append-le (length front) front rest (omega arith) ∙ take_all (length front) front (omega arith)

-- a head is of some bytes
pub head_some : (bytes : List ℕ) (head : RequestHead) (rest : List ℕ) → HasHead bytes head rest → 0 < length bytes
head_some bytes head rest has = omega (arith, ap length has.reads.1, length-append (print_request head) rest, print_some head)

pub no_head : HasNoHead []
no_head head rest has = let some : 0 < length {A = ℕ} [] = head_some [] head rest has in absurd (omega arith)

-- what follows does not change it
pub followed : (bytes more : List ℕ) (head : RequestHead) (rest : List ℕ) → HasHead bytes head rest → HasHead (bytes ++ more) head (rest ++ more)
followed bytes more head rest has = record {
  reads = ReadsRequest-append bytes head rest more has.reads;
  short = has.short;
  few = has.few;
}

pub one_head : (bytes : List ℕ) (h k : RequestHead) (r q : List ℕ) → HasHead bytes h r → HasHead bytes k q → (h ≡ k) × (r ≡ q)
one_head bytes h k r q x y = request_unique bytes h k r q x.reads y.reads

-- a head in front of more bytes that is as long as these at most stands in front of these
pub within_front : (bytes more : List ℕ) (head : RequestHead) (rest : List ℕ) → HasHead (bytes ++ more) head rest → largest_head ≤ length bytes
    → HasHead bytes head (drop (length (print_request head)) bytes)
within_front bytes more head rest has long =
    let n = length (print_request head) in
    let short : n ≤ length bytes = let s = has.short in omega arith in
    let front : take n bytes ≡ print_request head =
    sym (take-append-le n bytes more short) ∙ ap (take n) has.reads.1 ∙ take_front (print_request head) rest in
    record {
      reads = (has.reads.0, sym (take-append-drop n bytes) ∙ ap (λ (f : List ℕ). f ++ drop n bytes) front);
      short = has.short;
      few = has.few;
    }

-- no head stands in front of so many bytes, nor will one
pub full_never : (bytes : List ℕ) → largest_head ≤ length bytes → HasNoHead bytes → NeverHasHead bytes
full_never bytes long none more head rest has = none head (drop (length (print_request head)) bytes) (within_front bytes more head rest has long)

pub overflow_never : (bytes : List ℕ) → RequestOverflows most_fields bytes → NeverHasHead bytes
overflow_never bytes over more head rest has = let few = has.few in let many = over more head rest has.reads in absurd (omega arith)

pub none_here : (bytes : List ℕ) → NeverHasHead bytes → HasNoHead bytes
none_here bytes never head rest has = never [] head rest (subst (λ (b : List ℕ). HasHead b head rest) (sym (append-nil bytes)) has)
