-- What a head asks once the bytes behind it are there.
use Rattle.std.proofs.Common.{◌≡◌, ◌≤◌, ◌<◌, ℕ, List, [], ◌∷◌, ◌++◌, Bool, true, false, length, take, drop, map, refl, sym, ap, subst, ◌∙◌, inl, inr, arith, codes, if◌then◌else◌}
use Rattle.std.specs.Prelude.{Option, Some, Result, Ok, Err, nat_lt}
use Rattle.std.proofs.lemmas.Bool.{le-ltb, lt-ltb}
use Rattle.std.proofs.lemmas.Fmt.{decimal_injective}
use Rattle.octets.specs.Content.{with_front}
use Rattle.edge_io.proofs.Taken.{with_fronts}
use Rattle.httparse.specs.Spans.{name_and_value, span_bytes}
use Rattle.httparse.specs.declared.spans.HeaderSpan.{HeaderSpan}
use Rattle.httparse.specs.declared.spans.RequestSpans.{RequestSpans}
use Rattle.desk_messages.specs.Heads.{HasHead}
use Rattle.desk_messages.specs.Lengths.{Gives, Says, SaysIn, values_of}
use Rattle.desk_messages.specs.Parts.{IsHeadAt, pairs_at}
use Rattle.desk_messages.specs.Routes.{allowed, page_of}
use Rattle.desk_messages.specs.Asking.{Asks, SomeAsk, head_asked, allowed_asked, largest_body, page_asked, push_asked}
use Rattle.desk_messages.specs.Behind.{Behind}
use Rattle.desk_messages.specs.Bodies.{HasBody, IsCut}
use Rattle.desk_messages.specs.Reading.{HasFront, Reads, body_len}
use Rattle.desk_messages.specs.declared.routes.Page.{Page}
use Rattle.desk_messages.specs.declared.routes.Page.TheVariants as a_page
use Rattle.desk_messages.specs.declared.requests.Asked.{Asked}
use Rattle.desk_messages.specs.declared.requests.Asked.TheVariants as ask
use Rattle.desk_messages.specs.declared.requests.Refusal.{Refusal}
use Rattle.desk_messages.specs.declared.requests.Refusal.TheVariants as why
use Rattle.desk_messages.proofs.HeadFronts.{followed, head_some}
use Rattle.desk_messages.proofs.Pieces.{with_nothing}

pub to_asks : (bytes : List ℕ) (asks : Asked) → 0 < length bytes → SomeAsk bytes asks → Asks bytes asks
to_asks [] asks some is = absurd (omega arith)
to_asks (b ∷ bytes) asks some is = is

-- fields say one length at most
one_given : (values : List (List ℕ)) (a b : Option ℕ) → Gives values a → Gives values b → a ≡ b
one_given [] a b x y = x ∙ sym y
one_given (value ∷ []) a b x y =
    let small = x.1 in
    let low = y.1 in
    let same : x.0 ≡ y.0 = decimal_injective x.0 y.0 (omega arith) (omega arith) (sym x.2 ∙ y.2) in
    x.3 ∙ ap Some same ∙ sym y.3
one_given (value ∷ other ∷ values) a b x y = absurd x

pub one_said : (fields : List (List ℕ × List ℕ)) (a b : Option ℕ) → SaysIn fields a → SaysIn fields b → a ≡ b
one_said fields a b x y = one_given (values_of (codes "content-length") fields) a b x.length y.length

-- what is answered at once, whatever follows
pub at_once : (wanted : List ℕ → Asked) (begun : List ℕ) (told : Option (List ℕ)) (asks : Asked) → ((rest : List ℕ) → asks ≡ wanted rest)
    → Behind wanted 0 begun told told asks
at_once wanted begun told asks is = record {
  more = [];
  read = with_nothing told;
  asks_is = is (begun ++ []);
  stops = inr (omega arith);
}

-- a push that is too large
pub large_push : (n : ℕ) (begun : List ℕ) (told : Option (List ℕ)) → largest_body < n
    → Behind (push_asked (Some n)) (body_len (Ok a_page.Push) (Some n)) begun told told (ask.Refused (why.TooLarge n))
large_push n begun told large =
    let is : nat_lt largest_body n ≡ true = lt-ltb largest_body n large in
    record {
      more = [];
      read = with_nothing told;
      asks_is = sym (ap (λ (b : Bool). if b then ask.Refused (why.TooLarge n) else (if nat_lt (length (begun ++ [])) n then ask.Refused why.BadRequest else ask.Push (take n (begun ++ [])))) is);
      stops = inr (subst (λ (b : Bool). (if b then 0 else n) ≤ length (begun ++ [])) (sym is) (omega arith));
    }

-- what a push of this length asks, by two tests of it
abbrev asked_if : ℕ → List ℕ → Bool → Bool → Asked
asked_if n rest large short = if large then ask.Refused (why.TooLarge n) else (if short then ask.Refused why.BadRequest else ask.Push (take n rest))

stops_if : (n len : ℕ) (b : Bool) → b ≡ false → n ≤ len → (if b then 0 else n) ≤ len
stops_if n len b is long = subst (λ (t : Bool). (if t then 0 else n) ≤ len) (sym is) long

-- a push whose body came
pub whole_push : (n : ℕ) (begun : List ℕ) (before after : Option (List ℕ)) (body : List ℕ) → n ≤ largest_body → HasBody begun n before after body
    → Behind (push_asked (Some n)) (body_len (Ok a_page.Push) (Some n)) begun before after (ask.Push body)
whole_push n begun before after body small has =
    let rest = begun ++ has.more in
    let fits : nat_lt largest_body n ≡ false = le-ltb largest_body n small in
    let full : nat_lt (length rest) n ≡ false = le-ltb (length rest) n has.long in
    record {
      more = has.more;
      read = has.read;
      asks_is = ap (λ (b : List ℕ). ask.Push b) has.body_is
          ∙ sym (ap (λ (b : Bool). asked_if n rest b (nat_lt (length rest) n)) fits ∙ ap (asked_if n rest false) full);
      stops = inr (stops_if n (length rest) (nat_lt largest_body n) fits has.long);
    }

-- a push in whose body the input ended
pub cut_push : (n : ℕ) (begun : List ℕ) (before after : Option (List ℕ)) → n ≤ largest_body → IsCut begun n before after
    → Behind (push_asked (Some n)) (body_len (Ok a_page.Push) (Some n)) begun before after (ask.Refused why.BadRequest)
cut_push n begun before after small cut =
    let rest = begun ++ cut.more in
    let fits : nat_lt largest_body n ≡ false = le-ltb largest_body n small in
    let short : nat_lt (length rest) n ≡ true = lt-ltb (length rest) n cut.short in
    record {
      more = cut.more;
      read = cut.read;
      asks_is = sym (ap (λ (b : Bool). asked_if n rest b (nat_lt (length rest) n)) fits ∙ ap (asked_if n rest false) short);
      stops = inl cut.ends;
    }

-- ---- the same with the head in front

module _ (bytes : List ℕ) (fields : List HeaderSpan) (spans : RequestSpans) (at : IsHeadAt bytes fields spans) where
  abbrev rest : List ℕ
  rest = drop spans.len bytes

  -- what the fields at their places say, the head's fields say
  same_fields : (front : List HeaderSpan) → front ≡ take spans.headers fields → pairs_at bytes front ≡ map name_and_value at.head.fields
  same_fields front is = ap (pairs_at bytes) is ∙ at.places.fields

  pub says_here : (front : List HeaderSpan) (said : Option ℕ) → front ≡ take spans.headers fields → SaysIn (pairs_at bytes front) said → Says at.head said
  says_here front said is says = subst (λ (fs : List (List ℕ × List ℕ)). SaysIn fs said) (same_fields front is) says

  pub says_there : (front : List HeaderSpan) (said : Option ℕ) → front ≡ take spans.headers fields → Says at.head said → SaysIn (pairs_at bytes front) said
  says_there front said is says = subst (λ (fs : List (List ℕ × List ℕ)). SaysIn fs said) (sym (same_fields front is)) says

  -- the page by the parts at their places is the head's
  pub allowed_here : (method target : List ℕ) (page : Result Page Refusal) → method ≡ span_bytes bytes spans.method → target ≡ span_bytes bytes spans.path
      → allowed method (page_of target) ≡ page → allowed at.head.method (page_of at.head.target) ≡ page
  allowed_here method target page m t is =
      ap (λ (x : List ℕ). allowed x (page_of at.head.target)) (sym (m ∙ at.places.method)) ∙ ap (λ (x : List ℕ). allowed method (page_of x)) (sym (t ∙ at.places.path)) ∙ is

  pub found_reads : (said : Option ℕ) → Says at.head said → (page : Result Page Refusal) → allowed at.head.method (page_of at.head.target) ≡ page
      → (before after : Option (List ℕ)) (asks : Asked) → Behind (allowed_asked page at.head.target said) (body_len page said) rest before after asks
      → Reads bytes before after asks
  found_reads said says page is before after asks b =
      let has : HasHead (bytes ++ b.more) at.head (rest ++ b.more) = followed bytes b.more at.head rest at.has in
      let asked : asks ≡ head_asked at.head said (rest ++ b.more) = b.asks_is ∙ ap (λ (p : Result Page Refusal). allowed_asked p at.head.target said (rest ++ b.more)) (sym is) in
      record {
        more = b.more;
        read = b.read;
        asks_is = to_asks (bytes ++ b.more) asks (head_some (bytes ++ b.more) at.head (rest ++ b.more) has) (inr (at.head, rest ++ b.more, has, inr (said, says, asked)));
        stops = elim b.stops [
          | inl end ↦ inl end
          | inr long ↦ inr (inr (record {
            head = at.head;
            rest = rest ++ b.more;
            has = has;
            body = λ other also. subst (λ (o : Option ℕ). body_len (allowed at.head.method (page_of at.head.target)) o ≤ length (rest ++ b.more))
                (one_said (map name_and_value at.head.fields) said other says also)
                (subst (λ (p : Result Page Refusal). body_len p said ≤ length (rest ++ b.more)) (sym is) long);
          }))
        ];
      }

  -- a head that says no length that a body can have
  pub bad_reads : ((said : Option ℕ) → Says at.head said → ⊥) → (told : Option (List ℕ)) → Reads bytes told told (ask.Refused why.BadRequest)
  bad_reads bad told =
      let has : HasHead (bytes ++ []) at.head (rest ++ []) = followed bytes [] at.head rest at.has in
      record {
        more = [];
        read = with_nothing told;
        asks_is = to_asks (bytes ++ []) (ask.Refused why.BadRequest) (head_some (bytes ++ []) at.head (rest ++ []) has) (inr (at.head, rest ++ [], has, inl (bad, refl)));
        stops = inr (inr (record { head = at.head; rest = rest ++ []; has = has; body = λ said says. absurd (bad said says) }));
      }

  -- a page of the target at its place, of which the bytes behind the head were taken
  pub page_reads : (said : Option ℕ) → Says at.head said → (page : Page) → allowed at.head.method (page_of at.head.target) ≡ Ok page
      → (target begun : List ℕ) → target ≡ span_bytes bytes spans.path → begun ≡ rest → (before after : Option (List ℕ)) (asks : Asked)
      → Behind (page_asked page target said) (body_len (Ok page) said) begun before after asks → Reads bytes before after asks
  page_reads said says page is target begun t r before after asks b =
      found_reads said says (Ok page) is before after asks
      (subst (λ (x : List ℕ). Behind (page_asked page x said) (body_len (Ok page) said) rest before after asks) (t ∙ at.places.path)
      (subst (λ (x : List ℕ). Behind (page_asked page target said) (body_len (Ok page) said) x before after asks) r b))

  -- a page that is refused
  pub no_page : (said : Option ℕ) → Says at.head said → (refusal : Refusal) → allowed at.head.method (page_of at.head.target) ≡ Err refusal
      → (told : Option (List ℕ)) → Reads bytes told told (ask.Refused refusal)
  no_page said says refusal is told =
      found_reads said says (Err refusal) is told told (ask.Refused refusal)
      (at_once (allowed_asked (Err refusal) at.head.target said) rest told (ask.Refused refusal) (λ more. refl))

-- ---- with what was read before

-- bytes were read behind others
pub joined_front : (begun : List ℕ) (before mid after : Option (List ℕ)) → before ≡ with_front begun mid → HasFront mid after → HasFront before after
joined_front begun before mid after read front = (begun ++ front.0, read ∙ ap (with_front begun) front.1 ∙ with_fronts begun front.0 after)

pub joined_reads : (begun : List ℕ) (before mid after : Option (List ℕ)) (asks : Asked) → before ≡ with_front begun mid → Reads begun mid after asks → Reads [] before after asks
joined_reads begun before mid after asks read r = record {
  more = begun ++ r.more;
  read = read ∙ ap (with_front begun) r.read ∙ with_fronts begun r.more after;
  asks_is = r.asks_is;
  stops = r.stops;
}
